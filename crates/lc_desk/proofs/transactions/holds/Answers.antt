use Rattle.std.proofs.Common.{true, false, ◌||◌, sym, ap, ◌∙◌}
use Rattle.lc_record.specs.Transaction.{is_member}
use Rattle.lc_tx.proofs.HoldsLemmas.{locked_holds}
use Rattle.lc_tx.proofs.SetLemmas.{any_is, any_found as found}
use Rattle.lc_desk.proofs.transactions.holds.Goals as goal

pub returns-then-contains : goal.returns-then-contains
returns-then-contains c =
    let tx = c.args.tx.now in
    let lock = found c.contains.result true c.args.segment c.locked.result.now tx.locked.items c.contains.ensures.value c.locked.ensures c.if-contains.true in
    sym (locked_holds tx c.args.segment lock)

pub returns : goal.returns
returns c =
    let tx = c.args.tx.now in
    let no_lock = found c.contains.result false c.args.segment c.locked.result.now tx.locked.items c.contains.ensures.value c.locked.ensures c.if-contains.false in
    c.contains-2.ensures.value ∙ any_is c.args.segment c.reading.result.now ∙ ap (is_member c.args.segment) c.reading.ensures
    ∙ ap (λ b. b || is_member c.args.segment tx.reading.items) (sym no_lock)
