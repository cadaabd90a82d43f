use Rattle.std.proofs.Common.{◌≡◌, ◌==◌, ◌∙◌, length, filter, ap, sym}
use Rattle.std.proofs.lemmas.Option.{same_Some as same_some}
use Rattle.lc_record.specs.declared.record.Record.{Record}
use Rattle.lc_tx.specs.Image.{laid_over}
use Rattle.lc_tx.proofs.PutLemmas.{length-laid_over}
use Rattle.lc_journal.proofs.FoundByNumber.{found_one}
use Rattle.lc_journal.proofs.journal.Journal.put_on.Goals as goal

pub returns-in_default-clause-lays : goal.returns-in_default-clause-lays
returns-in_default-clause-lays g c = λ m node s x h whole is.
    absurd (c.in_default.not-Record whole (found_one m node s x c.args.number c.published.result whole (c.published.ensures m node s x h) is))

pub returns-clause-lays : goal.returns-clause-lays
returns-clause-lays g c = λ m node s x h whole is.
    let view : Record = c.in-Record.view in
    let same : view ≡ whole = same_some view whole (sym (c.in-Record.ensures m node s x h).3 ∙ is.3) in
    let old = c.args.image.now.bytes.items in
    c.put_from.ensures.bytes ∙ ap (λ (r : Record). laid_over (filter (λ range. range.segment == c.args.segment) r.ranges) old) same

pub returns-clause-len : goal.returns-clause-len
returns-clause-len g c =
    let view : Record = c.in-Record.view in
    ap length c.put_from.ensures.bytes ∙ length-laid_over (filter (λ range. range.segment == c.args.segment) view.ranges) c.args.image.now.bytes.items
