use Rattle.std.proofs.Common.{◌≡◌, ◌<◌, ℕ, List, [], length, map, take, get_or, Contains, Some, sym, ◌∙◌, ap, subst, arith}
use Rattle.std.specs.Prelude.{slice_get}
use Rattle.std.proofs.lemmas.Option.{slice_get-get_or}
use Rattle.lc_record.proofs.ListLemmas.{OnErr_from as on_err}
use Rattle.lc_recover.specs.Pages.{kept_pages}
use Rattle.lc_recover.specs.Changes.{AreOf, PlacedRecord, SomeIsOf, seats_from, seats_of}
use Rattle.lc_recover.proofs.Walks.{item-at}
use Rattle.lc_recover.proofs.Newer.{seat-in}
use Rattle.lc_recover.proofs.Seats.{seats-next}
use Rattle.lc_recover.proofs.index.changes_of.Goals as goal

pub loop-log-preserved : goal.loop-log-preserved
loop-log-preserved c =
    let within : c.loop-log.log < length c.args.logs.now = omega arith in
    let words : get_or c.args.logs.now c.loop-log.log [] ≡ c.as_slice.result.now = item-at c.args.logs.now c.loop-log.log c.index-logs-log.result [] within c.index-logs-log.is ∙ sym c.as_slice.ensures in
    subst (λ (l : List PlacedRecord). AreOf (map kept_pages c.args.segments.now) l c.add_log.new.changes.items)
    (sym (seats-next c.args.logs.now c.loop-log.log c.as_slice.result.now within words))
    (c.in_ok-add_log.ensures.changes (seats_from 0 (take c.loop-log.log c.args.logs.now)) c.loop-log.invariant)

pub returns-in_err-add_log-clause-memory : goal.returns-in_err-add_log-clause-memory
returns-in_err-add_log-clause-memory c =
    let within : c.loop-log.log < length c.args.logs.now = omega arith in
    let words : get_or c.args.logs.now c.loop-log.log [] ≡ c.as_slice.result.now = item-at c.args.logs.now c.loop-log.log c.index-logs-log.result [] within c.index-logs-log.is ∙ sym c.as_slice.ensures in
    let there : slice_get c.args.logs.now c.loop-log.log ≡ Some c.as_slice.result.now = slice_get-get_or c.args.logs.now c.loop-log.log [] within ∙ ap Some words in
    let its = c.in_err-add_log.ensures.memory in
    on_err c.from_residual.result (SomeIsOf (map kept_pages c.args.segments.now) (seats_from 0 c.args.logs.now)) (
      its.0,
      seat-in 0 c.args.logs.now c.loop-log.log c.as_slice.result.now its.0 there (subst (λ (n : ℕ). Contains (seats_of n c.as_slice.result.now) its.0) (omega arith) its.1),
      its.2,
    )
