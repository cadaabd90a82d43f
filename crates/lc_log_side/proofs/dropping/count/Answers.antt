use Rattle.std.proofs.Common.{◌≡◌, ◌<◌, ◌-◌, ℕ, length, Some, ap, sym, ◌∙◌, arith}
use Rattle.std.specs.Prelude.{slice_get, slice_index_or, slice_set}
use Rattle.std.proofs.lemmas.Option.{none-some, get_or_from_slice_get}
use Rattle.lc_record.specs.declared.record.Lock.{Lock}
use Rattle.lc_rest.proofs.Merges.{counted-more}
use Rattle.lc_log_side.proofs.FirstRecord.{some_at}
use Rattle.lc_log_side.proofs.dropping.count.Goals as goal
use Rattle.lc_log_side.proofs.dropping.count.Goals.{in-Some, in_default}

pub loop-index-preserved : goal.loop-index-preserved
loop-index-preserved c = λ r is.
    let index : ℕ = c.loop-index.index in
    let within : index < length r.locks = omega (arith, c.loop-index-test.true, c.kept_lock_count-index-end.ensures.count r is) in
    elim c.match-kept_lock.branch [
      | in-Some w ↦
          let lock : Lock = w.in-Some.lock in
          let at : slice_get r.locks index ≡ Some lock = sym (w.in-Some.ensures r is) in
          let own : slice_index_or r.locks index lock ≡ lock = get_or_from_slice_get r.locks index lock lock at in
          w.dropped-is ∙ w.set_number.ensures ∙ ap (λ (l : Lock). slice_set c.loop-index.dropped (l.segment - 1) l.seq) (sym own)
          ∙ counted-more r.locks c.loop-index.dropped c.args.dropped.now index lock within (c.loop-index.invariant r is)
      | in_default w ↦ (let there = some_at r.locks index within in absurd (none-some there.0 (w.in_default.ensures r is ∙ there.1)))
    ]
