use Rattle.std.proofs.Common.{rules, ◌≡◌, refl, subst, sym, arith, ap, ◌∙◌}
use Rattle.std.specs.Prelude.{Err, IfErr, slice_set}
use Rattle.lc_log_side.specs.Truncates.{FailsSides, IsSameHeld, WritesSide}
use Rattle.lc_segments.specs.declared.held.HeldSide.{HeldSide}
use Rattle.lc_log_side.proofs.Forwards.{next}
use Rattle.lc_log_side.proofs.PagesWritten.{all_same, all_written, one_fails, one_more_same, same_written}
use Rattle.lc_segments.specs.SegView.{SegView}
use Rattle.lc_log_side.proofs.BoxedSides.{at_place}
use Rattle.lc_log_side.proofs.cleaning.write_all.Goals as goal

pub returns-in_err-write_pages-clause-failed : goal.returns-in_err-write_pages-clause-failed
returns-in_err-write_pages-clause-failed g c = let h : HeldSide _ = record { side = c.deref_mut.result.now; loan = c.held.inside.0.1.0 } in let k : HeldSide _ = record { side = c.write_pages.new.self; loan = h.loan } in
    let is : c.from_residual.result ≡ Err c.in_err-write_pages.field-0.0 = search rules in
    subst (λ r. IfErr r (λ fault. FailsSides g.D.Area c.args.sides.now.items fault (slice_set c.loop-place.sides.items c.loop-place.place k))) (sym is)
    (one_fails g.D.Area c.in_err-write_pages.field-0.0 c.args.sides.now.items c.loop-place.sides.items c.loop-place.place h k c.loop-place.invariant.written
    (let more = c.loop-place-test.true in let len = c.len-place-end.ensures in let ok = c.args.sides.now.ok.0 in let long = c.loop-place.invariant.written.long in omega arith) (at_place c.loop-place.sides.items c.loop-place.place c.index_mut-held.result.now (record { side = c.deref_mut.result.now; loan = c.held.inside.0.1.0 }) (ap (λ (s : SegView _). record { side = s; loan = c.held.inside.0.1.0 }) c.deref_mut.ensures.value ∙ c.held.view_is) c.index_mut-held.ensures.value)
    refl c.in_err-write_pages.ensures.failed)

pub returns-in_err-write_pages-clause-same : goal.returns-in_err-write_pages-clause-same
returns-in_err-write_pages-clause-same g c = let h : HeldSide _ = record { side = c.deref_mut.result.now; loan = c.held.inside.0.1.0 } in let k : HeldSide _ = record { side = c.write_pages.new.self; loan = h.loan } in
    one_more_same g.D.Area c.args.sides.now.items c.loop-place.sides.items c.loop-place.place h k c.loop-place.invariant.written
    (let more = c.loop-place-test.true in let len = c.len-place-end.ensures in let ok = c.args.sides.now.ok.0 in let long = c.loop-place.invariant.written.long in omega arith) (at_place c.loop-place.sides.items c.loop-place.place c.index_mut-held.result.now (record { side = c.deref_mut.result.now; loan = c.held.inside.0.1.0 }) (ap (λ (s : SegView _). record { side = s; loan = c.held.inside.0.1.0 }) c.deref_mut.ensures.value ∙ c.held.view_is) c.index_mut-held.ensures.value)
    (same_written h k refl c.in_err-write_pages.ensures.failed.0)

pub loop-place-preserved : goal.loop-place-preserved
loop-place-preserved g c = let h : HeldSide _ = record { side = c.deref_mut.result.now; loan = c.held.inside.0.1.0 } in let written = c.in_ok-write_pages.ensures.written in let k : HeldSide _ = record { side = c.write_pages.new.self; loan = h.loan } in record {
  written = next (λ h k. WritesSide g.D.Area h k × IsSameHeld h k) c.args.sides.now.items c.loop-place.sides.items c.loop-place.place h k c.loop-place.invariant.written
      (let more = c.loop-place-test.true in let len = c.len-place-end.ensures in let ok = c.args.sides.now.ok.0 in let long = c.loop-place.invariant.written.long in omega arith) (at_place c.loop-place.sides.items c.loop-place.place c.index_mut-held.result.now (record { side = c.deref_mut.result.now; loan = c.held.inside.0.1.0 }) (ap (λ (s : SegView _). record { side = s; loan = c.held.inside.0.1.0 }) c.deref_mut.ensures.value ∙ c.held.view_is) c.index_mut-held.ensures.value)
      ((refl, written), same_written h k refl written.0);
  none = c.write_pages.ensures.none;
  room = (let a = c.loop-place.invariant.room in let b = c.write_pages.ensures.room in omega arith);
}

pub returns-clause-written : goal.returns-clause-written
returns-clause-written g c = all_written g.D.Area c.args.sides.now.items c.loop-place.sides.items c.loop-place.place c.loop-place.invariant.written
    (let more = c.loop-place-test.false in let len = c.len-place-end.ensures in let ok = c.args.sides.now.ok.0 in let long = c.loop-place.invariant.written.long in omega arith)

pub returns-clause-same : goal.returns-clause-same
returns-clause-same g c = all_same g.D.Area c.args.sides.now.items c.loop-place.sides.items c.loop-place.place c.loop-place.invariant.written
