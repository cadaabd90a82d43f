use Rattle.std.proofs.Common.{◌≡◌, ◌≢◌, ◌-◌, ◌+◌, ◌<◌, ℕ, refl, sym, ap, subst, ◌∙◌, arith, inl, inr}
use Rattle.std.specs.Prelude.{length, max, slice_get}
use Rattle.std.proofs.lemmas.Bool.{cases_eq, eq-eqb, ne_eqb}
use Rattle.lc_record.proofs.ListLemmas.{slice_get_some as some_at}
use Rattle.lc_events.specs.NodeState.{SeesStanding}
use Rattle.lc_desk.specs.declared.desk.Desk.{Desk}
use Rattle.lc_events.specs.Fresh.{known_first}
use Rattle.lc_events.proofs.Knowing.{sees_fresh, zero-max}
use Rattle.lc_events.proofs.node_state.NodeState.fill.Goals as goal

pub loop-before-init : goal.loop-before-init
loop-before-init g c = record {
  desk = refl;
  journal = refl;
  seen = λ node fresh none segment first last. absurd (omega (arith, first, last));
  unseen = λ node fresh none segment behind. none segment;
}

pub loop-before-preserved : goal.loop-before-preserved
loop-before-preserved g c =
    let r = c.args.recovered.now in
    let place = c.loop-before.before in
    let slots = c.fill.new.self.here.slots.items in
    let old = c.loop-before.self.known in
    let new = c.see.new.self.known in
    let segments = ap (λ h. h.segments) c.geometry-segments.ensures in
    let within : place < length slots = omega (arith, c.loop-before-test.true, segments, c.fill.ensures.desk.count) in
    let slot = some_at slots place within in
    let is_place : place + 1 - 1 ≡ place = omega arith in
    let sees = subst (λ (i : ℕ). SeesStanding (slice_get slots i) old new) is_place
    (subst (λ (d : Desk). SeesStanding (slice_get d.here.slots.items (place + 1 - 1)) old new) c.loop-before.invariant.desk c.see.ensures.sees) in
    record {
      desk = c.see.ensures.desk ∙ c.loop-before.invariant.desk;
      journal = c.see.ensures.journal ∙ c.loop-before.invariant.journal;
      seen = λ node fresh none segment first last.
          let its = sees_fresh r node place slots slot.0 old new slot.1 (fresh place slot.0 slot.1) sees segment in
          elim (cases_eq segment (place + 1)) [
            | inl same ↦
                its ∙ rw (eq-eqb segment (place + 1) same) refl
                ∙ ap (λ (n : ℕ). max n (known_first r node (place + 1))) (c.loop-before.invariant.unseen node fresh none segment (omega (arith, same)))
                ∙ zero-max (known_first r node (place + 1)) ∙ sym (ap (known_first r node) same)
            | inr differ ↦
                its ∙ rw (ne_eqb segment (place + 1) differ) refl ∙ c.loop-before.invariant.seen node fresh none segment first (omega (arith, differ, last))
          ];
      unseen = λ node fresh none segment behind.
          let differ : segment ≢ place + 1 = omega (arith, behind) in
          sees_fresh r node place slots slot.0 old new slot.1 (fresh place slot.0 slot.1) sees segment
          ∙ rw (ne_eqb segment (place + 1) differ) refl ∙ c.loop-before.invariant.unseen node fresh none segment (omega (arith, behind));
    }

pub returns : goal.returns
returns g c = record {
  fresh = λ node blank.
      let segments = ap (λ h. h.segments) c.geometry-segments.ensures in
      let fresh = c.fill.ensures.fresh node blank.stand in
      record {
        desk = rw c.loop-before.invariant.desk c.fill.ensures.desk;
        slots = rw c.loop-before.invariant.desk fresh;
        journal = rw c.loop-before.invariant.journal blank.journal;
        known = λ segment first last. c.loop-before.invariant.seen node fresh blank.known segment first (omega (arith, last, segments, c.loop-before-test.false));
      };
}
