use Rattle.std.proofs.Common.{◌≡◌, ◌+◌, ◌-◌, ℕ, length, slice_get, refl, sym, ap, ◌∙◌, arith}
use Rattle.std.specs.Prelude.{nat_le}
use Rattle.std.proofs.lemmas.Bool.{ltb-true}
use Rattle.std.proofs.lemmas.Option.{slice_get_read}
use Rattle.lc_record.proofs.ListLemmas.{slice_get-map_some as get-map}
use Rattle.lc_desk.specs.Here.{beside}
use Rattle.lc_events.proofs.trimming.is_applied_at.Goals as goal

pub returns-in-Some : goal.returns-in-Some
returns-in-Some g c = λ m k s x h known.
    let slots = c.deref.result.now in
    let slot = c.in-Some.slot.now in
    let place : ℕ = c.args.lock.segment - 1 in
    let found = c.in-Some.ensures.lookup in
    let there = slice_get_read slots (length slots) place slot refl (ltb-true place (length slots) (sym found.0)) found.1 in
    let own = ap (λ l. slice_get l place) (sym c.deref.ensures.value) ∙ there in
    let fits = h.each place (beside slot) (get-map beside c.args.node.now.desk.here.slots.items place slot own) in
    let same : place + 1 ≡ c.args.lock.segment = omega (arith, known.0) in
    ap (λ (n : ℕ). nat_le c.args.lock.seq n) (c.applied.ensures.applied ∙ fits.applied ∙ ap (x.applied k) same)
