-- Which area a step of a recovery calls.
use Rattle.std.proofs.Common.{◌≡◌, ℕ, ◌+◌, ◌*◌, ◌<◌, ◌≤◌, Bool, true, false, true≢false, Option, Some, List, [], ◌++◌, length, refl, sym, ◌∙◌, ap, subst, arith, inl, inr}
use Rattle.std.proofs.lemmas.List.{length-append}
use Rattle.std.specs.Prelude.{if◌then◌else◌}
use Rattle.lc_record.specs.declared.geometry.Geometry.{Geometry}
use Rattle.lc_recover.proofs.Going.{left-writes}
use Rattle.lc_recover.specs.Recovery.{recovering, Calls}
use Rattle.lc_recover.specs.RecoveryPhase.{IsWriting}
use Rattle.lc_recover.specs.Steps.{steps_of, all_pages, pages_in, writes_done, resets_done}
use Rattle.lc_recover.specs.declared.log_resets.LogResets.{LogResets}
use Rattle.lc_recover.specs.declared.page_writes.PageWrites.{PageWrites}
use Rattle.lc_recover.specs.declared.recovery_phase.RecoveryPhase.TheVariants.{Writing as WritingPages, Resetting}

-- one call of a log's two is done, or none
one_of_two : (next : ℕ) (closing : Bool) → (2 * next ≤ 2 * next + (if closing then 1 else 0)) × (2 * next + (if closing then 1 else 0) ≤ 2 * next + 1)
one_of_two next true = (omega arith, omega arith)
one_of_two next false = (omega arith, omega arith)

none_done : (next : ℕ) (closing : Bool) → next ≡ 0 → closing ≡ false → 2 * next + (if closing then 1 else 0) ≡ 0
none_done next true none rest = absurd (true≢false rest)
none_done next false none rest = omega (arith, none)

module _ {D : Type 0} (g : Geometry) (areas : List D) where
  pub resetting-calls : (r : LogResets) → Calls (recovering g areas (Resetting r)) r.next
  resetting-calls r =
      let its = one_of_two r.next r.is_closing in
      inr (inr (inr (r.written, refl, omega (arith, its.0), omega (arith, its.1))))

  -- while a page is left
  pub writing-calls : (w : PageWrites) (at : ℕ) → IsWriting g w → w.next < length w.merged.changes.items → g.nodes ≤ at → Calls (recovering g areas (WritingPages w)) at
  writing-calls w at i left behind = inr (inr (inl (all_pages w, refl, omega (arith, left-writes g w i left), behind)))

  -- some page is left, or all are written
  pub left-or_end : (w : PageWrites) → IsWriting g w → (w.next ≡ length w.merged.changes.items → ⊥) → w.next < length w.merged.changes.items
  left-or_end w i differ =
      let all : length w.merged.changes.items ≡ length (i.between.front ++ i.between.back) = ap length i.between.all in
      omega (arith, differ, all, i.between.count, length-append i.between.front i.between.back)

  -- after the last page
  pub begun-calls : (w : PageWrites) (r : LogResets) → r.written ≡ w.written → r.next ≡ 0 → r.is_closing ≡ false → writes_done w ≡ 6 * w.written → all_pages w ≡ w.written →
      (at : ℕ) → Calls (recovering g areas (Resetting r)) at → Calls (recovering g areas (WritingPages w)) at
  begun-calls w r written next rest done pages at =
      let none : resets_done r ≡ 0 = none_done r.next r.is_closing next rest in
      let steps : steps_of g (Resetting r) ≡ steps_of g (WritingPages w) = omega (arith, none, done, written) in
      let planned : pages_in (Resetting r) ≡ pages_in (WritingPages w) = ap Some (written ∙ sym pages) in
      λ calls. subst (λ (n : ℕ). Calls (record { geometry = g; areas = areas; steps = n; pages = pages_in (WritingPages w); kept = []; left = [] }) at) steps
      (subst (λ (o : Option ℕ). Calls (record { geometry = g; areas = areas; steps = steps_of g (Resetting r); pages = o; kept = []; left = [] }) at) planned calls)
