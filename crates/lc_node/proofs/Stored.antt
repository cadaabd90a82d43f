-- Of a node: how much parts take, and sides whose parts are folded where they take too much.
use Rattle.std.proofs.Common.{◌≡◌, ℕ, ◌*◌, ◌≤◌, length, sym, ap, ◌∙◌, inl, inr, arith}
use mathlib.Core.Logic.{dite}
use native.Mathlib.Decide.{dec_le}
use Rattle.lc_segments.specs.Growing.{folded, parts_size, HasGrown}
use Rattle.lc_segments.specs.SegView.{SegView}
use Rattle.lc_node.specs.Sides.{IsRoomier}
use Rattle.lc_segments.specs.declared.held.HeldSide.{HeldSide}

module _ {D : Type 0} (h : HeldSide D) (tidy : SegView D) where
  -- it was folded exactly where it had grown
  pub roomier_of : (parts_size h.side.applied ≤ 2 * length h.side.base → tidy ≡ h.side) → (HasGrown h.side → tidy ≡ record (folded h.side) { runs_room = tidy.runs_room })
      → IsRoomier h (record { side = tidy; loan = h.loan })
  roomier_of same grown = dite (dec_le (parts_size h.side.applied) (2 * length h.side.base))
      (λ few. inl (ap (λ (s : SegView D). record { side = s; loan = h.loan }) (same few ∙ ap (λ (s : SegView D). record h.side { room = s.room; runs_room = s.runs_room }) (sym (same few)))))
      (λ many. let much : HasGrown h.side = omega arith in
      inr (much, ap (λ (s : SegView D). record { side = s; loan = h.loan }) (grown much ∙ ap (λ (n : ℕ). record (folded h.side) { room = n; runs_room = tidy.runs_room }) (sym (ap (λ (s : SegView D). s.room) (grown much))))))
