-- Of the store: what a slot at a node shows is what the machine and the numbers have there.
use Rattle.std.proofs.lemmas.Bool.{eq-eqb, leb-true, ltb-true, and_parts as and-both}
use Rattle.std.proofs.Common.{◌≡◌, ℕ, suc, ◌+◌, true, false, List, Option, None, Some, refl, sym, ap, subst, ◌∙◌, arith}
use Rattle.std.specs.Prelude.{◌&&◌, ◌==◌, ◌≤◌, nat_le, ◌<◌, if◌then◌else◌, option_map, slice_get, IsSome}
use Rattle.std.proofs.lemmas.Option.{slice_get-map}
use Rattle.lc_record.specs.Content.{segment_of}
use Rattle.lc_record.specs.declared.geometry.Geometry.{Geometry}
use Rattle.lc_model.specs.Refusals.{is_at, is_node, is_page, is_segment}
use Rattle.lc_model.specs.Sound.{Sound}
use Rattle.lc_model.specs.State.{Setting, State}
use Rattle.lc_tx.specs.Images.{IsHere}
use Rattle.lc_desk.specs.Desk.{FitsDesk}
use Rattle.lc_desk.specs.Here.{beside, hidden, image_at, number_at, number_in, the_images}
use Rattle.lc_settled.specs.Numbers.{Numbers}
use Rattle.lc_desk.specs.Seat.{Seat}
use Rattle.lc_events.specs.Showing.{content_with, open_writer}
use Rattle.lc_core.specs.Showing.{image_of}
use Rattle.lc_desk.specs.Slots.{FitsSlots, besides_of, segment_to}
use Rattle.lc_desk.specs.declared.here.Here.{Here}
use Rattle.lc_desk.specs.declared.segment_copy.SegmentCopy.{SegmentCopy}
use Rattle.lc_events.proofs.Shown.{here_shows}

-- a page that there is
pub page_known : (g : Geometry) (node segment page : ℕ) → (is_node g node && is_segment g segment && is_page g page) ≡ true → (node < g.nodes) × (1 ≤ segment) × (segment ≤ g.segments)
page_known g node segment page known =
    let parts = and-both (is_node g node && is_segment g segment) (is_page g page) known in
    let both = and-both (is_node g node) (is_segment g segment) parts.0 in
    let within = and-both (nat_le 1 segment) (nat_le segment g.segments) both.1 in
    (ltb-true node g.nodes both.0, leb-true 1 segment within.0, leb-true segment g.segments within.1)

same_number : (n : ℕ) → (n == n) ≡ true
same_number n = eq-eqb n n refl

module _ (m : Setting) (node : ℕ) (here : Here) (seats : List Seat) (s : State) (sound : Sound m.geometry s) (h : FitsDesk m node here seats s) where
  module _ (x : Numbers) (slots : FitsSlots m node (besides_of here) s x) where
    abbrev Shows : ℕ → List ℕ → Type 0
    Shows segment bytes = bytes ≡ image_of m s x node segment

    with_token : (k : ℕ) (slot : SegmentCopy) (number : ℕ) → slice_get here.slots.items k ≡ Some slot → number_in slot.token.token ≡ Some number → Shows (suc k) slot.image.bytes.items
    with_token k slot number at has =
        let is : IsHere the_images here (suc k) = (let some : number_at (slice_get here.slots.items k) ≡ Some number = ap number_at at ∙ has in subst IsSome (sym some) cc) in
        let here_is : is_at node (s.place (suc k)) ≡ true = ap (is_at node) (h.places (suc k) is) ∙ same_number node in
        ap (λ (o : Option SegmentCopy). (image_at here.spare o).bytes.items) (sym at) ∙ (here_shows m node here seats s sound h) (suc k) is
        ∙ ap (λ b. if b then segment_of (suc k) (content_with m s (open_writer (suc k) s)) else segment_to m s x.disks (suc k) (x.applied node (suc k))) (sym here_is)

    away : (k : ℕ) (slot : SegmentCopy) → slice_get here.slots.items k ≡ Some slot → k < m.geometry.segments → number_in slot.token.token ≡ None → Shows (suc k) slot.image.bytes.items
    away k slot at below none =
        let nowhere : number_at (slice_get here.slots.items k) ≡ None = ap number_at at ∙ none in
        let not_here : is_at node (s.place (suc k)) ≡ false = h.elsewhere (suc k) (omega arith) (omega (arith, below)) nowhere in
        let its = slots.each k (beside slot) (slice_get-map beside here.slots.items k ∙ ap (option_map beside) at) in
        let applied = its.image slot.image (ap (λ o. hidden o slot.image) none) in
        let next : k + 1 ≡ suc k = omega arith in
        subst (λ (n : ℕ). slot.image.bytes.items ≡ segment_to m s x.disks n (x.applied node n)) next applied.1
        ∙ ap (λ b. if b then segment_of (suc k) (content_with m s (open_writer (suc k) s)) else segment_to m s x.disks (suc k) (x.applied node (suc k))) (sym not_here)

    -- the image in a slot
    pub slot_shows : (k : ℕ) (slot : SegmentCopy) → slice_get here.slots.items k ≡ Some slot → k < m.geometry.segments → Shows (suc k) slot.image.bytes.items
    slot_shows k slot at below = elim (number_in slot.token.token) as (λ (o : Option ℕ). number_in slot.token.token ≡ o → Shows (suc k) slot.image.bytes.items) [
      | None ↦ λ e. away k slot at below e
      | Some number ↦ λ e. with_token k slot number at e
    ] refl
