-- A slot whose token is elsewhere, changed at a node's desk.
use Rattle.std.proofs.Common.{◌≡◌, ◌≢◌, ℕ, zero, suc, ◌+◌, ◌-◌, ◌≤◌, List, [], map, length, Option, Some, None, refl, sym, ap, subst, ◌∙◌, inl, inr, arith}
use Rattle.std.specs.Prelude.{slice_get, slice_set, slice_index_or, vec_len, IsSome}
use Rattle.std.specs.Vec.{with_item}
use Rattle.std.proofs.lemmas.Bool.{cases_eq}
use Rattle.std.proofs.lemmas.List.{map-set}
use Rattle.std.proofs.lemmas.Option.{slice_get_read, same_Some as same_some}
use Rattle.lc_model.specs.History.{value}
use Rattle.lc_model.specs.State.{Setting, State}
use Rattle.lc_token.specs.Standing.{Standing}
use Rattle.lc_tx.specs.Holders.{reads, writer_of}
use Rattle.lc_tx.specs.Images.{IsHere, bytes_of}
use Rattle.lc_tx.specs.Tx.{KeepsLocked}
use Rattle.lc_tx.specs.declared.image.Image.{Image as Picture}
use Rattle.lc_tx.specs.declared.tx.Tx.{Tx}
use Rattle.lc_tx.proofs.BesideLemmas.{runs_beside}
use Rattle.lc_record.proofs.ListLemmas.{slice_get-map_some as get-map}
use Rattle.lc_desk.specs.Desk.{FitsDesk}
use Rattle.lc_desk.specs.Here.{the_images, number_in, number_at, image_at, beside}
use Rattle.lc_desk.specs.Leaves.{IsAsBefore}
use Rattle.lc_desk.specs.Places.{get_set_other, get_set_same}
use Rattle.lc_desk.specs.Seat.{Seat, holder_of}
use Rattle.lc_desk.specs.Seats.{Runs, AllRun, AreShort}
use Rattle.lc_desk.specs.Slots.{AreInPlace, Besides, besides_of}
use Rattle.lc_desk.specs.declared.desk.Desk.{Desk}
use Rattle.lc_desk.specs.declared.here.Here.{Here}
use Rattle.lc_desk.specs.declared.segment_copy.SegmentCopy.{SegmentCopy}
use Rattle.lc_desk.proofs.Dropping.{runs_same, desk_seen, seat_beside}
use Rattle.lc_desk.proofs.Left.{same_items}
use Rattle.lc_desk.proofs.Seating.{set_same}
use Rattle.lc_desk.proofs.Shortness.{short_same}

-- another slot in the place
abbrev pub with_slot : Here → ℕ → SegmentCopy → Here
with_slot here k next = record here { slots = with_item here.slots k next }

-- the slot of a segment
pub slot_at : (here : Here) (segment : ℕ) (slot : SegmentCopy) → 1 ≤ segment → segment ≤ vec_len here.slots → slot ≡ slice_index_or here.slots.items (segment - 1) slot → slice_get here.slots.items (segment - 1) ≡ Some slot
slot_at here segment slot first within value = slice_get_read here.slots.items here.slots.len (segment - 1) slot here.slots.ok.0 (omega (arith, first, within)) value

-- it stands in its place
pub stands_there : (here : Here) (segment : ℕ) (slot : SegmentCopy) → 1 ≤ segment → slice_get here.slots.items (segment - 1) ≡ Some slot → AreInPlace (besides_of here) → (slot.parts.segment ≡ segment) × (slot.parts.due ≡ [])
stands_there here segment slot first at placed =
    let its = placed (segment - 1) (beside slot) (get-map beside here.slots.items (segment - 1) slot at) in (omega (arith, its.1, first), its.2)

-- and its image has no more bytes than a record can name
pub short_at : (here : Here) (k : ℕ) (slot : SegmentCopy) → slice_get here.slots.items k ≡ Some slot → AreShort here → length slot.image.bytes.items ≤ 262144
short_at here k slot at short =
    let was : length (bytes_of the_images here (suc k)) ≤ 262144 = short (suc k) in
    let own : length (bytes_of the_images here (suc k)) ≡ length slot.image.bytes.items = ap (λ o. length (image_at here.spare o).bytes.items) at in
    omega (arith, was, own)

-- Where the slot is as it was

pub runs_kept : (here : Here) (k : ℕ) (slot next : SegmentCopy) (seats : List Seat) → slice_get here.slots.items k ≡ Some slot → next ≡ slot → AllRun here seats → AllRun (with_slot here k next) seats
runs_kept here k slot next seats at same runs =
    runs_same here (with_slot here k next) seats runs
    (same_items here (with_slot here k next) (ap (slice_set here.slots.items k) same ∙ set_same here.slots.items k slot at) refl)

pub all_kept : (old new : Desk) (k : ℕ) (slot next : SegmentCopy) → slice_get old.here.slots.items k ≡ Some slot → new.here ≡ with_slot old.here k next → new.seats ≡ old.seats → next ≡ slot → IsAsBefore old new
all_kept old new k slot next at here_is seats_is same =
    let slots : new.here.slots.items ≡ old.here.slots.items = ap (λ (h : Here). h.slots.items) here_is ∙ ap (slice_set old.here.slots.items k) same ∙ set_same old.here.slots.items k slot at in
    let spare : new.here.spare ≡ old.here.spare = ap (λ (h : Here). h.spare) here_is in
    record {
      slots = slots;
      spare = spare;
      seats = seats_is;
      fits = λ m node s h. rw seats_is (desk_seen m node old.here new.here old.seats.items s old.runs (same_items old.here new.here slots spare) h);
    }

pub in_place_kept : (here : Here) (k : ℕ) (slot next : SegmentCopy) → slice_get here.slots.items k ≡ Some slot → next ≡ slot → AreInPlace (besides_of here) → AreInPlace (besides_of (with_slot here k next))
in_place_kept here k slot next at same = subst (λ items. AreInPlace (map beside items)) (sym (ap (slice_set here.slots.items k) same ∙ set_same here.slots.items k slot at))

pub short_stays : (here : Here) (k : ℕ) (slot next : SegmentCopy) → slice_get here.slots.items k ≡ Some slot → next ≡ slot → AreShort here → AreShort (with_slot here k next)
short_stays here k slot next at same = short_same here (with_slot here k next) (same_items here (with_slot here k next) (ap (slice_set here.slots.items k) same ∙ set_same here.slots.items k slot at) refl)

-- Where it has changed

module _ (here : Here) (k : ℕ) (slot next : SegmentCopy) (at : slice_get here.slots.items k ≡ Some slot) (same : next.token ≡ slot.token) where
  abbrev there : Here
  there = with_slot here k next

  pub in_place_away : next.parts.segment ≡ slot.parts.segment → next.parts.due ≡ [] → AreInPlace (besides_of here) → AreInPlace (besides_of there)
  in_place_away segment none placed j b got = elim (cases_eq j k) [
    | inl own ↦
        let its : slice_get (slice_set (besides_of here) k (beside next)) j ≡ Some b = ap (λ bs. slice_get bs j) (sym (map-set beside here.slots.items k next)) ∙ got in
        let there_is : beside next ≡ b = same_some (beside next) b (sym (get_set_same (besides_of here) k (beside slot) (beside next) was) ∙ subst (λ (n : ℕ). slice_get (slice_set (besides_of here) k (beside next)) n ≡ Some b) own its) in
        let before = placed k (beside slot) was in
        let place : k + 1 ≡ j + 1 = omega (arith, own) in (
          ap (λ (c : Besides). c.0.segment) (sym there_is) ∙ ap (λ (p : Standing). p.segment) same ∙ before.0 ∙ place,
          ap (λ (c : Besides). c.1.segment) (sym there_is) ∙ segment ∙ before.1 ∙ place,
          ap (λ (c : Besides). c.1.due) (sym there_is) ∙ none,
        )
    | inr differ ↦ placed j b (sym (get_set_other (besides_of here) k j (beside next) differ) ∙ ap (λ bs. slice_get bs j) (sym (map-set beside here.slots.items k next)) ∙ got)
  ]
    where
      was : slice_get (besides_of here) k ≡ Some (beside slot)
      was = get-map beside here.slots.items k slot at

  picture_other : (j : ℕ) → j ≢ k → image_at here.spare (slice_get (slice_set here.slots.items k next) j) ≡ image_at here.spare (slice_get here.slots.items j)
  picture_other j differ = ap (image_at here.spare) (get_set_other here.slots.items k j next differ)

  pub short_put : length next.image.bytes.items ≤ 262144 → AreShort here → AreShort there
  short_put few short zero = short zero
  short_put few short (suc j) = elim (cases_eq j k) [
    | inl own ↦
        let after : length (bytes_of the_images there (suc k)) ≡ length next.image.bytes.items = ap (λ o. length (image_at here.spare o).bytes.items) (get_set_same here.slots.items k slot next at) in
        subst (λ (n : ℕ). length (bytes_of the_images there (suc n)) ≤ 262144) (sym own) (omega (arith, after, few))
    | inr differ ↦
        let was : length (bytes_of the_images here (suc j)) ≤ 262144 = short (suc j) in
        omega (arith, was, ap (λ (p : Picture). length p.bytes.items) (picture_other j differ))
  ]

  pub short_away : length next.image.bytes.items ≡ length slot.image.bytes.items → AreShort here → AreShort there
  short_away long short = short_put (let few = short_at here k slot at short in omega (arith, few, long)) short

  module _ (away : slot.token.token ≡ None) where
    number_is : (other : ℕ) → the_images.number_of there other ≡ the_images.number_of here other
    number_is zero = refl
    number_is (suc j) = elim (cases_eq j k) [
      | inl own ↦ subst (λ (n : ℕ). number_at (slice_get (slice_set here.slots.items k next) n) ≡ number_at (slice_get here.slots.items n)) (sym own)
          (ap number_at (get_set_same here.slots.items k slot next at) ∙ ap (λ (p : Standing). number_in p.token) same ∙ ap number_at (sym at))
      | inr differ ↦ ap number_at (get_set_other here.slots.items k j next differ)
    ]

    was_here : (other : ℕ) → IsHere the_images there other → IsHere the_images here other
    was_here other is = subst (λ (o : Option ℕ). IsSome o) (number_is other) is

    still_here : (other : ℕ) → IsHere the_images here other → IsHere the_images there other
    still_here other is = subst (λ (o : Option ℕ). IsSome o) (sym (number_is other)) is

    picture_is : (other : ℕ) → IsHere the_images here other → the_images.image_of there other ≡ the_images.image_of here other
    picture_is zero is = refl
    picture_is (suc j) is = elim (cases_eq j k) [
      | inl own ↦ absurd (none_here (subst (λ (n : ℕ). IsSome (number_at (slice_get here.slots.items n))) own is))
      | inr differ ↦ picture_other j differ
    ]
      where
        none_here : IsSome (number_at (slice_get here.slots.items k)) → ⊥
        none_here some = (let no : IsSome (number_in None) = subst (λ (o : Option ℕ). IsSome o) (ap number_at at ∙ ap number_in away) some in absurd cc)

    keeps : (j : ℕ) (tx : Tx) → Runs here j tx → KeepsLocked the_images here there tx
    keeps j tx on = record {
      here = λ other lock. still_here other (on.runs.here other lock);
      same_image = λ other lock. picture_is other (on.runs.here other lock);
      read_here = λ other read. still_here other (on.runs.read_here other read);
      same_bytes = λ other read. ap (λ (p : Picture). p.bytes.items) (picture_is other (on.runs.read_here other read));
      still_reads = λ other read. ap (λ (p : Picture). reads p.holders tx.thread) (picture_is other (on.runs.read_here other read)) ∙ on.runs.reads other read;
    }

    -- no transaction has the segment
    pub runs_away : (seats : List Seat) → AllRun here seats → AllRun there seats
    runs_away seats runs j tx has = (let on = runs j tx has in record { own = on.own; runs = runs_beside the_images here there tx on.runs (keeps j tx on) })

    pub desk_away : (m : Setting) (node : ℕ) (seats : List Seat) (s : State) → AllRun here seats → FitsDesk m node here seats s → FitsDesk m node there seats s
    desk_away m node seats s runs h = record {
      all_seats = h.all_seats;
      shape = h.shape;
      threads = λ j seat got. seat_beside here there node j (value m.start s.earlier s.history) s s seat (h.threads j seat got) refl refl
          (λ tx has. (let on = runs j tx (ap holder_of got ∙ has) in (on.runs, keeps j tx on)));
      shown = λ other is none.
          (let its = picture_is other (was_here other is) in
          ap (λ (p : Picture). p.bytes.items) its ∙ h.shown other (was_here other is) (ap (λ (p : Picture). writer_of p.holders) (sym its) ∙ none));
      sizes = λ other is. ap (λ (p : Picture). length p.bytes.items) (picture_is other (was_here other is)) ∙ h.sizes other (was_here other is);
      writer = λ other thread is writes. h.writer other thread (was_here other is) (ap (λ (p : Picture). writer_of p.holders) (sym (picture_is other (was_here other is))) ∙ writes);
      readers = λ other thread is reader. h.readers other thread (was_here other is) (ap (λ (p : Picture). reads p.holders thread) (sym (picture_is other (was_here other is))) ∙ reader);
      places = λ other is. h.places other (was_here other is);
      elsewhere = λ other first last none. h.elsewhere other first last (sym (number_is other) ∙ none);
    }
