-- Of a desk: a token that stands at a node, and is known more of: the desk fits as before.
use Rattle.std.proofs.Common.{◌≡◌, ℕ, zero, suc, ◌-◌, ◌<◌, Option, Some, None, refl, sym, ap, subst, ◌∙◌, inl, inr}
use Rattle.std.specs.Prelude.{List, length, slice_get, slice_set, IsSome, IsSomeAnd}
use Rattle.std.specs.Option.{ForSome}
use Rattle.std.specs.Vec.{with_item}
use Rattle.std.proofs.lemmas.Bool.{cases_eq}
use Rattle.std.proofs.lemmas.Option.{same_Some as same_some}
use Rattle.lc_token.specs.Standing.{Standing}
use Rattle.lc_token.specs.Token.{IsWritten}
use Rattle.lc_token.specs.declared.token.Token.{Token}
use Rattle.lc_tx.specs.Holders.{reads}
use Rattle.lc_tx.specs.Images.{IsHere}
use Rattle.lc_tx.specs.Tx.{KeepsLocked}
use Rattle.lc_tx.specs.declared.image.Image.{Image as Picture}
use Rattle.lc_tx.specs.declared.tx.Tx.{Tx}
use Rattle.lc_tx.proofs.BesideLemmas.{runs_beside}
use Rattle.lc_desk.specs.Here.{the_images, number_in, number_at, image_at}
use Rattle.lc_desk.specs.Leaves.{HasToken}
use Rattle.lc_desk.specs.Places.{get_set_other, get_set_same}
use Rattle.lc_desk.specs.Seat.{Seat}
use Rattle.lc_desk.specs.Seats.{Runs, AllRun}
use Rattle.lc_desk.specs.Drafts.{NotesWritten}
use Rattle.lc_desk.specs.declared.desk.Desk.{Desk}
use Rattle.lc_desk.specs.declared.here.Here.{Here}
use Rattle.lc_desk.specs.declared.segment_copy.SegmentCopy.{SegmentCopy}

-- the place with this standing in it, whose token has the same number
module _ (here : Here) (k : ℕ) (slot : SegmentCopy) (at : slice_get here.slots.items k ≡ Some slot) (standing : Standing) (number : number_in standing.token ≡ number_in slot.token.token) where
  abbrev next : SegmentCopy
  next = record slot { token = standing }

  abbrev pub there : Here
  there = record here { slots = with_item here.slots k next }

  pub number_is : (other : ℕ) → the_images.number_of there other ≡ the_images.number_of here other
  number_is zero = refl
  number_is (suc j) = elim (cases_eq j k) [
    | inl own ↦ subst (λ (n : ℕ). number_at (slice_get (slice_set here.slots.items k next) n) ≡ number_at (slice_get here.slots.items n)) (sym own)
        (ap number_at (get_set_same here.slots.items k slot next at) ∙ number ∙ ap number_at (sym at))
    | inr differ ↦ ap number_at (get_set_other here.slots.items k j next differ)
  ]

  pub picture_is : (other : ℕ) → the_images.image_of there other ≡ the_images.image_of here other
  picture_is zero = refl
  picture_is (suc j) = elim (cases_eq j k) [
    | inl own ↦ subst (λ (n : ℕ). image_at here.spare (slice_get (slice_set here.slots.items k next) n) ≡ image_at here.spare (slice_get here.slots.items n)) (sym own)
        (ap (image_at here.spare) (get_set_same here.slots.items k slot next at) ∙ ap (image_at here.spare) (sym at))
    | inr differ ↦ ap (image_at here.spare) (get_set_other here.slots.items k j next differ)
  ]

  still_here : (other : ℕ) → IsHere the_images here other → IsHere the_images there other
  still_here other is = subst (λ (o : Option ℕ). IsSome o) (sym (number_is other)) is

  pub keeps : (j : ℕ) (tx : Tx) → Runs here j tx → KeepsLocked the_images here there tx
  keeps j tx on = record {
    here = λ other lock. still_here other (on.runs.here other lock);
    same_image = λ other lock. picture_is other;
    read_here = λ other read. still_here other (on.runs.read_here other read);
    same_bytes = λ other read. ap (λ (p : Picture). p.bytes.items) (picture_is other);
    still_reads = λ other read. ap (λ (p : Picture). reads p.holders tx.thread) (picture_is other) ∙ on.runs.reads other read;
  }

  pub runs_noted : (seats : List Seat) → AllRun here seats → AllRun there seats
  runs_noted seats runs j tx has = (let on = runs j tx has in record { own = on.own; runs = runs_beside the_images here there tx on.runs (keeps j tx on) })

-- what the end of a page write makes of the place of a token
pub written_token : (new old : Option Token) (token : Token) (page number : ℕ) → old ≡ Some token → ForSome old (λ t. IsSomeAnd new (λ u. IsWritten t page number u)) → (after : Token) × (new ≡ Some after) × IsWritten token page number after
written_token None old token page number stands is = absurd (is token stands)
written_token (Some after) old token page number stands is = (after, refl, is token stands)

pub written_number : (new old : Option Token) (token : Token) (page number : ℕ) → old ≡ Some token → ForSome old (λ t. IsSomeAnd new (λ u. IsWritten t page number u)) → number_in new ≡ number_in old
written_number new old token page number stands is =
    let its = written_token new old token page number stands is in
    ap number_in its.1 ∙ ap (λ (k : ℕ). Some k) its.2.seq ∙ sym (ap number_in stands)

-- and of the desk
pub notes_written : (old new : Desk) (segment page number : ℕ) (slot : SegmentCopy) (at : slice_get old.here.slots.items (segment - 1) ≡ Some slot) (standing : Standing) → standing.segment ≡ slot.token.segment
    → ForSome slot.token.token (λ t. IsSomeAnd standing.token (λ u. IsWritten t page number u)) → new.here ≡ record old.here { slots = with_item old.here.slots (segment - 1) (record slot { token = standing }) } → new.seats ≡ old.seats
    → NotesWritten segment page number old new
notes_written old new segment page number slot at standing same is here_is seats_is other token got stands within =
    let own : slot ≡ other = same_some slot other (sym at ∙ got) in
    let its = written_token standing.token slot.token.token token page number (ap (λ (v : SegmentCopy). v.token.token) own ∙ stands) is in
    let standing_is : standing ≡ record slot.token { token = Some its.0 } =
    ap (λ (o : Option Token). record standing { token = o }) its.1 ∙ ap (λ (k : ℕ). let v : Standing = record { segment = k; token = Some its.0 } in v) same in (
      its.0,
      its.2,
      subst (λ (v : SegmentCopy). HasToken segment v (Some its.0) old new) own (record {
        at = at;
        here = here_is ∙ ap (λ (v : Standing). record old.here { slots = with_item old.here.slots (segment - 1) (record slot { token = v }) }) standing_is;
        seats = seats_is;
      }),
    )

-- no token stands in the slot, or the page is none of its
pub notes_nothing : (old new : Desk) (segment page number : ℕ) (slot : SegmentCopy) → slice_get old.here.slots.items (segment - 1) ≡ Some slot → ((token : Token) → slot.token.token ≡ Some token → page < length token.pages → ⊥)
    → NotesWritten segment page number old new
notes_nothing old new segment page number slot at none other token got stands within =
    absurd (none token (ap (λ (v : SegmentCopy). v.token.token) (same_some slot other (sym at ∙ got)) ∙ stands) within)
