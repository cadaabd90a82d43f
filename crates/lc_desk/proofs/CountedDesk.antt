-- Of a desk: a desk whose slots have counted a record stands as before for its transactions.
use Rattle.std.proofs.Common.{◌≡◌, ℕ, zero, suc, ◌+◌, ◌≤◌, Bool, true, false, List, [], map, length, Option, Some, None, refl, sym, ap, subst, ◌∙◌, inl, inr, arith}
use Rattle.std.specs.Prelude.{slice_get, is_some, option_map, IsTrue, MatchOption, vec_len}
use Rattle.std.proofs.lemmas.Bool.{cases_Bool, MatchBool-at_true, MatchBool-at_false}
use Rattle.std.proofs.lemmas.Option.{slice_get-map, same_Some as same_some}
use Rattle.lc_range.specs.declared.range.Range.{Range}
use Rattle.lc_record.specs.declared.part.Part.{Part}
use Rattle.lc_record.proofs.ListLemmas.{slice_get-map_some as get-map}
use Rattle.lc_token.specs.declared.token.Token.{Token}
use Rattle.lc_tx.specs.Holders.{reads}
use Rattle.lc_tx.specs.Images.{IsHere}
use Rattle.lc_tx.specs.Tx.{KeepsLocked, RunsOn}
use Rattle.lc_tx.specs.declared.image.Image.{Image as Picture}
use Rattle.lc_tx.specs.declared.tx.Tx.{Tx}
use Rattle.lc_tx.proofs.BesideLemmas.{runs_beside}
use Rattle.lc_desk.specs.Counts.{Counts, CountsAll, CountsSlot, countable, countable_in, names}
use Rattle.lc_desk.specs.Here.{the_images, number_in, number_at, image_at, beside}
use Rattle.lc_desk.specs.Seat.{Seat}
use Rattle.lc_desk.specs.Seats.{AllRun, AreShort}
use Rattle.lc_desk.specs.Slots.{AreInPlace, Besides, besides_of}
use Rattle.lc_desk.specs.declared.here.Here.{Here}
use Rattle.lc_desk.specs.declared.segment_copy.SegmentCopy.{SegmentCopy}
use Rattle.lc_desk.proofs.Counting.{same_map}

-- what a count leaves as it is
record Fixed : Type 0 where
  image : Picture
  segment : ℕ
  parts_segment : ℕ
  due : List Part
  here : Bool

abbrev fixed : SegmentCopy → Fixed
fixed slot = record {
  image = slot.image;
  segment = slot.token.segment;
  parts_segment = slot.parts.segment;
  due = slot.parts.due;
  here = is_some slot.token.token;
}

fixed_if : (o : Option Token) (segment : ℕ) (ranges : List Range) (old new : SegmentCopy) → countable old ≡ o
    → MatchOption o (new ≡ old) (λ token. CountsSlot segment ranges token old new) → fixed new ≡ fixed old
fixed_if None segment ranges old new is h = ap fixed h
fixed_if (Some token) segment ranges old new is h = rw (h.same_image, h.token_is, h.parts_are, some_token old.token.token is) refl
  where
    some_token : (o : Option Token) → countable_in old.parts.applied o ≡ Some token → is_some o ≡ true
    some_token None none = absurd cc
    some_token (Some t) some = refl

abbrev image_in : Picture → Option Fixed → Picture
image_in rest None = rest
image_in rest (Some f) = f.image

image_seen : (rest : Picture) (o : Option SegmentCopy) → image_at rest o ≡ image_in rest (option_map fixed o)
image_seen rest None = refl
image_seen rest (Some slot) = refl

abbrev here_in : Option Fixed → Bool
here_in None = false
here_in (Some f) = f.here

here_token : (o : Option Token) → is_some (number_in o) ≡ is_some o
here_token None = refl
here_token (Some token) = refl

here_seen : (o : Option SegmentCopy) → is_some (number_at o) ≡ here_in (option_map fixed o)
here_seen None = refl
here_seen (Some slot) = here_token slot.token.token

same_fixed : (segment : ℕ) (ranges : List Range) (old new : SegmentCopy) → Counts segment ranges old new → fixed new ≡ fixed old
same_fixed segment ranges old new h = elim (cases_Bool (names segment ranges)) [
  | inl some ↦ fixed_if (countable old) segment ranges old new refl
      (MatchBool-at_true (MatchOption (countable old) (new ≡ old) (λ token. CountsSlot segment ranges token old new)) (new ≡ old) some h)
  | inr none ↦ ap fixed (MatchBool-at_false (MatchOption (countable old) (new ≡ old) (λ token. CountsSlot segment ranges token old new)) (new ≡ old) none h)
]

module _ (ranges : List Range) (old new : Here) (counts : CountsAll ranges old.slots.items new.slots.items) (spare : new.spare ≡ old.spare) where
  same : map fixed new.slots.items ≡ map fixed old.slots.items
  same = same_map fixed old.slots.items new.slots.items counts.same_length (λ k slot is. let e = counts.each k slot is in (e.0, e.1, same_fixed (k + 1) ranges slot e.0 e.2))

  at : (k : ℕ) → option_map fixed (slice_get new.slots.items k) ≡ option_map fixed (slice_get old.slots.items k)
  at k = sym (slice_get-map fixed new.slots.items k) ∙ ap (λ l. slice_get l k) same ∙ slice_get-map fixed old.slots.items k

  pub counted_image : (segment : ℕ) → the_images.image_of new segment ≡ the_images.image_of old segment
  counted_image zero = spare
  counted_image (suc k) = ap (λ p. image_at p (slice_get new.slots.items k)) spare ∙ image_seen old.spare (slice_get new.slots.items k) ∙ ap (image_in old.spare) (at k) ∙ sym (image_seen old.spare (slice_get old.slots.items k))

  pub counted_some : (segment : ℕ) → is_some (the_images.number_of new segment) ≡ is_some (the_images.number_of old segment)
  counted_some zero = refl
  counted_some (suc k) = here_seen (slice_get new.slots.items k) ∙ ap here_in (at k) ∙ sym (here_seen (slice_get old.slots.items k))

  still_here : (segment : ℕ) → IsHere the_images old segment → IsHere the_images new segment
  still_here segment here = counted_some segment ∙ here

  pub keeps : (tx : Tx) → RunsOn the_images old tx → KeepsLocked the_images old new tx
  keeps tx on = record {
    here = λ segment lock. still_here segment (on.here segment lock);
    same_image = λ segment lock. counted_image segment;
    read_here = λ segment read. still_here segment (on.read_here segment read);
    same_bytes = λ segment read. ap (λ (p : Picture). p.bytes.items) (counted_image segment);
    still_reads = λ segment read. subst (λ (p : Picture). IsTrue (reads p.holders tx.thread)) (sym (counted_image segment)) (on.reads segment read);
  }

  pub runs_counted : (seats : List Seat) → AllRun old seats → AllRun new seats
  runs_counted seats runs j tx has =
      let its = runs j tx has in
      record { own = its.own; runs = runs_beside the_images old new tx its.runs (keeps tx its.runs) }

  pub few_counted : vec_len old.slots ≤ 16 → vec_len new.slots ≤ 16
  few_counted few = (let same_len = counts.same_length in let were = old.slots.ok.0 in let are = new.slots.ok.0 in omega (arith, few, same_len, were, are))

  pub short_counted : AreShort old → AreShort new
  short_counted short segment = subst (λ (p : Picture). length p.bytes.items ≤ 262144) (sym (counted_image segment)) (short segment)

  pub in_place_counted : AreInPlace (besides_of old) → AreInPlace (besides_of new)
  in_place_counted placed k b there = at_slot (slice_get new.slots.items k) refl
    where
      by_slot : (slot after : SegmentCopy) → slice_get old.slots.items k ≡ Some slot → beside after ≡ b → fixed after ≡ fixed slot → (b.0.segment ≡ k + 1) × (b.1.segment ≡ k + 1) × (b.1.due ≡ [])
      by_slot slot after was is stays =
          let its = placed k (beside slot) (get-map beside old.slots.items k slot was) in
          subst (λ (c : Besides). (c.0.segment ≡ k + 1) × (c.1.segment ≡ k + 1) × (c.1.due ≡ [])) is
          (ap (λ (f : Fixed). f.segment) stays ∙ its.0, ap (λ (f : Fixed). f.parts_segment) stays ∙ its.1, ap (λ (f : Fixed). f.due) stays ∙ its.2)

      at_old : (after : SegmentCopy) → slice_get new.slots.items k ≡ Some after → (o : Option SegmentCopy) → slice_get old.slots.items k ≡ o → (b.0.segment ≡ k + 1) × (b.1.segment ≡ k + 1) × (b.1.due ≡ [])
      at_old after is None was = (let none : Some (fixed after) ≡ None = sym (ap (option_map fixed) is) ∙ at k ∙ ap (option_map fixed) was in absurd cc)
      at_old after is (Some slot) was =
          by_slot slot after was (same_some (beside after) b (sym (get-map beside new.slots.items k after is) ∙ there))
          (same_some (fixed after) (fixed slot) (sym (ap (option_map fixed) is) ∙ at k ∙ ap (option_map fixed) was))

      at_slot : (o : Option SegmentCopy) → slice_get new.slots.items k ≡ o → (b.0.segment ≡ k + 1) × (b.1.segment ≡ k + 1) × (b.1.due ≡ [])
      at_slot None is = (let none : None ≡ Some b = sym (slice_get-map beside new.slots.items k ∙ ap (option_map beside) is) ∙ there in absurd cc)
      at_slot (Some after) is = at_old after is (slice_get old.slots.items k) refl
