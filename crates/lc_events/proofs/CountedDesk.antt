-- Of nodes that run: a desk whose slots have counted a record stands as before for its transactions.
use Rattle.std.proofs.Common.{◌≡◌, ℕ, false, List, length, Option, Some, None, refl, sym, ap, ◌∙◌, arith}
use Rattle.std.specs.Prelude.{is_some, vec_len}
use Rattle.lc_range.specs.declared.range.Range.{Range}
use Rattle.lc_model.specs.History.{value}
use Rattle.lc_model.specs.State.{Setting, State}
use Rattle.lc_tx.specs.Holders.{reads, writer_of}
use Rattle.lc_tx.specs.Images.{IsHere}
use Rattle.lc_tx.specs.declared.image.Image.{Image as Picture}
use Rattle.lc_desk.specs.Counts.{CountsAll}
use Rattle.lc_desk.specs.Desk.{FitsDesk}
use Rattle.lc_desk.specs.Here.{the_images}
use Rattle.lc_desk.specs.Seat.{Seat, holder_of}
use Rattle.lc_desk.specs.Seats.{AllRun}
use Rattle.lc_desk.specs.declared.here.Here.{Here}
use Rattle.lc_desk.proofs.Dropping.{seat_beside}
use Rattle.lc_desk.proofs.CountedDesk.{counted_image, counted_some, keeps}

module _ (ranges : List Range) (old new : Here) (counts : CountsAll ranges old.slots.items new.slots.items) (spare : new.spare ≡ old.spare) where
  was_here : (segment : ℕ) → IsHere the_images new segment → IsHere the_images old segment
  was_here segment here = sym ((counted_some ranges old new counts spare) segment) ∙ here

  was_away : (segment : ℕ) → the_images.number_of new segment ≡ None → the_images.number_of old segment ≡ None
  was_away segment none = not_some (the_images.number_of old segment) (sym ((counted_some ranges old new counts spare) segment) ∙ ap is_some none)
    where
      not_some : (o : Option ℕ) → is_some o ≡ false → o ≡ None
      not_some None is = refl
      not_some (Some n) is = absurd cc

  pub count_counted : vec_len new.slots ≡ vec_len old.slots
  count_counted = (let same_length = counts.same_length in let were = old.slots.ok.0 in let are = new.slots.ok.0 in omega (arith, same_length, were, are))

  pub desk_counted : (m : Setting) (node : ℕ) (seats : List Seat) (s : State) → AllRun old seats → FitsDesk m node old seats s → FitsDesk m node new seats s
  desk_counted m node seats s runs h = record {
    all_seats = h.all_seats;
    shape = h.shape;
    threads = λ j seat got. seat_beside old new node j (value m.start s.earlier s.history) s s seat (h.threads j seat got) refl refl
        (λ tx has. (let its = runs j tx (ap holder_of got ∙ has) in (its.runs, (keeps ranges old new counts spare) tx its.runs)));
    shown = λ segment here none. ap (λ (p : Picture). p.bytes.items) ((counted_image ranges old new counts spare) segment) ∙ h.shown segment (was_here segment here) (ap (λ (p : Picture). writer_of p.holders) (sym ((counted_image ranges old new counts spare) segment)) ∙ none);
    sizes = λ segment here. ap (λ (p : Picture). length p.bytes.items) ((counted_image ranges old new counts spare) segment) ∙ h.sizes segment (was_here segment here);
    writer = λ segment thread here is. h.writer segment thread (was_here segment here) (ap (λ (p : Picture). writer_of p.holders) (sym ((counted_image ranges old new counts spare) segment)) ∙ is);
    readers = λ segment thread here is. h.readers segment thread (was_here segment here) (ap (λ (p : Picture). reads p.holders thread) (sym ((counted_image ranges old new counts spare) segment)) ∙ is);
    places = λ segment here. h.places segment (was_here segment here);
    elsewhere = λ segment first last none. h.elsewhere segment first last (was_away segment none);
  }
