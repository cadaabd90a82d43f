-- Of nodes that run: a token that stands at a node, and is known more of: the desk fits as before.
use Rattle.std.proofs.Common.{◌≡◌, ℕ, Option, Some, refl, sym, ap, subst, ◌∙◌}
use Rattle.std.specs.Prelude.{List, length, slice_get, IsSome}
use Rattle.lc_model.specs.History.{value}
use Rattle.lc_model.specs.State.{Setting, State}
use Rattle.lc_token.specs.Standing.{Standing}
use Rattle.lc_tx.specs.Holders.{reads, writer_of}
use Rattle.lc_tx.specs.Images.{IsHere}
use Rattle.lc_tx.specs.declared.image.Image.{Image as Picture}
use Rattle.lc_desk.specs.Desk.{FitsDesk}
use Rattle.lc_desk.specs.Here.{the_images, number_in}
use Rattle.lc_desk.specs.Seat.{Seat, holder_of}
use Rattle.lc_desk.specs.Seats.{AllRun}
use Rattle.lc_desk.specs.declared.here.Here.{Here}
use Rattle.lc_desk.specs.declared.segment_copy.SegmentCopy.{SegmentCopy}
use Rattle.lc_desk.proofs.Dropping.{seat_beside}
use Rattle.lc_desk.proofs.Noted.{keeps, number_is, picture_is, there}

-- the place with this standing in it, whose token has the same number
module _ (here : Here) (k : ℕ) (slot : SegmentCopy) (at : slice_get here.slots.items k ≡ Some slot) (standing : Standing) (number : number_in standing.token ≡ number_in slot.token.token) where
  was_here : (other : ℕ) → IsHere the_images (there here k slot at standing number) other → IsHere the_images here other
  was_here other is = subst (λ (o : Option ℕ). IsSome o) ((number_is here k slot at standing number) other) is

  pub desk_noted : (m : Setting) (node : ℕ) (seats : List Seat) (s : State) → AllRun here seats → FitsDesk m node here seats s → FitsDesk m node (there here k slot at standing number) seats s
  desk_noted m node seats s runs h = record {
    all_seats = h.all_seats;
    shape = h.shape;
    threads = λ j seat got. seat_beside here (there here k slot at standing number) node j (value m.start s.earlier s.history) s s seat (h.threads j seat got) refl refl
        (λ tx has. (let on = runs j tx (ap holder_of got ∙ has) in (on.runs, (keeps here k slot at standing number) j tx on)));
    shown = λ other is none.
        ap (λ (p : Picture). p.bytes.items) ((picture_is here k slot at standing number) other) ∙ h.shown other (was_here other is) (ap (λ (p : Picture). writer_of p.holders) (sym ((picture_is here k slot at standing number) other)) ∙ none);
    sizes = λ other is. ap (λ (p : Picture). length p.bytes.items) ((picture_is here k slot at standing number) other) ∙ h.sizes other (was_here other is);
    writer = λ other thread is writes. h.writer other thread (was_here other is) (ap (λ (p : Picture). writer_of p.holders) (sym ((picture_is here k slot at standing number) other)) ∙ writes);
    readers = λ other thread is reader. h.readers other thread (was_here other is) (ap (λ (p : Picture). reads p.holders thread) (sym ((picture_is here k slot at standing number) other)) ∙ reader);
    places = λ other is. h.places other (was_here other is);
    elsewhere = λ other first last none. h.elsewhere other first last (sym ((number_is here k slot at standing number) other) ∙ none);
  }
