-- The end of an open transaction at a node.
use Rattle.std.proofs.Common.{◌≡◌, ℕ, false, List, [], length, Option, Some, None, refl, sym, ap, subst, ◌∙◌, inl, inr}
use Rattle.std.specs.Prelude.{slice_get, slice_set, IsSome}
use Rattle.lc_record.specs.Content.{Content, segment_of}
use Rattle.lc_record.specs.Transaction.{is_member}
use Rattle.lc_model.specs.History.{value}
use Rattle.lc_model.specs.State.{Setting, State, running_of, has_unclosed}
use Rattle.lc_model.specs.Machine.{dropped}
use Rattle.lc_model.proofs.Seats.{running-dropped, running-dropped_other}
use Rattle.lc_tx.specs.Holders.{reads, writer_of}
use Rattle.lc_tx.specs.Images.{IsHere, IsSameBut, IsSame, AreFreed, bytes_of}
use Rattle.lc_tx.specs.Tx.{Holds, Locked, RunsOn, KeepsLocked}
use Rattle.lc_tx.specs.declared.image.Image.{Image as Picture}
use Rattle.lc_tx.specs.declared.tx.Tx.{Tx}
use Rattle.lc_tx.proofs.BesideLemmas.{runs_beside, stands_beside, apart_keeps}
use Rattle.lc_tx.proofs.HoldsLemmas.{held_cases}
use Rattle.lc_tx.proofs.StandsLemmas.{read_shown}
use Rattle.lc_desk.specs.declared.here.Here.{Here}
use Rattle.lc_desk.specs.Seat.{Seat, Free, Open, Reserved, open_of, holder_of}
use Rattle.lc_desk.specs.Here.{the_images}
use Rattle.lc_desk.specs.Seats.{Runs, AllRun}
use Rattle.lc_desk.specs.Desk.{IsOpen, FitsSeat, FitsDesk}
use Rattle.lc_settled.specs.FollowsDesk.{SameButOpen}
use Rattle.lc_desk.proofs.Freeing.{own_runs, other_keeps, runs_freed, desk_freed}
use Rattle.lc_desk.proofs.Seating.{open_seat, at_place}

-- what it locked has the bytes that it had
pub keeps_bytes : (old new : Here) (tx : Tx) → KeepsLocked the_images old new tx → (segment : ℕ) → Holds tx segment → bytes_of the_images new segment ≡ bytes_of the_images old segment
keeps_bytes old new tx keeps segment held = elim (held_cases tx segment held) [
  | inl lock ↦ ap (λ (p : Picture). p.bytes.items) (keeps.same_image segment lock)
  | inr read ↦ keeps.same_bytes segment read
]

-- what another thread is doing fits as before
pub seat_beside : (old new : Here) (node j : ℕ) (content : Content) (s after : State) (seat : Seat) → FitsSeat old node j content s seat
    → running_of node j after ≡ running_of node j s → after.history ≡ s.history
    → ((tx : Tx) → holder_of (Some seat) ≡ Some tx → RunsOn the_images old tx × KeepsLocked the_images old new tx)
    → FitsSeat new node j content after seat
seat_beside old new node j content s after Free fits running history keeps = (running ∙ fits.0, rw history fits.1)
seat_beside old new node j content s after (Open tx) fits running history keeps = record {
  transaction = fits.transaction;
  running = running ∙ fits.running;
  unclosed = rw history fits.unclosed;
  stands = stands_beside the_images old new tx (keeps tx refl).0 (keeps tx refl).1 content content fits.transaction fits.stands refl (λ segment held. refl);
}
seat_beside old new node j content s after (Reserved tx number) fits running history keeps = record {
  transaction = fits.transaction;
  running = running ∙ fits.running;
  unclosed_is = rw history fits.unclosed_is;
  found = rw history fits.found;
  locked_are = fits.locked_are;
  reading_are = fits.reading_are;
  set_is = fits.set_is;
  numbered = rw history fits.numbered;
  shown = λ segment held. keeps_bytes old new tx (keeps tx refl).1 segment held ∙ fits.shown segment held;
}

pub still : (node : ℕ) (s : State) → SameButOpen node s s
still node s = record { earlier = refl; history = refl; place = refl; phase = refl; ack = refl; halted = refl; flush = refl; running = λ other thread differ. refl }

-- where a thread has no open transaction, nothing changes
pub no_turn : (here : Here) (node i : ℕ) (content : Content) (s : State) (seat : Seat) → FitsSeat here node i content s seat → open_of seat ≡ None → running_of node i s ≡ None
no_turn here node i content s Free fits none = fits.0
no_turn here node i content s (Open tx) fits none = absurd cc
no_turn here node i content s (Reserved tx number) fits none = fits.running

-- the open transaction of a seat
pub open_fits : (here : Here) (node i : ℕ) (seats : List Seat) (seat : Seat) (tx : Tx) (m : Setting) (s : State) → FitsDesk m node here seats s → slice_get seats i ≡ Some seat → open_of seat ≡ Some tx
    → IsOpen here node i tx (value m.start s.earlier s.history) s
open_fits here node i seats seat tx m s h at is = subst (λ x. FitsSeat here node i (value m.start s.earlier s.history) s x) (open_seat seat tx is) (h.threads i seat at)

-- What leaves the images as they are

pub runs_same : (old new : Here) (seats : List Seat) → AllRun old seats → IsSame the_images old new → AllRun new seats
runs_same old new seats runs same j tx has =
    let its = runs j tx has in
    record { own = its.own; runs = runs_beside the_images old new tx its.runs (apart_keeps the_images old new [] tx its.runs same (λ segment held. refl)) }

module _ (old new : Here) (segments : List ℕ) (same : IsSameBut the_images segments old new) where
  pub was : (segment : ℕ) → IsHere the_images new segment → IsHere the_images old segment
  was segment here = subst (λ (o : Option ℕ). IsSome o) (same.numbers segment) here

  pub image_is : (segment : ℕ) → IsHere the_images new segment → is_member segment segments ≡ false → the_images.image_of new segment ≡ the_images.image_of old segment
  image_is segment here other = same.others segment (was segment here) other

pub desk_seen : (m : Setting) (node : ℕ) (old new : Here) (seats : List Seat) (s : State) → AllRun old seats → IsSame the_images old new → FitsDesk m node old seats s → FitsDesk m node new seats s
desk_seen m node old new seats s runs same h = record {
  all_seats = h.all_seats;
  shape = h.shape;
  threads = λ j seat at. seat_beside old new node j (value m.start s.earlier s.history) s s seat (h.threads j seat at) refl refl
      (λ tx has. (let its = runs j tx (ap holder_of at ∙ has) in (its.runs, apart_keeps the_images old new [] tx its.runs same (λ segment held. refl))));
  shown = λ segment here none.
      (let is = image_is old new [] same segment here refl in
      ap (λ (p : Picture). p.bytes.items) is ∙ h.shown segment (was old new [] same segment here) (ap (λ (p : Picture). writer_of p.holders) (sym is) ∙ none));
  sizes = λ segment here. ap (λ (p : Picture). length p.bytes.items) (image_is old new [] same segment here refl) ∙ h.sizes segment (was old new [] same segment here);
  writer = λ segment k here is. h.writer segment k (was old new [] same segment here) (ap (λ (p : Picture). writer_of p.holders) (sym (image_is old new [] same segment here refl)) ∙ is);
  readers = λ segment k here is. h.readers segment k (was old new [] same segment here) (ap (λ (p : Picture). reads p.holders k) (sym (image_is old new [] same segment here refl)) ∙ is);
  places = λ segment here. h.places segment (was old new [] same segment here);
  elsewhere = λ segment first last none. h.elsewhere segment first last (sym (same.numbers segment) ∙ none);
}

-- The end of an open transaction

pub only_dropped : (s : State) (node i : ℕ) → SameButOpen node s (dropped s node i)
only_dropped s node i = record {
  earlier = refl;
  history = refl;
  place = refl;
  phase = refl;
  ack = refl;
  halted = refl;
  flush = refl;
  running = λ other thread differ. running-dropped_other s node i other thread (λ same _. differ (sym same));
}

module _ (old new : Here) (seats : List Seat) (i : ℕ) (seat : Seat) (tx : Tx) (at : slice_get seats i ≡ Some seat) (is : open_of seat ≡ Some tx) (runs : AllRun old seats) where
  sits : holder_of (Some seat) ≡ Some tx
  sits = ap (λ x. holder_of (Some x)) (open_seat seat tx is)

  pub own_open_runs : Runs old i tx
  own_open_runs = own_runs old new seats i seat at tx sits runs

  module _ (freed : AreFreed the_images tx.thread tx.locked.items tx.reading.items old new) where
    pub runs_after : AllRun new (slice_set seats i Free)
    runs_after = runs_freed old new seats i seat at tx sits runs freed

    module _ (m : Setting) (node : ℕ) (s : State) (h : FitsDesk m node old seats s) where
      abbrev content : Content
      content = value m.start s.earlier s.history

      pub the_open : IsOpen old node i tx content s
      the_open = open_fits old node i seats seat tx m s h at is

      pub dropped_but : SameButOpen node s (dropped s node i)
      dropped_but = only_dropped s node i

      threads_after : (j : ℕ) (other : Seat) → slice_get (slice_set seats i Free) j ≡ Some other → FitsSeat new node j content (dropped s node i) other
      threads_after j other got = elim (at_place seats i j seat Free other at got) [
        | inl here ↦ subst (λ x. FitsSeat new node j content (dropped s node i) x) (sym here.1)
            (subst (λ (k : ℕ). (running_of node k (dropped s node i) ≡ None) × (has_unclosed node k s ≡ false)) (sym here.0) (running-dropped s node i, the_open.unclosed))
        | inr there ↦ seat_beside old new node j content s (dropped s node i) other (h.threads j other there.1)
            (running-dropped_other s node i node j (λ _ same. there.0 (sym same))) refl
            (λ theirs has. (let at_j = runs j theirs (ap holder_of there.1 ∙ has) in (at_j.runs, other_keeps old new seats i seat at tx sits runs freed j theirs there.0 at_j)))
      ]

      -- where what it wrote is back to the content
      pub desk_dropped : ((segment : ℕ) → Locked tx segment → bytes_of the_images new segment ≡ segment_of segment content)
          → ((segment : ℕ) → Locked tx segment → length (bytes_of the_images new segment) ≡ length (bytes_of the_images old segment))
          → FitsDesk m node new (slice_set seats i Free) (dropped s node i)
      desk_dropped back lengths =
          desk_freed old new seats i seat at tx sits runs freed m node s h (dropped s node i) refl refl
          (λ segment read. read_shown the_images old tx content the_open.transaction segment the_open.stands own_open_runs.runs read)
          back lengths threads_after
