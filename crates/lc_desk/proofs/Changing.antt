-- An open transaction that changes: what a node's desk fits after it.
use Rattle.std.proofs.Common.{◌≡◌, ◌≢◌, ℕ, true, List, [], ◌∷◌, length, Option, Some, None, refl, sym, ap, subst, ◌∙◌, inl, inr}
use Rattle.std.specs.Prelude.{slice_get, slice_set, IsSome}
use Rattle.std.proofs.lemmas.Bool.{cases_eq, cases_Bool}
use Rattle.std.proofs.lemmas.List.{length-set}
use Rattle.std.proofs.lemmas.Option.{same_Some as same_some}
use Rattle.lc_record.specs.Transaction.{Transaction, is_member}
use Rattle.lc_record.proofs.SegmentLemmas.{length-put}
use Rattle.lc_model.specs.History.{value}
use Rattle.lc_model.specs.State.{Setting, State, running_of, is_by}
use Rattle.lc_model.specs.Machine.{changed}
use Rattle.lc_model.proofs.Holders.{is_by-both}
use Rattle.lc_model.proofs.Lists.{found-passes}
use Rattle.lc_model.proofs.Seats.{running-changed, running-changed_other}
use Rattle.lc_tx.specs.Holders.{reads, writer_of}
use Rattle.lc_tx.specs.Images.{IsHere, IsSame, IsWritten, bytes_of, holders_of}
use Rattle.lc_tx.specs.Tx.{Locked, Reads, RunsOn, KeepsLocked}
use Rattle.lc_tx.specs.declared.holders.Holders.{Holders}
use Rattle.lc_tx.specs.declared.holders.Holders.TheVariants.{Writer}
use Rattle.lc_tx.specs.declared.image.Image.{Image as Picture}
use Rattle.lc_tx.specs.declared.tx.Tx.{Tx}
use Rattle.lc_tx.proofs.BesideLemmas.{runs_beside, apart_keeps}
use Rattle.lc_tx.proofs.HolderLemmas.{writer_is_some}
use Rattle.lc_tx.proofs.MemberLemmas.{is_one}
use Rattle.lc_desk.specs.Places.{get_set_same, get_set_other}
use Rattle.lc_desk.specs.declared.here.Here.{Here}
use Rattle.lc_desk.specs.Seat.{Seat, Open, open_of, holder_of}
use Rattle.lc_desk.specs.Here.{the_images}
use Rattle.lc_desk.specs.Seats.{Runs, AllRun}
use Rattle.lc_desk.specs.Desk.{IsOpen, FitsSeat, FitsDesk, Sits}
use Rattle.lc_settled.specs.FollowsDesk.{SameButOpen}
use Rattle.lc_desk.proofs.Dropping.{seat_beside}
use Rattle.lc_desk.proofs.Seating.{at_place, seat_of, open_seat}

-- The images, where nobody's lock has changed

pub record IsSameHeld (old new : Here) : Type 0 where
  pub numbers : (segment : ℕ) → the_images.number_of new segment ≡ the_images.number_of old segment
  pub holders : (segment : ℕ) → IsHere the_images old segment → holders_of the_images new segment ≡ holders_of the_images old segment
  pub sizes : (segment : ℕ) → IsHere the_images old segment → length (bytes_of the_images new segment) ≡ length (bytes_of the_images old segment)
  -- only what a thread writes has other bytes
  pub bytes : (segment : ℕ) → IsHere the_images old segment → writer_of (holders_of the_images old segment) ≡ None
      → bytes_of the_images new segment ≡ bytes_of the_images old segment

pub seen_held : (old new : Here) → IsSame the_images old new → IsSameHeld old new
seen_held old new same = record {
  numbers = same.numbers;
  holders = λ segment here. ap (λ (p : Picture). p.holders) (same.others segment here refl);
  sizes = λ segment here. ap (λ (p : Picture). length p.bytes.items) (same.others segment here refl);
  bytes = λ segment here none. ap (λ (p : Picture). p.bytes.items) (same.others segment here refl);
}

-- every other thread's transaction has what it stands on
pub seen_keeps : (old new : Here) (i : ℕ) → IsSame the_images old new → (j : ℕ) (other : Tx) → j ≢ i → Runs old j other → KeepsLocked the_images old new other
seen_keeps old new i same j other differ theirs = apart_keeps the_images old new [] other theirs.runs same (λ segment held. refl)

pub written_held : (old new : Here) (tx : Tx) (segment offset : ℕ) (bytes : List ℕ) → RunsOn the_images old tx → Locked tx segment → IsWritten the_images old segment offset bytes new → IsSameHeld old new
written_held old new tx segment offset bytes on lock wrote = record {
  numbers = wrote.same.numbers;
  holders = λ other here. elim (cases_Bool (is_member other (segment ∷ []))) [
    | inl same ↦ subst (λ (n : ℕ). holders_of the_images new n ≡ holders_of the_images old n) (is_one other segment same) wrote.same_holders
    | inr differ ↦ ap (λ (p : Picture). p.holders) (wrote.same.others other here differ)
  ];
  sizes = λ other here. elim (cases_Bool (is_member other (segment ∷ []))) [
    | inl same ↦ subst (λ (n : ℕ). length (bytes_of the_images new n) ≡ length (bytes_of the_images old n)) (is_one other segment same)
        (ap length wrote.bytes_are ∙ length-put offset bytes (bytes_of the_images old segment))
    | inr differ ↦ ap (λ (p : Picture). length p.bytes.items) (wrote.same.others other here differ)
  ];
  bytes = λ other here none. elim (cases_Bool (is_member other (segment ∷ []))) [
    | inl same ↦ absurd (writer_is_some (holders_of the_images old other) tx.thread
        (subst (λ (n : ℕ). holders_of the_images old n ≡ Writer tx.thread) (is_one other segment same) (on.holds segment lock)) none)
    | inr differ ↦ ap (λ (p : Picture). p.bytes.items) (wrote.same.others other here differ)
  ];
}

-- The machine, where the open transaction is another

module _ (s : State) (node i : ℕ) (t u : Transaction) (running : running_of node i s ≡ Some t) (same_node : u.node ≡ t.node) (same_thread : u.thread ≡ t.thread) where
  whose : (t.node ≡ node) × (t.thread ≡ i)
  whose = is_by-both node i t (found-passes (is_by node i) s.running t running)

  at_node : u.node ≡ node
  at_node = same_node ∙ whose.0

  of_thread : u.thread ≡ i
  of_thread = same_thread ∙ whose.1

  pub changed_own : running_of node i (changed s u) ≡ Some u
  changed_own =
      let found : running_of u.node u.thread s ≡ Some t =
      subst (λ (n : ℕ). running_of n u.thread s ≡ Some t) (sym at_node) (subst (λ (k : ℕ). running_of node k s ≡ Some t) (sym of_thread) running) in
      subst (λ (n : ℕ). running_of n i (changed s u) ≡ Some u) at_node (subst (λ (k : ℕ). running_of u.node k (changed s u) ≡ Some u) of_thread (running-changed s u t found))

  pub changed_beside : (j : ℕ) → j ≢ i → running_of node j (changed s u) ≡ running_of node j s
  changed_beside j differ = running-changed_other s u node j (λ _ same. differ (sym same ∙ of_thread))

  pub changed_but : SameButOpen node s (changed s u)
  changed_but = record {
    earlier = refl;
    history = refl;
    place = refl;
    phase = refl;
    ack = refl;
    halted = refl;
    flush = refl;
    running = λ other thread differ. running-changed_other s u other thread (λ same _. differ (sym same ∙ at_node));
  }

-- The seats, where the open transaction is another

module _ (old new : Here) (seats : List Seat) (i : ℕ) (seat : Seat) (tx next : Tx) (at : slice_get seats i ≡ Some seat) (is : open_of seat ≡ Some tx) (runs : AllRun old seats)
    (keeps : (j : ℕ) (other : Tx) → j ≢ i → Runs old j other → KeepsLocked the_images old new other) where
  pub runs_next : next.thread ≡ i → RunsOn the_images new next → AllRun new (slice_set seats i (Open next))
  runs_next own on j other has =
      let its = seat_of (slice_set seats i (Open next)) j other has in
      elim (at_place seats i j seat (Open next) its.0 at its.1) [
        | inl mine ↦
            let same : next ≡ other = same_some next other (ap (λ x. holder_of (Some x)) (sym mine.1) ∙ its.2) in
            subst (λ x. Runs new j x) same (record { own = own ∙ sym mine.0; runs = on })
        | inr there ↦
            let theirs : Runs old j other = runs j other (ap holder_of there.1 ∙ its.2) in
            record { own = theirs.own; runs = runs_beside the_images old new other theirs.runs (keeps j other there.0 theirs) }
      ]

  own_sits : (other : Tx) → Sits seats i other → tx ≡ other
  own_sits other has = same_some tx other (sym (ap holder_of (at ∙ ap (λ x. Some x) (open_seat seat tx is))) ∙ has)

  module _ (m : Setting) (node : ℕ) (s : State) (h : FitsDesk m node old seats s) (held : IsSameHeld old new) (same_locked : next.locked.items ≡ tx.locked.items) (same_reading : next.reading.items ≡ tx.reading.items)
      (t u : Transaction) (running : running_of node i s ≡ Some t) (same_node : u.node ≡ t.node) (same_thread : u.thread ≡ t.thread)
      (own : IsOpen new node i next (value m.start s.earlier s.history) (changed s u)) where
    was : (segment : ℕ) → IsHere the_images new segment → IsHere the_images old segment
    was segment here = subst (λ (o : Option ℕ). IsSome o) (held.numbers segment) here

    threads_after : (j : ℕ) (other : Seat) → slice_get (slice_set seats i (Open next)) j ≡ Some other → FitsSeat new node j (value m.start s.earlier s.history) (changed s u) other
    threads_after j other got = elim (at_place seats i j seat (Open next) other at got) [
      | inl mine ↦ subst (λ x. FitsSeat new node j (value m.start s.earlier s.history) (changed s u) x) (sym mine.1)
          (subst (λ (k : ℕ). IsOpen new node k next (value m.start s.earlier s.history) (changed s u)) (sym mine.0) own)
      | inr there ↦ seat_beside old new node j (value m.start s.earlier s.history) s (changed s u) other (h.threads j other there.1)
          (changed_beside s node i t u running same_node same_thread j there.0) refl
          (λ theirs has. (let at_j = runs j theirs (ap holder_of there.1 ∙ has) in (at_j.runs, keeps j theirs there.0 at_j)))
    ]

    -- a lock that the thread had it still has, and so has each other
    next_sits : (k : ℕ) → k ≡ i → Sits (slice_set seats i (Open next)) k next
    next_sits k same = ap (λ (n : ℕ). holder_of (slice_get (slice_set seats i (Open next)) n)) same ∙ ap holder_of (get_set_same seats i seat (Open next) at)

    still_sits : (k : ℕ) (other : Tx) → k ≢ i → Sits seats k other → Sits (slice_set seats i (Open next)) k other
    still_sits k other differ sits = ap holder_of (get_set_other seats i k (Open next) differ) ∙ sits

    its_own : (k : ℕ) (other : Tx) → k ≡ i → Sits seats k other → tx ≡ other
    its_own k other same sits = own_sits other (subst (λ (n : ℕ). Sits seats n other) same sits)

    writer_after : (segment k : ℕ) → IsHere the_images new segment → writer_of (holders_of the_images new segment) ≡ Some k
        → (other : Tx) × Sits (slice_set seats i (Open next)) k other × Locked other segment
    writer_after segment k here writes =
        let theirs = h.writer segment k (was segment here) (ap writer_of (sym (held.holders segment (was segment here))) ∙ writes) in
        elim (cases_eq k i) [
          | inl same ↦ (next, next_sits k same, ap (is_member segment) same_locked ∙ ap (λ (x : Tx). is_member segment x.locked.items) (its_own k theirs.0 same theirs.1) ∙ theirs.2)
          | inr differ ↦ (theirs.0, still_sits k theirs.0 differ theirs.1, theirs.2)
        ]

    readers_after : (segment k : ℕ) → IsHere the_images new segment → reads (holders_of the_images new segment) k ≡ true
        → (other : Tx) × Sits (slice_set seats i (Open next)) k other × Reads other segment
    readers_after segment k here reader =
        let theirs = h.readers segment k (was segment here) (ap (λ (o : Holders). reads o k) (sym (held.holders segment (was segment here))) ∙ reader) in
        elim (cases_eq k i) [
          | inl same ↦ (next, next_sits k same, ap (is_member segment) same_reading ∙ ap (λ (x : Tx). is_member segment x.reading.items) (its_own k theirs.0 same theirs.1) ∙ theirs.2)
          | inr differ ↦ (theirs.0, still_sits k theirs.0 differ theirs.1, theirs.2)
        ]

    pub desk_next : FitsDesk m node new (slice_set seats i (Open next)) (changed s u)
    desk_next = record {
      all_seats = length-set seats i (Open next) ∙ h.all_seats;
      shape = h.shape;
      threads = threads_after;
      shown = λ segment here none.
          (let was_none = ap writer_of (sym (held.holders segment (was segment here))) ∙ none in held.bytes segment (was segment here) was_none ∙ h.shown segment (was segment here) was_none);
      sizes = λ segment here. held.sizes segment (was segment here) ∙ h.sizes segment (was segment here);
      writer = writer_after;
      readers = readers_after;
      places = λ segment here. h.places segment (was segment here);
      elsewhere = λ segment first last none. h.elsewhere segment first last (sym (held.numbers segment) ∙ none);
    }
