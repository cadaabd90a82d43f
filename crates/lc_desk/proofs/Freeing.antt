-- A thread's locks are free, at a node's desk.
use Rattle.std.proofs.Common.{◌≡◌, ◌≢◌, ℕ, true, false, not, ◌&&◌, ◌==◌, List, ◌++◌, map, length, Option, Some, None, sym, ap, subst, ◌∙◌, inl, inr, true≢false}
use Rattle.std.specs.Prelude.{slice_get, slice_set, IsSome}
use Rattle.std.proofs.lemmas.Bool.{cases_eq, cases_Bool, eq-eqb, and_parts}
use Rattle.std.proofs.lemmas.List.{length-set}
use Rattle.std.proofs.lemmas.Option.{same_Some as same_some}
use Rattle.lc_record.specs.Content.{Content, segment_of}
use Rattle.lc_record.specs.Transaction.{is_member}
use Rattle.lc_record.specs.Geometry.{segment_len}
use Rattle.lc_model.specs.History.{value}
use Rattle.lc_model.specs.State.{Setting, State}
use Rattle.lc_tx.specs.Holders.{reads, writer_of}
use Rattle.lc_tx.specs.Images.{IsHere, AreFreed, bytes_of, holders_of}
use Rattle.lc_tx.specs.Tx.{Locked, Reads, KeepsLocked}
use Rattle.lc_tx.specs.declared.holders.Holders.{Holders}
use Rattle.lc_tx.specs.declared.image.Image.{Image as Picture}
use Rattle.lc_tx.specs.declared.tx.Tx.{Tx}
use Rattle.lc_tx.proofs.BesideLemmas.{runs_beside, freed_keeps}
use Rattle.lc_tx.proofs.MemberLemmas.{not_both}
use Rattle.lc_desk.specs.Places.{get_set_other}
use Rattle.lc_desk.specs.Here.{the_images}
use Rattle.lc_desk.specs.Seat.{Seat, Free, holder_of}
use Rattle.lc_desk.specs.Seats.{Runs, AllRun}
use Rattle.lc_desk.specs.Desk.{FitsSeat, FitsDesk, Sits}
use Rattle.lc_desk.specs.declared.here.Here.{Here}
use Rattle.lc_desk.proofs.Seating.{at_place, seat_of}

module _ (old new : Here) (seats : List Seat) (i : ℕ) (seat : Seat) (at : slice_get seats i ≡ Some seat) (tx : Tx) (its : holder_of (Some seat) ≡ Some tx) (runs : AllRun old seats) where
  sits : Sits seats i tx
  sits = ap holder_of at ∙ its

  pub own_runs : Runs old i tx
  own_runs = runs i tx sits

  own_sits : (other : Tx) → Sits seats i other → tx ≡ other
  own_sits other has = same_some tx other (sym sits ∙ has)

  module _ (freed : AreFreed the_images tx.thread tx.locked.items tx.reading.items old new) where
    pub other_keeps : (j : ℕ) (other : Tx) → j ≢ i → Runs old j other → KeepsLocked the_images old new other
    other_keeps j other differ theirs = freed_keeps the_images old new tx other theirs.runs own_runs.runs (λ e. differ (sym theirs.own ∙ sym e ∙ own_runs.own)) freed

    pub runs_freed : AllRun new (slice_set seats i Free)
    runs_freed j other has =
        let sat = seat_of (slice_set seats i Free) j other has in
        elim (at_place seats i j seat Free sat.0 at sat.1) [
          | inl here ↦ absurd (let none : None ≡ Some other = ap (λ x. holder_of (Some x)) (sym here.1) ∙ sat.2 in cc)
          | inr there ↦
              let theirs : Runs old j other = runs j other (ap holder_of there.1 ∙ sat.2) in
              record { own = theirs.own; runs = runs_beside the_images old new other theirs.runs (other_keeps j other there.0 theirs) }
        ]

    module _ (m : Setting) (node : ℕ) (s : State) (h : FitsDesk m node old seats s) (after : State) (place : after.place ≡ s.place)
        (same : value m.start after.earlier after.history ≡ value m.start s.earlier s.history) where
      abbrev content : Content
      content = value m.start s.earlier s.history

      abbrev next : Content
      next = value m.start after.earlier after.history

      abbrev segments : List ℕ
      segments = tx.locked.items ++ tx.reading.items

      was_here : (segment : ℕ) → IsHere the_images new segment → IsHere the_images old segment
      was_here segment here = subst (λ (o : Option ℕ). IsSome o) (freed.same.numbers segment) here

      same_image : (segment : ℕ) → IsHere the_images new segment → is_member segment segments ≡ false → the_images.image_of new segment ≡ the_images.image_of old segment
      same_image segment here other = freed.same.others segment (was_here segment here) other

      -- where it held the segment for writing, for reading, or not at all
      held_how : (P : Type 0) (segment : ℕ) → (Locked tx segment → P) → (Reads tx segment → P) → (is_member segment tx.locked.items ≡ false → is_member segment tx.reading.items ≡ false → is_member segment segments ≡ false → P) → P
      held_how P segment locked reading other = elim (cases_Bool (is_member segment tx.locked.items)) [
        | inl lock ↦ locked lock
        | inr no_lock ↦ elim (cases_Bool (is_member segment tx.reading.items)) [
          | inl read ↦ reading read
          | inr no_read ↦ other no_lock no_read (not_both segment tx.locked.items tx.reading.items no_lock no_read)
        ]
      ]

      -- another thread sits where it sat
      still_sits : (k : ℕ) (other : Tx) → k ≢ i → Sits seats k other → Sits (slice_set seats i Free) k other
      still_sits k other differ has = ap holder_of (get_set_other seats i k Free differ) ∙ has

      writer_after : (segment k : ℕ) → IsHere the_images new segment → writer_of (holders_of the_images new segment) ≡ Some k
          → (other : Tx) × Sits (slice_set seats i Free) k other × Locked other segment
      writer_after segment k here writes = held_how ((other : Tx) × Sits (slice_set seats i Free) k other × Locked other segment) segment
          (λ lock. absurd (let no : None ≡ Some k = ap writer_of (sym (freed.free segment lock)) ∙ writes in cc))
          (λ read. absurd (let no : None ≡ Some k = sym (freed.leaves segment read).no_writer ∙ writes in cc))
          (λ no_lock no_read other.
          let theirs = h.writer segment k (was_here segment here) (ap (λ (p : Picture). writer_of p.holders) (sym (same_image segment here other)) ∙ writes) in
          elim (cases_eq k i) [
            | inl mine ↦ absurd (true≢false (sym theirs.2 ∙ ap (λ (x : Tx). is_member segment x.locked.items) (sym (own_sits theirs.0 (subst (λ (n : ℕ). Sits seats n theirs.0) mine theirs.1))) ∙ no_lock))
            | inr differ ↦ (theirs.0, still_sits k theirs.0 differ theirs.1, theirs.2)
          ])

      readers_after : (segment k : ℕ) → IsHere the_images new segment → reads (holders_of the_images new segment) k ≡ true
          → (other : Tx) × Sits (slice_set seats i Free) k other × Reads other segment
      readers_after segment k here reader = held_how ((other : Tx) × Sits (slice_set seats i Free) k other × Reads other segment) segment
          (λ lock. absurd (let no : false ≡ true = ap (λ (o : Holders). reads o k) (sym (freed.free segment lock)) ∙ reader in true≢false (sym no)))
          (λ read.
          let left = sym ((freed.leaves segment read).readers_are k) ∙ reader in
          elim (cases_eq tx.thread k) [
            | inl mine ↦ absurd (true≢false (sym left ∙ ap (λ b. not b && reads (holders_of the_images old segment) k) (eq-eqb tx.thread k mine)))
            | inr differ ↦
                let theirs = h.readers segment k (was_here segment here) (and_parts (not (tx.thread == k)) (reads (holders_of the_images old segment) k) left).1 in
                (theirs.0, still_sits k theirs.0 (λ e. differ (own_runs.own ∙ sym e)) theirs.1, theirs.2)
          ])
          (λ no_lock no_read other.
          let theirs = h.readers segment k (was_here segment here) (ap (λ (p : Picture). reads p.holders k) (sym (same_image segment here other)) ∙ reader) in
          elim (cases_eq k i) [
            | inl mine ↦ absurd (true≢false (sym theirs.2 ∙ ap (λ (x : Tx). is_member segment x.reading.items) (sym (own_sits theirs.0 (subst (λ (n : ℕ). Sits seats n theirs.0) mine theirs.1))) ∙ no_read))
            | inr differ ↦ (theirs.0, still_sits k theirs.0 differ theirs.1, theirs.2)
          ])

      -- where what it read shows the content, and what it wrote does so now
      pub desk_freed : ((segment : ℕ) → Reads tx segment → bytes_of the_images old segment ≡ segment_of segment content)
          → ((segment : ℕ) → Locked tx segment → bytes_of the_images new segment ≡ segment_of segment content)
          → ((segment : ℕ) → Locked tx segment → length (bytes_of the_images new segment) ≡ length (bytes_of the_images old segment))
          → ((j : ℕ) (other : Seat) → slice_get (slice_set seats i Free) j ≡ Some other → FitsSeat new node j next after other)
          → FitsDesk m node new (slice_set seats i Free) after
      desk_freed read_is back lengths threads = record {
        all_seats = length-set seats i Free ∙ h.all_seats;
        shape = ap (map length) same ∙ h.shape;
        threads = threads;
        shown = λ segment here none. held_how (bytes_of the_images new segment ≡ segment_of segment content) segment
            (back segment)
            (λ read. freed.same_read segment read ∙ read_is segment read)
            (λ no_lock no_read other.
            ap (λ (p : Picture). p.bytes.items) (same_image segment here other)
            ∙ h.shown segment (was_here segment here) (ap (λ (p : Picture). writer_of p.holders) (sym (same_image segment here other)) ∙ none))
            ∙ ap (segment_of segment) (sym same);
        sizes = λ segment here. held_how (length (bytes_of the_images new segment) ≡ segment_len m.geometry) segment
            (λ lock. lengths segment lock ∙ h.sizes segment (was_here segment here))
            (λ read. ap length (freed.same_read segment read) ∙ h.sizes segment (was_here segment here))
            (λ no_lock no_read other. ap (λ (p : Picture). length p.bytes.items) (same_image segment here other) ∙ h.sizes segment (was_here segment here));
        writer = writer_after;
        readers = readers_after;
        places = λ segment here. ap (λ f. f segment) place ∙ h.places segment (was_here segment here);
        elsewhere = λ segment first last none. rw place (h.elsewhere segment first last (sym (freed.same.numbers segment) ∙ none));
      }
