-- Of a desk: a reservation that is closed, and a transaction that set nothing and is over, at a node's desk.
use Rattle.std.proofs.Common.{◌≡◌, ◌≢◌, ◌≤◌, ℕ, true, false, List, [], map, find, is_some, length, Some, None, refl, sym, ap, subst, ◌∙◌, inl, inr}
use Rattle.std.specs.Prelude.{slice_get, slice_set, vec_len, if◌then◌else◌}
use Rattle.std.proofs.lemmas.Option.{same_Some as same_some}
use Rattle.std.proofs.lemmas.Bool.{false_from_ne_true}
use Rattle.lc_record.specs.Content.{Content, segment_of}
use Rattle.lc_record.specs.Transaction.{Transaction, all_set, effect}
use Rattle.lc_record.proofs.SegmentLemmas.{length-writes_on}
use Rattle.lc_record.proofs.ListLemmas.{slice_get-map_some as get-map}
use Rattle.lc_range.specs.RangeSet.{Has, IsCanonical}
use Rattle.lc_range.specs.declared.range.Range.{Range}
use Rattle.lc_model.specs.History.{value, entries_of}
use Rattle.lc_model.specs.State.{Setting, State, running_of, has_unclosed, is_by}
use Rattle.lc_model.specs.Machine.{closed_by}
use Rattle.lc_model.specs.Sound.{unclosed}
use Rattle.lc_model.proofs.Bytes.{byte-unset, same-bytes}
use Rattle.lc_model.proofs.Fronts.{entry, unclosed-closed}
use Rattle.lc_model.proofs.Holders.{is_by-both}
use Rattle.lc_model.proofs.Lists.{found-passes}
use Rattle.lc_model.proofs.Seats.{is_by-other, running-dropped_other, unclosed-closed_own, unclosed-closed_other, value-closed}
use Rattle.lc_tx.specs.Images.{AreReleased}
use Rattle.lc_tx.specs.StandsFor.{StandsFor}
use Rattle.lc_tx.specs.Tx.{RunsOn, KeepsLocked}
use Rattle.lc_tx.specs.declared.tx.Tx.{Tx}
use Rattle.lc_tx.proofs.BesideLemmas.{stands_beside}
use Rattle.lc_tx.proofs.HoldsLemmas.{locked_holds, reads_holds}
use Rattle.lc_desk.specs.Counts.{CountsAll}
use Rattle.lc_desk.specs.Here.{the_images}
use Rattle.lc_desk.specs.Reserves.{ClosesRecord}
use Rattle.lc_desk.specs.Seat.{Seat, Free, Open, Reserved, number_of, reserved_of, holder_of, set_of}
use Rattle.lc_desk.specs.SeatCalls.{HoldsOn, ReleasesIn}
use Rattle.lc_desk.specs.Seats.{AllRun, AreShort}
use Rattle.lc_desk.specs.Slots.{AreInPlace, besides_of}
use Rattle.lc_desk.specs.Desk.{IsReserved, FitsSeat, FitsDesk}
use Rattle.lc_desk.specs.declared.desk.Desk.{Desk}
use Rattle.lc_desk.specs.declared.here.Here.{Here}
use Rattle.lc_desk.proofs.CountedDesk.{few_counted, in_place_counted, runs_counted, short_counted}
use Rattle.lc_desk.proofs.Seating.{at_place, reserved_holds, reserved_seat}
use Rattle.lc_desk.proofs.Shortness.{few_slots, in_place_same, short_freed}
use Rattle.lc_desk.proofs.Dropping.{keeps_bytes}
use Rattle.lc_desk.proofs.Freeing.{other_keeps, desk_freed, runs_freed}
use Rattle.lc_settled.proofs.Closes.{entries_shut, shut}

-- what another thread is doing fits as before
seat_closed : (old new : Here) (node i j : ℕ) (content next : Content) (s : State) (seat : Seat) → j ≢ i → next ≡ content → FitsSeat old node j content s seat
    → ((tx : Tx) → holder_of (Some seat) ≡ Some tx → RunsOn the_images old tx × KeepsLocked the_images old new tx)
    → FitsSeat new node j next (record s { history = closed_by node i s.history }) seat
seat_closed old new node i j content next s Free differ same fits keeps =
    (fits.0, unclosed-closed_other node i node j s.history (λ _ threads. differ (sym threads)) ∙ fits.1)
seat_closed old new node i j content next s (Open tx) differ same fits keeps = record {
  transaction = fits.transaction;
  running = fits.running;
  unclosed = unclosed-closed_other node i node j s.history (λ _ threads. differ (sym threads)) ∙ fits.unclosed;
  stands = stands_beside the_images old new tx (keeps tx refl).0 (keeps tx refl).1 content next fits.transaction fits.stands (ap (map length) same) (λ segment held. ap (segment_of segment) same);
}
seat_closed old new node i j content next s (Reserved tx number) differ same fits keeps = record {
  transaction = fits.transaction;
  running = fits.running;
  unclosed_is = unclosed-closed_other node i node j s.history (λ _ threads. differ (sym threads)) ∙ fits.unclosed_is;
  found = ap (find (is_by node j)) (unclosed-closed node i s.history)
      ∙ running-dropped_other (record s { running = unclosed s.history }) node i node j (λ _ threads. differ (sym threads)) ∙ fits.found;
  locked_are = fits.locked_are;
  reading_are = fits.reading_are;
  set_is = fits.set_is;
  numbered = ap (λ l. slice_get l number) (entries_shut node node i s.history)
      ∙ get-map (shut node i) (entries_of node s.history) number (entry fits.transaction false) fits.numbered
      ∙ ap (λ b. Some (if b then entry fits.transaction true else entry fits.transaction false)) not_mine;
  shown = λ segment held. keeps_bytes old new tx (keeps tx refl).1 segment held ∙ fits.shown segment held ∙ ap (segment_of segment) (sym same);
}
  where
    theirs : (fits.transaction.node ≡ node) × (fits.transaction.thread ≡ j)
    theirs = is_by-both node j fits.transaction (found-passes (is_by node j) (unclosed s.history) fits.transaction fits.found)

    not_mine : is_by node i fits.transaction ≡ false
    not_mine = is_by-other node i fits.transaction (λ _ threads. differ (sym theirs.1 ∙ threads))

module _ (old new : Here) (seats : List Seat) (i number : ℕ) (tx : Tx) (at : slice_get seats i ≡ Some (Reserved tx number)) (runs : AllRun old seats)
    (released : AreReleased the_images tx.thread tx.locked.items tx.reading.items old new) (m : Setting) (node : ℕ) (s : State) (h : FitsDesk m node old seats s) where
  abbrev content : Content
  content = value m.start s.earlier s.history

  abbrev after : State
  after = record s { history = closed_by node i s.history }

  same_content : value m.start after.earlier after.history ≡ content
  same_content = value-closed m.start s.earlier node i s.history

  one : IsReserved old node i tx number content s
  one = h.threads i (Reserved tx number) at

  pub desk_closed : FitsDesk m node new (slice_set seats i Free) after
  desk_closed = desk_freed old new seats i (Reserved tx number) at tx refl runs released.freed m node s h after refl same_content
      (λ segment read. one.shown segment (reads_holds tx segment read))
      (λ segment lock. released.same_bytes segment lock ∙ one.shown segment (locked_holds tx segment lock))
      (λ segment lock. ap length (released.same_bytes segment lock))
      (λ j other got. elim (at_place seats i j (Reserved tx number) Free other at got) [
        | inl mine ↦ subst (λ x. FitsSeat new node j (value m.start after.earlier after.history) after x) (sym mine.1)
            (subst (λ (k : ℕ). (running_of node k after ≡ None) × (has_unclosed node k after ≡ false)) (sym mine.0) (one.running, unclosed-closed_own node i s.history))
        | inr there ↦ seat_closed old new node i j content (value m.start after.earlier after.history) s other there.0 same_content (h.threads j other there.1)
            (λ theirs has. (let run = runs j theirs (ap holder_of there.1 ∙ has) in (run.runs, other_keeps old new seats i (Reserved tx number) at tx refl runs released.freed j theirs there.0 run)))
      ])

-- where nothing is set, nothing was written
pub nothing_written : (t : Transaction) (content : Content) (here : Here) (tx : Tx) → StandsFor the_images here tx content t → tx.set ≡ [] → effect t content ≡ content
nothing_written t content here tx stands none =
    same-bytes (effect t content) content (length-writes_on t.writes content)
    (λ n k. byte-unset n k t.marks t.writes content stands.well_formed.write_set (false_from_ne_true (all_set k 1 (segment_of n t.marks)) (λ set.
    absurd (subst (λ (runs : List Range). Has runs n k) none ((stands.set_is n k).1 set)))))

-- a thread whose seat has no reservation has none that is unclosed
pub not_unclosed : (here : Here) (node i : ℕ) (content : Content) (s : State) (seat : Seat) → FitsSeat here node i content s seat → reserved_of seat ≡ None → has_unclosed node i s ≡ false
not_unclosed here node i content s Free fits none = fits.1
not_unclosed here node i content s (Open tx) fits none = fits.unclosed
not_unclosed here node i content s (Reserved tx number) fits none = absurd cc

-- a reservation whose record is counted, and whose locks are free then
module _ (w : Desk) (counted : Here) (i number : ℕ) (seat : Seat) (at : slice_get w.seats.items i ≡ Some seat) (numbered : number_of seat ≡ Some number) (ranges : List Range) (are : ranges ≡ set_of seat)
    (counts : CountsAll ranges w.here.slots.items counted.slots.items) (spare : counted.spare ≡ w.here.spare) where
  its : (tx : Tx) × (seat ≡ Reserved tx number)
  its = reserved_seat seat number numbered

  runs_on : AllRun counted w.seats.items
  runs_on = runs_counted ranges w.here counted counts spare w.seats.items w.runs

  pub holds_on : HoldsOn counted seat
  holds_on = reserved_holds counted w.seats.items i seat at (ap is_some numbered) runs_on

  module _ (free : Here) (done : ReleasesIn counted seat free) where
    pub runs_closed : AllRun free (slice_set w.seats.items i Free)
    runs_closed = runs_freed counted free w.seats.items i seat at done.tx done.its runs_on done.released.freed

    pub few_closed : vec_len free.slots ≤ 16
    few_closed = few_slots counted free done.released.freed.same.beside (few_counted ranges w.here counted counts spare w.few_slots)

    pub short_closed : AreShort free
    short_closed = short_freed done.tx.thread done.tx.locked.items done.tx.reading.items counted free done.released.freed (λ segment lock. ap length (done.released.same_bytes segment lock))
        (short_counted ranges w.here counted counts spare w.short)

    pub in_place_closed : AreInPlace (besides_of free)
    in_place_closed = in_place_same counted free done.released.freed.same.beside (in_place_counted ranges w.here counted counts spare w.in_place)

    same_tx : done.tx ≡ its.0
    same_tx = same_some done.tx its.0 (sym done.its ∙ ap (λ s. holder_of (Some s)) its.1)

    pub record_closed : IsCanonical (set_of seat) → (new : Desk) → new.here ≡ free → new.seats.items ≡ slice_set w.seats.items i Free → ClosesRecord i number w new
    record_closed canonical new here seats = record {
      tx = its.0;
      was = at ∙ ap (λ s. Some s) its.1;
      canonical = subst IsCanonical (ap set_of its.1) canonical;
      counted = counted;
      counts = subst (λ (rs : List Range). CountsAll rs w.here.slots.items counted.slots.items) (are ∙ ap set_of its.1) counts;
      spare = spare;
      beside = rw here done.released.freed.same.beside;
      closes = λ m node s h unclosed. rw (here, seats) (desk_closed counted free w.seats.items i number its.0 (at ∙ ap (λ s. Some s) its.1) runs_on
          (subst (λ (t : Tx). AreReleased the_images t.thread t.locked.items t.reading.items counted free) same_tx done.released) m node s h);
    }
