-- The desks of the other nodes stay.
use Rattle.std.proofs.Common.{◌≡◌, ◌≢◌, ℕ, true, false, List, [], ◌∷◌, map, find, length, Some, refl, sym, ap, ◌∙◌, inl, inr}
use Rattle.std.specs.Prelude.{slice_get, if◌then◌else◌, ◌⊎◌}
use Rattle.std.proofs.lemmas.Bool.{cases_eq, false_from_ne_true, ne_eqb}
use Rattle.lc_record.specs.Content.{segment_of}
use Rattle.lc_record.specs.Transaction.{Transaction, is_member}
use Rattle.lc_record.proofs.LockLemmas.{lock_holds}
use Rattle.lc_record.proofs.ListLemmas.{slice_get-map_some as get-map, All-append_left as All-left}
use Rattle.lc_model.specs.History.{Entry, entries_of, is_of}
use Rattle.lc_model.specs.State.{Place, At, Travelling, Setting, State, running_of, is_by, update}
use Rattle.lc_model.specs.Machine.{appended, closed_by, placed}
use Rattle.lc_model.specs.Refusals.{is_at}
use Rattle.lc_model.specs.Sound.{Sound, IsHere, IsProper, unclosed}
use Rattle.lc_model.proofs.Fronts.{entry, unclosed-push, unclosed-closed}
use Rattle.lc_model.proofs.Holders.{is_by-both}
use Rattle.lc_model.proofs.Lists.{found-all, found-passes}
use Rattle.lc_model.proofs.Result.{shape-effects}
use Rattle.lc_model.proofs.Seats.{is_by-other, running-dropped_other, unclosed-appended_other, unclosed-closed_other, value-appended, value-closed, update-own, update-other}
use Rattle.lc_tx.specs.Tx.{Holds, RunsOn}
use Rattle.lc_tx.specs.declared.tx.Tx.{Tx}
use Rattle.lc_tx.proofs.BesideLemmas.{stands_beside}
use Rattle.lc_tx.proofs.HoldsLemmas.{held_cases}
use Rattle.lc_tx.proofs.StandsLemmas.{unwritten}
use Rattle.lc_desk.specs.Beside.{Beside, content_of}
use Rattle.lc_desk.specs.Desk.{FitsSeat, FitsDesk}
use Rattle.lc_settled.specs.Follows.{SameButLog}
use Rattle.lc_settled.specs.FollowsDesk.{SameButOpen}
use Rattle.lc_desk.specs.Here.{the_images}
use Rattle.lc_desk.specs.Seat.{Seat, Free, Open, Reserved, holder_of}
use Rattle.lc_desk.specs.Seats.{AllRun}
use Rattle.lc_desk.specs.declared.here.Here.{Here}
use Rattle.lc_desk.proofs.Appending.{keeps_itself, get-before}
use Rattle.lc_settled.proofs.Appending.{filter-end}
use Rattle.lc_settled.proofs.Closes.{entries_shut, shut}
use Rattle.lc_desk.proofs.Holding.{find-left}

module _ (m : Setting) (node other : ℕ) (s after : State) (differ : other ≢ node) (beside : Beside m node s after) (here : Here) (seats : List Seat) (h : FitsDesk m other here seats s) where
  held_place : (tx : Tx) → RunsOn the_images here tx → (segment : ℕ) → Holds tx segment → s.place segment ≡ At other
  held_place tx runs segment held = h.places segment (elim (held_cases tx segment held) [ inl lock ↦ runs.here segment lock | inr read ↦ runs.read_here segment read ])

  seat_after : (j : ℕ) (seat : Seat) → ((tx : Tx) → holder_of (Some seat) ≡ Some tx → RunsOn the_images here tx)
      → FitsSeat here other j (content_of m s) s seat → FitsSeat here other j (content_of m after) after seat
  seat_after j Free runs fits = (beside.running other j differ ∙ fits.0, beside.unclosed_is other j differ ∙ fits.1)
  seat_after j (Open tx) runs fits = (let on = runs tx refl in record {
    transaction = fits.transaction;
    running = beside.running other j differ ∙ fits.running;
    unclosed = beside.unclosed_is other j differ ∙ fits.unclosed;
    stands = stands_beside the_images here here tx on (keeps_itself here tx on) (content_of m s) (content_of m after) fits.transaction fits.stands beside.shape
        (λ segment held. beside.content other segment differ (held_place tx on segment held));
  })
  seat_after j (Reserved tx number) runs fits = (let on = runs tx refl in record {
    transaction = fits.transaction;
    running = beside.running other j differ ∙ fits.running;
    unclosed_is = beside.unclosed_is other j differ ∙ fits.unclosed_is;
    found = beside.found other j fits.transaction differ fits.found;
    locked_are = fits.locked_are;
    reading_are = fits.reading_are;
    set_is = fits.set_is;
    numbered = beside.numbered other j number fits.transaction differ fits.found fits.numbered;
    shown = λ segment held. fits.shown segment held ∙ sym (beside.content other segment differ (held_place tx on segment held));
  })

  pub desk_beside : AllRun here seats → FitsDesk m other here seats after
  desk_beside all = record {
    all_seats = h.all_seats;
    shape = beside.shape ∙ h.shape;
    threads = λ j seat at. seat_after j seat (λ tx has. (all j tx (ap holder_of at ∙ has)).runs) (h.threads j seat at);
    shown = λ segment is none. h.shown segment is none ∙ sym (beside.content other segment differ (h.places segment is));
    sizes = h.sizes;
    writer = h.writer;
    readers = h.readers;
    places = λ segment is. beside.here other segment differ (h.places segment is);
    elsewhere = λ segment first last none. beside.away other segment differ (h.elsewhere segment first last none);
  }

-- What is beside the others

pub beside_open : (m : Setting) (node : ℕ) (s after : State) → SameButOpen node s after → Beside m node s after
beside_open m node s after same = record {
  shape = rw (same.earlier, same.history) refl;
  here = λ other segment differ at. ap (λ f. f segment) same.place ∙ at;
  away = λ other segment differ away. rw same.place away;
  content = λ other segment differ at. rw (same.earlier, same.history) refl;
  running = same.running;
  unclosed_is = λ other thread differ. rw same.history refl;
  found = λ other thread t differ found. rw same.history found;
  numbered = λ other thread number t differ found at. rw same.history at;
}

pub beside_logged : (m : Setting) (node : ℕ) (s after : State) → SameButLog node s after → Beside m node s after
beside_logged m node s after same = record {
  shape = rw (same.earlier, same.history) refl;
  here = λ other segment differ at. ap (λ f. f segment) same.place ∙ at;
  away = λ other segment differ away. rw same.place away;
  content = λ other segment differ at. rw (same.earlier, same.history) refl;
  running = λ other thread differ. rw same.running refl;
  unclosed_is = λ other thread differ. rw same.history refl;
  found = λ other thread t differ found. rw same.history found;
  numbered = λ other thread number t differ found at. rw same.history at;
}

-- a transaction of the node gets its place at the end of the history
pub beside_appended : (m : Setting) (node i : ℕ) (s : State) (t : Transaction) → Sound m.geometry s → running_of node i s ≡ Some t → Beside m node s (appended s t)
beside_appended m node i s t sound running = record {
  shape = ap (map length) (value-appended m.start s t) ∙ shape-effects (t ∷ []) (content_of m s);
  here = λ other segment differ at. at;
  away = λ other segment differ away. away;
  content = λ other segment differ at. ap (segment_of segment) (value-appended m.start s t)
      ∙ unwritten t.locked segment t.writes (content_of m s) proper.well.write_locked
      (false_from_ne_true (is_member segment t.locked) (λ lock. differ (let same : At other ≡ At t.node = sym at ∙ its_place segment (lock_holds t segment lock) in (let nodes : other ≡ t.node = cc in nodes ∙ by.0))));
  running = λ other thread differ. running-dropped_other s t.node t.thread other thread (λ nodes _. differ (sym nodes ∙ by.0));
  unclosed_is = λ other thread differ. unclosed-appended_other s t other thread (λ nodes _. differ (sym nodes ∙ by.0));
  found = λ other thread u differ found. ap (find (is_by other thread)) (unclosed-push s.history t) ∙ find-left (is_by other thread) (unclosed s.history) (t ∷ []) u found;
  numbered = λ other thread number u differ found at. ap (λ l. slice_get l number) (filter-end (λ (e : Entry). is_of other e.transaction) s.history (entry t false))
      ∙ get-before (entries_of other s.history) _ number (entry u false) at;
}
  where
    by : (t.node ≡ node) × (t.thread ≡ i)
    by = is_by-both node i t (found-passes (is_by node i) s.running t running)

    proper : IsProper m.geometry t
    proper = found-all (is_by node i) (IsProper m.geometry) s.running t running sound.running_proper

    its_place : IsHere s.place t
    its_place = found-all (is_by node i) (IsHere s.place) s.running t running (All-left (IsHere s.place) s.running (unclosed s.history) sound.holders_here)

-- a reservation of the node is closed
pub beside_closed : (m : Setting) (node i : ℕ) (s : State) → Beside m node s (record s { history = closed_by node i s.history })
beside_closed m node i s = record {
  shape = ap (map length) (value-closed m.start s.earlier node i s.history);
  here = λ other segment differ at. at;
  away = λ other segment differ away. away;
  content = λ other segment differ at. ap (segment_of segment) (value-closed m.start s.earlier node i s.history);
  running = λ other thread differ. refl;
  unclosed_is = λ other thread differ. unclosed-closed_other node i other thread s.history (λ nodes _. differ (sym nodes));
  found = λ other thread t differ found. ap (find (is_by other thread)) (unclosed-closed node i s.history)
      ∙ running-dropped_other (record s { running = unclosed s.history }) node i other thread (λ nodes _. differ (sym nodes)) ∙ found;
  numbered = λ other thread number t differ found at.
      ap (λ l. slice_get l number) (entries_shut other node i s.history)
      ∙ get-map (shut node i) (entries_of other s.history) number (entry t false) at
      ∙ ap (λ b. Some (if b then entry t true else entry t false))
      (is_by-other node i t (λ nodes _. differ (sym (is_by-both other thread t (found-passes (is_by other thread) (unclosed s.history) t found)).0 ∙ nodes)));
}

-- a token leaves the node, or arrives there
pub beside_placed : (m : Setting) (node segment : ℕ) (place : Place) (s : State) → (s.place segment ≡ At node) ⊎ (s.place segment ≡ Travelling) → (place ≡ At node) ⊎ (place ≡ Travelling)
    → Beside m node s (placed s segment place)
beside_placed m node segment place s was is = record {
  shape = refl;
  here = λ other n differ at. elim (cases_eq n segment) [
    | inl same ↦ absurd (not_there other differ (ap s.place same) at)
    | inr apart ↦ update-other s.place segment place n apart ∙ at
  ];
  away = λ other n differ away. elim (cases_eq n segment) [
    | inl same ↦ ap (λ k. is_at other (update s.place segment place k)) same ∙ ap (is_at other) (update-own s.place segment place) ∙ not_at other differ
    | inr apart ↦ ap (is_at other) (update-other s.place segment place n apart) ∙ away
  ];
  content = λ other n differ at. refl;
  running = λ other thread differ. refl;
  unclosed_is = λ other thread differ. refl;
  found = λ other thread t differ found. found;
  numbered = λ other thread number t differ found at. at;
}
  where
    not_there : (other : ℕ) → other ≢ node → {p : Place} → p ≡ s.place segment → p ≡ At other → ⊥
    not_there other differ same at = elim was [
      | inl there ↦ differ (let places : At other ≡ At node = sym at ∙ same ∙ there in cc)
      | inr travels ↦ (let places : At other ≡ Travelling = sym at ∙ same ∙ travels in absurd cc)
    ]

    not_at : (other : ℕ) → other ≢ node → is_at other place ≡ false
    not_at other differ = elim is [
      | inl there ↦ ap (is_at other) there ∙ ne_eqb node other (λ e. differ (sym e))
      | inr travels ↦ ap (is_at other) travels
    ]
