-- Of a desk: a transaction that gets its place in the log, at a node's desk.
use Rattle.std.proofs.Common.{◌≡◌, ◌≢◌, ℕ, zero, suc, Bool, true, false, List, [], ◌∷◌, ◌++◌, map, find, length, All, Some, None, refl, sym, ap, subst, ◌∙◌, inl, inr}
use Rattle.std.specs.Prelude.{slice_get, slice_set, if◌then◌else◌}
use Rattle.std.proofs.lemmas.Bool.{cases_eq, false_from_ne_true, eq-eqb}
use Rattle.std.proofs.lemmas.List.{length-set}
use Rattle.std.proofs.lemmas.List.Elements.{All-head, All-tail}
use Rattle.std.proofs.lemmas.Option.{same_Some as same_some}
use Rattle.lc_record.specs.Content.{Content, segment_of}
use Rattle.lc_record.specs.Transaction.{Transaction, is_member, effect}
use Rattle.lc_record.proofs.ListLemmas.{slice_get_push as get-end}
use Rattle.lc_model.specs.History.{Entry, value, entries_of, reserved, is_of}
use Rattle.lc_model.specs.State.{Setting, State, running_of, has_unclosed, is_by, without}
use Rattle.lc_model.specs.Machine.{appended}
use Rattle.lc_model.specs.Sound.{unclosed}
use Rattle.lc_model.proofs.Fronts.{entry, unclosed-push, none-unclosed}
use Rattle.lc_model.proofs.Holders.{is_by-both, is_by-same}
use Rattle.lc_model.proofs.Lists.{found-passes}
use Rattle.lc_model.proofs.Result.{shape-effects}
use Rattle.lc_model.proofs.Seats.{Differ, running-dropped, running-dropped_other, unclosed-appended, unclosed-appended_other, value-appended}
use Rattle.lc_tx.specs.Images.{holders_of}
use Rattle.lc_tx.specs.StandsFor.{StandsFor}
use Rattle.lc_tx.specs.Tx.{Holds, RunsOn, KeepsLocked}
use Rattle.lc_tx.specs.declared.tx.Tx.{Tx}
use Rattle.lc_tx.proofs.BesideLemmas.{stands_beside}
use Rattle.lc_tx.proofs.HolderLemmas.{one_writer, writer_reads_not, writer_is_some}
use Rattle.lc_tx.proofs.HoldsLemmas.{held_cases}
use Rattle.lc_tx.proofs.StandsLemmas.{unwritten}
use Rattle.lc_desk.specs.Here.{the_images}
use Rattle.lc_desk.specs.Places.{get_set_same, get_set_other}
use Rattle.lc_desk.specs.Seat.{Seat, Free, Open, Reserved, holder_of, placed as placed_as}
use Rattle.lc_desk.specs.Seats.{Runs, AllRun}
use Rattle.lc_desk.specs.Desk.{IsOpen, IsReserved, FitsSeat, FitsDesk, Sits}
use Rattle.lc_desk.specs.declared.here.Here.{Here}
use Rattle.lc_desk.proofs.Dropping.{no_turn}
use Rattle.lc_desk.proofs.Seating.{at_place, seat_of, set_same}
use Rattle.lc_desk.proofs.Holding.{find-left, find-right}
use Rattle.lc_settled.proofs.Appending.{filter-end}

-- Lists

none-found : {A : Type 0} (p : A → Bool) (xs : List A) → All (λ x. p x ≡ false) xs → find p xs ≡ None
none-found p [] all = refl
none-found p (x ∷ xs) all = rw (All-head (λ y. p y ≡ false) x xs all) (none-found p xs (All-tail (λ y. p y ≡ false) x xs all))

pub get-before : {A : Type 0} (xs ys : List A) (k : ℕ) (x : A) → slice_get xs k ≡ Some x → slice_get (xs ++ ys) k ≡ Some x
get-before [] ys k x is = absurd cc
get-before (y ∷ xs) ys zero x is = is
get-before (y ∷ xs) ys (suc k) x is = get-before xs ys k x is

-- two threads' transactions have no lock in common, where one writes
pub apart_at : (here : Here) (one other : Tx) → RunsOn the_images here one → RunsOn the_images here other → one.thread ≢ other.thread
    → (segment : ℕ) → Holds other segment → is_member segment one.locked.items ≡ false
apart_at here one other runs others differ segment held = false_from_ne_true (is_member segment one.locked.items) (λ lock. elim (held_cases other segment held) [
  | inl theirs ↦ differ (one_writer (holders_of the_images here segment) one.thread other.thread (runs.holds segment lock) (others.holds segment theirs))
  | inr read ↦ writer_reads_not (holders_of the_images here segment) one.thread other.thread (runs.holds segment lock) (others.reads segment read)
])

pub keeps_itself : (here : Here) (tx : Tx) → RunsOn the_images here tx → KeepsLocked the_images here here tx
keeps_itself here tx runs = record {
  here = runs.here;
  same_image = λ segment lock. refl;
  read_here = runs.read_here;
  same_bytes = λ segment read. refl;
  still_reads = λ segment read. runs.reads segment read;
}

module _ (i : ℕ) (here : Here) (seats : List Seat) (tx : Tx) (at : slice_get seats i ≡ Some (Open tx)) (runs : AllRun here seats) (number : ℕ) where
  abbrev placed : List Seat
  placed = slice_set seats i (Reserved tx number)

  own_runs : Runs here i tx
  own_runs = runs i tx (ap holder_of at)

  -- who sat there sits there
  sits_still : (k : ℕ) (other : Tx) → Sits seats k other → Sits placed k other
  sits_still k other sits = elim (cases_eq k i) [
    | inl same ↦ ap (λ (j : ℕ). holder_of (slice_get placed j)) same ∙ ap holder_of (get_set_same seats i (Open tx) (Reserved tx number) at)
        ∙ sym (ap (λ (j : ℕ). holder_of (slice_get seats j)) same ∙ ap holder_of at) ∙ sits
    | inr differ ↦ ap holder_of (get_set_other seats i k (Reserved tx number) differ) ∙ sits
  ]

  pub runs_placed : AllRun here placed
  runs_placed j other has =
      let its = seat_of placed j other has in
      elim (at_place seats i j (Open tx) (Reserved tx number) its.0 at its.1) [
        | inl mine ↦
            let same : tx ≡ other = same_some tx other (ap (λ x. holder_of (Some x)) (sym mine.1) ∙ its.2) in
            subst (λ x. Runs here j x) same (subst (λ (k : ℕ). Runs here k tx) (sym mine.0) own_runs)
        | inr there ↦ runs j other (ap holder_of there.1 ∙ its.2)
      ]

  module _ (m : Setting) (node : ℕ) (s : State) (h : FitsDesk m node here seats s) (t : Transaction) (running : running_of node i s ≡ Some t) (counts : number ≡ reserved node s.history) where
    abbrev content : Content
    content = value m.start s.earlier s.history

    abbrev after : State
    after = appended s t

    abbrev next : Content
    next = value m.start after.earlier after.history

    one : IsOpen here node i tx content s
    one = h.threads i (Open tx) at

    stands : StandsFor the_images here tx content t
    stands = subst (λ (u : Transaction). StandsFor the_images here tx content u) (same_some one.transaction t (sym one.running ∙ running)) one.stands

    by : (t.node ≡ node) × (t.thread ≡ i)
    by = is_by-both node i t (found-passes (is_by node i) s.running t running)

    next_is : next ≡ effect t content
    next_is = value-appended m.start s t

    other_bytes : (segment : ℕ) → is_member segment tx.locked.items ≡ false → segment_of segment next ≡ segment_of segment content
    other_bytes segment not_locked =
        ap (segment_of segment) next_is ∙ unwritten t.locked segment t.writes content stands.well_formed.write_locked (ap (is_member segment) stands.locked_are ∙ not_locked)

    same_shape : map length next ≡ map length content
    same_shape = ap (map length) next_is ∙ shape-effects (t ∷ []) content

    differ_of : (j : ℕ) → j ≢ i → Differ t.node t.thread node j
    differ_of j differ nodes threads = differ (sym threads ∙ by.1)

    unclosed_is : unclosed after.history ≡ unclosed s.history ++ t ∷ []
    unclosed_is = unclosed-push s.history t

    running_other : (j : ℕ) → j ≢ i → running_of node j after ≡ running_of node j s
    running_other j differ = running-dropped_other s t.node t.thread node j (differ_of j differ)

    entries_are : entries_of node after.history ≡ entries_of node s.history ++ entry t false ∷ []
    entries_are = filter-end (λ (e : Entry). is_of node e.transaction) s.history (entry t false)
        ∙ ap (λ b. entries_of node s.history ++ (if b then entry t false ∷ [] else [])) (eq-eqb t.node node by.0)

    own_seat : IsReserved here node i tx number next after
    own_seat = record {
      transaction = t;
      running = subst (λ (n : ℕ). find (is_by node i) (without n t.thread s.running) ≡ None) (sym by.0)
          (subst (λ (k : ℕ). find (is_by node i) (without node k s.running) ≡ None) (sym by.1) (running-dropped s node i));
      unclosed_is = subst (λ (n : ℕ). has_unclosed n i after ≡ true) by.0 (subst (λ (k : ℕ). has_unclosed t.node k after ≡ true) by.1 (unclosed-appended s t));
      found = ap (find (is_by node i)) unclosed_is
          ∙ find-right (is_by node i) (unclosed s.history) (t ∷ []) (none-found (is_by node i) (unclosed s.history) (none-unclosed (is_by node i) s.history one.unclosed))
          ∙ ap (λ b. if b then Some t else None) (is_by-same node i t by.0 by.1);
      locked_are = stands.locked_are;
      reading_are = stands.reading_are;
      set_is = stands.set_is;
      numbered = ap (λ l. slice_get l number) entries_are ∙ ap (slice_get (entries_of node s.history ++ entry t false ∷ [])) counts ∙ get-end (entries_of node s.history) (entry t false);
      shown = λ segment held. stands.shown segment held ∙ ap (segment_of segment) (sym next_is);
    }

    other_seat : (j : ℕ) (seat : Seat) → j ≢ i → slice_get seats j ≡ Some seat → FitsSeat here node j content s seat → FitsSeat here node j next after seat
    other_seat j Free differ got fits = (running_other j differ ∙ fits.0, unclosed-appended_other s t node j (differ_of j differ) ∙ fits.1)
    other_seat j (Open other) differ got fits =
        let theirs = runs j other (ap holder_of got) in
        record {
          transaction = fits.transaction;
          running = running_other j differ ∙ fits.running;
          unclosed = unclosed-appended_other s t node j (differ_of j differ) ∙ fits.unclosed;
          stands = stands_beside the_images here here other theirs.runs (keeps_itself here other theirs.runs) content next fits.transaction fits.stands same_shape
              (λ segment held. other_bytes segment (apart_at here tx other own_runs.runs theirs.runs (λ e. differ (sym theirs.own ∙ sym e ∙ own_runs.own)) segment held));
        }
    other_seat j (Reserved other count) differ got fits =
        let theirs = runs j other (ap holder_of got) in
        record {
          transaction = fits.transaction;
          running = running_other j differ ∙ fits.running;
          unclosed_is = unclosed-appended_other s t node j (differ_of j differ) ∙ fits.unclosed_is;
          found = ap (find (is_by node j)) unclosed_is ∙ find-left (is_by node j) (unclosed s.history) (t ∷ []) fits.transaction fits.found;
          locked_are = fits.locked_are;
          reading_are = fits.reading_are;
          set_is = fits.set_is;
          numbered = ap (λ l. slice_get l count) entries_are ∙ get-before (entries_of node s.history) (entry t false ∷ []) count (entry fits.transaction false) fits.numbered;
          shown = λ segment held. fits.shown segment held
              ∙ sym (other_bytes segment (apart_at here tx other own_runs.runs theirs.runs (λ e. differ (sym theirs.own ∙ sym e ∙ own_runs.own)) segment held));
        }

    pub desk_placed : FitsDesk m node here placed after
    desk_placed = record {
      all_seats = length-set seats i (Reserved tx number) ∙ h.all_seats;
      shape = same_shape ∙ h.shape;
      threads = λ j seat got. elim (at_place seats i j (Open tx) (Reserved tx number) seat at got) [
        | inl mine ↦ subst (λ x. FitsSeat here node j next after x) (sym mine.1) (subst (λ (k : ℕ). IsReserved here node k tx number next after) (sym mine.0) own_seat)
        | inr there ↦ other_seat j seat there.0 there.1 (h.threads j seat there.1)
      ];
      shown = λ segment is none. h.shown segment is none ∙ sym (other_bytes segment (false_from_ne_true (is_member segment tx.locked.items) (λ lock.
          writer_is_some (holders_of the_images here segment) tx.thread (own_runs.runs.holds segment lock) none)));
      sizes = h.sizes;
      writer = λ segment k is writes. (let its = h.writer segment k is writes in (its.0, sits_still k its.0 its.1, its.2));
      readers = λ segment k is reader. (let its = h.readers segment k is reader in (its.0, sits_still k its.0 its.1, its.2));
      places = h.places;
      elsewhere = h.elsewhere;
    }

-- of whatever seat
pub runs_reserved : (i : ℕ) (here : Here) (seats : List Seat) (seat : Seat) → slice_get seats i ≡ Some seat → (number : ℕ) → AllRun here seats → AllRun here (slice_set seats i (placed_as number seat))
runs_reserved i here seats Free at number runs = subst (λ (l : List Seat). AllRun here l) (sym (set_same seats i Free at)) runs
runs_reserved i here seats (Open tx) at number runs = runs_placed i here seats tx at runs number
runs_reserved i here seats (Reserved tx other) at number runs = subst (λ (l : List Seat). AllRun here l) (sym (set_same seats i (Reserved tx other) at)) runs

pub desk_reserved : (i : ℕ) (here : Here) (seats : List Seat) (seat : Seat) → slice_get seats i ≡ Some seat → (number : ℕ) → AllRun here seats → (m : Setting) (node : ℕ) (s : State) → FitsDesk m node here seats s
    → (t : Transaction) → running_of node i s ≡ Some t → number ≡ reserved node s.history → FitsDesk m node here (slice_set seats i (placed_as number seat)) (appended s t)
desk_reserved i here seats Free at number runs m node s h t running counts =
    absurd (let no : None ≡ Some t = sym (no_turn here node i (value m.start s.earlier s.history) s Free (h.threads i Free at) refl) ∙ running in cc)
desk_reserved i here seats (Open tx) at number runs m node s h t running counts = desk_placed i here seats tx at runs number m node s h t running counts
desk_reserved i here seats (Reserved tx other) at number runs m node s h t running counts =
    absurd (let no : None ≡ Some t = sym (no_turn here node i (value m.start s.earlier s.history) s (Reserved tx other) (h.threads i (Reserved tx other) at) refl) ∙ running in cc)
