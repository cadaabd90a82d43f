-- Who holds a segment: the seats of a node against the machine.
use Rattle.std.proofs.Common.{◌≡◌, ◌≢◌, ℕ, Bool, true, false, not, ◌&&◌, ◌||◌, List, [], ◌∷◌, ◌++◌, map, filter, find, get_or, All, Some, None, refl, sym, ap, subst, ◌∙◌, inl, inr, arith, true≢false}
use Rattle.std.specs.Prelude.{◌↔◌, IsTrue, slice_get, if◌then◌else◌}
use Rattle.std.specs.List.{list_any}
use Rattle.std.proofs.lemmas.Bool.{cases_Bool, false_from_ne_true, true_from_ne_false, or_right, or_from}
use Rattle.std.proofs.lemmas.List.Elements.{All-head, All-tail, All-append, All-map, All-filter}
use Rattle.std.proofs.lemmas.List.Folds.{list_any_none as any-none}
use Rattle.std.proofs.lemmas.Option.{same_Some as same_some}
use Rattle.lc_range.specs.RangeSet.{Has}
use Rattle.lc_record.specs.Content.{Content, segment_of}
use Rattle.lc_record.specs.Transaction.{Transaction, all_set, is_member, locks, holds}
use Rattle.lc_record.specs.declared.geometry.Geometry.{Geometry}
use Rattle.lc_record.proofs.LockLemmas.{lock_holds}
use Rattle.lc_record.proofs.ListLemmas.{slice_get_some as some_at, All-append_left as All-left, All-append_right as All-right}
use Rattle.lc_model.specs.History.{Entry, History, value}
use Rattle.lc_model.specs.State.{At, Setting, State, running_of, has_unclosed, is_by, is_held, is_locked, some_holder}
use Rattle.lc_model.specs.Sound.{Sound, IsProper, holders, unclosed}
use Rattle.lc_model.proofs.Fronts.{no_holder, none-unclosed}
use Rattle.lc_model.proofs.Holders.{is_by-both, is_by-same}
use Rattle.lc_model.proofs.Lists.{found-all, found-only, not_found, All-from_map}
use Rattle.lc_tx.specs.Holders.{reads, writer_of}
use Rattle.lc_tx.specs.Images.{IsHere, holders_of}
use Rattle.lc_tx.specs.declared.holders.Holders.{Holders}
use Rattle.lc_tx.specs.declared.holders.Holders.TheVariants.{Free as Unheld, Writer, Readers}
use Rattle.lc_tx.specs.declared.tx.Tx.{Tx}
use Rattle.lc_tx.proofs.ReaderLemmas.{one_at}
use Rattle.lc_tx.proofs.HolderLemmas.{free_reads_not, writer_is_some}
use Rattle.lc_desk.specs.Here.{the_images}
use Rattle.lc_desk.specs.Desk.{FitsSeat, FitsDesk, Sits}
use Rattle.lc_desk.specs.Seat.{Seat, Free, Open, Reserved, holder_of}
use Rattle.lc_desk.specs.Seats.{Runs, AllRun}
use Rattle.lc_desk.specs.declared.here.Here.{Here}
use Rattle.lc_desk.proofs.Seating.{seat_of}

-- Lists

pub find-left : {A : Type 0} (p : A → Bool) (xs ys : List A) (x : A) → find p xs ≡ Some x → find p (xs ++ ys) ≡ Some x
find-left p [] ys x found = absurd cc
find-left p (z ∷ xs) ys x found = elim (p z) as (λ b. (if b then Some z else find p xs) ≡ Some x → (if b then Some z else find p (xs ++ ys)) ≡ Some x) [
  | true ↦ λ e. e
  | false ↦ λ e. find-left p xs ys x e
] found

pub find-right : {A : Type 0} (p : A → Bool) (xs ys : List A) → find p xs ≡ None → find p (xs ++ ys) ≡ find p ys
find-right p [] ys none = refl
find-right p (z ∷ xs) ys none = elim (p z) as (λ b. (if b then Some z else find p xs) ≡ None → (if b then Some z else find p (xs ++ ys)) ≡ find p ys) [
  | true ↦ λ e. absurd cc
  | false ↦ λ e. find-right p xs ys e
] none

any-unclosed : (p : Transaction → Bool) (history : History) → All (λ u. p u ≡ false) (unclosed history) → list_any (λ e. not e.closed && p e.transaction) history ≡ false
any-unclosed p [] all = refl
any-unclosed p (e ∷ history) all =
    elim e.closed as (λ b. All (λ u. p u ≡ false) (map (λ e. e.transaction) (if not b then e ∷ filter (λ e. not e.closed) history else filter (λ e. not e.closed) history))
    → ((not b && p e.transaction) || list_any (λ e. not e.closed && p e.transaction) history) ≡ false) [
      | true ↦ λ a. any-unclosed p history a
      | false ↦ λ a. or_from (p e.transaction) _ (All-head (λ u. p u ≡ false) e.transaction (unclosed history) a) (any-unclosed p history (All-tail (λ u. p u ≡ false) e.transaction (unclosed history) a))
    ] all

-- The machine's holders

none-hold : (p : Transaction → Bool) (s : State) → All (λ u. p u ≡ false) (holders s) → some_holder p s ≡ false
none-hold p s all =
    or_from (list_any p s.running) _ (any-none p s.running (left s.running (unclosed s.history) all)) (any-unclosed p s.history (right s.running (unclosed s.history) all))
  where
    left : (xs ys : List Transaction) → All (λ u. p u ≡ false) (xs ++ ys) → All (λ u. p u ≡ false) xs
    left xs ys all = All-left (λ u. p u ≡ false) xs ys all

    right : (xs ys : List Transaction) → All (λ u. p u ≡ false) (xs ++ ys) → All (λ u. p u ≡ false) ys
    right xs ys all = All-right (λ u. p u ≡ false) xs ys all

one-holds : (p : Transaction → Bool) (s : State) (node i : ℕ) (t : Transaction) → find (is_by node i) (holders s) ≡ Some t → p t ≡ true → some_holder p s ≡ true
one-holds p s node i t found its = true_from_ne_false (some_holder p s) (λ none.
    true≢false (sym its ∙ found-all (is_by node i) (λ u. p u ≡ false) (holders s) t found (no_holder p s none)))

pub holders-proper : (m : Setting) (s : State) → Sound m.geometry s → All (IsProper m.geometry) (holders s)
holders-proper m s sound =
    All-append (IsProper m.geometry) s.running (unclosed s.history) sound.running_proper
    (All-map (IsProper m.geometry) (λ (e : Entry). e.transaction) (filter (λ e. not e.closed) s.history)
    (All-filter (λ e. not e.closed) (λ e. IsProper m.geometry e.transaction) s.history (All-from_map (IsProper m.geometry) (λ (e : Entry). e.transaction) s.history sound.history_proper)))

-- a thread's transaction in the machine, and what holds its locks
pub record IsHolder (node i : ℕ) (tx : Tx) (s : State) : Type 0 where
  pub transaction : Transaction
  pub found : find (is_by node i) (holders s) ≡ Some transaction
  pub locked_are : transaction.locked ≡ tx.locked.items
  pub reading_are : transaction.reading ≡ tx.reading.items
  pub set_is : (segment k : ℕ) → Has tx.set segment k ↔ IsTrue (all_set k 1 (segment_of segment transaction.marks))

pub seat-holds : (here : Here) (node i : ℕ) (content : Content) (s : State) (seat : Seat) (tx : Tx) → FitsSeat here node i content s seat → holder_of (Some seat) ≡ Some tx → IsHolder node i tx s
seat-holds here node i content s Free tx fits has = absurd cc
seat-holds here node i content s (Open other) tx fits has = subst (λ x. IsHolder node i x s) (same_some other tx has) (record {
  transaction = fits.transaction;
  found = find-left (is_by node i) s.running (unclosed s.history) fits.transaction fits.running;
  locked_are = fits.stands.locked_are;
  reading_are = fits.stands.reading_are;
  set_is = fits.stands.set_is;
})
seat-holds here node i content s (Reserved other number) tx fits has = subst (λ x. IsHolder node i x s) (same_some other tx has) (record {
  transaction = fits.transaction;
  found = find-right (is_by node i) s.running (unclosed s.history) fits.running ∙ fits.found;
  locked_are = fits.locked_are;
  reading_are = fits.reading_are;
  set_is = fits.set_is;
})

pub free-none : (node i : ℕ) (s : State) → running_of node i s ≡ None → has_unclosed node i s ≡ false → All (λ u. is_by node i u ≡ false) (holders s)
free-none node i s running closed =
    All-append (λ u. is_by node i u ≡ false) s.running (unclosed s.history) (not_found (is_by node i) s.running running) (none-unclosed (is_by node i) s.history closed)

-- it is the only one of the thread
pub only-holder : (g : Geometry) (s : State) (node i : ℕ) (t : Transaction) → Sound g s → find (is_by node i) (holders s) ≡ Some t → All (λ u. is_by node i u ≡ true → u ≡ t) (holders s)
only-holder g s node i t sound found = found-only (is_by node i) (holders s) t found (λ a b d a_lt b_in one two.
    let first = is_by-both node i (get_or (holders s) a d) one in
    let second = is_by-both node i (get_or (holders s) b d) two in
    (sound.apart a b d a_lt b_in).threads_differ (first.0 ∙ sym second.0) (first.1 ∙ sym second.1))

module _ (m : Setting) (node : ℕ) (here : Here) (seats : List Seat) (s : State) (h : FitsDesk m node here seats s) where
  abbrev content : Content
  content = value m.start s.earlier s.history

  -- Held, since a seat holds it

  sits-holds : (k : ℕ) (tx : Tx) → Sits seats k tx → IsHolder node k tx s
  sits-holds k tx has = (let its = seat_of seats k tx has in seat-holds here node k content s its.0 tx (h.threads k its.0 its.1) its.2)

  pub writer-locked : (segment k : ℕ) → IsHere the_images here segment → writer_of (holders_of the_images here segment) ≡ Some k → is_locked segment s ≡ true
  writer-locked segment k is writes =
      let its = h.writer segment k is writes in
      let one = sits-holds k its.0 its.1 in
      one-holds (λ t. locks t segment) s node k one.transaction one.found (ap (is_member segment) one.locked_are ∙ its.2)

  writer-held : (segment k : ℕ) → IsHere the_images here segment → writer_of (holders_of the_images here segment) ≡ Some k → is_held segment s ≡ true
  writer-held segment k is writes =
      let its = h.writer segment k is writes in
      let one = sits-holds k its.0 its.1 in
      one-holds (λ t. holds t segment) s node k one.transaction one.found (lock_holds one.transaction segment (ap (is_member segment) one.locked_are ∙ its.2))

  reader-held : (segment k : ℕ) → IsHere the_images here segment → reads (holders_of the_images here segment) k ≡ true → is_held segment s ≡ true
  reader-held segment k is reader =
      let its = h.readers segment k is reader in
      let one = sits-holds k its.0 its.1 in
      one-holds (λ t. holds t segment) s node k one.transaction one.found
      (or_right (locks one.transaction segment) (is_member segment one.transaction.reading) (ap (is_member segment) one.reading_are ∙ its.2))

  held-by : (segment : ℕ) (held : Holders) → IsHere the_images here segment → holders_of the_images here segment ≡ held → held ≢ Unheld → is_held segment s ≡ true
  held-by segment Unheld is same differ = absurd (differ refl)
  held-by segment (Writer k) is same differ = writer-held segment k is (ap writer_of same)
  held-by segment (Readers readers) is same differ =
      let at = one_at readers.reads readers.some in
      reader-held segment at.0 is (ap (λ (o : Holders). reads o at.0) same ∙ at.1)

  pub not_free-held : (segment : ℕ) → IsHere the_images here segment → holders_of the_images here segment ≢ Unheld → is_held segment s ≡ true
  not_free-held segment is differ = held-by segment (holders_of the_images here segment) is refl differ

  -- Free, since every holder of the machine sits there

  module _ (sound : Sound m.geometry s) (runs : AllRun here seats) where
    apart : (P : Tx → Type 0) → ((k : ℕ) (tx : Tx) → Runs here k tx → P tx → ⊥) → (k : ℕ) (u : Transaction) (seat : Seat) → slice_get seats k ≡ Some seat
        → is_by node k u ≡ true → (All (λ v. is_by node k v ≡ false) (holders s) → ⊥) → ((t : Transaction) → find (is_by node k) (holders s) ≡ Some t → u ≡ t)
        → ((tx : Tx) → u.locked ≡ tx.locked.items → u.reading ≡ tx.reading.items → P tx) → ⊥
    apart P none k u Free at by some same its = some (free-none node k s (h.threads k Free at).0 (h.threads k Free at).1)
    apart P none k u (Open tx) at by some same its =
        let one = seat-holds here node k content s (Open tx) tx (h.threads k (Open tx) at) refl in
        let is = same one.transaction one.found in
        none k tx (runs k tx (ap holder_of at)) (its tx (ap (λ (t : Transaction). t.locked) is ∙ one.locked_are) (ap (λ (t : Transaction). t.reading) is ∙ one.reading_are))
    apart P none k u (Reserved tx number) at by some same its =
        let one = seat-holds here node k content s (Reserved tx number) tx (h.threads k (Reserved tx number) at) refl in
        let is = same one.transaction one.found in
        none k tx (runs k tx (ap holder_of at)) (its tx (ap (λ (t : Transaction). t.locked) is ∙ one.locked_are) (ap (λ (t : Transaction). t.reading) is ∙ one.reading_are))

    -- no holder of the machine passes, where no seat's transaction does
    none-pass : (segment : ℕ) (p : Transaction → Bool) (P : Tx → Type 0) → IsHere the_images here segment
        → ((u : Transaction) → p u ≡ true → holds u segment ≡ true)
        → ((u : Transaction) (tx : Tx) → p u ≡ true → u.locked ≡ tx.locked.items → u.reading ≡ tx.reading.items → P tx)
        → ((k : ℕ) (tx : Tx) → Runs here k tx → P tx → ⊥) → some_holder p s ≡ false
    none-pass segment p P is held its none = none-hold p s (λ k d k_in. false_from_ne_true (p (get_or (holders s) k d)) (λ passes.
        let u : Transaction = get_or (holders s) k d in
        let at : s.place segment ≡ At u.node = sound.holders_here k d k_in segment (held u passes) in
        let same : u.node ≡ node = (let both : At u.node ≡ At node = sym at ∙ h.places segment is in cc) in
        let by : is_by node u.thread u ≡ true = is_by-same node u.thread u same refl in
        let below = (holders-proper m s sound k d k_in).thread_known in
        let seat = some_at seats u.thread (omega (arith, below, h.all_seats)) in
        apart P none u.thread u seat.0 seat.1 by
        (λ nobody. true≢false (sym by ∙ nobody k d k_in))
        (λ t found. only-holder m.geometry s node u.thread t sound found k d k_in by)
        (λ tx locked reading. its u tx passes locked reading)))

    pub free-unheld : (segment : ℕ) → IsHere the_images here segment → holders_of the_images here segment ≡ Unheld → is_held segment s ≡ false
    free-unheld segment is free = none-pass segment (λ t. holds t segment) (λ tx. (is_member segment tx.locked.items || is_member segment tx.reading.items) ≡ true) is
        (λ u passes. passes)
        (λ u tx passes locked reading. ap (λ l. is_member segment l || is_member segment tx.reading.items) (sym locked) ∙ ap (λ l. is_member segment u.locked || is_member segment l) (sym reading) ∙ passes)
        (λ k tx run held. elim (cases_Bool (is_member segment tx.locked.items)) [
          | inl lock ↦ (let no : Writer tx.thread ≡ Unheld = sym (run.runs.holds segment lock) ∙ free in absurd cc)
          | inr not_locked ↦ free_reads_not (holders_of the_images here segment) tx.thread free (run.runs.reads segment (subst (λ b. (b || is_member segment tx.reading.items) ≡ true) not_locked held))
        ])

    pub unwritten-unlocked : (segment : ℕ) → IsHere the_images here segment → writer_of (holders_of the_images here segment) ≡ None → is_locked segment s ≡ false
    unwritten-unlocked segment is none = none-pass segment (λ t. locks t segment) (λ tx. is_member segment tx.locked.items ≡ true) is
        (λ u passes. lock_holds u segment passes)
        (λ u tx passes locked reading. ap (is_member segment) (sym locked) ∙ passes)
        (λ k tx run lock. writer_is_some (holders_of the_images here segment) tx.thread (run.runs.holds segment lock) none)
