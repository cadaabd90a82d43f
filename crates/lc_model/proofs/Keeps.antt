-- Every step keeps a state sound.
use Rattle.std.proofs.Common.{◌≡◌, ◌⊎◌, ℕ, zero, suc, ◌+◌, ◌<◌, ◌≤◌, Bool, true, false, not, ◌&&◌, ◌||◌, ◌%◌, replicate, slice_index, IsTrue, ◌==◌, nat_lt, nat_le, List, [], ◌∷◌, ◌++◌, map, length, filter, get_or, Option, Some, None, is_some, All, AllPairs, refl, sym, ◌∙◌, ap, subst, arith, inl, inr, append_assoc, append-nil, length-append, eq-eqb, eqb-true, true≢false}
use Rattle.std.proofs.Math.Nat.{le_trans, le_refl, lt_of_lt_of_le}
use Rattle.std.specs.Prelude.{MatchBool, if◌then◌else◌}
use Rattle.std.proofs.lemmas.List.Elements.{All-nil, All-cons, All-head, All-tail, All-push, All-filter, All-append, All-map, All-weaker, filter-append}
use Rattle.std.proofs.lemmas.List.Kept.{AllPairs-cons}
use Rattle.std.proofs.lemmas.List.Quantifiers.{all_pairs_push}
use Rattle.std.proofs.lemmas.List.{map-append}
use Rattle.lc_record.specs.Transaction.{Transaction, Meet, IsWellFormed, locks, holds, all_set}
use Rattle.lc_record.proofs.LockLemmas.{meet_holds, meet_sides}
use Rattle.lc_record.specs.Content.{segment_of}
use Rattle.lc_record.specs.Geometry.{segment_len}
use Rattle.lc_record.specs.declared.geometry.Geometry.{Geometry}
use Rattle.lc_model.specs.History.{Entry, Numbered, History, Cut, transactions, numbered, numbered_after, is_of, is_kept, kept, reserved, front}
use Rattle.lc_model.specs.State.{Place, At, Travelling, Flush, Phase, Up, DownAt, Setting, State, update, fresh, first_state, is_by, running_of, has_unclosed, is_unclosed, is_held, without, with_changed}
use Rattle.lc_record.specs.Marks.{ranges, is_empty, ascending, beside, no_marks, marked, written}
use Rattle.lc_record.proofs.ListLemmas.{none_from_is_some as is_none, All-append_left as All-left, All-append_right as All-right}
use Rattle.lc_model.specs.Stops.{MayCut}
use Rattle.lc_model.specs.Refusals.{is_up, works_down, refuse_if, Unless, OfRunning, common_refusal, is_known, is_at, first_taken, begin_refusal, set_range_refusal, write_refusal, read_refusal, leave_refusal}
use Rattle.lc_model.specs.Machine.{Step, Row, FlushRow, Moves, ReserveRow, LeaveRow, ArriveRow, OrHalts, StopRow, may_page, may_reset, RecoverRow, begun, changed, dropped, appended, closed_by, flushed_to, halting, acknowledged, placed, Run}
use Rattle.lc_model.specs.Sound.{Sound, AreApart, IsProper, IsClosedBefore, IsPlace, IsAcked, IsHere, IsHereOrAcked, IsOrdered, holders, unclosed}
use Rattle.lc_model.specs.declared.event.Event.{Event}
use Rattle.lc_model.specs.declared.event.Event.TheVariants.{Begin, SetRange, Write, Read, Abort, Reserve, Close, FlushStep, Leave, Arrive, Deliver, Trim, PageStep, ResetStep, Stop, RecoverStep}
use Rattle.lc_model.specs.declared.reply.Reply.{Reply}
use Rattle.lc_model.specs.declared.refusal.Refusal.{Refusal}
use Rattle.lc_model.specs.declared.refusal.Refusal.TheVariants.{Down, NotHere, Held, OutOfTurn, NotLocked, ReadOnly, EmptyRange, OutOfSegment, NoRange, TooManyRanges}
use Rattle.lc_model.proofs.Prefix.{count}
use Rattle.lc_model.proofs.Law.{all-numbered_after, AllPairs-head, AllPairs-tail}
use Rattle.lc_model.proofs.Lists.{split, AllPairs-nil, All-from_map, found-all, found-passes}
use Rattle.lc_model.proofs.Marks.{proper-new, proper-marked, proper-written}
use Rattle.lc_model.proofs.Rows.{known, seat_known, node_known}
use Rattle.std.proofs.lemmas.Bool.{leb-true, ltb-true, or_parts as or-neither, not-false}
use Rattle.lc_model.proofs.Fronts.{entry, closing, unclosed-push, front-push, transactions-closed, unclosed-closed, front-closed, front-reserved, no_holder}
use Rattle.lc_model.proofs.Holders.{SameHolder, is_by-both, changed-same, All-changed, map-parts, map-here, dropped-parts, closed-parts, All-first, All-second, moved-parts, All-moved, at_is, not_refused, Asks, new-apart, new-here}

-- Numbers, where one is reserved

numbered_after-push : (before ts : List Transaction) (t : Transaction) → numbered_after before (ts ++ t ∷ []) ≡ numbered_after before ts ++ record { transaction = t; number = count t.node (before ++ ts) } ∷ []
numbered_after-push before [] t = ap (λ bs. record { transaction = t; number = count t.node bs } ∷ []) (sym (append-nil before))
numbered_after-push before (u ∷ ts) t =
    ap (λ xs. record { transaction = u; number = count u.node before } ∷ xs)
    (numbered_after-push (before ++ u ∷ []) ts t
    ∙ ap (λ bs. numbered_after (before ++ u ∷ []) ts ++ record { transaction = t; number = count t.node bs } ∷ []) (append_assoc before (u ∷ []) ts))

abbrev pub last_one : History → Transaction → Numbered
last_one history t = record { transaction = t; number = count t.node (transactions history) }

pub transactions-push : (history : History) (e : Entry) → transactions (history ++ e ∷ []) ≡ transactions history ++ e.transaction ∷ []
transactions-push history e = map-append (λ (x : Entry). x.transaction) history (e ∷ [])

pub numbered-push : (history : History) (t : Transaction) → numbered (history ++ entry t false ∷ []) ≡ numbered history ++ last_one history t ∷ []
numbered-push history t =
    ap (numbered_after []) (transactions-push history (entry t false)) ∙ numbered_after-push [] (transactions history) t

-- what stands already and the new one: of the same node, or acknowledged
ordered_before : (place : ℕ → Place) (ack : ℕ → ℕ) (x y : Numbered) → IsHereOrAcked place ack x → IsHere place y.transaction → IsOrdered ack x y
ordered_before place ack x y x_here y_here = λ meet.
    let held = meet_holds x.transaction y.transaction meet in
    let y_at : place meet.0 ≡ At y.transaction.node = y_here meet.0 held.1 in
    elim (x_here meet.0 held.0) [ inl x_at ↦ inl (cc) | inr acked ↦ inr acked ]

abbrev SetsSome : Transaction → Type 0
SetsSome t = is_empty t.marks ≡ false

-- While the store is up there is no cut

abbrev pub DownCut : Geometry → State → Type 0
DownCut g s = (cut : Cut) → s.phase ≡ DownAt cut → MayCut g s cut

not-down : {A : Type 0} {phase : Phase} (cut : Cut) → phase ≡ Up → phase ≡ DownAt cut → A
not-down cut up down = absurd (let e : Up ≡ DownAt cut = sym up ∙ down in cc)

pub up-cut : (g : Geometry) (s : State) → s.phase ≡ Up → DownCut g s
up-cut g s up = λ cut down. absurd (let e : Up ≡ DownAt cut = sym up ∙ down in cc)

stopped-cut : (g : Geometry) (s : State) (cut : Cut) → MayCut g s cut → DownCut g (record s { phase = DownAt cut })
stopped-cut g s cut may = λ other is. subst (λ (c : Cut). MayCut g s c) (let e : DownAt cut ≡ DownAt other = is in (let f : cut ≡ other = cc in f)) may

zero-cut : (n k : ℕ) → slice_index (replicate n 0) k ≡ 0
zero-cut zero k = refl
zero-cut (suc n) zero = refl
zero-cut (suc n) (suc k) = zero-cut n k

abbrev nones : ℕ → Cut
nones n = replicate n 0

length-nones : (n : ℕ) → length (nones n) ≡ n
length-nones zero = refl
length-nones (suc n) = ap suc (length-nones n)

down-first : (g : Geometry) → DownCut g (first_state g)
down-first g = λ cut is.
    subst (λ (c : Cut). MayCut g (first_state g) c) (let e : DownAt (nones g.nodes) ≡ DownAt cut = is in (let f : nones g.nodes ≡ cut = cc in f))
    (length-nones g.nodes, (λ i j d i_lt j_in. absurd (omega (arith, j_in))), λ node below. inl (zero-cut g.nodes node))

place-within : (g : Geometry) (segment : ℕ) → segment % g.nodes < g.nodes
place-within g segment = omega (arith, g.some_nodes)

-- The earlier of two that meet

-- of those that are not closed, so of each that is not
unclosed-one : (P : Transaction → Type 0) (t : Transaction) (closed : Bool) (es : History) → (All P (unclosed es) → All (λ (x : Entry). (x.closed ≡ true) ⊎ P x.transaction) es)
    → All P (unclosed (entry t closed ∷ es)) → All (λ (x : Entry). (x.closed ≡ true) ⊎ P x.transaction) (entry t closed ∷ es)
unclosed-one P t true es next all = All-cons (λ (x : Entry). (x.closed ≡ true) ⊎ P x.transaction) (entry t true) es (inl refl) (next all)
unclosed-one P t false es next all =
    All-cons (λ (x : Entry). (x.closed ≡ true) ⊎ P x.transaction) (entry t false) es (inr (All-head P t (unclosed es) all)) (next (All-tail P t (unclosed es) all))

unclosed-all : (P : Transaction → Type 0) (history : History) → All P (unclosed history) → All (λ (e : Entry). (e.closed ≡ true) ⊎ P e.transaction) history
unclosed-all P [] all = All-nil (λ (e : Entry). (e.closed ≡ true) ⊎ P e.transaction)
unclosed-all P (e ∷ es) all = unclosed-one P e.transaction e.closed es (unclosed-all P es) all

closed-push : (s : State) (t : Transaction) → running_of t.node t.thread s ≡ Some t → AllPairs AreApart (holders s) → AllPairs IsClosedBefore s.history → AllPairs IsClosedBefore (s.history ++ entry t false ∷ [])
closed-push s t found apart closed =
    let across : All (AreApart t) (unclosed s.history) = found-all (is_by t.node t.thread) (λ x. All (AreApart x) (unclosed s.history)) s.running t found (split AreApart s.running (unclosed s.history) apart).across in
    let each = unclosed-all (AreApart t) s.history across in
    all_pairs_push IsClosedBefore s.history (entry t false) closed
    (λ k d k_in meet. elim (each k d k_in) [ inl is ↦ is | inr others ↦ absurd (others.locks_differ (meet_sides (get_or s.history k d).transaction t meet)) ])

closing-keeps : (b : Bool) (x y : Entry) (meets : Transaction → Transaction → Type 0) → IsTrue x.closed → IsTrue (if b then record x { closed = true } else x).closed
closing-keeps true x y meets closed = refl
closing-keeps false x y meets closed = closed

closed-closing : (node thread : ℕ) (history : History) → AllPairs IsClosedBefore history → AllPairs IsClosedBefore (closed_by node thread history)
closed-closing node thread [] pairs = AllPairs-nil IsClosedBefore
closed-closing node thread (e ∷ es) pairs =
    let close : Entry → Entry = λ x. if is_unclosed node thread x then record x { closed = true } else x in
    AllPairs-cons IsClosedBefore (close e) (closed_by node thread es)
    (All-map (IsClosedBefore (close e)) close es
    (λ k d k_in meet. closing-keeps (is_unclosed node thread e) e e Meet (AllPairs-head IsClosedBefore e es pairs k d k_in
    (subst (λ (t : Transaction). Meet t (get_or es k d).transaction) (closing (is_unclosed node thread e) e)
    (subst (λ (t : Transaction). Meet (close e).transaction t) (closing (is_unclosed node thread (get_or es k d)) (get_or es k d)) meet)))))
    (closed-closing node thread es (AllPairs-tail IsClosedBefore e es pairs))

-- Open transactions

pub sound-begun : (g : Geometry) (s : State) (node thread : ℕ) (segments reading : List ℕ) → Sound g s → s.phase ≡ Up → node < g.nodes → thread < g.threads → running_of node thread s ≡ None → has_unclosed node thread s ≡ false → first_taken node s segments (ascending g (segments ++ reading)) ≡ None → Sound g (begun g s node thread segments reading)
sound-begun g s node thread segments reading sound up node_in thread_in idle closed free =
    let t : Transaction = record { node = node; thread = thread; locked = ascending g segments; reading = ascending g (beside segments reading); marks = no_marks g; writes = [] } in
    let asks : Asks g t segments reading = record { locked_are = refl; reading_are = refl } in
    record {
      earlier_proper = sound.earlier_proper;
      history_proper = sound.history_proper;
      running_proper = All-cons (IsProper g) t s.running (proper-new g node thread segments (beside segments reading) node_in thread_in) sound.running_proper;
      earlier_set = sound.earlier_set;
      history_set = sound.history_set;
      apart = AllPairs-cons AreApart t (holders s) (new-apart g s t segments reading asks idle closed free) sound.apart;
      holders_here = All-cons (IsHere s.place) t (holders s) (new-here g s t segments reading asks free) sound.holders_here;
      history_here = sound.history_here;
      ordered = sound.ordered;
      acked = sound.acked;
      taken = sound.taken;
      taken_closed = sound.taken_closed;
      earlier_closed = sound.earlier_closed;
      few_steps = sound.few_steps;
      places_known = sound.places_known;
      down_cut = λ cut down. not-down cut up down;
    }

pub sound-changed : (g : Geometry) (s : State) (old t : Transaction) → Sound g s → s.phase ≡ Up → running_of t.node t.thread s ≡ Some old → SameHolder old t → IsProper g t → Sound g (changed s t)
sound-changed g s old t sound up found same proper =
    let change : Transaction → Transaction = λ u. if is_by t.node t.thread u then t else u in
    let kept_holder : All (λ u. SameHolder u (change u)) s.running = changed-same t old s.running found same (split AreApart s.running (unclosed s.history) sound.apart).left in
    record {
      earlier_proper = sound.earlier_proper;
      history_proper = sound.history_proper;
      running_proper = All-changed (IsProper g) t s.running proper sound.running_proper;
      earlier_set = sound.earlier_set;
      history_set = sound.history_set;
      apart = map-parts change s.running (unclosed s.history) kept_holder sound.apart;
      holders_here = All-append (IsHere s.place) (with_changed t s.running) (unclosed s.history) (map-here s.place change s.running kept_holder (All-left (IsHere s.place) s.running (unclosed s.history) sound.holders_here)) (All-right (IsHere s.place) s.running (unclosed s.history) sound.holders_here);
      history_here = sound.history_here;
      ordered = sound.ordered;
      acked = sound.acked;
      taken = sound.taken;
      taken_closed = sound.taken_closed;
      earlier_closed = sound.earlier_closed;
      few_steps = sound.few_steps;
      places_known = sound.places_known;
      down_cut = λ cut down. not-down cut up down;
    }

pub sound-dropped : (g : Geometry) (s : State) (node thread : ℕ) → Sound g s → s.phase ≡ Up → Sound g (dropped s node thread)
sound-dropped g s node thread sound up =
    let others : Transaction → Bool = λ u. not (is_by node thread u) in
    record {
      earlier_proper = sound.earlier_proper;
      history_proper = sound.history_proper;
      running_proper = All-filter others (IsProper g) s.running sound.running_proper;
      earlier_set = sound.earlier_set;
      history_set = sound.history_set;
      apart = dropped-parts others s.running (unclosed s.history) sound.apart;
      holders_here = All-first (IsHere s.place) others s.running (unclosed s.history) sound.holders_here;
      history_here = sound.history_here;
      ordered = sound.ordered;
      acked = sound.acked;
      taken = sound.taken;
      taken_closed = sound.taken_closed;
      earlier_closed = sound.earlier_closed;
      few_steps = sound.few_steps;
      places_known = sound.places_known;
      down_cut = λ cut down. not-down cut up down;
    }

-- Reserved and closed ones

pub sound-appended : (g : Geometry) (s : State) (t : Transaction) → Sound g s → s.phase ≡ Up → running_of t.node t.thread s ≡ Some t → is_empty t.marks ≡ false → Sound g (appended s t)
sound-appended g s t sound up found some =
    let others : Transaction → Bool = λ u. not (is_by t.node t.thread u) in
    let proper : IsProper g t = found-all (is_by t.node t.thread) (IsProper g) s.running t found sound.running_proper in
    let here : IsHere s.place t = found-all (is_by t.node t.thread) (IsHere s.place) s.running t found (All-left (IsHere s.place) s.running (unclosed s.history) sound.holders_here) in
    record {
      earlier_proper = sound.earlier_proper;
      history_proper = rw (transactions-push s.history (entry t false)) (All-push (IsProper g) (transactions s.history) t sound.history_proper proper);
      running_proper = All-filter others (IsProper g) s.running sound.running_proper;
      earlier_set = sound.earlier_set;
      history_set = rw (transactions-push s.history (entry t false)) (All-push SetsSome (transactions s.history) t sound.history_set some);
      apart = subst (λ (us : List Transaction). AllPairs AreApart (without t.node t.thread s.running ++ us)) (sym (unclosed-push s.history t)) (moved-parts t.node t.thread t s.running (unclosed s.history) found sound.apart);
      holders_here = subst (λ (us : List Transaction). All (IsHere s.place) (without t.node t.thread s.running ++ us)) (sym (unclosed-push s.history t)) (All-moved (IsHere s.place) t.node t.thread t s.running (unclosed s.history) found sound.holders_here);
      history_here = subst (λ (xs : List Numbered). All (IsHereOrAcked s.place s.ack) xs) (sym (numbered-push s.history t)) (All-push (IsHereOrAcked s.place s.ack) (numbered s.history) (last_one s.history t) sound.history_here (λ segment lock. inl (here segment lock)));
      ordered = subst (λ (xs : List Numbered). AllPairs (IsOrdered s.ack) xs) (sym (numbered-push s.history t)) (all_pairs_push (IsOrdered s.ack) (numbered s.history) (last_one s.history t) sound.ordered
          (λ k d k_in. ordered_before s.place s.ack (get_or (numbered s.history) k d) (last_one s.history t) (sound.history_here k d k_in) here));
      acked = λ node. subst (λ (n : ℕ). s.ack node ≤ n) (sym (front-push node s.history t)) (sound.acked node);
      taken = sound.taken;
      taken_closed = λ node some. subst (λ (n : ℕ). (s.flush node).taken ≤ n) (sym (front-push node s.history t)) (sound.taken_closed node some);
      earlier_closed = closed-push s t found sound.apart sound.earlier_closed;
      few_steps = sound.few_steps;
      places_known = sound.places_known;
      down_cut = λ cut down. not-down cut up down;
    }

pub sound-closed : (g : Geometry) (s : State) (node thread : ℕ) → Sound g s → s.phase ≡ Up → Sound g (record s { history = closed_by node thread s.history })
sound-closed g s node thread sound up =
    let others : Transaction → Bool = λ u. not (is_by node thread u) in
    let same : transactions (closed_by node thread s.history) ≡ transactions s.history = transactions-closed node thread s.history in
    let fewer : unclosed (closed_by node thread s.history) ≡ filter others (unclosed s.history) = unclosed-closed node thread s.history in
    record {
      earlier_proper = sound.earlier_proper;
      history_proper = subst (λ (ts : List Transaction). All (IsProper g) ts) (sym same) sound.history_proper;
      running_proper = sound.running_proper;
      earlier_set = sound.earlier_set;
      history_set = subst (λ (ts : List Transaction). All SetsSome ts) (sym same) sound.history_set;
      apart = subst (λ (us : List Transaction). AllPairs AreApart (s.running ++ us)) (sym fewer) (closed-parts others s.running (unclosed s.history) sound.apart);
      holders_here = subst (λ (us : List Transaction). All (IsHere s.place) (s.running ++ us)) (sym fewer) (All-second (IsHere s.place) others s.running (unclosed s.history) sound.holders_here);
      history_here = subst (λ (ts : List Transaction). All (IsHereOrAcked s.place s.ack) (numbered_after [] ts)) (sym same) sound.history_here;
      ordered = subst (λ (ts : List Transaction). AllPairs (IsOrdered s.ack) (numbered_after [] ts)) (sym same) sound.ordered;
      acked = λ n. le_trans (sound.acked n) (front-closed n node thread s.history);
      taken = sound.taken;
      taken_closed = λ n some. le_trans (sound.taken_closed n some) (front-closed n node thread s.history);
      earlier_closed = closed-closing node thread s.history sound.earlier_closed;
      few_steps = sound.few_steps;
      places_known = sound.places_known;
      down_cut = λ cut down. not-down cut up down;
    }

-- Flushes

pub update-case : {A : Type 0} (P : ℕ → A → Type 0) (table : ℕ → A) (key : ℕ) (item : A) → P key item → ((other : ℕ) → P other (table other)) → (other : ℕ) → P other (update table key item other)
update-case P table key item at_key at_others other =
    elim (other == key) as (λ b. (other == key) ≡ b → P other (if b then item else table other)) [
      | true ↦ λ e. subst (λ (n : ℕ). P n item) (sym (eqb-true other key e)) at_key
      | false ↦ λ e. at_others other
    ] refl

pub sound-flushed_to : (g : Geometry) (s : State) (node steps count : ℕ) → Sound g s → s.phase ≡ Up → steps ≤ 4 → s.ack node ≤ count → count ≤ front node s.history → Sound g (flushed_to s node steps count)
sound-flushed_to g s node steps count sound up few above within =
    record {
      earlier_proper = sound.earlier_proper;
      history_proper = sound.history_proper;
      running_proper = sound.running_proper;
      earlier_set = sound.earlier_set;
      history_set = sound.history_set;
      apart = sound.apart;
      holders_here = sound.holders_here;
      history_here = sound.history_here;
      ordered = sound.ordered;
      acked = sound.acked;
      taken = update-case (λ other f. 1 ≤ f.steps → s.ack other ≤ f.taken) s.flush node (record { steps = steps; taken = count }) (λ some. above) sound.taken;
      taken_closed = update-case (λ other f. 1 ≤ f.steps → f.taken ≤ front other s.history) s.flush node (record { steps = steps; taken = count }) (λ some. within) sound.taken_closed;
      earlier_closed = sound.earlier_closed;
      few_steps = update-case (λ other f. f.steps ≤ 4) s.flush node (record { steps = steps; taken = count }) few sound.few_steps;
      places_known = sound.places_known;
      down_cut = λ cut down. not-down cut up down;
    }

pub sound-halting : (g : Geometry) (s : State) (node : ℕ) → Sound g s → s.phase ≡ Up → Sound g (halting s node)
sound-halting g s node sound up =
    record {
      earlier_proper = sound.earlier_proper;
      history_proper = sound.history_proper;
      running_proper = sound.running_proper;
      earlier_set = sound.earlier_set;
      history_set = sound.history_set;
      apart = sound.apart;
      holders_here = sound.holders_here;
      history_here = sound.history_here;
      ordered = sound.ordered;
      acked = sound.acked;
      taken = sound.taken;
      taken_closed = sound.taken_closed;
      earlier_closed = sound.earlier_closed;
      few_steps = sound.few_steps;
      places_known = sound.places_known;
      down_cut = λ cut down. not-down cut up down;
    }

here-grows : (place : ℕ → Place) (ack more : ℕ → ℕ) (x : Numbered) → ((n : ℕ) → ack n ≤ more n) → IsHereOrAcked place ack x → IsHereOrAcked place more x
here-grows place ack more x grows here = λ segment lock.
    elim (here segment lock) [ inl at ↦ inl at | inr acked ↦ inr (lt_of_lt_of_le acked (grows x.transaction.node)) ]

ordered-grows : (ack more : ℕ → ℕ) (x y : Numbered) → ((n : ℕ) → ack n ≤ more n) → IsOrdered ack x y → IsOrdered more x y
ordered-grows ack more x y grows ordered = λ meet.
    elim (ordered meet) [ inl same ↦ inl same | inr acked ↦ inr (lt_of_lt_of_le acked (grows x.transaction.node)) ]

pub sound-acknowledged : (g : Geometry) (s : State) (node count : ℕ) → Sound g s → s.phase ≡ Up → s.ack node ≤ count → count ≤ front node s.history → Sound g (acknowledged s node count)
sound-acknowledged g s node count sound up above within =
    let grows : (n : ℕ) → s.ack n ≤ update s.ack node count n = update-case (λ n k. s.ack n ≤ k) s.ack node count above (λ n. le_refl (s.ack n)) in
    let over : Flush = record { steps = 0; taken = count } in
    record {
      earlier_proper = sound.earlier_proper;
      history_proper = sound.history_proper;
      running_proper = sound.running_proper;
      earlier_set = sound.earlier_set;
      history_set = sound.history_set;
      apart = sound.apart;
      holders_here = sound.holders_here;
      history_here = λ k d k_in. here-grows s.place s.ack (update s.ack node count) (get_or (numbered s.history) k d) grows (sound.history_here k d k_in);
      ordered = λ i j d i_lt j_in. ordered-grows s.ack (update s.ack node count) (get_or (numbered s.history) i d) (get_or (numbered s.history) j d) grows (sound.ordered i j d i_lt j_in);
      acked = update-case (λ n k. k ≤ front n s.history) s.ack node count within sound.acked;
      taken = λ other. elim (other == node) as (λ b. 1 ≤ (if b then over else s.flush other).steps → (if b then count else s.ack other) ≤ (if b then over else s.flush other).taken) [
        | true ↦ λ some. absurd (omega (arith, some))
        | false ↦ sound.taken other
      ];
      taken_closed = update-case (λ other f. 1 ≤ f.steps → f.taken ≤ front other s.history) s.flush node over (λ some. within) sound.taken_closed;
      earlier_closed = sound.earlier_closed;
      few_steps = update-case (λ other f. f.steps ≤ 4) s.flush node over (omega arith) sound.few_steps;
      places_known = sound.places_known;
      down_cut = λ cut down. not-down cut up down;
    }

-- Tokens

count-append : (node : ℕ) (ts us : List Transaction) → count node (ts ++ us) ≡ count node ts + count node us
count-append node ts us = ap length (filter-append (is_of node) ts us) ∙ length-append (filter (is_of node) ts) (filter (is_of node) us)

abbrev Below : List Transaction → Numbered → Type 0
Below all x = x.number < count x.transaction.node all

numbers_below : (before ts : List Transaction) → All (Below (before ++ ts)) (numbered_after before ts)
numbers_below before [] = λ k d below. absurd (omega arith)
numbers_below before (t ∷ ts) =
    let own : count t.node (t ∷ []) ≡ 1 = rw (eq-eqb t.node t.node refl) refl in
    let first : count t.node (before ++ t ∷ ts) ≡ count t.node before + count t.node (t ∷ ts) = count-append t.node before (t ∷ ts) in
    let second : count t.node (t ∷ ts) ≡ count t.node (t ∷ []) + count t.node ts = count-append t.node (t ∷ []) ts in
    All-cons (Below (before ++ t ∷ ts)) (record { transaction = t; number = count t.node before }) (numbered_after (before ++ t ∷ []) ts)
    (omega (arith, first, second, own))
    (subst (λ (all : List Transaction). All (Below all) (numbered_after (before ++ t ∷ []) ts)) (append_assoc before (t ∷ []) ts) (numbers_below (before ++ t ∷ []) ts))

reserved-count : (node : ℕ) (history : History) → reserved node history ≡ count node (transactions history)
reserved-count node [] = refl
reserved-count node (e ∷ es) =
    let next : reserved node es ≡ count node (transactions es) = reserved-count node es in
    elim (is_of node e.transaction) as (λ b. is_of node e.transaction ≡ b → reserved node (e ∷ es) ≡ count node (transactions (e ∷ es))) [
      | true ↦ λ h. rw h (omega (arith, next))
      | false ↦ λ h. rw h next
    ] refl

pub sound-leave : (g : Geometry) (s : State) (node segment : ℕ) → Sound g s → s.phase ≡ Up → leave_refusal s node segment ≡ None → s.ack node ≡ reserved node s.history → Sound g (placed s segment Travelling)
sound-leave g s node segment sound up free all_acked =
    let tests : (is_at node (s.place segment) ≡ true) × (is_held segment s ≡ false) × (let none : Option Refusal = None in none ≡ None) = not_refused (is_at node (s.place segment)) (is_held segment s) (NotHere segment) Held None free in
    let at : s.place segment ≡ At node = at_is node (s.place segment) tests.0 in
    let unlocked : All (λ t. holds t segment ≡ false) (holders s) = no_holder (λ t. holds t segment) s tests.1 in
    record {
      earlier_proper = sound.earlier_proper;
      history_proper = sound.history_proper;
      running_proper = sound.running_proper;
      earlier_set = sound.earlier_set;
      history_set = sound.history_set;
      apart = sound.apart;
      holders_here = λ k d k_in other lock.
          elim (other == segment) as (λ b. (other == segment) ≡ b → (if b then Travelling else s.place other) ≡ At (get_or (holders s) k d).node) [
            | true ↦ λ e. absurd (true≢false (sym (subst (λ (n : ℕ). holds (get_or (holders s) k d) n ≡ true) (eqb-true other segment e) lock) ∙ unlocked k d k_in))
            | false ↦ λ e. sound.holders_here k d k_in other lock
          ] refl;
      history_here = λ k d k_in other lock.
          let x : Numbered = get_or (numbered s.history) k d in
          elim (other == segment) as (λ b. (other == segment) ≡ b → ((if b then Travelling else s.place other) ≡ At (get_or (numbered s.history) k d).transaction.node) ⊎ IsAcked s.ack (get_or (numbered s.history) k d)) [
            | true ↦ λ e.
                (elim (sound.history_here k d k_in other lock) [
                  | inl x_at ↦
                      let same_segment : other ≡ segment = eqb-true other segment e in
                      let same_place : At x.transaction.node ≡ At node = sym x_at ∙ ap s.place same_segment ∙ at in
                      let same : x.transaction.node ≡ node = cc same_place in
                      let below : x.number < count x.transaction.node (transactions s.history) = numbers_below [] (transactions s.history) k d k_in in
                      let acked_all : s.ack x.transaction.node ≡ count x.transaction.node (transactions s.history) = rw same (all_acked ∙ reserved-count node s.history) in
                      inr (omega (arith, below, acked_all))
                  | inr acked ↦ inr acked
                ])
            | false ↦ λ e. sound.history_here k d k_in other lock
          ] refl;
      ordered = sound.ordered;
      acked = sound.acked;
      taken = sound.taken;
      taken_closed = sound.taken_closed;
      earlier_closed = sound.earlier_closed;
      few_steps = sound.few_steps;
      places_known = update-case (λ other place. IsPlace g place) s.place segment Travelling tt sound.places_known;
      down_cut = λ cut down. not-down cut up down;
    }

not_travelling : (node : ℕ) → Travelling ≡ At node → ⊥
not_travelling node h = cc

pub sound-arrive : (g : Geometry) (s : State) (node segment : ℕ) → Sound g s → s.phase ≡ Up → node < g.nodes → s.place segment ≡ Travelling → Sound g (placed s segment (At node))
sound-arrive g s node segment sound up node_in travelling =
    record {
      earlier_proper = sound.earlier_proper;
      history_proper = sound.history_proper;
      running_proper = sound.running_proper;
      earlier_set = sound.earlier_set;
      history_set = sound.history_set;
      apart = sound.apart;
      holders_here = λ k d k_in other lock.
          elim (other == segment) as (λ b. (other == segment) ≡ b → (if b then At node else s.place other) ≡ At (get_or (holders s) k d).node) [
            | true ↦ λ e. absurd (not_travelling _ (sym travelling ∙ ap s.place (sym (eqb-true other segment e)) ∙ sound.holders_here k d k_in other lock))
            | false ↦ λ e. sound.holders_here k d k_in other lock
          ] refl;
      history_here = λ k d k_in other lock.
          elim (other == segment) as (λ b. (other == segment) ≡ b → ((if b then At node else s.place other) ≡ At (get_or (numbered s.history) k d).transaction.node) ⊎ IsAcked s.ack (get_or (numbered s.history) k d)) [
            | true ↦ λ e.
                (elim (sound.history_here k d k_in other lock) [
                  | inl at ↦ absurd (not_travelling _ (sym travelling ∙ ap s.place (sym (eqb-true other segment e)) ∙ at))
                  | inr acked ↦ inr acked
                ])
            | false ↦ λ e. sound.history_here k d k_in other lock
          ] refl;
      ordered = sound.ordered;
      acked = sound.acked;
      taken = sound.taken;
      taken_closed = sound.taken_closed;
      earlier_closed = sound.earlier_closed;
      few_steps = sound.few_steps;
      places_known = update-case (λ other place. IsPlace g place) s.place segment (At node) node_in sound.places_known;
      down_cut = λ cut down. not-down cut up down;
    }

-- The first state, and recoveries

pub sound-fresh : (g : Geometry) (earlier : List Transaction) (phase : Phase) → All (IsProper g) earlier → All SetsSome earlier → DownCut g (fresh g earlier phase) → Sound g (fresh g earlier phase)
sound-fresh g earlier phase proper set down = record {
  earlier_proper = proper;
  history_proper = All-nil (IsProper g);
  running_proper = All-nil (IsProper g);
  earlier_set = set;
  history_set = All-nil SetsSome;
  apart = AllPairs-nil AreApart;
  holders_here = All-nil (IsHere (fresh g earlier phase).place);
  history_here = All-nil (IsHereOrAcked (fresh g earlier phase).place (fresh g earlier phase).ack);
  ordered = AllPairs-nil (IsOrdered (fresh g earlier phase).ack);
  acked = λ node. omega arith;
  taken = λ node some. omega arith;
  taken_closed = λ node some. omega arith;
  earlier_closed = AllPairs-nil IsClosedBefore;
  few_steps = λ node. omega arith;
  places_known = λ segment. place-within g segment;
  down_cut = down;
}

pub sound-first : (g : Geometry) → Sound g (first_state g)
sound-first g = sound-fresh g [] (first_state g).phase (All-nil (IsProper g)) (All-nil SetsSome) (down-first g)

-- what a cut keeps are transactions of the history
pub All-kept : (P : Transaction → Type 0) (history : History) (cut : Cut) → All P (transactions history) → All P (kept history cut)
All-kept P history cut all =
    let with_numbers : All P (map (λ (x : Numbered). x.transaction) (numbered history)) = subst (λ (ts : List Transaction). All P ts) (sym (all-numbered_after [] (transactions history))) all in
    All-map P (λ (x : Numbered). x.transaction) (filter (is_kept cut) (numbered history))
    (All-filter (is_kept cut) (λ (x : Numbered). P x.transaction) (numbered history) (All-from_map P (λ (x : Numbered). x.transaction) (numbered history) with_numbers))

pub sound-recovered : (g : Geometry) (s : State) (cut : Cut) → Sound g s → Sound g (fresh g (s.earlier ++ kept s.history cut) Up)
sound-recovered g s cut sound =
    sound-fresh g (s.earlier ++ kept s.history cut) Up
    (All-append (IsProper g) s.earlier (kept s.history cut) sound.earlier_proper (All-kept (IsProper g) s.history cut sound.history_proper))
    (All-append SetsSome s.earlier (kept s.history cut) sound.earlier_set (All-kept SetsSome s.history cut sound.history_set))
    (up-cut g (fresh g (s.earlier ++ kept s.history cut) Up) refl)

-- The rows

after : (g : Geometry) (s new : State) → Sound g s → new ≡ s → Sound g new
after g s new sound same = subst (λ (x : State). Sound g x) (sym same) sound

unless-keeps : (g : Geometry) (refusal : Option Refusal) (s : State) (reply : Reply) (new : State) (otherwise : Type 0) → Sound g s → (refusal ≡ None → otherwise → Sound g new) → Unless refusal s reply new otherwise → Sound g new
unless-keeps g None s reply new otherwise sound next h = next refl h
unless-keeps g (Some refusal) s reply new otherwise sound next h = after g s new sound h.1

running-keeps : (g : Geometry) (running : Option Transaction) (s : State) (reply : Reply) (new : State) (next : Transaction → Type 0) → Sound g s → ((t : Transaction) → running ≡ Some t → next t → Sound g new) → OfRunning running s reply new next → Sound g new
running-keeps g None s reply new next sound keeps h = after g s new sound h.1
running-keeps g (Some t) s reply new next sound keeps h = keeps t refl h

pub match-case : (P : Type 0) (b : Bool) (A B : Type 0) → (b ≡ true → A → P) → (b ≡ false → B → P) → MatchBool b A B → P
match-case P true A B first second h = first refl h
match-case P false A B first second h = second refl h

passed : (b : Bool) (r : Refusal) (others : Option Refusal) → refuse_if b r others ≡ None → (b ≡ false) × (others ≡ None)
passed true r others h = absurd cc
passed false r others h = (refl, h)

pub some_steps : (n : ℕ) → (n == 0) ≡ false → 1 ≤ n
some_steps zero h = absurd (true≢false h)
some_steps (suc n) h = omega arith

-- a thread's open transaction is changed, and stays its own
keeps-changed : (g : Geometry) (s : State) (node thread : ℕ) (old t : Transaction) → Sound g s → s.phase ≡ Up → running_of node thread s ≡ Some old → SameHolder old t → IsProper g t → Sound g (changed s t)
keeps-changed g s node thread old t sound up found same proper =
    let by : (old.node ≡ node) × (old.thread ≡ thread) = is_by-both node thread old (found-passes (is_by node thread) s.running old found) in
    let own : running_of t.node t.thread s ≡ Some old = rw (sym same.same_node ∙ by.0, sym same.same_thread ∙ by.1) found in
    sound-changed g s old t sound up own same proper

keeps-begin : (g : Geometry) (s : State) (node thread : ℕ) (segments reading : List ℕ) → Sound g s → s.phase ≡ Up → is_known g (Begin node thread segments reading) ≡ true → begin_refusal g s node thread segments reading ≡ None → Sound g (begun g s node thread segments reading)
keeps-begin g s node thread segments reading sound up known_event none =
    let seat = seat_known g node thread (segments ++ reading) known_event in
    let turn : ((is_some (running_of node thread s) || has_unclosed node thread s) ≡ false) × (first_taken node s segments (ascending g (segments ++ reading)) ≡ None) = passed (is_some (running_of node thread s) || has_unclosed node thread s) OutOfTurn (first_taken node s segments (ascending g (segments ++ reading))) none in
    let neither : (is_some (running_of node thread s) ≡ false) × (has_unclosed node thread s ≡ false) = or-neither (is_some (running_of node thread s)) (has_unclosed node thread s) turn.0 in
    sound-begun g s node thread segments reading sound up seat.0 seat.1 (is_none (running_of node thread s) neither.0) neither.1 turn.1

keeps-set_range : (g : Geometry) (s : State) (node thread segment offset len : ℕ) (t : Transaction) → Sound g s → s.phase ≡ Up → running_of node thread s ≡ Some t → set_range_refusal g t segment offset len ≡ None → Sound g (changed s (marked t segment offset len))
keeps-set_range g s node thread segment offset len t sound up found none =
    let held : (not (holds t segment) ≡ false) × (refuse_if (not (locks t segment)) (ReadOnly segment) _ ≡ None) = passed (not (holds t segment)) NotLocked _ none in
    let locked : (not (locks t segment) ≡ false) × (refuse_if (len == 0) EmptyRange (refuse_if (not (nat_le (offset + len) (segment_len g))) (OutOfSegment None) (refuse_if (not (nat_le (ranges (marked t segment offset len).marks) 64)) TooManyRanges None)) ≡ None) = passed (not (locks t segment)) (ReadOnly segment) _ held.1 in
    let some : ((len == 0) ≡ false) × (refuse_if (not (nat_le (offset + len) (segment_len g))) (OutOfSegment None) (refuse_if (not (nat_le (ranges (marked t segment offset len).marks) 64)) TooManyRanges None) ≡ None) = passed (len == 0) EmptyRange _ locked.1 in
    let inside : (not (nat_le (offset + len) (segment_len g)) ≡ false) × (refuse_if (not (nat_le (ranges (marked t segment offset len).marks) 64)) TooManyRanges None ≡ None) = passed (not (nat_le (offset + len) (segment_len g))) (OutOfSegment None) _ some.1 in
    let few : nat_le (ranges (marked t segment offset len).marks) 64 ≡ true = not-false _ (passed (not (nat_le (ranges (marked t segment offset len).marks) 64)) TooManyRanges None inside.1).0 in
    keeps-changed g s node thread t (marked t segment offset len) sound up found (record { same_node = refl; same_thread = refl; same_locked = refl; same_reading = refl })
    (proper-marked g t segment offset len (found-all (is_by node thread) (IsProper g) s.running t found sound.running_proper) (not-false (locks t segment) locked.0) (leb-true (ranges (marked t segment offset len).marks) 64 few))

keeps-write : (g : Geometry) (s : State) (node thread segment offset : ℕ) (bytes : List ℕ) (t : Transaction) → Sound g s → s.phase ≡ Up → running_of node thread s ≡ Some t → write_refusal g t segment offset bytes ≡ None → Sound g (changed s (written t segment offset bytes))
keeps-write g s node thread segment offset bytes t sound up found none =
    let held : (not (holds t segment) ≡ false) × (refuse_if (not (locks t segment)) (ReadOnly segment) _ ≡ None) = passed (not (holds t segment)) NotLocked _ none in
    let locked : (not (locks t segment) ≡ false) × (refuse_if (not (nat_le (offset + length bytes) (segment_len g))) (OutOfSegment None) (refuse_if (not (all_set offset (length bytes) (segment_of segment t.marks))) NoRange None) ≡ None) = passed (not (locks t segment)) (ReadOnly segment) _ held.1 in
    let inside : (not (nat_le (offset + length bytes) (segment_len g)) ≡ false) × (refuse_if (not (all_set offset (length bytes) (segment_of segment t.marks))) NoRange None ≡ None) = passed (not (nat_le (offset + length bytes) (segment_len g))) (OutOfSegment None) _ locked.1 in
    let set : all_set offset (length bytes) (segment_of segment t.marks) ≡ true = not-false _ (passed (not (all_set offset (length bytes) (segment_of segment t.marks))) NoRange None inside.1).0 in
    keeps-changed g s node thread t (written t segment offset bytes) sound up found (record { same_node = refl; same_thread = refl; same_locked = refl; same_reading = refl })
    (proper-written g t segment offset bytes (found-all (is_by node thread) (IsProper g) s.running t found sound.running_proper) (not-false (locks t segment) locked.0) set)

keeps-reserve : (g : Geometry) (s : State) (node thread : ℕ) (t : Transaction) (reply : Reply) (new : State) → Sound g s → s.phase ≡ Up → running_of node thread s ≡ Some t → ReserveRow s t reply new → Sound g new
keeps-reserve g s node thread t reply new sound up found row =
    let by : (t.node ≡ node) × (t.thread ≡ thread) = is_by-both node thread t (found-passes (is_by node thread) s.running t found) in
    let own : running_of t.node t.thread s ≡ Some t =
    subst (λ (n : ℕ). running_of n t.thread s ≡ Some t) (sym by.0) (subst (λ (n : ℕ). running_of node n s ≡ Some t) (sym by.1) found) in
    match-case (Sound g new) (is_empty t.marks) _ _
    (λ nothing h. after g (dropped s t.node t.thread) new (sound-dropped g s t.node t.thread sound up) h.1)
    (λ some h. elim h [
      | inl reserved_now ↦ after g (appended s t) new (sound-appended g s t sound up own some) reserved_now.3
      | inr refused ↦ after g s new sound refused.3
    ])
    row

keeps-moves : (g : Geometry) (s : State) (node steps count : ℕ) (reply : Reply) (new : State) → Sound g s → s.phase ≡ Up → steps ≤ 4 → s.ack node ≤ count → count ≤ front node s.history → Moves s node steps count reply new → Sound g new
keeps-moves g s node steps count reply new sound up few above within row =
    let moved : Sound g (flushed_to s node steps count) = sound-flushed_to g s node steps count sound up few above within in
    elim row [
      | inl stepped ↦ after g (flushed_to s node steps count) new moved stepped.1
      | inr fault ↦ after g (halting (flushed_to s node steps count) node) new (sound-halting g (flushed_to s node steps count) node moved up) fault.1
    ]

keeps-flush : (g : Geometry) (s : State) (node : ℕ) (reply : Reply) (new : State) → Sound g s → s.phase ≡ Up → FlushRow s node (s.flush node).steps (s.flush node).taken reply new → Sound g new
keeps-flush g s node reply new sound up row =
    let steps : ℕ = (s.flush node).steps in
    let count : ℕ = (s.flush node).taken in
    match-case (Sound g new) ((s.flush node).steps == 0) _ _
    (λ none h. match-case (Sound g new) (front node s.history == s.ack node) _ _
    (λ same nothing. after g s new sound nothing.1)
    (λ more moves. keeps-moves g s node 1 (front node s.history) reply new sound up (omega arith) (sound.acked node) (le_refl (front node s.history)) moves)
    h)
    (λ under_way h.
    let some : 1 ≤ (s.flush node).steps = some_steps (s.flush node).steps under_way in
    let above : s.ack node ≤ (s.flush node).taken = sound.taken node some in
    let within : (s.flush node).taken ≤ front node s.history = sound.taken_closed node some in
    match-case (Sound g new) (nat_lt (s.flush node).steps 3) _ _
    (λ less moves. keeps-moves g s node ((s.flush node).steps + 1) (s.flush node).taken reply new sound up (let below = ltb-true (s.flush node).steps 3 less in omega (arith, below)) above within moves)
    (λ last ends. elim ends [
      | inl acked ↦ after g (acknowledged s node (s.flush node).taken) new (sound-acknowledged g s node (s.flush node).taken sound up above within) acked.1
      | inr fault ↦ after g (halting (flushed_to s node 4 (s.flush node).taken) node) new
          (sound-halting g (flushed_to s node 4 (s.flush node).taken) node (sound-flushed_to g s node 4 (s.flush node).taken sound up (omega arith) above within) up) fault.1
    ])
    h)
    row

keeps-leave : (g : Geometry) (s : State) (node segment : ℕ) (reply : Reply) (new : State) → Sound g s → s.phase ≡ Up → leave_refusal s node segment ≡ None → LeaveRow s node segment reply new → Sound g new
keeps-leave g s node segment reply new sound up free row =
    elim row [
      | inl leaves ↦ after g (placed s segment Travelling) new (sound-leave g s node segment sound up free leaves.1) leaves.2
      | inr stays ↦ elim stays [ inl unflushed ↦ after g s new sound unflushed.2 | inr writing ↦ after g s new sound writing.1 ]
    ]

keeps-arrive : (g : Geometry) (place : Place) (s : State) (node segment : ℕ) (reply : Reply) (new : State) → Sound g s → s.phase ≡ Up → node < g.nodes → s.place segment ≡ place → ArriveRow place s node segment reply new → Sound g new
keeps-arrive g (At other) s node segment reply new sound up node_in is row = after g s new sound row.1
keeps-arrive g Travelling s node segment reply new sound up node_in is row =
    elim row [
      | inl arrives ↦ after g (placed s segment (At node)) new (sound-arrive g s node segment sound up node_in is) arrives.1
      | inr behind ↦ after g s new sound behind.3
    ]

keeps-recover : (g : Geometry) (phase : Phase) (s : State) (reply : Reply) (new : State) → Sound g s → RecoverRow phase g s reply new → Sound g new
keeps-recover g Up s reply new sound row = after g s new sound row.1
keeps-recover g (DownAt cut) s reply new sound row =
    elim row [
      | inl stepped ↦ after g s new sound stepped.2
      | inr others ↦ elim others [
        | inl fault ↦ after g s new sound fault.1
        | inr recovered ↦ after g (fresh g (s.earlier ++ kept s.history cut) Up) new (sound-recovered g s cut sound) recovered.1
      ]
    ]

-- the phase says nothing else
pub sound-phase : (g : Geometry) (s : State) (phase : Phase) → Sound g s → DownCut g (record s { phase = phase }) → Sound g (record s { phase = phase })
sound-phase g s phase sound down = record {
  earlier_proper = sound.earlier_proper;
  history_proper = sound.history_proper;
  running_proper = sound.running_proper;
  earlier_set = sound.earlier_set;
  history_set = sound.history_set;
  apart = sound.apart;
  holders_here = sound.holders_here;
  history_here = sound.history_here;
  ordered = sound.ordered;
  acked = sound.acked;
  taken = sound.taken;
  taken_closed = sound.taken_closed;
  earlier_closed = sound.earlier_closed;
  few_steps = sound.few_steps;
  places_known = sound.places_known;
  down_cut = down;
}

keeps-or_halts : (may : Reply → Bool) (g : Geometry) (s : State) (node : ℕ) (reply : Reply) (new : State) → Sound g s → s.phase ≡ Up → OrHalts may s node reply new → Sound g new
keeps-or_halts may g s node reply new sound up row =
    elim row [ inl stays ↦ after g s new sound stays.1 | inr fault ↦ after g (halting s node) new (sound-halting g s node sound up) fault.1 ]

keeps-stop : (g : Geometry) (phase : Phase) (s : State) (reply : Reply) (new : State) → Sound g s → StopRow phase g s reply new → Sound g new
keeps-stop g Up s reply new sound row = after g (record s { phase = DownAt row.0 }) new (sound-phase g s (DownAt row.0) sound (stopped-cut g s row.0 row.1)) row.3
keeps-stop g (DownAt cut) s reply new sound row = after g s new sound row.1

up_of : {phase : Phase} → (phase ≡ Up) ⊎ (false ≡ true) → phase ≡ Up
up_of when = elim when [ inl up ↦ up | inr never ↦ absurd cc ]

when-passed : (phase : Phase) (works : Bool) (others : Option Refusal) → refuse_if (not (is_up phase) && not works) Down others ≡ None → (phase ≡ Up) ⊎ (works ≡ true)
when-passed Up works others h = inl refl
when-passed (DownAt cut) true others h = inr refl
when-passed (DownAt cut) false others h = absurd cc

pub sound-row : (m : Setting) (s : State) (event : Event) (reply : Reply) (new : State) → Sound m.geometry s → is_known m.geometry event ≡ true → (s.phase ≡ Up) ⊎ (works_down event ≡ true) → Row m s event reply new → Sound m.geometry new
sound-row m s (Begin node thread segments reading) reply new sound known_event when row =
    unless-keeps m.geometry (begin_refusal m.geometry s node thread segments reading) s reply new _ sound
    (λ none h. after m.geometry (begun m.geometry s node thread segments reading) new (keeps-begin m.geometry s node thread segments reading sound (up_of when) known_event none) h.1) row
sound-row m s (SetRange node thread segment offset len) reply new sound known_event when row =
    running-keeps m.geometry (running_of node thread s) s reply new _ sound
    (λ t found. unless-keeps m.geometry (set_range_refusal m.geometry t segment offset len) s reply new _ sound
    (λ none h. after m.geometry (changed s (marked t segment offset len)) new (keeps-set_range m.geometry s node thread segment offset len t sound (up_of when) found none) h.1)) row
sound-row m s (Write node thread segment offset bytes) reply new sound known_event when row =
    running-keeps m.geometry (running_of node thread s) s reply new _ sound
    (λ t found. unless-keeps m.geometry (write_refusal m.geometry t segment offset bytes) s reply new _ sound
    (λ none h. after m.geometry (changed s (written t segment offset bytes)) new (keeps-write m.geometry s node thread segment offset bytes t sound (up_of when) found none) h.1)) row
sound-row m s (Read node thread segment offset len) reply new sound known_event when row =
    running-keeps m.geometry (running_of node thread s) s reply new _ sound
    (λ t found. unless-keeps m.geometry (read_refusal m.geometry t segment offset len) s reply new _ sound (λ none h. after m.geometry s new sound h.1)) row
sound-row m s (Abort node thread) reply new sound known_event when row =
    running-keeps m.geometry (running_of node thread s) s reply new _ sound
    (λ t found h. after m.geometry (dropped s node thread) new (sound-dropped m.geometry s node thread sound (up_of when)) h.1) row
sound-row m s (Reserve node thread) reply new sound known_event when row =
    running-keeps m.geometry (running_of node thread s) s reply new _ sound
    (λ t found h. keeps-reserve m.geometry s node thread t reply new sound (up_of when) found h) row
sound-row m s (Close node thread) reply new sound known_event when row =
    unless-keeps m.geometry (refuse_if (not (has_unclosed node thread s)) OutOfTurn None) s reply new _ sound
    (λ none h. after m.geometry (record s { history = closed_by node thread s.history }) new (sound-closed m.geometry s node thread sound (up_of when)) h.1) row
sound-row m s (FlushStep node) reply new sound known_event when row = keeps-flush m.geometry s node reply new sound (up_of when) row
sound-row m s (Leave node segment) reply new sound known_event when row =
    unless-keeps m.geometry (leave_refusal s node segment) s reply new _ sound
    (λ free h. keeps-leave m.geometry s node segment reply new sound (up_of when) free h) row
sound-row m s (Arrive node segment) reply new sound known_event when row = keeps-arrive m.geometry (s.place segment) s node segment reply new sound (up_of when) (node_known m.geometry node (segment ∷ []) [] known_event) refl row
sound-row m s (Deliver sender number segment to) reply new sound known_event when row = after m.geometry s new sound row.1
sound-row m s (Trim node) reply new sound known_event when row = after m.geometry s new sound row.1
sound-row m s (PageStep node segment page) reply new sound known_event when row = keeps-or_halts may_page m.geometry s node reply new sound (up_of when) row
sound-row m s (ResetStep node) reply new sound known_event when row = keeps-or_halts may_reset m.geometry s node reply new sound (up_of when) row
sound-row m s (Stop choices) reply new sound known_event when row = keeps-stop m.geometry s.phase s reply new sound row
sound-row m s RecoverStep reply new sound known_event when row = keeps-recover m.geometry s.phase s reply new sound row

pub sound-step : (m : Setting) (s : State) (event : Event) (reply : Reply) (new : State) → Sound m.geometry s → Step m s event reply new → Sound m.geometry new
sound-step m s event reply new sound step =
    unless-keeps m.geometry (common_refusal m.geometry s event) s reply new (Row m s event reply new) sound
    (λ none row. sound-row m s event reply new sound (known m.geometry s event none) (when-passed s.phase (works_down event) _ none) row) step

pub sound-run : (m : Setting) (s : State) (events : List Event) (replies : List Reply) (new : State) → Sound m.geometry s → Run m s events replies new → Sound m.geometry new
sound-run m s [] [] new sound run = after m.geometry s new sound run
sound-run m s [] (reply ∷ replies) new sound run = absurd run
sound-run m s (event ∷ events) [] new sound run = absurd run
sound-run m s (event ∷ events) (reply ∷ replies) new sound run =
    sound-run m run.0 events replies new (sound-step m s event reply run.0 sound run.1) run.2

pub history-well : (g : Geometry) (s : State) → Sound g s → All IsWellFormed (transactions s.history)
history-well g s sound = All-weaker (IsProper g) IsWellFormed (λ t proper. proper.well) (transactions s.history) sound.history_proper

pub acked-reserved : (g : Geometry) (s : State) (node : ℕ) → Sound g s → s.ack node ≤ reserved node s.history
acked-reserved g s node sound = le_trans (sound.acked node) (front-reserved node s.history)

pub unclosed-here : (g : Geometry) (s : State) → Sound g s → All (IsHere s.place) (unclosed s.history)
unclosed-here g s sound = All-right (IsHere s.place) s.running (unclosed s.history) sound.holders_here
