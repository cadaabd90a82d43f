-- Those that hold locks stay apart, and at their tokens.
use Rattle.std.proofs.Common.{◌≡◌, ℕ, Bool, true, false, not, ◌==◌, List, [], ◌∷◌, ◌++◌, map, filter, find, get_or, Option, Some, None, All, AllPairs, refl, sym, ◌∙◌, ap, subst, true≢false, eqb-true, eq-eqb, inl, inr}
use Rattle.std.specs.Prelude.{if◌then◌else◌}
use Rattle.std.proofs.lemmas.List.Elements.{All-head, All-tail, All-append, All-map, All-filter, All-push}
use Rattle.std.proofs.lemmas.List.Kept.{AllPairs-cons, AllPairs-filter}
use Rattle.std.proofs.lemmas.List.Quantifiers.{all_pairs_push}
use Rattle.lc_record.specs.Transaction.{Transaction, is_member, locks, holds}
use Rattle.lc_record.specs.Marks.{ascending, beside}
use Rattle.lc_record.specs.declared.geometry.Geometry.{Geometry}
use Rattle.lc_model.specs.State.{Place, At, Travelling, State, is_by, running_of, has_unclosed, is_held, is_locked, without, with_changed}
use Rattle.lc_model.specs.Refusals.{refuse_if, is_at, is_busy, first_taken}
use Rattle.lc_model.specs.declared.refusal.Refusal.{Refusal}
use Rattle.lc_model.specs.declared.refusal.Refusal.TheVariants.{NotHere, Busy}
use Rattle.lc_model.specs.Sound.{AreApart, IsHere, holders, unclosed}
use Rattle.lc_model.proofs.Law.{AllPairs-head, AllPairs-tail}
use Rattle.lc_model.proofs.Lists.{Parts, split, join, found-all, found-only, found-apart, not_found, All-filter_if}
use Rattle.lc_model.proofs.Fronts.{no_holder, no_lock, none-unclosed}
use Rattle.std.proofs.lemmas.Bool.{or_cases, and_parts as and-both, not-true}
use Rattle.lc_record.proofs.LockLemmas.{lock_holds, meet_either, meet_sides, meet_same, holds_same, member_ascending, ascending_member, member_left, member_right, member_filter}
use Rattle.lc_record.proofs.ListLemmas.{All-append_left as All-left, All-append_right as All-right}

pub apart-sides : (t u : Transaction) → AreApart t u → AreApart u t
apart-sides t u apart = record {
  threads_differ = λ nodes threads. apart.threads_differ (sym nodes) (sym threads);
  locks_differ = λ meet. apart.locks_differ (meet_sides u t meet);
}

-- of the same thread, with the same locks
pub record SameHolder (t u : Transaction) : Type 0 where
  pub same_node : t.node ≡ u.node
  pub same_thread : t.thread ≡ u.thread
  pub same_locked : t.locked ≡ u.locked
  pub same_reading : t.reading ≡ u.reading

pub same-refl : (t : Transaction) → SameHolder t t
same-refl t = record { same_node = refl; same_thread = refl; same_locked = refl; same_reading = refl }

pub apart-same : (t u v : Transaction) → SameHolder t u → AreApart t v → AreApart u v
apart-same t u v same apart = record {
  threads_differ = λ nodes threads. apart.threads_differ (same.same_node ∙ nodes) (same.same_thread ∙ threads);
  locks_differ = λ meet. apart.locks_differ (meet_same u t v (sym same.same_locked) (sym same.same_reading) meet);
}

pub here-same : (place : ℕ → Place) (t u : Transaction) → SameHolder t u → IsHere place t → IsHere place u
here-same place t u same here = λ segment lock.
    here segment (holds_same u t segment (sym same.same_locked) (sym same.same_reading) lock) ∙ ap At same.same_node

-- Some are changed

pub map-apart : (f : Transaction → Transaction) (xs : List Transaction) → All (λ u. SameHolder u (f u)) xs → AllPairs AreApart xs → AllPairs AreApart (map f xs)
map-apart f [] same pairs = pairs
map-apart f (x ∷ xs) same pairs =
    let Same : Transaction → Type 0 = λ u. SameHolder u (f u) in
    AllPairs-cons AreApart (f x) (map f xs)
    (All-map (AreApart (f x)) f xs
    (λ k d k_in. apart-same x (f x) _ (All-head Same x xs same)
    (apart-sides _ x (apart-same _ _ x (All-tail Same x xs same k d k_in) (apart-sides x _ (AllPairs-head AreApart x xs pairs k d k_in))))))
    (map-apart f xs (All-tail Same x xs same) (AllPairs-tail AreApart x xs pairs))

pub map-across : (f : Transaction → Transaction) (xs ys : List Transaction) → All (λ u. SameHolder u (f u)) xs → All (λ x. All (AreApart x) ys) xs → All (λ x. All (AreApart x) ys) (map f xs)
map-across f xs ys same across =
    All-map (λ x. All (AreApart x) ys) f xs (λ k d k_in j e j_in. apart-same _ _ _ (same k d k_in) (across k d k_in j e j_in))

pub map-parts : (f : Transaction → Transaction) (xs ys : List Transaction) → All (λ u. SameHolder u (f u)) xs → AllPairs AreApart (xs ++ ys) → AllPairs AreApart (map f xs ++ ys)
map-parts f xs ys same pairs =
    let parts : Parts AreApart xs ys = split AreApart xs ys pairs in
    join AreApart (map f xs) ys (record { left = map-apart f xs same parts.left; right = parts.right; across = map-across f xs ys same parts.across })

pub map-here : (place : ℕ → Place) (f : Transaction → Transaction) (xs : List Transaction) → All (λ u. SameHolder u (f u)) xs → All (IsHere place) xs → All (IsHere place) (map f xs)
map-here place f xs same here = All-map (IsHere place) f xs (λ k d k_in. here-same place _ _ (same k d k_in) (here k d k_in))

-- whose a transaction is
pub is_by-both : (node thread : ℕ) (t : Transaction) → is_by node thread t ≡ true → (t.node ≡ node) × (t.thread ≡ thread)
is_by-both node thread t h =
    let both : ((t.node == node) ≡ true) × ((t.thread == thread) ≡ true) = and-both (t.node == node) (t.thread == thread) h in
    (eqb-true t.node node both.0, eqb-true t.thread thread both.1)

pub is_by-same : (node thread : ℕ) (t : Transaction) → t.node ≡ node → t.thread ≡ thread → is_by node thread t ≡ true
is_by-same node thread t nodes threads = rw (eq-eqb t.node node nodes, eq-eqb t.thread thread threads) refl

two_by : (node thread : ℕ) (t u : Transaction) → AreApart t u → is_by node thread t ≡ true → is_by node thread u ≡ true → ⊥
two_by node thread t u apart t_by u_by =
    let t_is : (t.node ≡ node) × (t.thread ≡ thread) = is_by-both node thread t t_by in
    let u_is : (u.node ≡ node) × (u.thread ≡ thread) = is_by-both node thread u u_by in
    apart.threads_differ (t_is.0 ∙ sym u_is.0) (t_is.1 ∙ sym u_is.1)

change-one : (b : Bool) (t u : Transaction) → (b ≡ true → SameHolder u t) → SameHolder u (if b then t else u)
change-one true t u same = same refl
change-one false t u same = same-refl u

-- the one transaction of a thread is changed
pub changed-same : (t old : Transaction) (xs : List Transaction) → find (is_by t.node t.thread) xs ≡ Some old → SameHolder old t → AllPairs AreApart xs → All (λ u. SameHolder u (if is_by t.node t.thread u then t else u)) xs
changed-same t old xs found same pairs =
    let p : Transaction → Bool = is_by t.node t.thread in
    let only : All (λ u. p u ≡ true → u ≡ old) xs = found-only p xs old found (λ i j d i_lt j_in. two_by t.node t.thread _ _ (pairs i j d i_lt j_in)) in
    λ k d k_in. change-one (p (get_or xs k d)) t (get_or xs k d)
    (λ passes. subst (λ (u : Transaction). SameHolder u t) (sym (only k d k_in passes)) same)

pub All-changed : (P : Transaction → Type 0) (t : Transaction) (xs : List Transaction) → P t → All P xs → All P (with_changed t xs)
All-changed P t xs new all =
    All-map P (λ u. if is_by t.node t.thread u then t else u) xs
    (λ k d k_in. elim (is_by t.node t.thread (get_or xs k d)) as (λ b. P (if b then t else get_or xs k d)) [ true ↦ new | false ↦ all k d k_in ])

-- Some are dropped

pub dropped-parts : (p : Transaction → Bool) (xs ys : List Transaction) → AllPairs AreApart (xs ++ ys) → AllPairs AreApart (filter p xs ++ ys)
dropped-parts p xs ys pairs =
    let parts : Parts AreApart xs ys = split AreApart xs ys pairs in
    join AreApart (filter p xs) ys (record { left = AllPairs-filter AreApart p xs parts.left; right = parts.right; across = All-filter p (λ x. All (AreApart x) ys) xs parts.across })

pub closed-parts : (p : Transaction → Bool) (xs ys : List Transaction) → AllPairs AreApart (xs ++ ys) → AllPairs AreApart (xs ++ filter p ys)
closed-parts p xs ys pairs =
    let parts : Parts AreApart xs ys = split AreApart xs ys pairs in
    join AreApart xs (filter p ys) (record { left = parts.left; right = AllPairs-filter AreApart p ys parts.right; across = λ k d k_in. All-filter p (AreApart (get_or xs k d)) ys (parts.across k d k_in) })

pub All-first : (P : Transaction → Type 0) (p : Transaction → Bool) (xs ys : List Transaction) → All P (xs ++ ys) → All P (filter p xs ++ ys)
All-first P p xs ys all = All-append P (filter p xs) ys (All-filter p P xs (All-left P xs ys all)) (All-right P xs ys all)

pub All-second : (P : Transaction → Type 0) (p : Transaction → Bool) (xs ys : List Transaction) → All P (xs ++ ys) → All P (xs ++ filter p ys)
All-second P p xs ys all = All-append P xs (filter p ys) (All-left P xs ys all) (All-filter p P ys (All-right P xs ys all))

-- One goes from the first part to the end of the second

pub moved-parts : (node thread : ℕ) (t : Transaction) (xs ys : List Transaction) → find (is_by node thread) xs ≡ Some t → AllPairs AreApart (xs ++ ys) → AllPairs AreApart (without node thread xs ++ (ys ++ t ∷ []))
moved-parts node thread t xs ys found pairs =
    let p : Transaction → Bool = is_by node thread in
    let q : Transaction → Bool = λ u. not (is_by node thread u) in
    let parts : Parts AreApart xs ys = split AreApart xs ys pairs in
    let t_across : All (AreApart t) ys = found-all p (λ x. All (AreApart x) ys) xs t found parts.across in
    let others : All (λ u. p u ≡ false → AreApart u t) xs = found-apart p AreApart xs t apart-sides found parts.left in
    let kept : All (λ u. AreApart u t) (filter q xs) = All-filter_if q (λ u. AreApart u t) xs (λ k d k_in passes. others k d k_in (not-true _ passes)) in
    let across : All (λ x. All (AreApart x) ys) (filter q xs) = All-filter q (λ x. All (AreApart x) ys) xs parts.across in
    join AreApart (filter q xs) (ys ++ t ∷ []) (record {
      left = AllPairs-filter AreApart q xs parts.left;
      right = all_pairs_push AreApart ys t parts.right (λ k d k_in. apart-sides t _ (t_across k d k_in));
      across = λ k d k_in. All-push (AreApart (get_or (filter q xs) k d)) ys t (across k d k_in) (kept k d k_in);
    })

pub All-moved : (P : Transaction → Type 0) (node thread : ℕ) (t : Transaction) (xs ys : List Transaction) → find (is_by node thread) xs ≡ Some t → All P (xs ++ ys) → All P (without node thread xs ++ (ys ++ t ∷ []))
All-moved P node thread t xs ys found all =
    All-append P (without node thread xs) (ys ++ t ∷ []) (All-filter (λ u. not (is_by node thread u)) P xs (All-left P xs ys all))
    (All-push P ys t (All-right P xs ys all) (found-all (is_by node thread) P xs t found (All-left P xs ys all)))

-- A new one

pub at_is : (node : ℕ) (p : Place) → is_at node p ≡ true → p ≡ At node
at_is node (At other) h = ap At (eqb-true other node h)
at_is node Travelling h = absurd cc

pub not_refused : (here held : Bool) (r q : Refusal) (next : Option Refusal) → refuse_if (not here) r (refuse_if held q next) ≡ None → (here ≡ true) × (held ≡ false) × (next ≡ None)
not_refused true true r q next h = absurd cc
not_refused true false r q next h = (refl, refl, h)
not_refused false held r q next h = absurd cc

-- where no segment of these is taken, each is here and not busy
pub none_taken : (node : ℕ) (s : State) (writing segments : List ℕ) (segment : ℕ) → first_taken node s writing segments ≡ None → is_member segment segments ≡ true → (s.place segment ≡ At node) × (is_busy writing s segment ≡ false)
none_taken node s writing [] segment none member = absurd (true≢false (sym member))
none_taken node s writing (x ∷ xs) segment none member =
    let now : (is_at node (s.place x) ≡ true) × (is_busy writing s x ≡ false) × (first_taken node s writing xs ≡ None) = not_refused (is_at node (s.place x)) (is_busy writing s x) (NotHere x) (Busy x) (first_taken node s writing xs) none in
    elim (x == segment) as (λ b. (x == segment) ≡ b → (s.place segment ≡ At node) × (is_busy writing s segment ≡ false)) [
      | true ↦ λ e.
          let same : x ≡ segment = eqb-true x segment e in
          (ap s.place (sym same) ∙ at_is node (s.place x) now.0, subst (λ (n : ℕ). is_busy writing s n ≡ false) same now.1)
      | false ↦ λ e. none_taken node s writing xs segment now.2 (rw e at member)
    ] refl

-- What a new transaction locks is free for it

-- it has the locks that are asked for, of both kinds
pub record Asks (g : Geometry) (t : Transaction) (segments reading : List ℕ) : Type 0 where
  pub locked_are : t.locked ≡ ascending g segments
  pub reading_are : t.reading ≡ ascending g (beside segments reading)

module _ (g : Geometry) (s : State) (t : Transaction) (segments reading : List ℕ) (asks : Asks g t segments reading)
    (free : first_taken t.node s segments (ascending g (segments ++ reading)) ≡ None) where
  its_lock : (segment : ℕ) → locks t segment ≡ true → is_member segment segments ≡ true
  its_lock segment lock = (member_ascending g segments segment (subst (λ (l : List ℕ). is_member segment l ≡ true) asks.locked_are lock)).1

  asked_for : (segment : ℕ) → holds t segment ≡ true → is_member segment (ascending g (segments ++ reading)) ≡ true
  asked_for segment held = elim (or_cases (locks t segment) (is_member segment t.reading) held) [
    | inl lock ↦
        let member = member_ascending g segments segment (subst (λ (l : List ℕ). is_member segment l ≡ true) asks.locked_are lock) in
        ascending_member g (segments ++ reading) segment member.0 (member_left segment segments reading member.1)
    | inr read ↦
        let member = member_ascending g (beside segments reading) segment (subst (λ (l : List ℕ). is_member segment l ≡ true) asks.reading_are read) in
        ascending_member g (segments ++ reading) segment member.0 (member_right segment segments reading (member_filter (λ n. not (is_member n segments)) segment reading member.1).1)
  ]

  its_place : (segment : ℕ) → holds t segment ≡ true → (s.place segment ≡ At t.node) × (is_busy segments s segment ≡ false)
  its_place segment held = none_taken t.node s segments (ascending g (segments ++ reading)) segment free (asked_for segment held)

  -- what it locks for writing nobody holds
  unheld : (segment : ℕ) → locks t segment ≡ true → is_held segment s ≡ false
  unheld segment lock =
      let busy : is_busy segments s segment ≡ false = (its_place segment (lock_holds t segment lock)).1 in
      rw (its_lock segment lock) at busy

  -- what it locks nobody has for writing
  unlocked : (segment : ℕ) → holds t segment ≡ true → is_locked segment s ≡ false
  unlocked segment held =
      elim (is_member segment segments) as (λ b. (if b then is_held segment s else is_locked segment s) ≡ false → is_locked segment s ≡ false) [
        | true ↦ λ none. no_lock s segment none
        | false ↦ λ none. none
      ] ((its_place segment held).1)

pub new-apart : (g : Geometry) (s : State) (t : Transaction) (segments reading : List ℕ) → Asks g t segments reading → running_of t.node t.thread s ≡ None → has_unclosed t.node t.thread s ≡ false
    → first_taken t.node s segments (ascending g (segments ++ reading)) ≡ None → All (AreApart t) (holders s)
new-apart g s t segments reading asks idle closed free =
    let p : Transaction → Bool = is_by t.node t.thread in
    let none_by : All (λ u. p u ≡ false) (holders s) = All-append (λ u. p u ≡ false) s.running (unclosed s.history) (not_found p s.running idle) (none-unclosed p s.history closed) in
    λ k d k_in. record {
      threads_differ = λ nodes threads. true≢false (sym (is_by-same t.node t.thread (get_or (holders s) k d) (sym nodes) (sym threads)) ∙ none_by k d k_in);
      locks_differ = λ meet. elim (meet_either t (get_or (holders s) k d) meet.0 meet.1) [
        | inl ours ↦ true≢false (sym ours.1 ∙ no_holder (λ u. holds u meet.0) s (unheld g s t segments reading asks free meet.0 ours.0) k d k_in)
        | inr theirs ↦ true≢false (sym theirs.1 ∙ no_holder (λ u. locks u meet.0) s (unlocked g s t segments reading asks free meet.0 theirs.0) k d k_in)
      ];
    }

pub new-here : (g : Geometry) (s : State) (t : Transaction) (segments reading : List ℕ) → Asks g t segments reading
    → first_taken t.node s segments (ascending g (segments ++ reading)) ≡ None → IsHere s.place t
new-here g s t segments reading asks free = λ segment held. (its_place g s t segments reading asks free segment held).0
