-- What the changes of a state leave of each thread's transaction, and of the history's value and counts.
use Rattle.std.proofs.Common.{◌≡◌, ◌≢◌, ℕ, Bool, true, false, not, ◌||◌, ◌==◌, List, [], ◌∷◌, ◌++◌, filter, find, Some, None, refl, sym, ◌∙◌, ap, subst, eqb-true, eq-eqb}
use Rattle.std.specs.Prelude.{if◌then◌else◌}
use Rattle.std.specs.List.{list_any}
use Rattle.lc_record.specs.Content.{Content}
use Rattle.lc_record.specs.Transaction.{Transaction, effect, effects}
use Rattle.std.proofs.lemmas.List.Folds.{list_any-append}
use Rattle.std.proofs.Math.Bool.{or-false, or-true}
use Rattle.lc_record.specs.declared.geometry.Geometry.{Geometry}
use Rattle.lc_model.specs.History.{History, transactions, value}
use Rattle.lc_model.specs.State.{State, update, is_by, running_of, without, with_changed, is_unclosed, has_unclosed}
use Rattle.lc_record.specs.Marks.{ascending, beside, no_marks}
use Rattle.lc_model.specs.Machine.{begun, changed, dropped, appended, closed_by}
use Rattle.lc_model.proofs.Law.{effects-append}
use Rattle.lc_model.proofs.Fronts.{entry, transactions-closed}
use Rattle.lc_model.proofs.Holders.{is_by-both, is_by-same}
use Rattle.lc_model.proofs.Keeps.{transactions-push}

-- Tables

pub update-own : {A : Type 0} (table : ℕ → A) (key : ℕ) (item : A) → update table key item key ≡ item
update-own table key item = rw (eq-eqb key key refl) refl

pub update-other : {A : Type 0} (table : ℕ → A) (key : ℕ) (item : A) (other : ℕ) → other ≢ key → update table key item other ≡ table other
update-other {A} table key item other differ =
    elim (other == key) as (λ b. (other == key) ≡ b → (if b then item else table other) ≡ table other) [
      | true ↦ λ e. absurd (differ (eqb-true other key e))
      | false ↦ λ e. refl
    ] refl

-- Threads

-- two threads of the store
abbrev pub Differ : ℕ → ℕ → ℕ → ℕ → Type 0
Differ node thread other_node other_thread = node ≡ other_node → thread ≡ other_thread → ⊥

pub is_by-other : (node thread : ℕ) (t : Transaction) → Differ t.node t.thread node thread → is_by node thread t ≡ false
is_by-other node thread t differ =
    elim (is_by node thread t) as (λ b. is_by node thread t ≡ b → b ≡ false) [
      | true ↦ λ e. let both : (t.node ≡ node) × (t.thread ≡ thread) = is_by-both node thread t e in absurd (differ both.0 both.1)
      | false ↦ λ e. refl
    ] refl

find-first : (p : Transaction → Bool) (t : Transaction) (ts : List Transaction) → p t ≡ true → find p (t ∷ ts) ≡ Some t
find-first p t ts e = rw e refl

find-behind : (p : Transaction → Bool) (t : Transaction) (ts : List Transaction) → p t ≡ false → find p (t ∷ ts) ≡ find p ts
find-behind p t ts e = rw e refl

same-head : (p : Transaction → Bool) (t : Transaction) (us ts : List Transaction) → find p us ≡ find p ts → find p (t ∷ us) ≡ find p (t ∷ ts)
same-head p t us ts same = elim (p t) as (λ b. (if b then Some t else find p us) ≡ (if b then Some t else find p ts)) [ true ↦ refl | false ↦ same ]

kept-head : (p : Transaction → Bool) (t : Transaction) (ts : List Transaction) → p t ≡ false → filter (λ u. not (p u)) (t ∷ ts) ≡ t ∷ filter (λ u. not (p u)) ts
kept-head p t ts e = rw e refl

left-head : (p : Transaction → Bool) (t : Transaction) (ts : List Transaction) → p t ≡ true → filter (λ u. not (p u)) (t ∷ ts) ≡ filter (λ u. not (p u)) ts
left-head p t ts e = rw e refl

abbrev pub new_one : Geometry → ℕ → ℕ → List ℕ → List ℕ → Transaction
new_one g node thread segments reading = record { node = node; thread = thread; locked = ascending g segments; reading = ascending g (beside segments reading); marks = no_marks g; writes = [] }

pub running-begun : (g : Geometry) (s : State) (node thread : ℕ) (segments reading : List ℕ) → running_of node thread (begun g s node thread segments reading) ≡ Some (new_one g node thread segments reading)
running-begun g s node thread segments reading =
    find-first (is_by node thread) (new_one g node thread segments reading) s.running (is_by-same node thread (new_one g node thread segments reading) refl refl)

pub running-begun_other : (g : Geometry) (s : State) (node thread : ℕ) (segments reading : List ℕ) (n k : ℕ) → Differ node thread n k → running_of n k (begun g s node thread segments reading) ≡ running_of n k s
running-begun_other g s node thread segments reading n k differ =
    find-behind (is_by n k) (new_one g node thread segments reading) s.running (is_by-other n k (new_one g node thread segments reading) differ)

changed-own : (t old : Transaction) (ts : List Transaction) → find (is_by t.node t.thread) ts ≡ Some old → find (is_by t.node t.thread) (with_changed t ts) ≡ Some t
changed-own t old [] found = absurd cc
changed-own t old (u ∷ ts) found =
    let p : Transaction → Bool = is_by t.node t.thread in
    elim (is_by t.node t.thread u) as (λ b. is_by t.node t.thread u ≡ b → find (is_by t.node t.thread) ((if b then t else u) ∷ with_changed t ts) ≡ Some t) [
      | true ↦ λ e. find-first (is_by t.node t.thread) t (with_changed t ts) (is_by-same t.node t.thread t refl refl)
      | false ↦ λ e.
          find-behind (is_by t.node t.thread) u (with_changed t ts) e
          ∙ changed-own t old ts (sym (find-behind (is_by t.node t.thread) u ts e) ∙ found)
    ] refl

pub running-changed : (s : State) (t old : Transaction) → running_of t.node t.thread s ≡ Some old → running_of t.node t.thread (changed s t) ≡ Some t
running-changed s t old found = changed-own t old s.running found

changed-other : (n k : ℕ) (t : Transaction) (ts : List Transaction) → Differ t.node t.thread n k → find (is_by n k) (with_changed t ts) ≡ find (is_by n k) ts
changed-other n k t [] differ = refl
changed-other n k t (u ∷ ts) differ =
    let next : find (is_by n k) (with_changed t ts) ≡ find (is_by n k) ts = changed-other n k t ts differ in
    elim (is_by t.node t.thread u) as (λ b. is_by t.node t.thread u ≡ b → find (is_by n k) ((if b then t else u) ∷ with_changed t ts) ≡ find (is_by n k) (u ∷ ts)) [
      | true ↦ λ e.
          let both : (u.node ≡ t.node) × (u.thread ≡ t.thread) = is_by-both t.node t.thread u e in
          find-behind (is_by n k) t (with_changed t ts) (is_by-other n k t differ) ∙ next
          ∙ sym (find-behind (is_by n k) u ts (is_by-other n k u (λ nodes threads. differ (sym both.0 ∙ nodes) (sym both.1 ∙ threads))))
      | false ↦ λ e. same-head (is_by n k) u (with_changed t ts) ts next
    ] refl

pub running-changed_other : (s : State) (t : Transaction) (n k : ℕ) → Differ t.node t.thread n k → running_of n k (changed s t) ≡ running_of n k s
running-changed_other s t n k differ = changed-other n k t s.running differ

dropped-own : (n k : ℕ) (ts : List Transaction) → find (is_by n k) (without n k ts) ≡ None
dropped-own n k [] = refl
dropped-own n k (u ∷ ts) =
    elim (is_by n k u) as (λ b. is_by n k u ≡ b → find (is_by n k) (without n k (u ∷ ts)) ≡ None) [
      | true ↦ λ e. rw e (dropped-own n k ts)
      | false ↦ λ e. subst (λ (us : List Transaction). find (is_by n k) us ≡ None) (sym (kept-head (is_by n k) u ts e)) (find-behind (is_by n k) u (without n k ts) e ∙ dropped-own n k ts)
    ] refl

pub running-dropped : (s : State) (node thread : ℕ) → running_of node thread (dropped s node thread) ≡ None
running-dropped s node thread = dropped-own node thread s.running

dropped-other : (node thread n k : ℕ) (ts : List Transaction) → Differ node thread n k → find (is_by n k) (without node thread ts) ≡ find (is_by n k) ts
dropped-other node thread n k [] differ = refl
dropped-other node thread n k (u ∷ ts) differ =
    let next : find (is_by n k) (without node thread ts) ≡ find (is_by n k) ts = dropped-other node thread n k ts differ in
    elim (is_by node thread u) as (λ b. is_by node thread u ≡ b → find (is_by n k) (without node thread (u ∷ ts)) ≡ find (is_by n k) (u ∷ ts)) [
      | true ↦ λ e.
          let both : (u.node ≡ node) × (u.thread ≡ thread) = is_by-both node thread u e in
          subst (λ (us : List Transaction). find (is_by n k) us ≡ find (is_by n k) (u ∷ ts)) (sym (left-head (is_by node thread) u ts e))
          (next ∙ sym (find-behind (is_by n k) u ts (is_by-other n k u (λ nodes threads. differ (sym both.0 ∙ nodes) (sym both.1 ∙ threads)))))
      | false ↦ λ e.
          subst (λ (us : List Transaction). find (is_by n k) us ≡ find (is_by n k) (u ∷ ts)) (sym (kept-head (is_by node thread) u ts e)) (same-head (is_by n k) u (without node thread ts) ts next)
    ] refl

pub running-dropped_other : (s : State) (node thread n k : ℕ) → Differ node thread n k → running_of n k (dropped s node thread) ≡ running_of n k s
running-dropped_other s node thread n k differ = dropped-other node thread n k s.running differ

-- Unclosed entries

pub unclosed-appended : (s : State) (t : Transaction) → has_unclosed t.node t.thread (appended s t) ≡ true
unclosed-appended s t =
    list_any-append (is_unclosed t.node t.thread) s.history (entry t false ∷ [])
    ∙ ap (λ b. list_any (is_unclosed t.node t.thread) s.history || (b || false)) (is_by-same t.node t.thread t refl refl)
    ∙ or-true (list_any (is_unclosed t.node t.thread) s.history)

pub unclosed-appended_other : (s : State) (t : Transaction) (n k : ℕ) → Differ t.node t.thread n k → has_unclosed n k (appended s t) ≡ has_unclosed n k s
unclosed-appended_other s t n k differ =
    list_any-append (is_unclosed n k) s.history (entry t false ∷ [])
    ∙ ap (λ b. list_any (is_unclosed n k) s.history || (b || false)) (is_by-other n k t differ)
    ∙ or-false (list_any (is_unclosed n k) s.history)

closed-one : (node thread n k : ℕ) (t : Transaction) (closed : Bool) → Differ node thread n k → is_unclosed n k (if is_unclosed node thread (entry t closed) then entry t true else entry t closed) ≡ is_unclosed n k (entry t closed)
closed-one node thread n k t true differ = refl
closed-one node thread n k t false differ =
    elim (is_by node thread t) as (λ b. is_by node thread t ≡ b → is_unclosed n k (if b then entry t true else entry t false) ≡ is_by n k t) [
      | true ↦ λ e.
          let both : (t.node ≡ node) × (t.thread ≡ thread) = is_by-both node thread t e in
          sym (is_by-other n k t (λ nodes threads. differ (sym both.0 ∙ nodes) (sym both.1 ∙ threads)))
      | false ↦ λ e. refl
    ] refl

own-one : (node thread : ℕ) (t : Transaction) (closed : Bool) → is_unclosed node thread (if is_unclosed node thread (entry t closed) then entry t true else entry t closed) ≡ false
own-one node thread t true = refl
own-one node thread t false =
    elim (is_by node thread t) as (λ b. is_by node thread t ≡ b → is_unclosed node thread (if b then entry t true else entry t false) ≡ false) [ true ↦ λ e. refl | false ↦ λ e. e ] refl

pub unclosed-closed_own : (node thread : ℕ) (history : History) → list_any (is_unclosed node thread) (closed_by node thread history) ≡ false
unclosed-closed_own node thread [] = refl
unclosed-closed_own node thread (e ∷ es) =
    ap (λ b. b || list_any (is_unclosed node thread) (closed_by node thread es)) (own-one node thread e.transaction e.closed) ∙ unclosed-closed_own node thread es

pub unclosed-closed_other : (node thread n k : ℕ) (history : History) → Differ node thread n k → list_any (is_unclosed n k) (closed_by node thread history) ≡ list_any (is_unclosed n k) history
unclosed-closed_other node thread n k [] differ = refl
unclosed-closed_other node thread n k (e ∷ es) differ =
    ap (λ b. b || list_any (is_unclosed n k) (closed_by node thread es)) (closed-one node thread n k e.transaction e.closed differ)
    ∙ ap (λ b. is_unclosed n k e || b) (unclosed-closed_other node thread n k es differ)

-- Values and counts

pub value-appended : (start : Content) (s : State) (t : Transaction) → value start s.earlier (appended s t).history ≡ effect t (value start s.earlier s.history)
value-appended start s t =
    effects-append s.earlier (transactions (s.history ++ entry t false ∷ [])) start
    ∙ ap (λ ts. effects ts (effects s.earlier start)) (transactions-push s.history (entry t false))
    ∙ effects-append (transactions s.history) (t ∷ []) (effects s.earlier start)
    ∙ ap (effect t) (sym (effects-append s.earlier (transactions s.history) start))

pub value-closed : (start : Content) (earlier : List Transaction) (node thread : ℕ) (history : History) → value start earlier (closed_by node thread history) ≡ value start earlier history
value-closed start earlier node thread history = ap (λ ts. effects (earlier ++ ts) start) (transactions-closed node thread history)
