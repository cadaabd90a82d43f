-- The history's counts and its unclosed part, where an entry comes or is closed.
use Rattle.std.proofs.Common.{◌≡◌, ℕ, suc, ◌+◌, ◌≤◌, Bool, true, false, not, ◌&&◌, ◌||◌, List, [], ◌∷◌, ◌++◌, map, length, filter, All, refl, sym, ◌∙◌, ap, subst, arith, true≢false}
use Rattle.std.specs.Prelude.{if◌then◌else◌}
use Rattle.std.specs.List.{list_any}
use Rattle.std.proofs.lemmas.List.Elements.{All-nil, All-cons, filter-append}
use Rattle.std.proofs.lemmas.List.{map-append}
use Rattle.lc_record.specs.Transaction.{Transaction, locks, holds}
use Rattle.lc_record.proofs.LockLemmas.{lock_holds}
use Rattle.std.proofs.lemmas.Bool.{and_parts, and_from, or_from, or_parts as or-neither}
use Rattle.lc_model.specs.History.{Entry, History, transactions, entries_of, is_of, reserved, leading, front}
use Rattle.lc_model.specs.State.{State, is_by, is_unclosed, some_holder, is_held, is_locked}
use Rattle.lc_model.specs.Machine.{closed_by}
use Rattle.lc_model.specs.Sound.{unclosed, holders}
use Rattle.lc_model.proofs.Lists.{none_of}
use Rattle.std.proofs.lemmas.List.Elements.{All-append}

abbrev pub entry : Transaction → Bool → Entry
entry t closed = record { transaction = t; closed = closed }

-- An entry that comes

pub unclosed-push : (history : History) (t : Transaction) → unclosed (history ++ entry t false ∷ []) ≡ unclosed history ++ t ∷ []
unclosed-push history t =
    ap (map (λ (e : Entry). e.transaction)) (filter-append (λ (e : Entry). not e.closed) history (entry t false ∷ []))
    ∙ map-append (λ (e : Entry). e.transaction) (filter (λ (e : Entry). not e.closed) history) (entry t false ∷ [])

front-push-one : (node : ℕ) (u : Transaction) (closed : Bool) (history more : History) → front node more ≡ front node history → front node (entry u closed ∷ more) ≡ front node (entry u closed ∷ history)
front-push-one node u closed history more same =
    elim (is_of node u) as (λ b. is_of node u ≡ b → front node (entry u closed ∷ more) ≡ front node (entry u closed ∷ history)) [
      | true ↦ λ h. rw h (elim closed as (λ b. leading (b ∷ map (λ (e : Entry). e.closed) (entries_of node more)) ≡ leading (b ∷ map (λ (e : Entry). e.closed) (entries_of node history))) [
        | true ↦ ap (λ n. 1 + n) same
        | false ↦ refl
      ])
      | false ↦ λ h. rw h same
    ] refl

-- an unclosed entry at the end adds nothing to the closed prefix
pub front-push : (node : ℕ) (history : History) (t : Transaction) → front node (history ++ entry t false ∷ []) ≡ front node history
front-push node [] t =
    elim (is_of node t) as (λ b. is_of node t ≡ b → front node (entry t false ∷ []) ≡ 0) [
      | true ↦ λ h. rw h
      | false ↦ λ h. rw h
    ] refl
front-push node (e ∷ es) t = front-push-one node e.transaction e.closed es (es ++ entry t false ∷ []) (front-push node es t)

-- An entry that is closed

pub closing : (b : Bool) (e : Entry) → (if b then record e { closed = true } else e).transaction ≡ e.transaction
closing true e = refl
closing false e = refl

pub transactions-closed : (node thread : ℕ) (history : History) → transactions (closed_by node thread history) ≡ transactions history
transactions-closed node thread [] = refl
transactions-closed node thread (e ∷ es) =
    ap (λ t. t ∷ transactions (closed_by node thread es)) (closing (is_unclosed node thread e) e)
    ∙ ap (λ ts. e.transaction ∷ ts) (transactions-closed node thread es)

unclosed-closed-one : (node thread : ℕ) (t : Transaction) (closed : Bool) (es : History) → unclosed (closed_by node thread es) ≡ filter (λ u. not (is_by node thread u)) (unclosed es) → unclosed (closed_by node thread (entry t closed ∷ es)) ≡ filter (λ u. not (is_by node thread u)) (unclosed (entry t closed ∷ es))
unclosed-closed-one node thread t true es next = next
unclosed-closed-one node thread t false es next =
    elim (is_by node thread t) as (λ b. is_by node thread t ≡ b → unclosed (closed_by node thread (entry t false ∷ es)) ≡ filter (λ u. not (is_by node thread u)) (unclosed (entry t false ∷ es))) [
      | true ↦ λ h. rw h next
      | false ↦ λ h. rw h (ap (λ ts. t ∷ ts) next)
    ] refl

pub unclosed-closed : (node thread : ℕ) (history : History) → unclosed (closed_by node thread history) ≡ filter (λ u. not (is_by node thread u)) (unclosed history)
unclosed-closed node thread [] = refl
unclosed-closed node thread (e ∷ es) = unclosed-closed-one node thread e.transaction e.closed es (unclosed-closed node thread es)

front-more : (node : ℕ) (u : Transaction) (history more : History) → front node history ≤ front node more → front node (entry u true ∷ history) ≤ front node (entry u true ∷ more)
front-more node u history more less =
    elim (is_of node u) as (λ b. is_of node u ≡ b → front node (entry u true ∷ history) ≤ front node (entry u true ∷ more)) [
      | true ↦ λ h. rw h (omega (arith, less))
      | false ↦ λ h. rw h less
    ] refl

front-any : (node : ℕ) (u : Transaction) (closed : Bool) (history more : History) → front node history ≤ front node more → front node (entry u false ∷ history) ≤ front node (entry u closed ∷ more)
front-any node u closed history more less =
    elim (is_of node u) as (λ b. is_of node u ≡ b → front node (entry u false ∷ history) ≤ front node (entry u closed ∷ more)) [
      | true ↦ λ h. rw h (omega arith)
      | false ↦ λ h. rw h less
    ] refl

front-closed-one : (node n thread : ℕ) (t : Transaction) (closed : Bool) (es : History) → front node es ≤ front node (closed_by n thread es) → front node (entry t closed ∷ es) ≤ front node (closed_by n thread (entry t closed ∷ es))
front-closed-one node n thread t true es next = front-more node t es (closed_by n thread es) next
front-closed-one node n thread t false es next =
    elim (is_by n thread t) as (λ b. is_by n thread t ≡ b → front node (entry t false ∷ es) ≤ front node (closed_by n thread (entry t false ∷ es))) [
      | true ↦ λ h. rw h (front-any node t true es (closed_by n thread es) next)
      | false ↦ λ h. rw h (front-any node t false es (closed_by n thread es) next)
    ] refl

-- closing never makes a closed prefix shorter
pub front-closed : (node n thread : ℕ) (history : History) → front node history ≤ front node (closed_by n thread history)
front-closed node n thread [] = omega arith
front-closed node n thread (e ∷ es) = front-closed-one node n thread e.transaction e.closed es (front-closed node n thread es)

leading-most : (marks : List Bool) → leading marks ≤ length marks
leading-most [] = omega arith
leading-most (true ∷ marks) =
    let next : leading marks ≤ length marks = leading-most marks in
    omega (arith, next)
leading-most (false ∷ marks) = omega arith

length-marks : (history : History) → length (map (λ (e : Entry). e.closed) history) ≡ length history
length-marks [] = refl
length-marks (e ∷ es) = ap suc (length-marks es)

pub front-reserved : (node : ℕ) (history : History) → front node history ≤ reserved node history
front-reserved node history =
    subst (λ (n : ℕ). front node history ≤ n) (length-marks (entries_of node history)) (leading-most (map (λ (e : Entry). e.closed) (entries_of node history)))

-- Tests of the unclosed

none-unclosed-one : (p : Transaction → Bool) (t : Transaction) (closed : Bool) (es : History) → (not closed && p t) ≡ false → All (λ u. p u ≡ false) (unclosed es) → All (λ u. p u ≡ false) (unclosed (entry t closed ∷ es))
none-unclosed-one p t true es fails next = next
none-unclosed-one p t false es fails next = All-cons (λ u. p u ≡ false) t (unclosed es) fails next

pub none-unclosed : (p : Transaction → Bool) (history : History) → list_any (λ (e : Entry). not e.closed && p e.transaction) history ≡ false → All (λ u. p u ≡ false) (unclosed history)
none-unclosed p [] none = All-nil (λ u. p u ≡ false)
none-unclosed p (e ∷ es) none =
    let both : ((not e.closed && p e.transaction) ≡ false) × (list_any (λ (x : Entry). not x.closed && p x.transaction) es ≡ false) = or-neither (not e.closed && p e.transaction) (list_any (λ (x : Entry). not x.closed && p x.transaction) es) none in
    none-unclosed-one p e.transaction e.closed es both.0 (none-unclosed p es both.1)

-- where none of those that hold locks passes, each of them fails
pub no_holder : (p : Transaction → Bool) (s : State) → some_holder p s ≡ false → All (λ u. p u ≡ false) (holders s)
no_holder p s none =
    let both : (list_any p s.running ≡ false) × (list_any (λ (e : Entry). not e.closed && p e.transaction) s.history ≡ false) = or-neither (list_any p s.running) (list_any (λ (e : Entry). not e.closed && p e.transaction) s.history) none in
    All-append (λ u. p u ≡ false) s.running (unclosed s.history) (none_of p s.running both.0) (none-unclosed p s.history both.1)

unlocked-any : {A : Type 0} (p q : A → Bool) (xs : List A) → ((x : A) → q x ≡ true → p x ≡ true) → list_any p xs ≡ false → list_any q xs ≡ false
unlocked-any p q [] imp none = refl
unlocked-any p q (x ∷ xs) imp none =
    let both : (p x ≡ false) × (list_any p xs ≡ false) = or-neither (p x) (list_any p xs) none in
    let later : list_any q xs ≡ false = unlocked-any p q xs imp both.1 in
    elim (q x) as (λ b. q x ≡ b → (b || list_any q xs) ≡ false) [
      | true ↦ λ e. absurd (true≢false (sym (imp x e) ∙ both.0))
      | false ↦ λ e. later
    ] refl

-- a segment that nobody holds nobody has for writing
pub no_lock : (s : State) (segment : ℕ) → is_held segment s ≡ false → is_locked segment s ≡ false
no_lock s segment none =
    let held : Entry → Bool = λ e. not e.closed && holds e.transaction segment in
    let locked : Entry → Bool = λ e. not e.closed && locks e.transaction segment in
    let both : (list_any (λ (t : Transaction). holds t segment) s.running ≡ false) × (list_any held s.history ≡ false) = or-neither (list_any (λ (t : Transaction). holds t segment) s.running) (list_any held s.history) none in
    let running : list_any (λ (t : Transaction). locks t segment) s.running ≡ false = unlocked-any (λ (t : Transaction). holds t segment) (λ (t : Transaction). locks t segment) s.running (λ t lock. lock_holds t segment lock) both.0 in
    let history : list_any locked s.history ≡ false =
    unlocked-any held locked s.history (λ e lock. let parts = and_parts (not e.closed) (locks e.transaction segment) lock in and_from (not e.closed) (holds e.transaction segment) parts.0 (lock_holds e.transaction segment parts.1)) both.1 in
    or_from _ _ running history
