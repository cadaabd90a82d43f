-- What a closed cut keeps can be put first.
use Rattle.std.proofs.Common.{◌≡◌, ℕ, suc, Bool, true, false, cond, not, List, [], ◌∷◌, ◌++◌, map, filter, All, AllPairs, IsTrue, refl, sym, ◌∙◌, ap, subst, arith, true≢false, subst₂, IsPermutation}
use Rattle.std.proofs.lemmas.List.Elements.{All-head, All-tail, All-cons, filter-append}
use Rattle.lc_record.specs.Content.{Content}
use Rattle.lc_record.specs.Transaction.{Transaction, effect, effects, locks, Meet, IsWellFormed}
use Rattle.lc_record.proofs.LockLemmas.{meet_locks}
use Rattle.lc_model.specs.History.{Numbered, History, Cut, kept, rest, value, transactions, numbered, numbered_after, is_kept, IsClosed}
use Rattle.lc_model.proofs.Commute.{effect-swap}
use mathlib.Core.List.{map-append}
use Rattle.std.proofs.lemmas.List.Sorted.{IsPermutation-map, IsPermutation-filter_both}

pub effects-append : (ts us : List Transaction) (content : Content) → effects (ts ++ us) content ≡ effects us (effects ts content)
effects-append [] us content = refl
effects-append (t ∷ ts) us content = effects-append ts us (effect t content)

-- one transaction past those that it does not meet
pub effects-past : (t : Transaction) (ts : List Transaction) (content : Content) → IsWellFormed t → All IsWellFormed ts → All (λ u. Meet t u → ⊥) ts → effects ts (effect t content) ≡ effect t (effects ts content)
effects-past t [] content t_well well apart = refl
effects-past t (u ∷ ts) content t_well well apart =
    ap (λ c. effects ts c) (effect-swap t u content t_well (All-head IsWellFormed u ts well) (All-head (λ v. Meet t v → ⊥) u ts apart))
    ∙ effects-past t ts (effect u content) t_well (All-tail IsWellFormed u ts well) (All-tail (λ v. Meet t v → ⊥) u ts apart)

-- the transactions of those that pass a test, and of the others
abbrev pub passing : (Numbered → Bool) → List Numbered → List Transaction
passing keep xs = map (λ x. x.transaction) (filter keep xs)

abbrev pub failing : (Numbered → Bool) → List Numbered → List Transaction
failing keep xs = map (λ x. x.transaction) (filter (λ x. not (keep x)) xs)

abbrev pub all : List Numbered → List Transaction
all xs = map (λ x. x.transaction) xs

abbrev pub Pulls : (Numbered → Bool) → Numbered → Numbered → Type 0
Pulls keep x y = Meet x.transaction y.transaction → IsTrue (keep y) → IsTrue (keep x)

pub AllPairs-head : {X : Type 0} (R : X → X → Type 0) (x : X) (xs : List X) → AllPairs R (x ∷ xs) → All (R x) xs
AllPairs-head R x xs pairs k d k_in = pairs 0 (suc k) d (omega arith) (omega arith)

pub AllPairs-tail : {X : Type 0} (R : X → X → Type 0) (x : X) (xs : List X) → AllPairs R (x ∷ xs) → AllPairs R xs
AllPairs-tail R x xs pairs i j d i_lt j_in = pairs (suc i) (suc j) d (omega arith) (omega arith)

pub passing-yes : (keep : Numbered → Bool) (x : Numbered) (xs : List Numbered) → keep x ≡ true → passing keep (x ∷ xs) ≡ x.transaction ∷ passing keep xs
passing-yes keep x xs e = rw e

pub passing-no : (keep : Numbered → Bool) (x : Numbered) (xs : List Numbered) → keep x ≡ false → passing keep (x ∷ xs) ≡ passing keep xs
passing-no keep x xs e = rw e

pub failing-yes : (keep : Numbered → Bool) (x : Numbered) (xs : List Numbered) → keep x ≡ true → failing keep (x ∷ xs) ≡ failing keep xs
failing-yes keep x xs e = rw e

pub failing-no : (keep : Numbered → Bool) (x : Numbered) (xs : List Numbered) → keep x ≡ false → failing keep (x ∷ xs) ≡ x.transaction ∷ failing keep xs
failing-no keep x xs e = rw e

-- what fails meets nothing later that passes
abbrev pub Free : Numbered → Transaction → Type 0
Free x u = Meet x.transaction u → ⊥

pub apart_from_passing : (keep : Numbered → Bool) (x : Numbered) (xs : List Numbered) → keep x ≡ false → All (Pulls keep x) xs → All (Free x) (passing keep xs)
apart_from_passing keep x [] fails pulls = λ k d below. absurd (omega arith)
apart_from_passing keep x (y ∷ xs) fails pulls =
    elim (keep y) as (λ b. keep y ≡ b → All (Free x) (passing keep (y ∷ xs))) [
      | true ↦ λ e. subst (λ (ts : List Transaction). All (Free x) ts) (sym (passing-yes keep y xs e))
          (All-cons (Free x) y.transaction (passing keep xs)
          (λ meet. true≢false (sym (All-head (Pulls keep x) y xs pulls meet e) ∙ fails))
          (apart_from_passing keep x xs fails (All-tail (Pulls keep x) y xs pulls)))
      | false ↦ λ e. subst (λ (ts : List Transaction). All (Free x) ts) (sym (passing-no keep y xs e))
          (apart_from_passing keep x xs fails (All-tail (Pulls keep x) y xs pulls))
    ] refl

pub passing-well : (keep : Numbered → Bool) (xs : List Numbered) → All IsWellFormed (all xs) → All IsWellFormed (passing keep xs)
passing-well keep [] well = well
passing-well keep (x ∷ xs) well =
    elim (keep x) as (λ b. keep x ≡ b → All IsWellFormed (passing keep (x ∷ xs))) [
      | true ↦ λ e. subst (λ (ts : List Transaction). All IsWellFormed ts) (sym (passing-yes keep x xs e))
          (All-cons IsWellFormed x.transaction (passing keep xs) (All-head IsWellFormed x.transaction (all xs) well)
          (passing-well keep xs (All-tail IsWellFormed x.transaction (all xs) well)))
      | false ↦ λ e. subst (λ (ts : List Transaction). All IsWellFormed ts) (sym (passing-no keep x xs e))
          (passing-well keep xs (All-tail IsWellFormed x.transaction (all xs) well))
    ] refl

-- the value is the same where what passes goes first
pub same_value : (keep : Numbered → Bool) (xs : List Numbered) (content : Content) → All IsWellFormed (all xs) → AllPairs (Pulls keep) xs → effects (passing keep xs ++ failing keep xs) content ≡ effects (all xs) content
same_value keep [] content well closed = refl
same_value keep (x ∷ xs) content well closed =
    let t_well : IsWellFormed x.transaction = All-head IsWellFormed x.transaction (all xs) well in
    let ts_well : All IsWellFormed (all xs) = All-tail IsWellFormed x.transaction (all xs) well in
    let later : AllPairs (Pulls keep) xs = AllPairs-tail (Pulls keep) x xs closed in
    let next : effects (passing keep xs ++ failing keep xs) (effect x.transaction content) ≡ effects (all xs) (effect x.transaction content) = same_value keep xs (effect x.transaction content) ts_well later in
    elim (keep x) as (λ b. keep x ≡ b → effects (passing keep (x ∷ xs) ++ failing keep (x ∷ xs)) content ≡ effects (all xs) (effect x.transaction content)) [
      | true ↦ λ e. rw (passing-yes keep x xs e, failing-yes keep x xs e) next
      | false ↦ λ e. rw (passing-no keep x xs e, failing-no keep x xs e)
          (effects-append (passing keep xs) (x.transaction ∷ failing keep xs) content
          ∙ ap (λ c. effects (failing keep xs) c) (sym (effects-past x.transaction (passing keep xs) content t_well (passing-well keep xs ts_well)
          (apart_from_passing keep x xs e (AllPairs-head (Pulls keep) x xs closed))))
          ∙ sym (effects-append (passing keep xs) (failing keep xs) (effect x.transaction content))
          ∙ next)
    ] refl

abbrev pub locking : ℕ → List Transaction → List Transaction
locking segment ts = filter (λ t. locks t segment) ts

-- where a transaction meets none of these, none of them locks what it locks
pub locking-free : (t : Transaction) (segment : ℕ) (us : List Transaction) → locks t segment ≡ true → All (λ u. Meet t u → ⊥) us → locking segment us ≡ []
locking-free t segment [] has apart = refl
locking-free t segment (u ∷ us) has apart =
    let next : locking segment us ≡ [] = locking-free t segment us has (All-tail (λ v. Meet t v → ⊥) u us apart) in
    elim (locks u segment) as (λ b. locks u segment ≡ b → locking segment (u ∷ us) ≡ []) [
      | true ↦ λ e. absurd (All-head (λ v. Meet t v → ⊥) u us apart (meet_locks t u segment has e))
      | false ↦ λ e. rw e next
    ] refl

locking-past : (segment : ℕ) (t : Transaction) (ts us : List Transaction) → (locks t segment ≡ true → locking segment ts ≡ []) → locking segment (ts ++ t ∷ us) ≡ locking segment (t ∷ (ts ++ us))
locking-past segment t ts us none =
    let p : Transaction → Bool = λ u. locks u segment in
    elim (locks t segment) as (λ b. locks t segment ≡ b → locking segment (ts ++ t ∷ us) ≡ locking segment (t ∷ (ts ++ us))) [
      | true ↦ λ h. filter-append p ts (t ∷ us) ∙ rw (none h, h) (ap (λ vs. t ∷ vs) (sym (filter-append p ts us ∙ rw (none h))))
      | false ↦ λ h. filter-append p ts (t ∷ us) ∙ rw h (sym (filter-append p ts us))
    ] refl

-- and those that lock a segment stand as they stood
pub same_order : (keep : Numbered → Bool) (xs : List Numbered) (segment : ℕ) → AllPairs (Pulls keep) xs → locking segment (passing keep xs ++ failing keep xs) ≡ locking segment (all xs)
same_order keep [] segment closed = refl
same_order keep (x ∷ xs) segment closed =
    let next : locking segment (passing keep xs ++ failing keep xs) ≡ locking segment (all xs) = same_order keep xs segment (AllPairs-tail (Pulls keep) x xs closed) in
    let step : locking segment (x.transaction ∷ (passing keep xs ++ failing keep xs)) ≡ locking segment (all (x ∷ xs)) = ap (λ ts. cond (locks x.transaction segment) (x.transaction ∷ ts) ts) next in
    elim (keep x) as (λ b. keep x ≡ b → locking segment (passing keep (x ∷ xs) ++ failing keep (x ∷ xs)) ≡ locking segment (all (x ∷ xs))) [
      | true ↦ λ e. rw (passing-yes keep x xs e, failing-yes keep x xs e) step
      | false ↦ λ e. rw (passing-no keep x xs e, failing-no keep x xs e)
          (locking-past segment x.transaction (passing keep xs) (failing keep xs)
          (λ h. locking-free x.transaction segment (passing keep xs) h (apart_from_passing keep x xs e (AllPairs-head (Pulls keep) x xs closed)))
          ∙ step)
    ] refl

-- numbering changes nothing else
pub all-numbered_after : (before ts : List Transaction) → all (numbered_after before ts) ≡ ts
all-numbered_after before [] = refl
all-numbered_after before (t ∷ ts) = ap (λ us. t ∷ us) (all-numbered_after (before ++ t ∷ []) ts)

pub law_value : (start : Content) (earlier : List Transaction) (history : History) (cut : Cut) → All IsWellFormed (transactions history) → IsClosed history cut → effects (earlier ++ (kept history cut ++ rest history cut)) start ≡ value start earlier history
law_value start earlier history cut well closed =
    let same : all (numbered history) ≡ transactions history = all-numbered_after [] (transactions history) in
    effects-append earlier (kept history cut ++ rest history cut) start
    ∙ same_value (is_kept cut) (numbered history) (effects earlier start) (rw same well) closed
    ∙ ap (λ ts. effects ts (effects earlier start)) same
    ∙ sym (effects-append earlier (transactions history) start)

pub law_order : (history : History) (cut : Cut) (segment : ℕ) → IsClosed history cut → locking segment (kept history cut ++ rest history cut) ≡ locking segment (transactions history)
law_order history cut segment closed =
    same_order (is_kept cut) (numbered history) segment closed ∙ ap (λ ts. locking segment ts) (all-numbered_after [] (transactions history))

pub law_each : (history : History) (cut : Cut) → IsPermutation (transactions history) (kept history cut ++ rest history cut)
law_each history cut =
    let xs : List Numbered = numbered history in
    let p : Numbered → Bool = is_kept cut in
    let tx : Numbered → Transaction = λ x. x.transaction in
    let moved : IsPermutation (map tx xs) (map tx (filter p xs ++ filter (λ x. not (p x)) xs)) = IsPermutation-map tx xs _ (IsPermutation-filter_both p (λ x. not (p x)) (λ x. refl) xs) in
    let split : map tx (filter p xs ++ filter (λ x. not (p x)) xs) ≡ kept history cut ++ rest history cut = map-append tx (filter p xs) (filter (λ x. not (p x)) xs) in
    subst₂ (λ (a b : List Transaction). IsPermutation a b) (all-numbered_after [] (transactions history)) split moved
