-- Lists: what holds of each element and of each two, in parts of a list and where one is found.
use Rattle.std.proofs.Common.{◌≡◌, Bool, true, false, List, [], ◌∷◌, ◌++◌, map, filter, find, Some, None, All, AllPairs, refl, sym, ◌∙◌, ap, subst, arith, true≢false}
use Rattle.std.specs.List.{list_any}
use Rattle.std.proofs.lemmas.List.Elements.{All-nil, All-cons, All-head, All-tail, All-append}
use Rattle.std.proofs.lemmas.List.Kept.{AllPairs-cons}
use Rattle.std.proofs.lemmas.Bool.{or_parts as or-neither}
use Rattle.lc_record.proofs.ListLemmas.{All-append_left as All-left, All-append_right as All-right}
use Rattle.lc_model.proofs.Law.{AllPairs-head, AllPairs-tail}

pub AllPairs-nil : {X : Type 0} (R : X → X → Type 0) → AllPairs R []
AllPairs-nil R = λ i j d i_lt j_in. absurd (omega arith)

-- each two of a list in two parts
pub record Parts {X : Type 0} (R : X → X → Type 0) (xs ys : List X) : Type 0 where
  pub left : AllPairs R xs
  pub right : AllPairs R ys
  pub across : All (λ x. All (R x) ys) xs

pub split : {X : Type 0} (R : X → X → Type 0) (xs ys : List X) → AllPairs R (xs ++ ys) → Parts R xs ys
split R [] ys pairs = record { left = AllPairs-nil R; right = pairs; across = All-nil (λ x. All (R x) ys) }
split R (x ∷ xs) ys pairs =
    let behind : Parts R xs ys = split R xs ys (AllPairs-tail R x (xs ++ ys) pairs) in
    record {
      left = AllPairs-cons R x xs (All-left (R x) xs ys (AllPairs-head R x (xs ++ ys) pairs)) behind.left;
      right = behind.right;
      across = All-cons (λ z. All (R z) ys) x xs (All-right (R x) xs ys (AllPairs-head R x (xs ++ ys) pairs)) behind.across;
    }

pub join : {X : Type 0} (R : X → X → Type 0) (xs ys : List X) → Parts R xs ys → AllPairs R (xs ++ ys)
join R [] ys parts = parts.right
join R (x ∷ xs) ys parts =
    AllPairs-cons R x (xs ++ ys)
    (All-append (R x) xs ys (AllPairs-head R x xs parts.left) (All-head (λ z. All (R z) ys) x xs parts.across))
    (join R xs ys (record { left = AllPairs-tail R x xs parts.left; right = parts.right; across = All-tail (λ z. All (R z) ys) x xs parts.across }))

-- What find gives

pub found-all : {X : Type 0} (p : X → Bool) (P : X → Type 0) (xs : List X) (x : X) → find p xs ≡ Some x → All P xs → P x
found-all p P [] x h all = absurd cc
found-all p P (y ∷ ys) x h all =
    elim (p y) as (λ b. p y ≡ b → P x) [
      | true ↦ λ e. let same : y ≡ x = (let some : Some y ≡ Some x = rw e at h in cc) in subst P same (All-head P y ys all)
      | false ↦ λ e. found-all p P ys x (rw e at h) (All-tail P y ys all)
    ] refl

pub found-passes : {X : Type 0} (p : X → Bool) (xs : List X) (x : X) → find p xs ≡ Some x → p x ≡ true
found-passes p [] x h = absurd cc
found-passes p (y ∷ ys) x h =
    elim (p y) as (λ b. p y ≡ b → p x ≡ true) [
      | true ↦ λ e. let same : y ≡ x = (let some : Some y ≡ Some x = rw e at h in cc) in ap p (sym same) ∙ e
      | false ↦ λ e. found-passes p ys x (rw e at h)
    ] refl

-- where no two pass, it is the only one that does
pub found-only : {X : Type 0} (p : X → Bool) (xs : List X) (x : X) → find p xs ≡ Some x → AllPairs (λ y z. p y ≡ true → p z ≡ true → ⊥) xs → All (λ y. p y ≡ true → y ≡ x) xs
found-only p [] x h pairs = absurd cc
found-only {X} p (y ∷ ys) x h pairs =
    let Both : X → X → Type 0 = λ u v. p u ≡ true → p v ≡ true → ⊥ in
    let Only : X → Type 0 = λ u. p u ≡ true → u ≡ x in
    elim (p y) as (λ b. p y ≡ b → All (λ u. p u ≡ true → u ≡ x) (y ∷ ys)) [
      | true ↦ λ e.
          let same : y ≡ x = (let some : Some y ≡ Some x = rw e at h in cc) in
          All-cons Only y ys (λ passes. same) (λ k d k_in passes. absurd (AllPairs-head Both y ys pairs k d k_in e passes))
      | false ↦ λ e.
          All-cons Only y ys (λ passes. absurd (true≢false (sym passes ∙ e))) (found-only p ys x (rw e at h) (AllPairs-tail Both y ys pairs))
    ] refl

-- those that do not pass are each in the relation to it
pub found-apart : {X : Type 0} (p : X → Bool) (R : X → X → Type 0) (xs : List X) (x : X) → ((u v : X) → R u v → R v u) → find p xs ≡ Some x → AllPairs R xs → All (λ y. p y ≡ false → R y x) xs
found-apart p R [] x sides h pairs = absurd cc
found-apart {X} p R (y ∷ ys) x sides h pairs =
    let Apart : X → Type 0 = λ u. p u ≡ false → R u x in
    elim (p y) as (λ b. p y ≡ b → All (λ u. p u ≡ false → R u x) (y ∷ ys)) [
      | true ↦ λ e.
          let same : y ≡ x = (let some : Some y ≡ Some x = rw e at h in cc) in
          All-cons Apart y ys (λ fails. absurd (true≢false (sym e ∙ fails)))
          (λ k d k_in fails. subst (R _) same (sides y _ (AllPairs-head R y ys pairs k d k_in)))
      | false ↦ λ e.
          let behind : find p ys ≡ Some x = rw e at h in
          All-cons Apart y ys (λ fails. found-all p (R y) ys x behind (AllPairs-head R y ys pairs))
          (found-apart p R ys x sides behind (AllPairs-tail R y ys pairs))
    ] refl

pub not_found : {X : Type 0} (p : X → Bool) (xs : List X) → find p xs ≡ None → All (λ y. p y ≡ false) xs
not_found p [] h = All-nil (λ y. p y ≡ false)
not_found p (y ∷ ys) h =
    elim (p y) as (λ b. p y ≡ b → All (λ u. p u ≡ false) (y ∷ ys)) [
      | true ↦ λ e. absurd (let some : Some y ≡ None = rw e at h in cc)
      | false ↦ λ e. All-cons (λ u. p u ≡ false) y ys e (not_found p ys (rw e at h))
    ] refl

-- of those that pass a filter
pub All-filter_if : {X : Type 0} (p : X → Bool) (P : X → Type 0) (xs : List X) → All (λ x. p x ≡ true → P x) xs → All P (filter p xs)
All-filter_if p P [] all = All-nil P
All-filter_if {X} p P (x ∷ xs) all =
    let If : X → Type 0 = λ u. p u ≡ true → P u in
    let behind : All P (filter p xs) = All-filter_if p P xs (All-tail If x xs all) in
    elim (p x) as (λ b. p x ≡ b → All P (filter p (x ∷ xs))) [
      | true ↦ λ e. rw e (All-cons P x (filter p xs) (All-head If x xs all e) behind)
      | false ↦ λ e. rw e behind
    ] refl

pub All-from_map : {X Y : Type 0} (P : Y → Type 0) (f : X → Y) (xs : List X) → All P (map f xs) → All (λ x. P (f x)) xs
All-from_map P f [] all = All-nil (λ x. P (f x))
All-from_map P f (x ∷ xs) all =
    All-cons (λ y. P (f y)) x xs (All-head P (f x) (map f xs) all) (All-from_map P f xs (All-tail P (f x) (map f xs) all))

pub none_of : {A : Type 0} (p : A → Bool) (xs : List A) → list_any p xs ≡ false → All (λ x. p x ≡ false) xs
none_of p [] none = All-nil (λ x. p x ≡ false)
none_of p (x ∷ xs) none =
    let both : (p x ≡ false) × (list_any p xs ≡ false) = or-neither (p x) (list_any p xs) none in
    All-cons (λ y. p y ≡ false) x xs both.0 (none_of p xs both.1)
