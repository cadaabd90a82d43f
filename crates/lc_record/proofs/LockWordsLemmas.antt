-- Locks that are read in their words.
use Rattle.std.proofs.Common.{◌≡◌, ◌≢◌, ℕ, zero, suc, ◌*◌, ◌^◌, ◌≤◌, Bool, true, false, not, eqb, ltb, true≢false, ne_eqb, List, [], ◌∷◌, length, take, drop, Option, Some, None, refl, sym, ap, subst, ◌∙◌, inl, inr, arith}
use Rattle.std.specs.Option.{is_some}
use Rattle.std.proofs.lemmas.Bool.{cases_Bool, le-ltb}
use Rattle.std.proofs.lemmas.Option.{cond_some, none-some, same_Some}
use Rattle.lc_record.specs.LockWords.{locks_in}
use Rattle.lc_record.specs.Reading.{◌>>=◌, Gives, many, is_lock, ascend, lock_at, locks_at}
use Rattle.lc_record.specs.declared.record.Lock.{Lock}
use Rattle.lc_record.proofs.ReadingLemmas.{bind_some}

pub lock_none : (words : List ℕ) → lock_at words ≡ None → locks_in words ≡ []
unfolding lock_at
lock_none [] e = refl
lock_none (a ∷ []) e = refl
lock_none (a ∷ b ∷ rest) e = elim (cases_Bool (ltb a (2 ^ 32))) [
  | inl small ↦ let some : Some (record { segment = a; seq = b }, rest) ≡ None = rw small at e in absurd (none-some _ (sym some))
  | inr big ↦ rw big refl
]

pub lock_next : (words : List ℕ) (x : Lock × List ℕ) → lock_at words ≡ Some x → locks_in words ≡ x.0 ∷ locks_in x.1
unfolding lock_at
lock_next [] x e = absurd cc
lock_next (a ∷ []) x e = absurd cc
lock_next (a ∷ b ∷ rest) x e =
    let made : Lock × List ℕ = (record { segment = a; seq = b }, rest) in
    let taken = cond_some (ltb a (2 ^ 32)) made x e in
    let first : locks_in (a ∷ b ∷ rest) ≡ made.0 ∷ locks_in made.1 = rw taken.0 refl in
    first ∙ ap (λ (y : Lock × List ℕ). y.0 ∷ locks_in y.1) taken.1

-- so many locks, and the words after them
pub record LocksStand (n : ℕ) (words : List ℕ) (locks : List Lock) (rest : List ℕ) : Type 0 where
  pub front : locks_in (take (2 * n) words) ≡ locks
  pub behind : drop (2 * n) words ≡ rest
  pub within : 2 * n ≤ length words

pub locks_stand : (n : ℕ) (words : List ℕ) (x : List Lock × List ℕ) → locks_at n words ≡ Some x → LocksStand n words x.0 x.1
unfolding many lock_at
locks_stand zero words x e =
    let same : ◌≡◌ {A = List Lock × List ℕ} ([], words) x = same_Some _ _ e in
    subst (λ (y : List Lock × List ℕ). LocksStand 0 words y.0 y.1) same (record { front = refl; behind = refl; within = omega arith })
locks_stand (suc n) [] x e = absurd cc
locks_stand (suc n) (a ∷ []) x e = absurd cc
locks_stand (suc n) (a ∷ b ∷ rest) x e = elim (cases_Bool (ltb a (2 ^ 32))) [
  | inl small ↦
      let lock : Lock = record { segment = a; seq = b } in
      let read : (locks_at n rest >>= λ others. Some (lock ∷ others.0, others.1)) ≡ Some x = rw small at e in
      let o = bind_some (locks_at n rest) (λ others. Some (lock ∷ others.0, others.1)) x read in
      let its : LocksStand n rest o.0.0 o.0.1 = locks_stand n rest o.0 o.1 in
      let made : List Lock × List ℕ = (lock ∷ o.0.0, o.0.1) in
      let same : made ≡ x = same_Some _ _ o.2 in
      let two : 2 * suc n ≡ suc (suc (2 * n)) = omega arith in
      subst (λ (y : List Lock × List ℕ). LocksStand (suc n) (a ∷ b ∷ rest) y.0 y.1) same (record {
        front = rw (two, small) (ap (λ (l : List Lock). lock ∷ l) its.front);
        behind = rw two its.behind;
        within = omega (arith, its.within);
      })
  | inr big ↦ let none : None ≡ Some x = rw big at e in absurd (none-some x none)
]

-- whether none is left
pub none_left : {X : Type 0} (words : List ℕ) (view : X → Lock × List ℕ) (o : Option X) (b : Bool) → Gives view o (lock_at words) → is_some o ≡ not b → b ≡ eqb (length (locks_in words)) 0
none_left words view None true e is = ap (λ (l : List Lock). eqb (length l) 0) (sym (lock_none words e))
none_left words view None false e is = absurd (true≢false (sym is))
none_left words view (Some x) true e is = absurd (true≢false is)
none_left words view (Some x) false e is =
    let some : length (locks_in words) ≢ 0 = omega (arith, ap (λ (l : List Lock). length l) (lock_next words (view x) e)) in
    sym (ne_eqb (length (locks_in words)) 0 some)

-- a lock that does not follow
pub stops_ascending : (before : ℕ) (lock : Lock) (rest : List Lock) → lock.segment ≤ before → ascend before (lock ∷ rest) ≡ false
stops_ascending before lock rest le = elim (cases_Bool (is_lock lock)) [
  | inl may ↦ let not_above : ltb before lock.segment ≡ false = le-ltb _ _ le in rw (may, not_above) refl
  | inr may_not ↦ rw may_not refl
]
