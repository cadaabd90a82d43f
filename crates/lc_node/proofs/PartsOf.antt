-- What the record of a transaction's runs has of one segment.
use Rattle.std.proofs.Common.{◌≡◌, ℕ, ◌+◌, ◌≤◌, ◌^◌, ◌==◌, cond, Bool, true, false, List, [], ◌∷◌, Some, None, length, map, filter, refl, sym, ap, subst, ◌∙◌, inl, inr, arith, eqb-true, eq-eqb, true≢false}
use Rattle.std.specs.Prelude.{Option, option_map}
use Rattle.std.specs.List.{AllByRecursion}
use Rattle.std.proofs.lemmas.Option.{none-some, same_Some as some_same}
use Rattle.lc_record.specs.Part.{number_in, part_of}
use Rattle.lc_record.specs.Record.{IsLock, IsRecord, Locks, Writes}
use Rattle.lc_record.specs.declared.part.Part.{Part}
use Rattle.lc_record.specs.declared.record.Record.{Record}
use Rattle.lc_record.specs.declared.record.Lock.{Lock}
use Rattle.lc_range.specs.declared.range.Range.{Range}
use Rattle.lc_range.specs.RangeSet.{Has}
use Rattle.lc_tx.specs.Walk.{AreInside}
use Rattle.lc_tx.specs.Images.{bytes_of}
use Rattle.lc_tx.specs.declared.images.Images.{Ghosts}
use Rattle.lc_tx.specs.Prepared.{run_data}
use Rattle.lc_segments.specs.Laid.{LieInside}

-- Its number

-- the number of a segment among locks that are made of segments
pub number_made : (f : ℕ → ℕ) (s q : ℕ) (segments : List ℕ) → number_in s (map (λ segment. record { segment = segment; seq = f segment }) segments) ≡ Some q → q ≡ f s
number_made f s q [] is = absurd cc
number_made f s q (x ∷ xs) is = elim (x == s) as (λ (b : Bool). (x == s) ≡ b → cond b (Some (f x)) (number_in s (map (λ segment. record { segment = segment; seq = f segment }) xs)) ≡ Some q → q ≡ f s) [
  | true ↦ λ own e. sym (some_same (f x) q e) ∙ ap f (eqb-true x s own)
  | false ↦ λ other e. number_made f s q xs e
] refl is

-- a lock's number is one of those that are written
pub number_fits : (s q : ℕ) (locks : List Lock) → AllByRecursion IsLock locks → number_in s locks ≡ Some q → q ≤ 2 ^ 60
number_fits s q [] all is = absurd cc
number_fits s q (lock ∷ locks) all is = elim (lock.segment == s) as (λ (b : Bool). (lock.segment == s) ≡ b → cond b (Some lock.seq) (number_in s locks) ≡ Some q → q ≤ 2 ^ 60) [
  | true ↦ λ own e. (let same : lock.seq ≡ q = some_same lock.seq q e in let high = all.0.3 in omega arith)
  | false ↦ λ other e. number_fits s q locks all.1 e
] refl is

no_number : (s : ℕ) (locks : List Lock) → number_in s locks ≡ None → Locks s locks → ⊥
no_number s [] none has = has
no_number s (lock ∷ locks) none has = elim (lock.segment == s) as (λ (b : Bool). (lock.segment == s) ≡ b → cond b (Some lock.seq) (number_in s locks) ≡ None → ⊥) [
  | true ↦ λ own e. absurd cc
  | false ↦ λ other e. elim has [
    | inl here ↦ absurd (true≢false (sym (eq-eqb lock.segment s here) ∙ other))
    | inr later ↦ no_number s locks e later
  ]
] refl none

-- The part

pub part_is : (s : ℕ) (r : Record) (part : Part) → part_of s r ≡ Some part → (number_in s r.locks ≡ Some part.seq) × (part.ranges ≡ filter (λ range. range.segment == s) r.ranges)
part_is s r part is = elim (number_in s r.locks) as (λ (o : Option ℕ). number_in s r.locks ≡ o → option_map (λ seq. record { segment = s; seq = seq; ranges = filter (λ range. range.segment == s) r.ranges }) o ≡ Some part → (number_in s r.locks ≡ Some part.seq) × (part.ranges ≡ filter (λ range. range.segment == s) r.ranges)) [
  | None ↦ λ e h. absurd cc
  | Some q ↦ λ e h. let made : Part = record { segment = s; seq = q; ranges = filter (λ range. range.segment == s) r.ranges } in let same : made ≡ part = some_same made part h in
      (e ∙ ap (λ (p : Part). Some p.seq) same, sym (ap (λ (p : Part). p.ranges) same))
] refl is

pub no_part : (s : ℕ) (r : Record) → part_of s r ≡ None → number_in s r.locks ≡ None
no_part s r is = let made : ℕ → Part = λ seq. record { segment = s; seq = seq; ranges = filter (λ range. range.segment == s) r.ranges } in
    elim (number_in s r.locks) as (λ (o : Option ℕ). option_map made o ≡ None → o ≡ None) [
      | None ↦ λ h. refl
      | Some q ↦ λ h. absurd (none-some (made q) (sym h))
    ] is

-- What is set

module _ {I : Type 0} (m : Ghosts I) (images : I) where
  writes : (s : ℕ) (runs : List Range) (k : ℕ) → Has runs s k → Writes s (map (run_data m images) runs)
  writes s [] k has = has
  writes s (run ∷ runs) k has = elim has [
    | inl at ↦ inl (sym at.0)
    | inr later ↦ inr (writes s runs k later)
  ]

  -- where a record of these runs has no part of a segment, none of its positions is set
  pub none_set : (s : ℕ) (r : Record) (words : List ℕ) (runs : List Range) → IsRecord r words → r.ranges ≡ map (run_data m images) runs → part_of s r ≡ None → (k : ℕ) → Has runs s k → ⊥
  none_set s r words runs is ranges none k has =
      no_number s r.locks (no_part s r none) ((is.canonical.same_segments s).1 (subst (Writes s) (sym ranges) (writes s runs k has)))

  -- the runs of a segment lie inside
  pub lie_inside : (s : ℕ) (runs : List Range) → AreInside m images runs → LieInside s (length (bytes_of m images s)) runs
  lie_inside s [] inside = tt
  lie_inside s (run ∷ runs) inside = ((λ own. subst (λ (n : ℕ). run.offset + run.len ≤ length (bytes_of m images n)) own inside.0.1), lie_inside s runs inside.1)
