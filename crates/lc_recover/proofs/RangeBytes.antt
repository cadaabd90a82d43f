-- Which ranges have a byte for a place, and that of a record at most one has.
use Rattle.std.proofs.Common.{◌≡◌, ℕ, suc, ◌<◌, ◌≤◌, true, ◌==◌, List, [], ◌∷◌, Contains, Option, Some, None, is_some, arith, refl, sym, ◌∙◌, ap, inl, inr}
use Rattle.std.specs.Prelude.{slice_get, All}
use Rattle.std.specs.Option.{option_or}
use Rattle.std.proofs.lemmas.Bool.{cases_Bool, eqb-true, eq-eqb, true≢false}
use Rattle.std.proofs.lemmas.List.Elements.{All-nil, All-cons, All-head, All-tail, All-weaker}
use Rattle.lc_record.specs.GrammarVersion.{end_of}
use Rattle.lc_record.specs.Newest.{byte_in, byte_of}
use Rattle.lc_record.specs.Record.{span_of, Chain, IsBefore}
use Rattle.lc_record.specs.declared.record.RangeData.{RangeData}
use Rattle.lc_record.proofs.ListLemmas.{option_or-some as some_first, option_or_right as or-right, option_or_left as or-left, option_or_cases as or-cases, none_from_not_some as not_some}
use Rattle.lc_record.proofs.PuttingLemmas.{byte_from-some, byte_from-known}
use Rattle.lc_recover.proofs.Counts.{contains-cons}

pub byte_in-some : (segment place : ℕ) (range : RangeData) → range.segment ≡ segment → range.offset ≤ place → place < end_of (span_of range) → is_some (byte_in segment place range) ≡ true
byte_in-some segment place range own from upto = rw (eq-eqb range.segment segment own) (byte_from-some range.offset range.bytes place from upto)

pub byte_in-known : (segment place : ℕ) (range : RangeData) → is_some (byte_in segment place range) ≡ true → (range.segment ≡ segment) × (range.offset ≤ place) × (place < end_of (span_of range))
byte_in-known segment place range h = elim (cases_Bool (range.segment == segment)) [
  | inl own ↦ (let bounds = byte_from-known range.offset range.bytes place (rw own at h) in (eqb-true range.segment segment own, bounds.0, bounds.1))
  | inr other ↦ absurd (true≢false (sym (rw other at h)))
]

pub byte_of-known : (segment place : ℕ) (ranges : List RangeData) → is_some (byte_of segment place ranges) ≡ true → (k : ℕ) × (range : RangeData) × (slice_get ranges k ≡ Some range) × (is_some (byte_in segment place range) ≡ true)
byte_of-known segment place [] h = absurd (true≢false (sym h))
byte_of-known segment place (r ∷ rs) h = elim (or-cases (byte_of segment place rs) (byte_in segment place r) h) [
  | inl behind ↦ (let rest = byte_of-known segment place rs behind in (suc rest.0, rest.1, rest.2, rest.3))
  | inr first ↦ (0, r, refl, first)
]

-- At most one of a record

before_before : (a b c : RangeData) → IsBefore a b → IsBefore b c → IsBefore a c
before_before a b c one other = elim one [
  | inl less ↦ (elim other [ inl more ↦ inl (omega (arith, less, more)) | inr same ↦ inl (omega (arith, less, same.0)) ])
  | inr alike ↦ (elim other [
    | inl more ↦ inl (omega (arith, alike.0, more))
    | inr same ↦ inr (alike.0 ∙ same.0, omega (arith, alike.1, same.1))
  ])
]

-- the first stands before all that follow
all_before : (a : RangeData) (rs : List RangeData) → Chain IsBefore (a ∷ rs) → All (IsBefore a) rs
all_before a [] chain = All-nil (IsBefore a)
all_before a (b ∷ rs) chain = All-cons (IsBefore a) b rs chain.0 (All-weaker (IsBefore b) (IsBefore a) (λ c later. before_before a b c chain.0 later) rs (all_before b rs chain.1))

chain_tail : (a : RangeData) (rs : List RangeData) → Chain IsBefore (a ∷ rs) → Chain IsBefore rs
chain_tail a [] chain = tt
chain_tail a (b ∷ rs) chain = chain.1

none_behind : (segment place : ℕ) (a b : RangeData) → is_some (byte_in segment place a) ≡ true → IsBefore a b → is_some (byte_in segment place b) ≡ true → ⊥
none_behind segment place a b one before other =
    let here = byte_in-known segment place a one in
    let there = byte_in-known segment place b other in
    elim before [
      | inl less ↦ omega (arith, less, here.0, there.0)
      | inr same ↦ omega (arith, same.1, here.2, there.1)
    ]

none_of : (segment place : ℕ) (rs : List RangeData) → All (λ r. is_some (byte_in segment place r) ≡ true → ⊥) rs → byte_of segment place rs ≡ None
none_of segment place [] none = refl
none_of segment place (r ∷ rs) none =
    ap (λ (o : Option ℕ). option_or o (byte_in segment place r)) (none_of segment place rs (All-tail (λ r. is_some (byte_in segment place r) ≡ true → ⊥) r rs none))
    ∙ not_some (byte_in segment place r) (All-head (λ r. is_some (byte_in segment place r) ≡ true → ⊥) r rs none)

-- where a range of ascending ones has the byte, it is theirs
pub one_range : (segment place : ℕ) (rs : List RangeData) (r : RangeData) → Chain IsBefore rs → Contains rs r → is_some (byte_in segment place r) ≡ true → byte_of segment place rs ≡ byte_in segment place r
one_range segment place [] r chain has some = absurd (omega (arith, has.1))
one_range segment place (a ∷ rs) r chain has some = elim (contains-cons a rs r has) [
  | inl first ↦
      let its : is_some (byte_in segment place a) ≡ true = ap (λ (x : RangeData). is_some (byte_in segment place x)) first ∙ some in
      ap (λ (o : Option ℕ). option_or o (byte_in segment place a))
      (none_of segment place rs (All-weaker (IsBefore a) (λ b. is_some (byte_in segment place b) ≡ true → ⊥) (λ b before other. none_behind segment place a b its before other) rs (all_before a rs chain)))
      ∙ ap (byte_in segment place) first
  | inr behind ↦
      let is = one_range segment place rs r (chain_tail a rs chain) behind some in
      some_first (byte_of segment place rs) (byte_in segment place a) (ap (λ (o : Option ℕ). is_some o) is ∙ some) ∙ is
]

-- a record has the byte that one of its ranges has
pub some_of : (segment place : ℕ) (rs : List RangeData) (r : RangeData) → Contains rs r → is_some (byte_in segment place r) ≡ true → is_some (byte_of segment place rs) ≡ true
some_of segment place [] r has some = absurd (omega (arith, has.1))
some_of segment place (a ∷ rs) r has some = elim (contains-cons a rs r has) [
  | inl first ↦ or-right (byte_of segment place rs) (byte_in segment place a) (ap (λ (x : RangeData). is_some (byte_in segment place x)) first ∙ some)
  | inr behind ↦ or-left (byte_of segment place rs) (byte_in segment place a) (some_of segment place rs r behind some)
]
