use Rattle.std.proofs.Common.{◌≡◌, ◌≤◌, ◌<◌, ◌∷◌, [], refl, inl, sym, ap, subst, true≢false, arith, lit<, lit≤}
use Rattle.std.proofs.Common.{◌+◌, ℕ, zero, suc, true, false, Some, None, is_some, slice_get}
use Rattle.lc_record.specs.Newest.{byte_of}
use Rattle.lc_model.specs.Merge.{IsGap, IsTwice}
use Rattle.lc_model.specs.ExamplesOfMerges.{first_byte, byte_range}
use Rattle.std.proofs.Common.{◌*◌, ap}
use Rattle.std.proofs.Math.Bool.{and-false}
use Rattle.lc_model.specs.Merge.{HasBytes}
use Rattle.std.proofs.Common.{eqb-true, ne_eqb, ◌==◌, subst, max}
use Rattle.lc_record.specs.Content.{segment_of}
use Rattle.lc_model.specs.Merge.{Page, page_number, record_number}
use Rattle.lc_model.specs.ExamplesOfMerges.{above_whole, whole_page, page_of}
use Rattle.lc_model.proofs.TwoRecords.{below_two, gap_below, none_of, not_by_number}
use Rattle.lc_model.proofs.examples_of_merges.whole_page_above.Goals as goal

not_twice_one : (seq : ℕ) → IsTwice above_whole 1 seq → ⊥
not_twice_one zero both = (let is : 0 < 0 = both.0 in absurd (omega (arith, is)))
not_twice_one (suc zero) both = (let is : 2 ≤ 1 = both.1 in absurd (omega (arith, is)))
not_twice_one (suc (suc zero)) both = (let is : 2 ≤ 1 = both.1 in absurd (omega (arith, is)))
not_twice_one (suc (suc (suc seq))) both =
    let n : ℕ = suc (suc (suc seq)) in
    let one : (1 == n) ≡ false = ne_eqb 1 n (λ same. omega (arith, same)) in
    let two : (2 == n) ≡ false = ne_eqb 2 n (λ same. omega (arith, same)) in
    let few : 2 ≤ 0 = rw (one, two) at both.1 in
    absurd (omega (arith, few))

not_twice : (segment seq : ℕ) → IsTwice above_whole segment seq → ⊥
not_twice segment seq both =
    elim (1 == segment) as (λ b. (1 == segment) ≡ b → ⊥) [
      | true ↦ λ is.
          let first : segment ≡ 1 = sym (eqb-true 1 segment is) in
          not_twice_one seq (subst (λ s. IsTwice above_whole s seq) first both)
      | false ↦ λ is.
          let up : 0 < seq = both.0 in
          let never : (0 == seq) ≡ false = ne_eqb 0 seq (λ same. omega (arith, same, up)) in
          let few : 2 ≤ 0 = rw (is, never) at both.1 in
          absurd (omega (arith, few))
    ] refl

no_gap : (segment seq : ℕ) → 1 ≤ segment → segment ≤ 1 → IsGap above_whole segment seq → ⊥
no_gap segment seq some few gap =
    let first : segment ≡ 1 = omega (arith, some, few) in
    let here : IsGap above_whole 1 seq = subst (λ s. IsGap above_whole s seq) first gap in
    let low : seq < 2 = gap_below above_whole 1 2 seq (below_two 1 2 (first_byte 0 1 11) (first_byte 0 2 12) (lit≤ tt) (lit≤ tt)) here in
    let up : 5 < seq = here.0 in
    absurd (omega (arith, low, up))

no_page : (page : ℕ) (text : Page) → slice_get {X = Page} [] page ≡ Some text → ⊥
no_page page text at = absurd (let e : None ≡ Some text = at in cc)

stands : HasBytes above_whole (whole_page ∷ []) 1 0 (page_of 5 whole_page)
stands offset lt = inl (none_of 1 (0 * 256 + offset) 5 (first_byte 0 1 11) (first_byte 0 2 12) (and-false (is_some (byte_of 1 (0 * 256 + offset) (byte_range 1 0 11 ∷ [])))) (and-false (is_some (byte_of 1 (0 * 256 + offset) (byte_range 1 0 12 ∷ [])))), (let e : 0 * 256 + offset ≡ offset = omega arith in ap (λ n. slice_get whole_page n) e))

stand : (segment page : ℕ) (text : Page) → slice_get (segment_of segment above_whole.pages) page ≡ Some text → HasBytes above_whole (whole_page ∷ []) segment page text
stand zero page text at = absurd (no_page page text at)
stand (suc zero) zero text at =
    let e : Some (page_of 5 whole_page) ≡ Some text = at in
    let same : page_of 5 whole_page ≡ text = cc in
    subst (λ t. HasBytes above_whole (whole_page ∷ []) 1 0 t) same stands
stand (suc zero) (suc page) text at = absurd (no_page page text at)
stand (suc (suc segment)) page text at = absurd (no_page page text at)

numbered : (segment : ℕ) → 1 ≤ segment → segment ≤ 1 → 5 ≡ max (page_number segment above_whole) (record_number segment above_whole)
numbered segment some few =
    let first : 1 ≡ segment = omega (arith, some, few) in
    subst (λ s. 5 ≡ max (page_number s above_whole) (record_number s above_whole)) first refl

pub returns-clause-merges : goal.returns-clause-merges
returns-clause-merges c = record { not_twice = not_twice; no_gap = no_gap; shape = refl; bytes = stand; counted = numbered }

pub returns-clause-not_to_the_record : goal.returns-clause-not_to_the_record
returns-clause-not_to_the_record c = λ numbers merged. not_by_number 1 0 5 (first_byte 0 1 11) (first_byte 0 2 12) (Some 7) (Some 12) (λ all is. absurd (let e : Some 12 ≡ Some 7 = is in cc)) (λ has is newest. true≢false (sym has)) (λ has is newest. true≢false (sym has)) (merged.bytes 1 0 (page_of 5 whole_page) refl 0 (lit< tt))

pub returns-clause-under_its_number : goal.returns-clause-under_its_number
returns-clause-under_its_number c = λ content numbers merged. merged.counted 1 (lit≤ tt) (lit≤ tt)
