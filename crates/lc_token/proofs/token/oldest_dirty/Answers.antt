use Rattle.std.proofs.Common.{◌≡◌, ◌<◌, ◌^◌, ◌∙◌, ap, sym, true, length, ℕ, Some, arith}
use Rattle.std.proofs.lemmas.Bool.{both_ways}
use Rattle.lc_page.specs.PageVector.{entry_at, is_dirty}
use Rattle.lc_token.specs.Token.{least_with}
use Rattle.lc_token.proofs.TokenLemmas.{clean_page, dirty_page}
use Rattle.lc_token.proofs.token.oldest_dirty.Goals.{then-dirty, else-dirty}
use Rattle.lc_token.proofs.token.oldest_dirty.Goals as goal

pub loop-place-preserved : goal.loop-place-preserved
loop-place-preserved c =
    let pages = c.args.pages.now in
    let place = c.loop-place.place in
    let small : place < 2 ^ 32 = omega (arith, c.in-Ok.ensures.0) in
    let among : place < length pages = omega (arith, c.loop-place-test.true, c.len-place-end.ensures) in
    elim c.if-dirty.branch [
      | then-dirty w ↦
          let dirty : is_dirty (entry_at pages place) ≡ true = ap (λ (n : ℕ). is_dirty (entry_at pages n)) (sym c.in-Ok.ensures.1) ∙ (sym c.dirty.ensures ∙ w.if-dirty.true) in
          let stable : w.stable.result ≡ (entry_at pages place).stable = w.stable.ensures ∙ ap (λ (n : ℕ). (entry_at pages n).stable) c.in-Ok.ensures.1 in
          let oldest : c.if-dirty.oldest ≡ Some (least_with c.loop-place.oldest (entry_at pages place).stable) = w.oldest-is ∙ ap (λ (n : ℕ). Some n) (w.least_with.ensures ∙ ap (least_with c.loop-place.oldest) stable) in
          rw oldest (dirty_page pages place c.loop-place.oldest (among, small, dirty) c.loop-place.invariant)
      | else-dirty w ↦ rw w.oldest-is (clean_page pages place c.loop-place.oldest (λ dirty. both_ways _ w.if-dirty.false (c.dirty.ensures ∙ (ap (λ (n : ℕ). is_dirty (entry_at pages n)) c.in-Ok.ensures.1 ∙ dirty.2))) c.loop-place.invariant)
    ]
