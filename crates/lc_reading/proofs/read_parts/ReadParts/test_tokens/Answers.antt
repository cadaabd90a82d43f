use Rattle.std.proofs.Common.{◌≡◌, ◌<◌, ◌≤◌, ◌+◌, ℕ, [], ◌∷◌, ◌++◌, List, below_more, length, take, add-one, ap, sym, ◌∙◌, arith}
use Rattle.std.specs.Prelude.{slice_index_or}
use Rattle.std.proofs.lemmas.List.{take_all, take_more}
use Rattle.lc_rest.specs.Merge.{number_at}
use Rattle.lc_rest.specs.AtRest.{KeepsToken}
use Rattle.lc_reading.specs.Readings.{first_numbers, tests_of}
use Rattle.lc_reading.proofs.Firsts.{each_segment, first_failed}
use Rattle.lc_reading.proofs.TokenReads.{length_numbers}
use Rattle.lc_reading.proofs.read_parts.ReadParts.test_tokens.Goals as goal

pub loop-place-preserved : goal.loop-place-preserved
loop-place-preserved c =
    let r = c.args.self.now in
    let place = c.loop-place.place in
    let h = c.loop-place.invariant in
    let all : length (first_numbers r) ≡ r.geometry.segments = omega (arith, length_numbers r, r.all_tokens, r.tokens.ok.0) in
    let within : place < length (first_numbers r) = omega (arith, all, c.loop-place-test.true) in
    let number : c.in-Some.number ≡ slice_index_or (first_numbers r) place 0 = rw c.in-Some.is at c.in_ok-number.ensures.number ∙ ap (number_at (first_numbers r)) (add-one place) in
    let keeps : KeepsToken (tests_of r []) (place + 1) = rw c.in-Some.is at c.in_ok-number.ensures.keeps in
    record {
      numbers = c.in_ok-push.ensures.items ∙ ap (λ (l : List ℕ). l ++ c.in-Some.number ∷ []) h.numbers ∙ ap (λ (n : ℕ). take place (first_numbers r) ++ n ∷ []) number ∙ sym (take_more (first_numbers r) place 0 within);
      keeps = below_more (λ (k : ℕ). KeepsToken (tests_of r []) (k + 1)) place h.keeps keeps;
    }

pub returns-in_default-clause-fails : goal.returns-in_default-clause-fails
returns-in_default-clause-fails c =
    let fails : KeepsToken (tests_of c.args.self.now []) (c.loop-place.place + 1) → ⊥ = rw c.in_default.is at c.in_ok-number.ensures.fails in
    let last : c.loop-place.place + 1 ≤ c.args.self.now.geometry.segments = omega (arith, c.loop-place-test.true) in
    (last, first_failed (KeepsToken (tests_of c.args.self.now [])) c.loop-place.place c.loop-place.invariant.keeps fails)

pub returns-clause-numbers : goal.returns-clause-numbers
returns-clause-numbers c =
    let r = c.args.self.now in
    let all : length (first_numbers r) ≡ r.geometry.segments = omega (arith, length_numbers r, r.all_tokens, r.tokens.ok.0) in
    c.loop-place.invariant.numbers ∙ take_all c.loop-place.place (first_numbers r) (omega (arith, all, c.loop-place-test.false))

pub returns-clause-keeps : goal.returns-clause-keeps
returns-clause-keeps c = λ segment first last.
    each_segment (KeepsToken (tests_of c.args.self.now [])) c.loop-place.place c.loop-place.invariant.keeps segment first (omega (arith, last, c.loop-place-test.false))
