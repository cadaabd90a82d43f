-- What a transaction's work left is the bytes before with the ranges of its record laid over them.
use Rattle.std.proofs.Common.{◌≡◌, ℕ, ◌+◌, ◌-◌, ◌<◌, ◌==◌, cond, Bool, true, false, List, [], ◌∷◌, length, get_or, filter, map, take, drop, refl, sym, ap, ◌∙◌, ⊎_elim, arith, eqb-true, eq-eqb, true≢false}
use mathlib.Core.Logic.{dite}
use native.Mathlib.Decide.{dec_le}
use Rattle.std.proofs.lemmas.List.{ext_get_or, get_or_past, get_or-take, get_or-drop, length-take-le, length-drop}
use Rattle.lc_record.specs.Content.{put}
use Rattle.lc_record.proofs.SegmentLemmas.{length-put}
use Rattle.lc_range.specs.declared.range.Range.{Range}
use Rattle.lc_range.specs.RangeSet.{Has}
use Rattle.lc_tx.specs.Image.{laid_over}
use Rattle.lc_tx.proofs.PutLemmas.{put_in, put_out}
use Rattle.lc_segments.specs.Laid.{data_of, of_segment, LieInside}

abbrev Laid : ℕ → (ℕ → List ℕ) → List Range → List ℕ → Type 0
Laid s bytes runs b = laid_over (of_segment s bytes runs) b ≡ bytes s

pub laid_is_left : (s : ℕ) (bytes : ℕ → List ℕ) (runs : List Range) (b : List ℕ) → length b ≡ length (bytes s) → LieInside s (length (bytes s)) runs → ((k : ℕ) → (Has runs s k → ⊥) → get_or b k 0 ≡ get_or (bytes s) k 0) → Laid s bytes runs b
laid_is_left s bytes [] b long inside same = ext_get_or 0 b (bytes s) long (λ k l. same k (λ none. none))
laid_is_left s bytes (run ∷ runs) b long inside same = elim (run.segment == s) as (λ (c : Bool). (run.segment == s) ≡ c → laid_over (filter (λ r. r.segment == s) (data_of bytes run ∷ map (data_of bytes) runs)) b ≡ bytes s) [
  | true ↦ λ is. let here : run.segment ≡ s = eqb-true run.segment s is in let new : List ℕ = bytes s in let items : List ℕ = take run.len (drop run.offset (bytes run.segment)) in
      let fits = inside.0 here in let items_are : items ≡ take run.len (drop run.offset new) = ap (λ (z : ℕ). take run.len (drop run.offset (bytes z))) here in
      let rest : length (drop run.offset new) ≡ length new - run.offset = length-drop run.offset new in
      let many : length items ≡ run.len = ap (λ (l : List ℕ). length l) items_are ∙ length-take-le run.len (drop run.offset new) (omega arith) in
      let next : Laid s bytes runs (put run.offset items b) = laid_is_left s bytes runs (put run.offset items b) (length-put run.offset items b ∙ long) inside.1 (λ k none. dite (dec_le (length new) k)
      (λ past. let p = length-put run.offset items b in get_or_past (put run.offset items b) k 0 (omega arith) ∙ sym (get_or_past new k 0 past))
      (λ within. dite (dec_le run.offset k)
      (λ low. dite (dec_le (run.offset + run.len) k)
      (λ high. put_out run.offset items b k (λ j l e. absurd (omega arith)) ∙ same k (λ has. ⊎_elim (λ at. absurd (let hi = at.2 in omega arith)) none has))
      (λ before. let j : ℕ = k - run.offset in let e : k ≡ run.offset + j = omega arith in put_in run.offset items b k j e (omega arith) (omega arith)
      ∙ (ap (λ (l : List ℕ). get_or l j 0) items_are ∙ (get_or-take run.len (drop run.offset new) j 0 (omega arith) ∙ (get_or-drop run.offset new j 0 ∙ ap (λ (z : ℕ). get_or new z 0) (sym e))))))
      (λ front. put_out run.offset items b k (λ j l e. absurd (omega arith)) ∙ same k (λ has. ⊎_elim (λ at. absurd (let lo = at.1 in omega arith)) none has)))) in
      ap (λ (c : Bool). laid_over (cond c (data_of bytes run ∷ of_segment s bytes runs) (of_segment s bytes runs)) b) is ∙ next
  | false ↦ λ not. ap (λ (c : Bool). laid_over (cond c (data_of bytes run ∷ of_segment s bytes runs) (of_segment s bytes runs)) b) not ∙ laid_is_left s bytes runs b long inside.1 (λ k none. same k (λ has. ⊎_elim (λ at. absurd (true≢false (sym (eq-eqb run.segment s (sym at.0)) ∙ not))) none has))
] refl
