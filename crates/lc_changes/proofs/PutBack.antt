-- The gathered bytes of images, put over others, give the images.
use Rattle.std.proofs.Common.{◌≡◌, ℕ, ◌+◌, ◌-◌, ◌≤◌, eqb, cond, List, [], ◌∷◌, ◌++◌, length, get_or, take, drop, sym, ap, subst, ◌∙◌, ⊎_elim, inl, inr, arith}
use mathlib.Core.Logic.{dite}
use native.Mathlib.Decide.{dec_le}
use Rattle.std.proofs.Math.Seq.{drop-append_seam, take-append_seam}
use Rattle.std.proofs.lemmas.Bool.{cases_eq, cond-true, cond-false, eq-eqb, ne_eqb}
use Rattle.std.proofs.lemmas.List.{ext_get_or, get_or_past, get_or-take, get_or-drop}
use Rattle.lc_record.specs.Content.{put}
use Rattle.lc_record.proofs.SegmentLemmas.{length-put}
use Rattle.lc_range.specs.RangeSet.{Has}
use Rattle.lc_range.specs.declared.range.Range.{Range}
use Rattle.lc_range.proofs.CopyLemmas.{length_part}
use Rattle.lc_tx.proofs.PutLemmas.{put_in, put_out}
use Rattle.lc_changes.specs.Gathering.{puts_at, values_of, LieInImages}

-- with an image's bytes put at a range, its bytes stand there too
pub put_here : (new old : List ℕ) (r : Range) (rs : List Range) (k : ℕ) → length old ≡ length new → r.offset + r.len ≤ length new
    → ((k : ℕ) → (Has (r ∷ rs) r.segment k → ⊥) → get_or old k 0 ≡ get_or new k 0)
    → (Has rs r.segment k → ⊥) → get_or (put r.offset (take r.len (drop r.offset new)) old) k 0 ≡ get_or new k 0
put_here new old r rs k long fits same none =
    let items : List ℕ = take r.len (drop r.offset new) in let many : length items ≡ r.len = length_part new r.offset r.len fits in
    dite (dec_le (length new) k)
    (λ past. let p = length-put r.offset items old in get_or_past (put r.offset items old) k 0 (omega arith) ∙ sym (get_or_past new k 0 past))
    (λ within. dite (dec_le r.offset k)
    (λ low. dite (dec_le (r.offset + r.len) k)
    (λ high. put_out r.offset items old k (λ j l e. absurd (omega arith)) ∙ same k (λ has. ⊎_elim (λ at. absurd (let hi = at.2 in omega arith)) none has))
    (λ before. let j : ℕ = k - r.offset in let e : k ≡ r.offset + j = omega arith in put_in r.offset items old k j e (omega arith) (omega arith)
    ∙ (get_or-take r.len (drop r.offset new) j 0 (omega arith) ∙ (get_or-drop r.offset new j 0 ∙ ap (λ (z : ℕ). get_or new z 0) (sym e)))))
    (λ front. put_out r.offset items old k (λ j l e. absurd (omega arith)) ∙ same k (λ has. ⊎_elim (λ at. absurd (let lo = at.1 in omega arith)) none has)))

pub puts_give_images : (images : ℕ → List ℕ) (set : List Range) (s : ℕ) (before : List ℕ) → LieInImages images set → length before ≡ length (images s)
    → ((k : ℕ) → (Has set s k → ⊥) → get_or before k 0 ≡ get_or (images s) k 0) → puts_at s set (values_of images set) before ≡ images s
puts_give_images images [] s before inside long same = ext_get_or 0 before (images s) long (λ k l. same k (λ none. none))
puts_give_images images (r ∷ rs) s before inside long same =
    let part : List ℕ = take r.len (drop r.offset (images r.segment)) in
    let rest : List ℕ = values_of images rs in
    let many : length part ≡ r.len = length_part (images r.segment) r.offset r.len inside.0 in
    let front : take r.len (part ++ rest) ≡ part = subst (λ (n : ℕ). take n (part ++ rest) ≡ part) many (take-append_seam part rest) in
    let back : drop r.len (part ++ rest) ≡ rest = subst (λ (n : ℕ). drop n (part ++ rest) ≡ rest) many (drop-append_seam part rest) in
    ap (λ (l : List ℕ). puts_at s rs l (cond (eqb r.segment s) (put r.offset (take r.len (part ++ rest)) before) before)) back
    ∙ ap (λ (l : List ℕ). puts_at s rs rest (cond (eqb r.segment s) (put r.offset l before) before)) front
    ∙ elim (cases_eq r.segment s) [
      | inl is ↦
          let here = λ (z : ℕ) (e : r.segment ≡ z). subst (λ (t : ℕ). length before ≡ length (images t) → ((k : ℕ) → (Has (r ∷ rs) t k → ⊥) → get_or before k 0 ≡ get_or (images t) k 0)
          → (k : ℕ) → (Has rs t k → ⊥) → get_or (put r.offset part before) k 0 ≡ get_or (images t) k 0) e
          (λ l all k none. put_here (images r.segment) before r rs k l inside.0 all none) in
          ap (λ (l : List ℕ). puts_at s rs rest l) (cond-true (eqb r.segment s) (put r.offset part before) before (eq-eqb r.segment s is))
          ∙ puts_give_images images rs s (put r.offset part before) inside.1 (length-put r.offset part before ∙ long) (here s is long same)
      | inr other ↦
          ap (λ (l : List ℕ). puts_at s rs rest l) (cond-false (eqb r.segment s) (put r.offset part before) before (ne_eqb r.segment s other))
          ∙ puts_give_images images rs s before inside.1 long (λ k none. same k (λ has. ⊎_elim (λ at. absurd (other (sym at.0))) none has))
    ]
