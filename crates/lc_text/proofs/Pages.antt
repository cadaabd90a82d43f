-- The lines of a page.
use Rattle.std.proofs.Common.{◌≡◌, ℕ, zero, suc, ◌<◌, ◌≤◌, List, [], ◌∷◌, ◌++◌, take, drop, length, refl, sym, ap, ◌∙◌, arith, length-drop, append_assoc}
use Rattle.std.specs.Prelude.{min, codes}
use Rattle.std.proofs.lemmas.List.{take_min, drop_min}
use Rattle.lc_text.specs.Text.{hex_text, lines_text, page_text}

same_lines : (m n : ℕ) (bytes : List ℕ) → length bytes ≤ m → length bytes ≤ n → lines_text m bytes ≡ lines_text n bytes
same_lines zero zero bytes l h = refl
same_lines zero (suc n) [] l h = refl
same_lines zero (suc n) (b ∷ bs) l h = absurd (omega arith)
same_lines (suc m) zero [] l h = refl
same_lines (suc m) zero (b ∷ bs) l h = absurd (omega arith)
same_lines (suc m) (suc n) [] l h = refl
same_lines (suc m) (suc n) (b ∷ bs) l h =
    ap (λ (t : List ℕ). hex_text (take 16 (b ∷ bs)) ++ codes "\n" ++ t)
    (same_lines m n (drop 16 (b ∷ bs)) (omega (arith, length-drop 16 (b ∷ bs))) (omega (arith, length-drop 16 (b ∷ bs))))

first_line : (bytes : List ℕ) → 0 < length bytes → page_text bytes ≡ hex_text (take 16 bytes) ++ codes "\n" ++ page_text (drop 16 bytes)
first_line [] some = absurd (omega arith)
first_line (b ∷ bs) some =
    ap (λ (t : List ℕ). hex_text (take 16 (b ∷ bs)) ++ codes "\n" ++ t)
    (same_lines (length bs) (length (drop 16 (b ∷ bs))) (drop 16 (b ∷ bs)) (omega (arith, length-drop 16 (b ∷ bs))) (omega arith))

take_within : (bytes : List ℕ) (k : ℕ) → k ≡ min (length bytes) 16 → take k bytes ≡ take 16 bytes
take_within bytes k e =
    let same : k ≡ min 16 (length bytes) = omega arith in
    ap (λ (j : ℕ). take j bytes) same ∙ take_min 16 bytes

drop_within : (bytes : List ℕ) (k : ℕ) → k ≡ min (length bytes) 16 → drop k bytes ≡ drop 16 bytes
drop_within bytes k e =
    let same : k ≡ min 16 (length bytes) = omega arith in
    ap (λ (j : ℕ). drop j bytes) same ∙ drop_min 16 bytes

regroup : (f h n p : List ℕ) → ((f ++ h) ++ n) ++ p ≡ f ++ ((h ++ n) ++ p)
regroup f h n p = simp append_assoc

-- the page with one line more written
pub next_line : (front rest all : List ℕ) (k : ℕ) → 0 < length rest → k ≡ min (length rest) 16 → front ++ page_text rest ≡ all
    → ((front ++ hex_text (take k rest)) ++ codes "\n") ++ page_text (drop k rest) ≡ all
next_line front rest all k some e so_far =
    ap (λ (t : List ℕ). ((front ++ hex_text t) ++ codes "\n") ++ page_text (drop k rest)) (take_within rest k e)
    ∙ ap (λ (t : List ℕ). ((front ++ hex_text (take 16 rest)) ++ codes "\n") ++ page_text t) (drop_within rest k e)
    ∙ regroup front (hex_text (take 16 rest)) (codes "\n") (page_text (drop 16 rest))
    ∙ ap (λ (t : List ℕ). front ++ t) (sym (first_line rest some))
    ∙ so_far
