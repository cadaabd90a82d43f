-- A script's first line, and the lines after it.
use Rattle.std.proofs.Common.{◌≡◌, ℕ, suc, ◌+◌, ◌<◌, List, [], ◌∷◌, ◌++◌, length, get_or, take, drop, refl, sym, ◌∙◌, ap, arith, append_assoc, append-nil, take-append-drop, ne_eqb}
use Rattle.std.proofs.lemmas.List.{drop_more, get_or-take, length-take-le}
use Rattle.std.specs.Str.Lines.{strip_carriage_return}
use Rattle.lc_text.specs.Lines.{last_line, lines_behind, script_lines}

-- no line feed stands there
abbrev pub HasNoFeed : List ℕ → Type 0
HasNoFeed bytes = (k : ℕ) → k < length bytes → get_or bytes k 0 ≡ 10 → ⊥

lines_cut : (line x rest : List ℕ) → HasNoFeed x → lines_behind line (x ++ 10 ∷ rest) ≡ strip_carriage_return (line ++ x) ∷ lines_behind [] rest
lines_cut line [] rest none = ap (λ (l : List ℕ). strip_carriage_return l ∷ lines_behind [] rest) (sym (append-nil line))
lines_cut line (b ∷ x) rest none =
    rw (ne_eqb b 10 (none 0 (omega arith)))
    (lines_cut (line ++ b ∷ []) x rest (λ k h. none (suc k) (omega arith))
    ∙ ap (λ (l : List ℕ). strip_carriage_return l ∷ lines_behind [] rest) (append_assoc line (b ∷ []) x))

lines_whole : (line x : List ℕ) → HasNoFeed x → lines_behind line x ≡ last_line (line ++ x)
lines_whole line [] none = ap last_line (sym (append-nil line))
lines_whole line (b ∷ x) none =
    rw (ne_eqb b 10 (none 0 (omega arith)))
    (lines_whole (line ++ b ∷ []) x (λ k h. none (suc k) (omega arith)) ∙ ap last_line (append_assoc line (b ∷ []) x))

last_of : (line : List ℕ) → 0 < length line → last_line line ≡ line ∷ []
last_of [] some = absurd (omega arith)
last_of (b ∷ line) some = refl

pub one_line : (script : List ℕ) → 0 < length script → HasNoFeed script → script_lines script ≡ script ∷ script_lines []
one_line script some none = lines_whole [] script none ∙ last_of script some

pub cut_line : (script : List ℕ) (end : ℕ) → end < length script → ((k : ℕ) → k < end → get_or script k 0 ≡ 10 → ⊥) → get_or script end 0 ≡ 10 →
    script_lines script ≡ strip_carriage_return (take end script) ∷ script_lines (drop (end + 1) script)
cut_line script end within none feed =
    let front : HasNoFeed (take end script) = λ k h e.
    let below : k < end = omega (arith, h, length-take-le end script (omega arith)) in
    none k below (sym (get_or-take end script k 0 below) ∙ e) in
    let split : script ≡ take end script ++ 10 ∷ drop (end + 1) script =
    sym (take-append-drop end script) ∙ ap (λ (l : List ℕ). take end script ++ l) (drop_more script end 0 within ∙ ap (λ (b : ℕ). b ∷ drop (end + 1) script) feed) in
    ap script_lines split ∙ lines_cut [] (take end script) (drop (end + 1) script) front
