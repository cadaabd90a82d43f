-- Bytes laid over what stands after a front.
use Rattle.std.proofs.Common.{◌≡◌, ℕ, ◌+◌, List, ◌++◌, length, drop, sym, ◌∙◌, ap, append_assoc}
use Rattle.std.proofs.lemmas.List.{take_at, drop_at, drop-drop}
use Rattle.lc_disk.specs.Area.{overlaid}

pub overlaid_behind : (front back bytes : List ℕ) (n : ℕ) → length front ≡ n → overlaid (front ++ back) n bytes ≡ front ++ (bytes ++ drop (length bytes) back)
overlaid_behind front back bytes n long =
    ap (λ (l : List ℕ). l ++ bytes ++ drop (n + length bytes) (front ++ back)) (take_at front back n long)
    ∙ ap (λ (l : List ℕ). front ++ bytes ++ l) (sym (drop-drop (length bytes) n (front ++ back)) ∙ ap (λ (l : List ℕ). drop (length bytes) l) (drop_at front back n long))
    ∙ append_assoc front bytes (drop (length bytes) back)
