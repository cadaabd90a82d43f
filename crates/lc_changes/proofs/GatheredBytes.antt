-- The bytes that are gathered, range by range.
use Rattle.std.proofs.Common.{◌≡◌, ℕ, zero, suc, ◌+◌, ◌<◌, ◌≤◌, List, [], ◌∷◌, ◌++◌, length, take, get_or, refl, sym, ap, ◌∙◌, arith, append_assoc, append-nil, length-append}
use Rattle.std.proofs.lemmas.List.{take_more}
use Rattle.lc_range.specs.declared.range.Range.{Range}
use Rattle.lc_changes.specs.Gathering.{bytes_at, part_at}

pub bytes-append : (s : ℕ) (image : List ℕ) (xs ys : List Range) → bytes_at s image (xs ++ ys) ≡ bytes_at s image xs ++ bytes_at s image ys
bytes-append s image [] ys = refl
bytes-append s image (x ∷ xs) ys =
    ap (λ (l : List ℕ). part_at s image x ++ l) (bytes-append s image xs ys) ∙ sym (append_assoc (part_at s image x) (bytes_at s image xs) (bytes_at s image ys))

-- with one range more
pub bytes_more : (s : ℕ) (image : List ℕ) (ranges : List Range) (i : ℕ) (d : Range) → i < length ranges
    → bytes_at s image (take (i + 1) ranges) ≡ bytes_at s image (take i ranges) ++ part_at s image (get_or ranges i d)
bytes_more s image ranges i d less =
    ap (bytes_at s image) (take_more ranges i d less) ∙ bytes-append s image (take i ranges) (get_or ranges i d ∷ [])
    ∙ ap (λ (l : List ℕ). bytes_at s image (take i ranges) ++ l) (append-nil (part_at s image (get_or ranges i d)))

-- no range has more of them than there are
pub part_within : (s : ℕ) (image : List ℕ) (ranges : List Range) (i : ℕ) (d : Range) → i < length ranges → length (part_at s image (get_or ranges i d)) ≤ length (bytes_at s image ranges)
part_within s image [] i d less = absurd (omega (arith, less))
part_within s image (x ∷ xs) zero d less = omega (arith, length-append (part_at s image x) (bytes_at s image xs))
part_within s image (x ∷ xs) (suc i) d less = omega (arith, part_within s image xs i d (omega (arith, less)), length-append (part_at s image x) (bytes_at s image xs))
