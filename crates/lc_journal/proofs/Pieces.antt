-- Of a journal: what stands in a store that is made of pieces.
use Rattle.std.proofs.Common.{◌≡◌, ℕ, zero, suc, ◌+◌, ◌-◌, ◌++◌, true, false, List, [], ◌∷◌, length, refl, ap, ◌∙◌, arith}
use Rattle.lc_journal.specs.Records.{KeptRecords, Spelled, closed_at, closing, count_of}
use Rattle.lc_journal.proofs.Spans.{closed_in}

-- A record that is added and closed

closing_last : (n : ℕ) (rs : List Spelled) (words : List ℕ) → n ≡ length rs → closing n (rs ++ record { words = words; closed = false } ∷ []) ≡ rs ++ record { words = words; closed = true } ∷ []
closing_last zero [] words same = refl
closing_last zero (r ∷ rs) words same = absurd (omega (arith, same))
closing_last (suc n) [] words same = absurd (omega (arith, same))
closing_last (suc n) (r ∷ rs) words same = ap (λ (l : List Spelled). r ∷ l) (closing_last n rs words (omega (arith, same)))

pub closed_last : (number : ℕ) (k : KeptRecords) (words : List ℕ) → number ≡ count_of k
    → closed_at number (record k { records = k.records ++ record { words = words; closed = false } ∷ [] }) ≡ record k { records = k.records ++ record { words = words; closed = true } ∷ [] }
closed_last number k words same =
    closed_in number (record k { records = k.records ++ record { words = words; closed = false } ∷ [] }) (omega (arith, same))
    ∙ ap (λ (rs : List Spelled). record k { records = rs }) (closing_last (number - k.before) k.records words (omega (arith, same)))
