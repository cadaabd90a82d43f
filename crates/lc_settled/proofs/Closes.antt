-- Of state and numbers: a reservation that is closed, and a transaction that set nothing and is over, at a node's
-- desk.
use Rattle.std.proofs.Common.{◌≡◌, ℕ, true, false, [], ◌∷◌, map, refl, ap, ◌∙◌}
use Rattle.std.specs.Prelude.{if◌then◌else◌}
use Rattle.lc_model.specs.History.{Entry, History, entries_of, is_of}
use Rattle.lc_model.specs.State.{is_unclosed}
use Rattle.lc_model.specs.Machine.{closed_by}
use Rattle.lc_model.proofs.Fronts.{closing}

-- What is closed

-- the entry, closed where it is the thread's
abbrev pub shut : ℕ → ℕ → Entry → Entry
shut node i e = if is_unclosed node i e then record e { closed = true } else e

pub entries_shut : (n node i : ℕ) (history : History) → entries_of n (closed_by node i history) ≡ map (shut node i) (entries_of n history)
entries_shut n node i [] = refl
entries_shut n node i (e ∷ es) =
    let same : is_of n (shut node i e).transaction ≡ is_of n e.transaction = ap (is_of n) (closing (is_unclosed node i e) e) in
    ap (λ b. if b then shut node i e ∷ entries_of n (closed_by node i es) else entries_of n (closed_by node i es)) same
    ∙ elim (is_of n e.transaction) as (λ b. (if b then shut node i e ∷ entries_of n (closed_by node i es) else entries_of n (closed_by node i es)) ≡ map (shut node i) (if b then e ∷ entries_of n es else entries_of n es)) [
      | true ↦ ap (λ l. shut node i e ∷ l) (entries_shut n node i es)
      | false ↦ entries_shut n node i es
    ]
