-- The records of all logs, each at its place.
use Rattle.std.proofs.Common.{◌≡◌, ℕ, ◌+◌, ◌<◌, List, [], ◌∷◌, ◌++◌, length, take, get_or, arith, sym, ◌∙◌, ap, append_assoc, append-nil}
use Rattle.std.proofs.lemmas.List.{take_more, length-take-le}
use Rattle.lc_recover.specs.Changes.{PlacedRecord, seats_of, seats_from}

seats-push : (n : ℕ) (logs : List (List ℕ)) (words : List ℕ) → seats_from n (logs ++ words ∷ []) ≡ seats_from n logs ++ seats_of (n + length logs) words
seats-push n [] words =
    let same : n ≡ n + 0 = omega arith in
    append-nil (seats_of n words) ∙ ap (λ (k : ℕ). seats_of k words) same
seats-push n (log ∷ logs) words =
    let same : n + 1 + length logs ≡ n + length (log ∷ logs) = omega arith in
    ap (λ (l : List PlacedRecord). seats_of n log ++ l) (seats-push (n + 1) logs words ∙ ap (λ (k : ℕ). seats_from (n + 1) logs ++ seats_of k words) same)
    ∙ sym (append_assoc (seats_of n log) (seats_from (n + 1) logs) (seats_of (n + length (log ∷ logs)) words))

pub seats-next : (logs : List (List ℕ)) (i : ℕ) (words : List ℕ) → i < length logs → get_or logs i [] ≡ words → seats_from 0 (take (i + 1) logs) ≡ seats_from 0 (take i logs) ++ seats_of i words
seats-next logs i words within at =
    let long : 0 + length (take i logs) ≡ i = omega (arith, length-take-le i logs (omega arith)) in
    ap (seats_from 0) (take_more logs i [] within ∙ ap (λ (l : List ℕ). take i logs ++ l ∷ []) at)
    ∙ seats-push 0 (take i logs) words
    ∙ ap (λ (k : ℕ). seats_from 0 (take i logs) ++ seats_of k words) long
