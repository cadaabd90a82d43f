-- Reading items one after the other, as a loop does.
use Rattle.std.proofs.Common.{◌≡◌, ℕ, ◌≤◌, List, [], ◌∷◌, ◌++◌, take, drop, length, get_or, Option, Some, None, refl, sym, ap, ap₂, ◌∙◌, true, false, arith, append_assoc}
use Rattle.std.specs.Prelude.{option_map, option_and_then}
use Rattle.std.proofs.lemmas.List.{append-nil}
use Rattle.std.proofs.lemmas.Option.{some_pair_parts}
use Rattle.lc_text.specs.Line.{words, Locks, with_lock, lock_of, all_locks, pair_of, bytes_of, first}

-- what was read before, and what is still read
abbrev pub with_front : List ℕ → Option (List ℕ) → Option (List ℕ)
with_front front read = option_map (λ xs. front ++ xs) read

regroup : (front : List ℕ) (x : ℕ) (read : Option (List ℕ)) → with_front front (option_and_then (λ xs. Some (x ∷ xs)) read) ≡ with_front (front ++ x ∷ []) read
regroup front x None = refl
regroup front x (Some xs) = ap (λ (ys : List ℕ). Some ys) (simp append_assoc)

-- The words of a line

first_is : (ws later : List (List ℕ)) (w : List ℕ) → first (λ w. Some w) ws ≡ Some (w, later) → ws ≡ w ∷ later
first_is [] later w e = cc
first_is (v ∷ vs) later w e =
    let parts = some_pair_parts v w vs later e in
    rw (parts.0, parts.1) refl

none_first : (ws : List (List ℕ)) → first (λ w. Some w) ws ≡ None → ws ≡ []
none_first [] e = refl
none_first (v ∷ vs) e = cc

-- the locks before, and those that are still read
abbrev pub with_locks : Locks → Option Locks → Option Locks
with_locks front read = option_map (λ locks. (front.0 ++ locks.0, front.1 ++ locks.1)) read

regroup_write : (writing reading : List ℕ) (n : ℕ) (read : Option Locks) → with_locks (writing, reading) (option_and_then (λ locks. Some (with_lock (false, n) locks)) read) ≡ with_locks (writing ++ n ∷ [], reading) read
regroup_write writing reading n None = refl
regroup_write writing reading n (Some locks) = ap (λ (l : List ℕ). Some (l, reading ++ locks.1)) (simp append_assoc)

regroup_read : (writing reading : List ℕ) (n : ℕ) (read : Option Locks) → with_locks (writing, reading) (option_and_then (λ locks. Some (with_lock (true, n) locks)) read) ≡ with_locks (writing, reading ++ n ∷ []) read
regroup_read writing reading n None = refl
regroup_read writing reading n (Some locks) = ap (λ (l : List ℕ). Some (writing ++ locks.0, l)) (simp append_assoc)

pub next_write : (writing reading line rest word : List ℕ) (n : ℕ) (total : Option Locks) → first (λ w. Some w) (words line) ≡ Some (word, words rest) → lock_of word ≡ Some (false, n)
    → with_locks (writing, reading) (all_locks (words line)) ≡ total → with_locks (writing ++ n ∷ [], reading) (all_locks (words rest)) ≡ total
unfolding all_locks
next_write writing reading line rest word n total taken e so_far =
    let one : with_locks (writing, reading) (all_locks (words line)) ≡ with_locks (writing ++ n ∷ [], reading) (all_locks (words rest)) =
    rw (first_is (words line) (words rest) word taken, e) (regroup_write writing reading n (all_locks (words rest))) in
    sym one ∙ so_far

pub next_read : (writing reading line rest word : List ℕ) (n : ℕ) (total : Option Locks) → first (λ w. Some w) (words line) ≡ Some (word, words rest) → lock_of word ≡ Some (true, n)
    → with_locks (writing, reading) (all_locks (words line)) ≡ total → with_locks (writing, reading ++ n ∷ []) (all_locks (words rest)) ≡ total
unfolding all_locks
next_read writing reading line rest word n total taken e so_far =
    let one : with_locks (writing, reading) (all_locks (words line)) ≡ with_locks (writing, reading ++ n ∷ []) (all_locks (words rest)) =
    rw (first_is (words line) (words rest) word taken, e) (regroup_read writing reading n (all_locks (words rest))) in
    sym one ∙ so_far

pub no_lock : (front : Locks) (line rest word : List ℕ) (total : Option Locks) → first (λ w. Some w) (words line) ≡ Some (word, words rest) → lock_of word ≡ None
    → with_locks front (all_locks (words line)) ≡ total → None ≡ total
unfolding all_locks
no_lock front line rest word total taken e so_far =
    let one : with_locks front (all_locks (words line)) ≡ None = rw (first_is (words line) (words rest) word taken, e) refl in
    sym one ∙ so_far

pub last_lock : (writing reading line : List ℕ) (total : Option Locks) → first (λ w. Some w) (words line) ≡ None
    → with_locks (writing, reading) (all_locks (words line)) ≡ total → Some (writing, reading) ≡ total
unfolding all_locks
last_lock writing reading line total over so_far =
    let one : with_locks (writing, reading) (all_locks (words line)) ≡ Some (writing, reading) =
    rw (none_first (words line) over) (ap₂ (λ (w r : List ℕ). Some (w, r)) (append-nil writing) (append-nil reading)) in
    sym one ∙ so_far

-- The digits of a word

-- two items in front
two : (rest : List ℕ) → 2 ≤ length rest → rest ≡ get_or (take 2 rest) 0 0 ∷ get_or (take 2 rest) 1 0 ∷ drop 2 rest
two [] le = absurd (omega arith)
two (a ∷ []) le = absurd (omega arith)
two (a ∷ b ∷ rest) le = refl

pub next_pair : (front rest : List ℕ) (byte : ℕ) (total : Option (List ℕ)) → 2 ≤ length rest → pair_of (get_or (take 2 rest) 0 0) (get_or (take 2 rest) 1 0) ≡ Some byte
    → with_front front (bytes_of rest) ≡ total → with_front (front ++ byte ∷ []) (bytes_of (drop 2 rest)) ≡ total
unfolding bytes_of
next_pair front rest byte total le e so_far =
    let one : with_front front (bytes_of rest) ≡ with_front (front ++ byte ∷ []) (bytes_of (drop 2 rest)) =
    ap (λ (r : List ℕ). with_front front (bytes_of r)) (two rest le) ∙ rw e (regroup front byte (bytes_of (drop 2 rest))) in
    sym one ∙ so_far

pub no_pair : (front rest : List ℕ) (total : Option (List ℕ)) → 2 ≤ length rest → pair_of (get_or (take 2 rest) 0 0) (get_or (take 2 rest) 1 0) ≡ None
    → with_front front (bytes_of rest) ≡ total → None ≡ total
unfolding bytes_of
no_pair front rest total le e so_far =
    let one : with_front front (bytes_of rest) ≡ None =
    ap (λ (r : List ℕ). with_front front (bytes_of r)) (two rest le) ∙ rw e refl in
    sym one ∙ so_far

pub all_pairs : (front rest : List ℕ) (total : Option (List ℕ)) → length rest ≡ 0 → with_front front (bytes_of rest) ≡ total → Some front ≡ total
unfolding bytes_of
all_pairs front [] total none so_far = ap (λ (ys : List ℕ). Some ys) (sym (append-nil front)) ∙ so_far
all_pairs front (a ∷ rest) total none so_far = absurd (omega arith)

pub odd_digit : (front rest : List ℕ) (total : Option (List ℕ)) → length rest ≡ 1 → with_front front (bytes_of rest) ≡ total → None ≡ total
unfolding bytes_of
odd_digit front [] total one so_far = absurd (omega arith)
odd_digit front (a ∷ []) total one so_far = so_far
odd_digit front (a ∷ b ∷ rest) total one so_far = absurd (omega arith)
