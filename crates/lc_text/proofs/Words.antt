-- The first word of a line, and those after it.
use Rattle.std.proofs.Common.{◌≡◌, ℕ, ◌+◌, ◌<◌, suc, Bool, true, false, List, [], ◌∷◌, take, drop, length, filter, refl, sym, ap, ◌∙◌, arith}
use Rattle.std.proofs.lemmas.List.{nil_from_length}
use Rattle.std.specs.List.{slice_split, prefix_len, position_or_len}
use Rattle.lc_text.specs.Line.{is_space, is_some_text, words}

texts : (ℕ → Bool) → List ℕ → List (List ℕ)
texts p xs = filter is_some_text (slice_split p xs)

-- the first piece, and what the others come to
Front : (ℕ → Bool) → List ℕ → Type 0
Front p xs = (later : List (List ℕ)) × (slice_split p xs ≡ take (position_or_len p xs) xs ∷ later) × (filter is_some_text later ≡ texts p (drop (position_or_len p xs) xs))

front_more : (p : ℕ → Bool) (x : ℕ) (xs : List ℕ) (b : Bool) → p x ≡ b → Front p xs → Front p (x ∷ xs)
unfolding Front texts
front_more p x xs true e f = rw e (slice_split p xs, refl, rw e refl)
front_more p x xs false e f =
    let k : 1 + position_or_len p xs ≡ suc (position_or_len p xs) = omega arith in
    rw (e, k, f.1) (f.0, refl, f.2)

front : (p : ℕ → Bool) (xs : List ℕ) → Front p xs
unfolding Front texts
front p [] = ([], refl, refl)
front p (x ∷ xs) = front_more p x xs (p x) refl (front p xs)

skip_more : (p : ℕ → Bool) (x : ℕ) (xs : List ℕ) (b : Bool) → p x ≡ b → texts p xs ≡ texts p (drop (prefix_len p xs) xs) → texts p (x ∷ xs) ≡ texts p (drop (prefix_len p (x ∷ xs)) (x ∷ xs))
unfolding texts
skip_more p x xs true e h =
    let k : 1 + prefix_len p xs ≡ suc (prefix_len p xs) = omega arith in
    rw (e, k) h
skip_more p x xs false e h = simp e

skip : (p : ℕ → Bool) (xs : List ℕ) → texts p xs ≡ texts p (drop (prefix_len p xs) xs)
unfolding texts
skip p [] = refl
skip p (x ∷ xs) = skip_more p x xs (p x) refl (skip p xs)

-- after the spaces there is nothing, or a byte that is none
stops_more : (p : ℕ → Bool) (x : ℕ) (xs : List ℕ) (b : Bool) → p x ≡ b
    → ((y : ℕ) (ys : List ℕ) → drop (prefix_len p xs) xs ≡ y ∷ ys → p y ≡ false)
    → (y : ℕ) (ys : List ℕ) → drop (prefix_len p (x ∷ xs)) (x ∷ xs) ≡ y ∷ ys → p y ≡ false
stops_more p x xs true e h y ys =
    let k : 1 + prefix_len p xs ≡ suc (prefix_len p xs) = omega arith in
    rw (e, k) (h y ys)
stops_more p x xs false e h y ys = rw e (λ same. let head : x ≡ y = cc in ap p (sym head) ∙ e)

stops : (p : ℕ → Bool) (xs : List ℕ) (y : ℕ) (ys : List ℕ) → drop (prefix_len p xs) xs ≡ y ∷ ys → p y ≡ false
stops p [] y ys same = cc
stops p (x ∷ xs) y ys same = stops_more p x xs (p x) refl (stops p xs) y ys same

first_text : (p : ℕ → Bool) (x : ℕ) (ys : List ℕ) → p x ≡ false → texts p (x ∷ ys) ≡ take (position_or_len p (x ∷ ys)) (x ∷ ys) ∷ texts p (drop (position_or_len p (x ∷ ys)) (x ∷ ys))
unfolding texts Front
first_text p x ys e =
    let f = front p ys in
    let k : 1 + position_or_len p ys ≡ suc (position_or_len p ys) = omega arith in
    rw (e, k, f.1, f.2) refl

pub no_word : (xs text : List ℕ) (k : ℕ) → k ≡ prefix_len is_space xs → text ≡ drop k xs → length text ≡ 0 → words xs ≡ []
unfolding words texts
no_word xs text k at e none =
    let nil : drop (prefix_len is_space xs) xs ≡ [] = rw (← at, ← e) (nil_from_length text none) in
    skip is_space xs ∙ ap (texts is_space) nil

at_text : (xs text : List ℕ) → drop (prefix_len is_space xs) xs ≡ text → 0 < length text → texts is_space text ≡ take (position_or_len is_space text) text ∷ texts is_space (drop (position_or_len is_space text) text)
at_text xs [] e some = absurd (omega arith)
at_text xs (x ∷ ys) e some = first_text is_space x ys (stops is_space xs x ys e)

pub next_word : (xs text : List ℕ) (k len : ℕ) → k ≡ prefix_len is_space xs → text ≡ drop k xs → 0 < length text → len ≡ position_or_len is_space text
    → words xs ≡ take len text ∷ words (drop len text)
unfolding words texts
next_word xs text k len at e some ends =
    let same : drop (prefix_len is_space xs) xs ≡ text = rw (← at) (sym e) in
    rw ends (skip is_space xs ∙ ap (texts is_space) same ∙ at_text xs text same some)

at_some : (xs text : List ℕ) → drop (prefix_len is_space xs) xs ≡ text → 0 < length text → 0 < position_or_len is_space text
at_some xs [] e some = absurd (omega arith)
at_some xs (x ∷ ys) e some =
    let no = stops is_space xs x ys e in
    rw no (omega arith)

pub some_word : (xs text : List ℕ) (k len : ℕ) → k ≡ prefix_len is_space xs → text ≡ drop k xs → 0 < length text → len ≡ position_or_len is_space text → 0 < len
some_word xs text k len at e some ends =
    let same : drop (prefix_len is_space xs) xs ≡ text = rw (← at) (sym e) in
    rw ends (at_some xs text same some)
