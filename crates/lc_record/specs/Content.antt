-- The bytes of the segments, and how one part of a list is changed.
use Rattle.std.specs.Prelude.{ℕ, zero, suc, List, [], ◌∷◌}

-- the bytes of each segment; segment 1 stands first
abbrev pub Content : Type 0
Content = List (List ℕ)

-- the list with these items from a place on, as far as it reaches
abbrev pub put : {A : Type 0} → ℕ → List A → List A → List A
put place items [] = []
put zero [] (old ∷ olds) = old ∷ olds
put zero (item ∷ items) (old ∷ olds) = item ∷ put zero items olds
put (suc place) items (old ∷ olds) = old ∷ put place items olds

-- the list with the part of one segment changed; there is no segment 0
abbrev pub on_segment : {A : Type 0} → ℕ → (A → A) → List A → List A
on_segment segment change [] = []
on_segment zero change (x ∷ xs) = x ∷ xs
on_segment (suc zero) change (x ∷ xs) = change x ∷ xs
on_segment (suc (suc before)) change (x ∷ xs) = x ∷ on_segment (suc before) change xs

-- the part of one segment
abbrev pub segment_of : {A : Type 0} → ℕ → List (List A) → List A
segment_of segment [] = []
segment_of zero (x ∷ xs) = []
segment_of (suc zero) (x ∷ xs) = x
segment_of (suc (suc before)) (x ∷ xs) = segment_of (suc before) xs
