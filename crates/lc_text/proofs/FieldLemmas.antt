-- How many words the fields of a line take.
use Rattle.std.proofs.Common.{◌≡◌, ℕ, ◌+◌, List, [], ◌∷◌, length, Option, Some, None, refl, ap, arith}
use Rattle.std.specs.Prelude.{option_map}
use Rattle.lc_text.specs.Line.{◌>>=◌, first, u16_of, u32_of, thread_of, spot_of}

bound : {A B : Type 0} (o : Option A) (f : A → Option B) (y : B) → (o >>= f) ≡ Some y → (x : A) × (o ≡ Some x) × (f x ≡ Some y)
bound None f y e = absurd cc
bound (Some x) f y e = (x, refl, e)

pub first_len : {A : Type 0} (read : List ℕ → Option A) (fields : List (List ℕ)) (x : A × List (List ℕ)) → first read fields ≡ Some x → length fields ≡ length x.1 + 1
first_len read [] x e = absurd cc
first_len {A} read (word ∷ later) x e = go (read word) e
  where
    go : (o : Option A) → option_map (λ y. (y, later)) o ≡ Some x → length (word ∷ later) ≡ length x.1 + 1
    go None e = absurd cc
    go (Some y) e = let same : x ≡ (y, later) = cc in omega (arith, ap (λ (p : A × List (List ℕ)). length p.1) same)

pub thread_len : (fields : List (List ℕ)) (x : (ℕ × ℕ) × List (List ℕ)) → thread_of fields ≡ Some x → length fields ≡ length x.1 + 2
unfolding thread_of
thread_len fields x e =
    let node = bound (u16_of fields) _ x e in
    let thread = bound (u16_of node.0.1) _ x node.2 in
    let same : x.1 ≡ thread.0.1 = cc in
    omega (arith, first_len _ fields node.0 node.1, first_len _ node.0.1 thread.0 thread.1, ap (λ (l : List (List ℕ)). length l) same)

pub spot_len : (fields : List (List ℕ)) (x : (ℕ × ℕ × ℕ × ℕ) × List (List ℕ)) → spot_of fields ≡ Some x → length fields ≡ length x.1 + 4
unfolding spot_of
spot_len fields x e =
    let who = bound (thread_of fields) _ x e in
    let segment = bound (u32_of who.0.1) _ x who.2 in
    let offset = bound (u32_of segment.0.1) _ x segment.2 in
    let same : x.1 ≡ offset.0.1 = cc in
    omega (arith, thread_len fields who.0 who.1, first_len _ who.0.1 segment.0 segment.1, first_len _ segment.0.1 offset.0 offset.1, ap (λ (l : List (List ℕ)). length l) same)
