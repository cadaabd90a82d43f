-- A list is changed element by element.
use Rattle.std.proofs.Common.{◌≡◌, ℕ, zero, suc, ◌+◌, ◌<◌, List, [], ◌∷◌, ◌++◌, length, map, get_or, set, take, drop, refl, sym, ap, ◌∙◌, arith, append_assoc}
use lib.Seq.{get_or-append-add}
use Rattle.std.proofs.lemmas.List.{map-append, take_more, drop_more, length-map, length-take-le}

module _ {A : Type 0} where
  set_mid : (ys zs : List A) (y z : A) (i : ℕ) → i ≡ length ys → set (ys ++ y ∷ zs) i z ≡ ys ++ z ∷ zs
  set_mid [] zs y z zero e = refl
  set_mid [] zs y z (suc i) e = absurd (omega arith)
  set_mid (x ∷ ys) zs y z zero e = absurd (omega arith)
  set_mid (x ∷ ys) zs y z (suc i) e = ap (λ (l : List A). x ∷ l) (set_mid ys zs y z i (omega arith))

  pub walked : (f : A → A) (xs now : List A) (i : ℕ) (x : A) → now ≡ map f (take i xs) ++ drop i xs → i < length xs → x ≡ get_or now i x
      → (x ≡ get_or xs i x) × (set now i (f x) ≡ map f (take (i + 1) xs) ++ drop (i + 1) xs)
  walked f xs now i x is more at = let ys : List A = map f (take i xs) in let zs : List A = drop (i + 1) xs in let y : A = get_or xs i x in
      let long : length ys ≡ i = length-map (take i xs) f ∙ length-take-le i xs (omega arith) in
      let split : now ≡ ys ++ (y ∷ zs) = is ∙ ap (λ (l : List A). ys ++ l) (drop_more xs i x more) in
      let same : x ≡ y = at ∙ (ap (λ (l : List A). get_or l i x) split ∙ (ap (λ (k : ℕ). get_or (ys ++ (y ∷ zs)) k x) (let e : i ≡ length ys + 0 = omega arith in e) ∙ get_or-append-add ys (y ∷ zs) 0 x)) in
      let front : map f (take (i + 1) xs) ≡ ys ++ f y ∷ [] = ap (map f) (take_more xs i x more) ∙ map-append f (take i xs) (y ∷ []) in (
        same,
        ap (λ (l : List A). set l i (f x)) split ∙ (set_mid ys zs y (f x) i (sym long) ∙ (ap (λ (z : A). ys ++ f z ∷ zs) same ∙ (sym (append_assoc ys (f y ∷ []) zs) ∙ ap (λ (l : List A). l ++ zs) (sym front)))),
      )
