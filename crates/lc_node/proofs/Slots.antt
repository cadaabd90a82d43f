-- Of a node: the slots of lent images, by their segments, which ascend.
use Rattle.std.proofs.Common.{◌≡◌, ℕ, zero, suc, ◌<◌, eqb, true, List, [], ◌∷◌, Some, None, map, refl, sym, ap, ◌∙◌, inl, inr, arith, eqb-true}
use Rattle.std.specs.Prelude.{slice_get, Option}
use Rattle.std.proofs.lemmas.Bool.{or_cases, false≢true}
use Rattle.std.proofs.lemmas.Option.{same_Some as some_same}
use Rattle.lc_record.specs.Record.{Chain}
use Rattle.lc_record.specs.Transaction.{is_member}
use Rattle.lc_tx.specs.declared.image.Image.{Image as Picture}
use Rattle.lc_segments.specs.Each.{Each}
use Rattle.lc_segments.specs.HeldImages.{hidden}
use Rattle.lc_segments.specs.declared.lent.LentSlot.{LentSlot}
use Rattle.lc_segments.proofs.Slots.{AscendFrom, SameBeside, each_tail}

-- Lists beside each other

module _ {A B : Type 0} (R : A → B → Type 0) where
  pub each_to : (xs : List A) (ys : List B) (k : ℕ) (x : A) → Each R xs ys → slice_get xs k ≡ Some x → (y : B) × (slice_get ys k ≡ Some y) × R x y
  each_to [] ys k x e is = absurd cc
  each_to (z ∷ xs) [] k x e is = absurd (let l = e.long in omega arith)
  each_to (z ∷ xs) (y ∷ ys) zero x e is = (y, refl, e.each 0 x y is refl)
  each_to (z ∷ xs) (y ∷ ys) (suc k) x e is = each_to xs ys k x ((each_tail R) z xs y ys e) is

module _ {A B : Type 0} (f : A → B) where
  pub map_got : (xs : List A) (k : ℕ) (y : B) → slice_get (map f xs) k ≡ Some y → (x : A) × (slice_get xs k ≡ Some x) × (f x ≡ y)
  map_got [] k y is = absurd cc
  map_got (z ∷ xs) zero y is = (z, refl, some_same (f z) y is)
  map_got (z ∷ xs) (suc k) y is = map_got xs k y is

pub member_place : (x : ℕ) (xs : List ℕ) → is_member x xs ≡ true → (k : ℕ) × (slice_get xs k ≡ Some x)
member_place x [] is = absurd (false≢true is)
member_place x (z ∷ xs) is = elim (or_cases (eqb z x) (is_member x xs) is) [
  | inl here ↦ (0, ap (λ (y : ℕ). Some y) (eqb-true z x here))
  | inr later ↦ let at = member_place x xs later in (suc at.0, at.1)
]

pub ascend_from : (xs : List ℕ) → Chain (λ a b. a < b) xs → AscendFrom 0 xs
ascend_from [] c = tt
ascend_from (x ∷ []) c = (omega arith, tt)
ascend_from (x ∷ y ∷ ys) c = let less : x < y = c.0 in (omega arith, (omega arith, (ascend_from (y ∷ ys) c.1).1))

-- an image of a segment whose token is not here has not changed
pub hidden_image : (a b : LentSlot) → SameBeside a b → a.number ≡ None → b.image ≡ a.image
hidden_image a b same none =
    let number : b.number ≡ None = ap (λ (t : ℕ × Option ℕ × Option Picture). t.1) same ∙ none in
    let shown : hidden b.number b.image ≡ hidden a.number a.image = ap (λ (t : ℕ × Option ℕ × Option Picture). t.2) same in
    let both : Some b.image ≡ Some a.image = sym (ap (λ (n : Option ℕ). hidden n b.image) number) ∙ (shown ∙ ap (λ (n : Option ℕ). hidden n a.image) none) in
    some_same b.image a.image both
