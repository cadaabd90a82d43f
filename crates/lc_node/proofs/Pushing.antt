-- A list is changed element by element, from the front, and beside each change an element is put at the end of another
-- list.
use Rattle.std.proofs.Common.{◌≡◌, ℕ, ◌+◌, ◌<◌, ◌≤◌, List, [], ◌∷◌, ◌++◌, All, Some, length, get_or, set, sym, ap, subst, ◌∙◌, arith, length-append}
use mathlib.Core.Logic.{dite}
use native.Mathlib.Decide.{dec_le}
use Rattle.std.specs.Prelude.{slice_get}
use Rattle.std.proofs.lemmas.List.Elements.{All-append}
use Rattle.std.proofs.lemmas.Option.{slice_get_within, same_Some as some_same}
use Rattle.std.proofs.lemmas.List.{length-set as length_set}
use Rattle.lc_record.proofs.ListLemmas.{slice_get-append_left as get_front, slice_get_push as get_last, slice_get-set_same as get_same, slice_get-set_other as get_other}
use Rattle.lc_log_side.proofs.Backwards.{got_at}
use Rattle.lc_log_side.proofs.Knowing.{all_alone}

module _ {A B : Type 0} (R : A → B → A → Type 0) where
  pub record Pushing (xs now : List A) (ys : List B) (n : ℕ) : Type 0 where
    pub long : length now ≡ length xs
    pub count : length ys ≡ n
    pub behind : (k : ℕ) → n ≤ k → slice_get now k ≡ slice_get xs k
    pub done : (k : ℕ) (x : A) (y : B) (z : A) → slice_get xs k ≡ Some x → slice_get ys k ≡ Some y → slice_get now k ≡ Some z → R x y z

  pub next : (xs now : List A) (ys more : List B) (n : ℕ) (x : A) (y : B) (z : A) → Pushing xs now ys n → n < length now → x ≡ get_or now n x → more ≡ ys ++ y ∷ [] → R x y z → Pushing xs (set now n z) more (n + 1)
  next xs now ys more n x y z p within at pushed r =
      let now_x : slice_get now n ≡ Some x = got_at now n x at within in
      let xs_x : slice_get xs n ≡ Some x = sym (p.behind n (omega arith)) ∙ now_x in
      let count : length ys ≡ n = p.count in
      let long : length more ≡ n + 1 = ap (λ (l : List B). length l) pushed ∙ (length-append ys (y ∷ []) ∙ ap (λ (i : ℕ). i + 1) count) in
      let last : slice_get more n ≡ Some y = ap (λ (l : List B). slice_get l n) pushed ∙ (ap (λ (i : ℕ). slice_get (ys ++ y ∷ []) i) (sym count) ∙ get_last ys y) in record {
        long = length_set now n z ∙ p.long;
        count = long;
        behind = λ k l. get_other now n k z (λ e. absurd (omega arith)) ∙ p.behind k (omega arith);
        done = λ k a b c a_at b_at c_at. dite (dec_le n k)
            (λ high. let l = slice_get_within more k b b_at in let e : k ≡ n = omega arith in
            let ax : a ≡ x = some_same a x (sym a_at ∙ (ap (λ (i : ℕ). slice_get xs i) e ∙ xs_x)) in
            let by : b ≡ y = some_same b y (sym b_at ∙ (ap (λ (i : ℕ). slice_get more i) e ∙ last)) in
            let cz : c ≡ z = some_same c z (sym c_at ∙ (ap (λ (i : ℕ). slice_get (set now n z) i) e ∙ get_same now n x z now_x)) in
            subst (λ (i : A). R i b c) (sym ax) (subst (λ (i : B). R x i c) (sym by) (subst (λ (i : A). R x y i) (sym cz) r)))
            (λ less. p.done k a b c a_at (sym (ap (λ (l : List B). slice_get l k) pushed ∙ get_front ys (y ∷ []) k (omega arith)) ∙ b_at) (sym (get_other now n k z (λ e. absurd (omega arith))) ∙ c_at));
      }

-- a fact of all, where one more is put at the end
pub all_more : {B : Type 0} (P : B → Type 0) (ys more : List B) (y : B) → more ≡ ys ++ y ∷ [] → All P ys → P y → All P more
all_more {B = B} P ys more y pushed all one = subst (λ (l : List B). All P l) (sym pushed) (All-append P ys (y ∷ []) all (all_alone P y one))
