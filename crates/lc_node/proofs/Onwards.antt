-- A list is changed element by element, from the front, beside another.
use Rattle.std.proofs.Common.{◌≡◌, ℕ, ◌+◌, ◌<◌, ◌≤◌, List, Some, length, get_or, set, sym, ap, subst, ◌∙◌, arith}
use mathlib.Core.Logic.{dite}
use native.Mathlib.Decide.{dec_le}
use Rattle.std.specs.Prelude.{slice_get}
use Rattle.std.proofs.lemmas.Option.{slice_get_within, same_Some as some_same}
use Rattle.std.proofs.lemmas.List.{length-set as length_set}
use Rattle.lc_record.proofs.ListLemmas.{slice_get-set_same as get_same, slice_get-set_other as get_other}
use Rattle.lc_node.specs.Each.{EachThree}
use Rattle.lc_log_side.proofs.Backwards.{got_at}

module _ {A B : Type 0} (R : A → B → A → Type 0) where
  pub record Onwards (xs now : List A) (ys : List B) (n : ℕ) : Type 0 where
    pub long : length now ≡ length xs
    pub behind : (k : ℕ) → n ≤ k → slice_get now k ≡ slice_get xs k
    pub done : (k : ℕ) (x : A) (y : B) (z : A) → k < n → slice_get xs k ≡ Some x → slice_get ys k ≡ Some y → slice_get now k ≡ Some z → R x y z

  -- the element in this place, as it was
  pub untouched : (xs now : List A) (ys : List B) (n : ℕ) (x : A) → Onwards xs now ys n → n < length now → x ≡ get_or now n x → slice_get xs n ≡ Some x
  untouched xs now ys n x f within at = sym (f.behind n (omega arith)) ∙ got_at now n x at within

  pub onward : (xs now : List A) (ys : List B) (n : ℕ) (x : A) (y : B) (z : A) → Onwards xs now ys n → n < length now → x ≡ get_or now n x → slice_get ys n ≡ Some y → R x y z → Onwards xs (set now n z) ys (n + 1)
  onward xs now ys n x y z f within at y_at r =
      let now_x : slice_get now n ≡ Some x = got_at now n x at within in
      let xs_x : slice_get xs n ≡ Some x = sym (f.behind n (omega arith)) ∙ now_x in record {
        long = length_set now n z ∙ f.long;
        behind = λ k l. get_other now n k z (λ e. absurd (omega arith)) ∙ f.behind k (omega arith);
        done = λ k p q o low p_at q_at o_at. dite (dec_le n k)
            (λ high. let e : k ≡ n = omega arith in
            let px : p ≡ x = some_same p x (sym p_at ∙ (ap (λ (i : ℕ). slice_get xs i) e ∙ xs_x)) in
            let qy : q ≡ y = some_same q y (sym q_at ∙ (ap (λ (i : ℕ). slice_get ys i) e ∙ y_at)) in
            let oz : o ≡ z = some_same o z (sym o_at ∙ (ap (λ (i : ℕ). slice_get (set now n z) i) e ∙ get_same now n x z now_x)) in
            subst (λ (i : A). R i q o) (sym px) (subst (λ (i : B). R x i o) (sym qy) (subst (λ (i : A). R x y i) (sym oz) r)))
            (λ less. f.done k p q o (omega arith) p_at q_at (sym (get_other now n k z (λ e. absurd (omega arith))) ∙ o_at));
      }

  pub all_onward : (xs now : List A) (ys : List B) (n : ℕ) → Onwards xs now ys n → length xs ≤ n → length ys ≡ length xs → EachThree R xs ys now
  all_onward xs now ys n f whole beside = record {
    long = beside;
    long_too = f.long;
    each = λ k x y z x_at y_at z_at. let within = slice_get_within xs k x x_at in f.done k x y z (omega arith) x_at y_at z_at;
  }
