-- Of a log under its lock: a list is changed element by element, from the front.
use Rattle.std.proofs.Common.{◌≡◌, ℕ, ◌+◌, ◌<◌, ◌≤◌, List, Some, length, get_or, set, sym, ap, subst, ◌∙◌, arith}
use mathlib.Core.Logic.{dite}
use native.Mathlib.Decide.{dec_le}
use Rattle.std.specs.Prelude.{slice_get}
use Rattle.std.proofs.lemmas.Option.{same_Some as some_same}
use Rattle.std.proofs.lemmas.List.{length-set as length_set}
use Rattle.lc_record.proofs.ListLemmas.{slice_get-set_same as get_same, slice_get-set_other as get_other}
use Rattle.lc_segments.specs.Each.{Each}
use Rattle.lc_log_side.proofs.Backwards.{got_at}

module _ {A : Type 0} (R : A → A → Type 0) where
  pub record Forwards (xs now : List A) (n : ℕ) : Type 0 where
    pub long : length now ≡ length xs
    pub behind : (k : ℕ) → n ≤ k → slice_get now k ≡ slice_get xs k
    pub done : (k : ℕ) (x z : A) → k < n → slice_get xs k ≡ Some x → slice_get now k ≡ Some z → R x z

  pub next : (xs now : List A) (n : ℕ) (x z : A) → Forwards xs now n → n < length now → x ≡ get_or now n x → R x z → Forwards xs (set now n z) (n + 1)
  next xs now n x z f within at r =
      let now_x : slice_get now n ≡ Some x = got_at now n x at within in
      let xs_x : slice_get xs n ≡ Some x = sym (f.behind n (omega arith)) ∙ now_x in record {
        long = length_set now n z ∙ f.long;
        behind = λ k l. get_other now n k z (λ e. absurd (omega arith)) ∙ f.behind k (omega arith);
        done = λ k p o low p_at o_at. dite (dec_le n k)
            (λ high. let e : k ≡ n = omega arith in
            let px : p ≡ x = some_same p x (sym p_at ∙ (ap (λ (i : ℕ). slice_get xs i) e ∙ xs_x)) in
            let oz : o ≡ z = some_same o z (sym o_at ∙ (ap (λ (i : ℕ). slice_get (set now n z) i) e ∙ get_same now n x z now_x)) in
            subst (λ (i : A). R i o) (sym px) (subst (λ (i : A). R x i) (sym oz) r))
            (λ less. f.done k p o (omega arith) p_at (sym (get_other now n k z (λ e. absurd (omega arith))) ∙ o_at));
      }

  -- what holds of each that was changed, and of each that was not
  pub all_of : (xs now : List A) (n : ℕ) → Forwards xs now n → ((x : A) → R x x) → Each R xs now
  all_of xs now n f same = record {
    long = f.long;
    each = λ k x z x_at z_at. dite (dec_le n k)
        (λ high. subst (R x) (some_same x z (sym x_at ∙ (sym (f.behind k high) ∙ z_at))) (same x))
        (λ low. f.done k x z (omega arith) x_at z_at);
  }
