-- Of a node: a list is changed element by element, from the back, beside another that is taken apart.
use Rattle.std.proofs.Common.{◌≡◌, ℕ, ◌+◌, ◌<◌, ◌≤◌, List, [], ◌∷◌, ◌++◌, Some, length, get_or, set, sym, ap, subst, ◌∙◌, arith, length-append}
use mathlib.Core.Logic.{dite}
use native.Mathlib.Decide.{dec_le}
use Rattle.std.specs.Prelude.{slice_get}
use Rattle.std.proofs.lemmas.Option.{slice_get_within, same_Some as some_same}
use Rattle.std.proofs.lemmas.List.{length-set as length_set}
use Rattle.lc_record.proofs.ListLemmas.{slice_get-append_left as get_front, slice_get_push as get_last, slice_get-set_same as get_same, slice_get-set_other as get_other}
use Rattle.lc_segments.specs.Each.{Each}
use Rattle.lc_node.specs.Each.{EachThree}
use Rattle.lc_log_side.proofs.Backwards.{got_at}

module _ {A B : Type 0} (R : A → B → A → Type 0) where
  pub record Backwards (xs now : List A) (ys left : List B) : Type 0 where
    pub long : length now ≡ length xs
    pub same : length ys ≡ length xs
    pub few : length left ≤ length ys
    pub rest : (k : ℕ) → k < length left → slice_get left k ≡ slice_get ys k
    pub front : (k : ℕ) → k < length left → slice_get now k ≡ slice_get xs k
    pub done : (k : ℕ) (x : A) (y : B) (z : A) → length left ≤ k → slice_get xs k ≡ Some x → slice_get ys k ≡ Some y → slice_get now k ≡ Some z → R x y z

  pub step : (xs now : List A) (ys whole left : List B) (y : B) (x : A) → Backwards xs now ys whole → whole ≡ left ++ y ∷ [] → x ≡ get_or now (length left) x
      → (slice_get xs (length left) ≡ Some x) × (slice_get ys (length left) ≡ Some y) × ((z : A) → R x y z → Backwards xs (set now (length left) z) ys left)
  step xs now ys whole left y x b split at =
      let n : ℕ = length left in let long : length whole ≡ n + 1 = ap (λ (l : List B). length l) split ∙ length-append left (y ∷ []) in
      let less : n < length whole = omega arith in
      let within : n < length now = (let f = b.few in let s = b.same in let l = b.long in omega arith) in
      let now_x : slice_get now n ≡ Some x = got_at now n x at within in
      let xs_x : slice_get xs n ≡ Some x = sym (b.front n less) ∙ now_x in
      let ys_y : slice_get ys n ≡ Some y = sym (b.rest n less) ∙ (ap (λ (l : List B). slice_get l n) split ∙ get_last left y) in (
        xs_x,
        ys_y,
        λ z r. record {
          long = length_set now n z ∙ b.long;
          same = b.same;
          few = (let f = b.few in omega arith);
          rest = λ k l. sym (get_front left (y ∷ []) k l) ∙ (ap (λ (l : List B). slice_get l k) (sym split) ∙ b.rest k (omega arith));
          front = λ k l. get_other now n k z (λ e. absurd (omega arith)) ∙ b.front k (omega arith);
          done = λ k p q o past p_at q_at o_at. dite (dec_le (n + 1) k)
              (λ high. b.done k p q o (omega arith) p_at q_at (sym (get_other now n k z (λ e. absurd (omega arith))) ∙ o_at))
              (λ low. let e : k ≡ n = omega arith in
              let px : p ≡ x = some_same p x (sym p_at ∙ (ap (λ (i : ℕ). slice_get xs i) e ∙ xs_x)) in
              let qy : q ≡ y = some_same q y (sym q_at ∙ (ap (λ (i : ℕ). slice_get ys i) e ∙ ys_y)) in
              let oz : o ≡ z = some_same o z (sym o_at ∙ (ap (λ (i : ℕ). slice_get (set now n z) i) e ∙ get_same now n x z now_x)) in
              subst (λ (i : A). R i q o) (sym px) (subst (λ (i : B). R x i o) (sym qy) (subst (λ (i : A). R x y i) (sym oz) r)));
        },
      )

  pub finish : (xs now : List A) (ys left : List B) → Backwards xs now ys left → left ≡ [] → EachThree R xs ys now
  finish xs now ys left b none = record { long = b.same; long_too = b.long; each = λ k x y z x_at y_at z_at. b.done k x y z (let e : length left ≡ 0 = ap (λ (l : List B). length l) none in omega arith) x_at y_at z_at }

module _ {A B : Type 0} (R : A → B → Type 0) where
  pub each_more : (xs : List A) (ys : List B) (x : A) (y : B) → Each R xs ys → R x y → Each R (xs ++ x ∷ []) (ys ++ y ∷ [])
  each_more xs ys x y e r = let le = e.long in let lx = length-append xs (x ∷ []) in let ly = length-append ys (y ∷ []) in record {
    long = omega arith;
    each = λ k p q p_at q_at. let lk = slice_get_within (xs ++ x ∷ []) k p p_at in dite (dec_le (length xs) k)
        (λ high. let a : k ≡ length xs = omega arith in let b : k ≡ length ys = omega arith in
        subst (λ (i : A). R i q) (some_same x p (sym (get_last xs x) ∙ (sym (ap (λ (n : ℕ). slice_get (xs ++ x ∷ []) n) a) ∙ p_at)))
        (subst (λ (i : B). R x i) (some_same y q (sym (get_last ys y) ∙ (sym (ap (λ (n : ℕ). slice_get (ys ++ y ∷ []) n) b) ∙ q_at))) r))
        (λ low. e.each k p q (sym (get_front xs (x ∷ []) k (omega arith)) ∙ p_at) (sym (get_front ys (y ∷ []) k (omega arith)) ∙ q_at));
  }
