-- A stop, position by position.
use Rattle.std.proofs.Common.{◌≡◌, ◌⊎◌, ℕ, zero, suc, ◌+◌, ◌-◌, ◌<◌, ◌≤◌, Bool, true, false, List, length, min, set, slice_index_or, refl, sym, ◌∙◌, ap, subst, inl, inr, arith}
use Rattle.std.proofs.lemmas.Bool.{cases_eq}
use Rattle.std.proofs.lemmas.List.{get_or-set_same, get_or-set_other}
use Rattle.lc_disk.specs.declared.choice.Choice.{Choice}
use Rattle.lc_disk.specs.declared.choice.Choice.TheVariants.{Keep}
use Rattle.lc_disk.specs.Stop.{dirty_below, choice_for, chosen, left_by_stop}

-- the positions below this one are as a stop leaves them, and the others as they were
pub record Stopped (was stable : List ℕ) (dirty : ℕ → Bool) (choices : List Choice) (position next : ℕ) (bytes : List ℕ) : Type 0 where
  pub next_is : next ≡ min (dirty_below dirty position) (length choices - 1)
  pub done : (k : ℕ) → k < position → slice_index_or bytes k 0 ≡ left_by_stop was stable dirty choices k
  pub rest : (k : ℕ) → position ≤ k → slice_index_or bytes k 0 ≡ slice_index_or was k 0
  pub fits : (k : ℕ) → slice_index_or bytes k 0 < 256

more_choices : (next before after last : ℕ) → next ≡ min before last → after ≡ before + 1 → min (next + 1) last ≡ min after last
more_choices next before after last e h = omega (arith, e, h)

module _ (was stable : List ℕ) (dirty : ℕ → Bool) (choices : List Choice) where
  pub left_dirty : (k : ℕ) → dirty k ≡ true → left_by_stop was stable dirty choices k ≡ chosen (choice_for choices (dirty_below dirty k)) (slice_index_or was k 0) (slice_index_or stable k 0)
  left_dirty k is = rw is refl

  pub left_clean : (k : ℕ) → dirty k ≡ false → left_by_stop was stable dirty choices k ≡ slice_index_or was k 0
  left_clean k is = rw is refl

  next_place : (k : ℕ) → k + 1 ≡ suc k
  next_place k = omega arith

  below_dirty : (k : ℕ) → dirty k ≡ true → dirty_below dirty (k + 1) ≡ dirty_below dirty k + 1
  below_dirty k is = ap (dirty_below dirty) (next_place k) ∙ rw is refl

  below_clean : (k : ℕ) → dirty k ≡ false → dirty_below dirty (k + 1) ≡ dirty_below dirty k
  below_clean k is = ap (dirty_below dirty) (next_place k) ∙ rw is (omega arith)

  up_to : (k n : ℕ) → k < n + 1 → (k < n) ⊎ (k ≡ n)
  up_to k n h = elim (cases_eq k n) [ inl e ↦ inr e | inr e ↦ inl (omega (arith, e, h)) ]

  none_below : (n : ℕ) → ((k : ℕ) → k < n → dirty k ≡ false) → dirty_below dirty n ≡ 0
  none_below zero clean = refl
  none_below (suc n) clean = rw (clean n (omega arith)) (omega (arith, none_below n (λ k h. clean k (omega (arith, h)))))

  -- where nothing is dirty before the first position that is looked at
  pub stopped_none : (start : ℕ) → ((k : ℕ) → k < start → dirty k ≡ false) → ((k : ℕ) → slice_index_or was k 0 < 256) → Stopped was stable dirty choices start 0 was
  stopped_none start clean fits = record {
    next_is = omega (arith, none_below start clean);
    done = λ k h. sym (left_clean k (clean k h));
    rest = λ k h. refl;
    fits = fits;
  }

  pub stopped_clean : (position next : ℕ) (bytes : List ℕ) → dirty position ≡ false → Stopped was stable dirty choices position next bytes
      → Stopped was stable dirty choices (position + 1) next bytes
  stopped_clean position next bytes is s = record {
    next_is = s.next_is ∙ ap (λ (n : ℕ). min n (length choices - 1)) (sym (below_clean position is));
    done = λ k h. elim (up_to k position h) [
      | inl below ↦ s.done k below
      | inr e ↦ subst (λ (i : ℕ). slice_index_or bytes i 0 ≡ left_by_stop was stable dirty choices i) (sym e) (s.rest position (omega arith) ∙ sym (left_clean position is))
    ];
    rest = λ k h. s.rest k (omega (arith, h));
    fits = s.fits;
  }

  pub stopped_dirty : (position next : ℕ) (bytes : List ℕ) (byte : ℕ) → dirty position ≡ true → position < length bytes → byte < 256
      → byte ≡ chosen (slice_index_or choices next Keep) (slice_index_or bytes position 0) (slice_index_or stable position 0)
      → Stopped was stable dirty choices position next bytes
      → Stopped was stable dirty choices (position + 1) (min (next + 1) (length choices - 1)) (set bytes position byte)
  stopped_dirty position next bytes byte is inside small left s =
      let here : byte ≡ left_by_stop was stable dirty choices position =
      left
      ∙ ap (λ (n : ℕ). chosen (slice_index_or choices n Keep) (slice_index_or bytes position 0) (slice_index_or stable position 0)) s.next_is
      ∙ ap (λ (b : ℕ). chosen (choice_for choices (dirty_below dirty position)) b (slice_index_or stable position 0)) (s.rest position (omega arith))
      ∙ sym (left_dirty position is) in
      record {
        next_is = more_choices next (dirty_below dirty position) (dirty_below dirty (position + 1)) (length choices - 1) s.next_is (below_dirty position is);
        done = λ k h. elim (up_to k position h) [
          | inl below ↦ get_or-set_other bytes position k byte 0 (omega (arith, below)) ∙ s.done k below
          | inr e ↦ subst (λ (i : ℕ). slice_index_or (set bytes position byte) i 0 ≡ left_by_stop was stable dirty choices i) (sym e)
              (get_or-set_same bytes position byte 0 inside ∙ here)
        ];
        rest = λ k h. get_or-set_other bytes position k byte 0 (omega (arith, h)) ∙ s.rest k (omega (arith, h));
        fits = λ k. elim (cases_eq k position) [
          | inl e ↦ subst (λ (i : ℕ). slice_index_or (set bytes position byte) i 0 < 256) (sym e) (subst (λ (b : ℕ). b < 256) (sym (get_or-set_same bytes position byte 0 inside)) small)
          | inr e ↦ subst (λ (b : ℕ). b < 256) (sym (get_or-set_other bytes position k byte 0 e)) (s.fits k)
        ];
      }
