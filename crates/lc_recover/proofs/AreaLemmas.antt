-- A list of areas of which one is called.
use Rattle.std.proofs.Common.{◌≡◌, ◌≢◌, ◌⊎◌, ℕ, zero, suc, ◌<◌, Bool, true, false, Option, Some, List, [], ◌∷◌, ◌++◌, map, length, refl, sym, ◌∙◌, ap, subst, arith, inl, inr}
use Rattle.std.specs.Prelude.{slice_get, slice_set, slice_index_or, Result, Ok, Err, OnOk, OnErr, IsErr, is_ok}
use Rattle.std.proofs.lemmas.Option.{none-some, slice_get_within, get_or_from_slice_get, same_Some as one_item}
use Rattle.std.proofs.Math.Seq.{map-set_same}
use Rattle.std.proofs.lemmas.List.{length-set, length-append}
use Rattle.std.proofs.lemmas.Bool.{cases_eq, cases_lt}
use Rattle.lc_disk.specs.Area.{IsImage}
use Rattle.lc_disk.specs.declared.area.Area.{Ghosts}
use Rattle.lc_disk.proofs.Images.{image_kept}
use Rattle.lc_record.specs.Content.{Content}
use Rattle.lc_record.specs.declared.geometry.Geometry.{Geometry}
use Rattle.lc_record.proofs.ListLemmas.{slice_get-append_left as get-append, slice_get_push as get-append_end}
use Rattle.lc_recover.specs.Reads.{AreHonest, AllMergeTo}
use Rattle.lc_log.specs.OneCall.{IsOneCall}
use Rattle.lc_recover.specs.RecoveryPhase.{AreaFits, AreasFit, OneCall, Quiet}
use Rattle.lc_recover.specs.declared.recovery_phase.RecoveryPhase.{RecoveryPhase}
use Rattle.lc_recover.specs.declared.recovery_phase.RecoveryPhase.TheVariants.{Syncing}

-- what stands in a list of which one place was set
pub get-set : {A : Type 0} (xs : List A) (k : ℕ) (y : A) (j : ℕ) (x : A) → slice_get (slice_set xs k y) j ≡ Some x → ((j ≡ k) × (x ≡ y)) ⊎ ((j ≢ k) × (slice_get xs j ≡ Some x))
get-set [] k y j x is = inr ((λ same. none-some x is), is)
get-set (z ∷ zs) zero y zero x is = inl (refl, one_item x y (sym is))
get-set (z ∷ zs) zero y (suc j) x is = inr ((λ same. omega (arith, same)), is)
get-set (z ∷ zs) (suc k) y zero x is = inr ((λ same. omega (arith, same)), is)
get-set (z ∷ zs) (suc k) y (suc j) x is =
    elim (get-set zs k y j x is) [
      | inl here ↦ inl (ap suc here.0, here.1)
      | inr there ↦ inr ((λ same. there.0 (omega (arith, same))), there.1)
    ]

pub set-get : {A : Type 0} (xs : List A) (k : ℕ) (y x : A) → slice_get xs k ≡ Some x → slice_get (slice_set xs k y) k ≡ Some y
set-get [] k y x is = absurd (none-some x is)
set-get (z ∷ zs) zero y x is = refl
set-get (z ∷ zs) (suc k) y x is = set-get zs k y x is

pub set-others : {A : Type 0} (xs : List A) (k : ℕ) (y : A) (j : ℕ) (x : A) → j ≢ k → slice_get xs j ≡ Some x → slice_get (slice_set xs k y) j ≡ Some x
set-others [] k y j x differ is = is
set-others (z ∷ zs) zero y zero x differ is = absurd (differ refl)
set-others (z ∷ zs) zero y (suc j) x differ is = is
set-others (z ∷ zs) (suc k) y zero x differ is = is
set-others (z ∷ zs) (suc k) y (suc j) x differ is = set-others zs k y j x (λ same. differ (ap suc same)) is

pub each-set : {A : Type 0} (P : ℕ → A → Type 0) (xs : List A) (k : ℕ) (y : A) → ((j : ℕ) (x : A) → j ≢ k → slice_get xs j ≡ Some x → P j x) → P k y → (j : ℕ) (x : A) → slice_get (slice_set xs k y) j ≡ Some x → P j x
each-set {A = A} P xs k y others own j x is =
    elim (get-set xs k y j x is) [
      | inl here ↦ subst (λ (i : ℕ). P i x) (sym here.0) (subst (λ (z : A). P k z) (sym here.1) own)
      | inr there ↦ others j x there.0 there.1
    ]

module _ {D : Type 0} (a : Ghosts D) (g : Geometry) where
  pub begins : (stage : RecoveryPhase) (areas : List D) → AreasFit a g stage areas → AreasFit a g (Syncing 0) areas
  begins stage areas fits = record {
    count = fits.count;
    each = λ k area is. record {
      len = (fits.each k area is).len;
      bytes = (fits.each k area is).bytes;
      log = λ honest less none. absurd (omega (arith, none));
      segment = λ honest more none. absurd (omega (arith, none));
    };
  }

  pub quiet-bytes : (stage : RecoveryPhase) (k : ℕ) (old new : D) → AreaFits a g stage k old → Quiet a old new → a.honest new ≡ true → (at : ℕ) → slice_index_or (a.now new) at 0 < 256
  quiet-bytes stage k old new fits quiet honest =
      let was : a.honest old ≡ true = sym quiet.honest ∙ honest in
      subst (λ (l : List ℕ). (at : ℕ) → slice_index_or l at 0 < 256) (sym (quiet.same was)) (fits.bytes was)

  module _ (areas : List D) (k : ℕ) (old new : D) (was : slice_get areas k ≡ Some old) where
    pub count-set : length (slice_set areas k new) ≡ length areas
    count-set = length-set areas k new

    -- each area is as it was, and the one that was called is as is told
    pub fits-set : (stage later : RecoveryPhase) → AreasFit a g stage areas →
        ((j : ℕ) (area : D) → j ≢ k → slice_get areas j ≡ Some area → AreaFits a g stage j area → AreaFits a g later j area) →
        AreaFits a g later k new → AreasFit a g later (slice_set areas k new)
    fits-set stage later fits others own = record {
      count = count-set ∙ fits.count;
      each = each-set (λ j area. AreaFits a g later j area) areas k new (λ j area differ is. others j area differ is (fits.each j area is)) own;
    }

    pub quiet-begins : (stage : RecoveryPhase) → AreasFit a g stage areas → Quiet a old new → AreasFit a g (Syncing 0) (slice_set areas k new)
    quiet-begins stage fits quiet =
        fits-set (Syncing 0) (Syncing 0) (begins stage areas fits) (λ j area differ is f. f) (record {
          len = ap Some quiet.len ∙ (fits.each k old was).len;
          bytes = quiet-bytes stage k old new (fits.each k old was) quiet;
          log = λ honest less none. absurd (omega (arith, none));
          segment = λ honest more none. absurd (omega (arith, none));
        })

    pub quiet-merges : (content : Content) (numbers : ℕ → ℕ) → Quiet a old new → AreHonest a (slice_set areas k new) → AllMergeTo a g areas content numbers → AllMergeTo a g (slice_set areas k new) content numbers
    quiet-merges content numbers quiet honest merges images are =
        let now_there : slice_get (slice_set areas k new) k ≡ Some new = set-get areas k new old was in
        let was_honest : a.honest old ≡ true = sym quiet.honest ∙ honest k new now_there in
        merges images (record {
          count = are.count ∙ count-set;
          each = λ j area is.
              elim (cases_eq j k) [
                | inl here ↦
                    let same : area ≡ old = one_item area old (sym is ∙ ap (slice_get areas) here ∙ was) in
                    let image : IsImage (a.now new) (a.dirty new) (slice_index_or images j []) = are.each j new (ap (slice_get (slice_set areas k new)) here ∙ now_there) in
                    subst (λ (x : D). IsImage (a.now x) (a.dirty x) (slice_index_or images j [])) (sym same)
                    (image_kept (a.now old) (a.now new) (a.dirty old) (a.dirty new) (quiet.same was_honest) (quiet.clean was_honest) (slice_index_or images j []) image)
                | inr differ ↦ are.each j area (set-others areas k new j area differ is)
              ];
        })

    pub quiet-reads : Quiet a old new → AreHonest a areas → map a.now (slice_set areas k new) ≡ map a.now areas
    quiet-reads quiet honest =
        map-set_same a.now areas k new old (quiet.same (honest k old was) ∙ ap a.now (sym (get_or_from_slice_get areas k old old was)))

    pub one-call : (ok : Bool) → IsOneCall a ok old new → OneCall a k areas (slice_set areas k new) ok
    one-call ok call = record { old = old; new = new; was = was; is = refl; honest = call.honest; counted = call.counted; call = call }

-- one more area is read
pub read-lengths : (read : List (List ℕ)) (bytes : List ℕ) (len : ℕ → Option ℕ) → ((j : ℕ) (b : List ℕ) → slice_get read j ≡ Some b → Some (length b) ≡ len j) → Some (length bytes) ≡ len (length read) →
    (j : ℕ) (b : List ℕ) → slice_get (read ++ bytes ∷ []) j ≡ Some b → Some (length b) ≡ len j
read-lengths read bytes len others own j b is =
    elim (cases_lt j (length read)) [
      | inl before ↦ others j b (sym (get-append read (bytes ∷ []) j before) ∙ is)
      | inr not_before ↦
          let within : j < length (read ++ bytes ∷ []) = slice_get_within (read ++ bytes ∷ []) j b is in
          let here : j ≡ length read = omega (arith, not_before, within, length-append read (bytes ∷ [])) in
          let same : b ≡ bytes = one_item b bytes (sym is ∙ ap (slice_get (read ++ bytes ∷ [])) here ∙ get-append_end read bytes) in
          ap (λ (l : List ℕ). Some (length l)) same ∙ own ∙ ap len (sym here)
    ]

-- what stands in a list at whose end one item was put
pub get-pushed : {A : Type 0} (xs : List A) (y : A) (j : ℕ) (x : A) → slice_get (xs ++ y ∷ []) j ≡ Some x → (slice_get xs j ≡ Some x) ⊎ ((j ≡ length xs) × (x ≡ y))
get-pushed xs y j x is =
    elim (cases_lt j (length xs)) [
      | inl before ↦ inl (sym (get-append xs (y ∷ []) j before) ∙ is)
      | inr not_before ↦
          let within : j < length (xs ++ y ∷ []) = slice_get_within (xs ++ y ∷ []) j x is in
          let here : j ≡ length xs = omega (arith, not_before, within, length-append xs (y ∷ [])) in
          inr (here, one_item x y (sym is ∙ ap (slice_get (xs ++ y ∷ [])) here ∙ get-append_end xs y))
    ]

-- what a sync leaves dirty was dirty, whether it failed or not
pub cleaner : {A B : Type 0} (r : Result A B) {H : Type 0} (old new : ℕ → Bool) → OnOk r (H → (k : ℕ) → new k ≡ false) → OnErr r (H → (k : ℕ) → new k ≡ old k) → H → (k : ℕ) → old k ≡ false → new k ≡ false
cleaner (Ok x) old new ok err honest k clean = ok honest k
cleaner (Err e) old new ok err honest k clean = err honest k ∙ clean

pub not_ok : {A B : Type 0} (r : Result A B) → IsErr r → false ≡ is_ok r
not_ok (Ok x) err = err
not_ok (Err e) err = refl

-- what follows where a call was made
pub on_ok : {A B : Type 0} (r : Result A B) (P Q : Type 0) → OnOk r P → (P → Q) → OnOk r Q
on_ok (Ok x) P Q holds leads = leads holds
on_ok (Err e) P Q holds leads = tt
