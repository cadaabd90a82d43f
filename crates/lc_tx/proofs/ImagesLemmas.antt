-- How images change, a segment after another.
use Rattle.std.proofs.Common.{◌≡◌, ◌≢◌, ℕ, true, List, [], ◌∷◌, ◌++◌, length, Option, unwrap_or, refl, sym, ap, subst, ◌∙◌, inl, inr}
use Rattle.std.specs.Prelude.{IsSome, None, Some, slice_index}
use Rattle.std.proofs.lemmas.Bool.{cases_Bool, cases_eq, false≢true}
use Rattle.lc_record.specs.Transaction.{is_member}
use Rattle.lc_range.specs.Undo.{OldBytes, kept}
use Rattle.lc_tx.specs.declared.images.Images.{Ghosts}
use Rattle.lc_tx.specs.declared.image.Image.{Image as Picture}
use Rattle.lc_tx.specs.declared.lock_mode.LockMode.{LockMode}
use Rattle.lc_tx.specs.Holders.{Leaves}
use Rattle.lc_tx.specs.Images.{IsHere, bytes_of, IsSameBut, IsSame}
use Rattle.lc_tx.specs.LockMode.{Allow, Takes}
use Rattle.lc_tx.specs.Locking.{AreBack, AreLeft, AreTaken, CanLock}
use Rattle.lc_tx.proofs.HolderLemmas.{leaves_twice, takes_twice}
use Rattle.lc_tx.proofs.MemberLemmas.{member_push, neither, no_member_push, not_one, one_is}

-- the laws of images
pub record ImageLaws {I : Type 0} (m : Ghosts I) : Type 0 where
  pub same_numbers : (s : I) (segment other : ℕ) (image : Picture) → IsSome (m.number_of s segment) → m.number_of (m.with_image s segment image) other ≡ m.number_of s other
  pub own_image : (s : I) (segment : ℕ) (image : Picture) → IsSome (m.number_of s segment) → m.image_of (m.with_image s segment image) segment ≡ image
  pub other_image : (s : I) (segment other : ℕ) (image : Picture) → IsSome (m.number_of s segment) → IsSome (m.number_of s other) → other ≢ segment
      → m.image_of (m.with_image s segment image) other ≡ m.image_of s other
  pub beside_itself : (s : I) → m.IsSameBeside s s
  pub beside_image : (s : I) (segment : ℕ) (image : Picture) → IsSome (m.number_of s segment) → m.IsSameBeside s (m.with_image s segment image)
  pub beside_chained : (s t u : I) → m.IsSameBeside s t → m.IsSameBeside t u → m.IsSameBeside s u

-- what became of the image of a segment that is locked, of one whose lock is given back, and of one that is restored
abbrev pub Taken : LockMode → ℕ → ℕ → Picture → Picture → Type 0
Taken mode thread segment old new = Takes mode thread old.holders new.holders × (new.bytes.items ≡ old.bytes.items)

abbrev pub Left : ℕ → ℕ → Picture → Picture → Type 0
Left thread segment old new = Leaves thread old.holders new.holders × (new.bytes.items ≡ old.bytes.items)

abbrev pub Back : List OldBytes → ℕ → Picture → Picture → Type 0
Back copies segment old new =
    (new.holders ≡ old.holders) × (length new.bytes.items ≡ length old.bytes.items)
    × ((k : ℕ) → slice_index new.bytes.items k ≡ unwrap_or (kept copies segment k) (slice_index old.bytes.items k))

taken_twice : (mode : LockMode) (thread s : ℕ) (a b c : Picture) → Taken mode thread s a b → Taken mode thread s b c → Taken mode thread s a c
taken_twice mode thread s a b c one two = (takes_twice mode thread a.holders b.holders c.holders one.0 two.0, two.1 ∙ one.1)

left_twice : (thread s : ℕ) (a b c : Picture) → Left thread s a b → Left thread s b c → Left thread s a c
left_twice thread s a b c one two = (leaves_twice thread a.holders b.holders c.holders one.0 two.0, two.1 ∙ one.1)

back_twice : (copies : List OldBytes) (s : ℕ) (a b c : Picture) → Back copies s a b → Back copies s b c → Back copies s a c
back_twice copies s a b c one two =
    (two.0 ∙ one.0, two.1 ∙ one.1, λ k. two.2 k ∙ ap (unwrap_or (kept copies s k)) (one.2 k) ∙ twice (kept copies s k) (slice_index a.bytes.items k))
  where
    twice : (o : Option ℕ) (x : ℕ) → unwrap_or o (unwrap_or o x) ≡ unwrap_or o x
    twice None x = refl
    twice (Some y) x = refl

module _ {I : Type 0} (m : Ghosts I) where
  -- a relation holds between the old image and the new one of each of these, and nothing else has changed
  abbrev pub EachIs : (ℕ → Picture → Picture → Type 0) → List ℕ → I → I → Type 0
  EachIs R segments old new = IsSameBut m segments old new × ((s : ℕ) → is_member s segments ≡ true → R s (m.image_of old s) (m.image_of new s))

  pub taken_from : (mode : LockMode) (thread : ℕ) (segments : List ℕ) (old new : I) → EachIs (Taken mode thread) segments old new → AreTaken m mode thread segments old new
  taken_from mode thread segments old new each = record { same = each.0; takes = λ s e. (each.1 s e).0; same_bytes = λ s e. (each.1 s e).1 }

  pub left_from : (thread : ℕ) (segments : List ℕ) (old new : I) → EachIs (Left thread) segments old new → AreLeft m thread segments old new
  left_from thread segments old new each = record { same = each.0; leaves = λ s e. (each.1 s e).0; same_bytes = λ s e. (each.1 s e).1 }

  pub back_from : (copies : List OldBytes) (segments : List ℕ) (old new : I) → EachIs (Back copies) segments old new → AreBack m copies segments old new
  back_from copies segments old new each = record { same = each.0; same_holders = λ s e. (each.1 s e).0; same_length = λ s e. (each.1 s e).1; bytes_are = λ s k e. (each.1 s e).2 k }

  pub here_along : (segments : List ℕ) (old new : I) (s : ℕ) → IsSameBut m segments old new → IsHere m old s → IsHere m new s
  here_along segments old new s same here = subst (λ (o : Option ℕ). IsSome o) (sym (same.numbers s)) here

  pub here_back : (segments : List ℕ) (old new : I) (s : ℕ) → IsSameBut m segments old new → IsHere m new s → IsHere m old s
  here_back segments old new s same here = subst (λ (o : Option ℕ). IsSome o) (same.numbers s) here

  pub lock_along : (mode : LockMode) (old new : I) (s : ℕ) → IsSame m old new → CanLock m mode old s → CanLock m mode new s
  lock_along mode old new s same can = (here_along [] old new s same can.0, subst (λ (p : Picture). Allow mode p.holders) (sym (same.others s can.0 refl)) can.1)

  pub lock_back : (mode : LockMode) (old new : I) (s : ℕ) → IsSame m old new → CanLock m mode new s → CanLock m mode old s
  lock_back mode old new s same can =
      let here : IsHere m old s = here_back [] old new s same can.0 in (here, subst (λ (p : Picture). Allow mode p.holders) (same.others s here refl) can.1)

  -- what changes some segments, and then others, changes both
  pub both_changed : (xs ys : List ℕ) (old mid new : I) → ((s t u : I) → m.IsSameBeside s t → m.IsSameBeside t u → m.IsSameBeside s u)
      → IsSameBut m xs old mid → IsSameBut m ys mid new → IsSameBut m (xs ++ ys) old new
  both_changed xs ys old mid new chain one two = record {
    numbers = λ s. two.numbers s ∙ one.numbers s;
    others = λ s here not. let p = neither s xs ys not in two.others s (here_along xs old mid s one here) p.1 ∙ one.others s here p.0;
    beside = chain old mid new one.beside two.beside;
  }

  module _ (laws : ImageLaws m) where
    pub same_itself : (segments : List ℕ) (s : I) → IsSameBut m segments s s
    same_itself segments s = record { numbers = λ n. refl; others = λ n here not. refl; beside = laws.beside_itself s }

    -- another image of a segment
    pub imaged : (s : I) (x : ℕ) (image : Picture) → IsHere m s x → IsSameBut m (x ∷ []) s (m.with_image s x image)
    imaged s x image here = record {
      numbers = λ n. laws.same_numbers s x n image here;
      others = λ n there not. laws.other_image s x n image here there (λ e. false≢true (sym not ∙ subst (λ (k : ℕ). is_member k (x ∷ []) ≡ true) (sym e) (one_is x)));
      beside = laws.beside_image s x image here;
    }

    pub chained : (xs : List ℕ) (x : ℕ) (old mid new : I) → IsSameBut m xs old mid → IsSameBut m (x ∷ []) mid new → IsSameBut m (xs ++ x ∷ []) old new
    chained xs x old mid new one two = record {
      numbers = λ s. two.numbers s ∙ one.numbers s;
      others = λ s here not.
          let p = no_member_push s x xs not in
          two.others s (here_along xs old mid s one here) (not_one s x p.1) ∙ one.others s here p.0;
      beside = laws.beside_chained old mid new one.beside two.beside;
    }

    pub same_chained : (old mid new : I) → IsSame m old mid → IsSame m mid new → IsSame m old new
    same_chained old mid new one two = record {
      numbers = λ s. two.numbers s ∙ one.numbers s;
      others = λ s here not. two.others s (here_along [] old mid s one here) refl ∙ one.others s here refl;
      beside = laws.beside_chained old mid new one.beside two.beside;
    }

    each_more : (R : ℕ → Picture → Picture → Type 0) → ((s : ℕ) (a b c : Picture) → R s a b → R s b c → R s a c) → (xs : List ℕ) (x : ℕ) (old mid : I) (image : Picture)
        → ((s : ℕ) → is_member s xs ≡ true → IsHere m old s) → IsHere m mid x → EachIs R xs old mid → R x (m.image_of mid x) image → EachIs R (xs ++ x ∷ []) old (m.with_image mid x image)
    each_more R twice xs x old mid image all there each step =
        let two : IsSameBut m (x ∷ []) mid (m.with_image mid x image) = imaged mid x image there in
        let here : IsHere m old x = here_back xs old mid x each.0 there in
        let new : R x (m.image_of mid x) (m.image_of (m.with_image mid x image) x) = subst (λ (p : Picture). R x (m.image_of mid x) p) (sym (laws.own_image mid x image there)) step in (
          chained xs x old mid (m.with_image mid x image) each.0 two,
          λ s e. elim (cases_eq x s) [
            | inl same ↦
                subst (λ (n : ℕ). R n (m.image_of old n) (m.image_of (m.with_image mid x image) n)) same (elim (cases_Bool (is_member x xs)) [
                  | inl was ↦ twice x (m.image_of old x) (m.image_of mid x) (m.image_of (m.with_image mid x image) x) (each.1 x was) new
                  | inr not ↦ subst (λ (p : Picture). R x p (m.image_of (m.with_image mid x image) x)) (each.0.others x here not) new
                ])
            | inr other ↦ elim (member_push s x xs e) [
              | inl early ↦
                  let was : IsHere m mid s = here_along xs old mid s each.0 (all s early) in
                  subst (λ (p : Picture). R s (m.image_of old s) p) (sym (two.others s was (not_one s x other))) (each.1 s early)
              | inr last ↦ absurd (other last)
            ]
          ],
        )

    pub taken_more : (mode : LockMode) (thread : ℕ) (xs : List ℕ) (x : ℕ) (old mid : I) (image : Picture) → ((s : ℕ) → is_member s xs ≡ true → IsHere m old s) → IsHere m mid x
        → EachIs (Taken mode thread) xs old mid → Taken mode thread x (m.image_of mid x) image → EachIs (Taken mode thread) (xs ++ x ∷ []) old (m.with_image mid x image)
    taken_more mode thread = each_more (Taken mode thread) (taken_twice mode thread)

    pub left_more : (thread : ℕ) (xs : List ℕ) (x : ℕ) (old mid : I) (image : Picture) → ((s : ℕ) → is_member s xs ≡ true → IsHere m old s) → IsHere m mid x
        → EachIs (Left thread) xs old mid → Left thread x (m.image_of mid x) image → EachIs (Left thread) (xs ++ x ∷ []) old (m.with_image mid x image)
    left_more thread = each_more (Left thread) (left_twice thread)

    pub back_more : (copies : List OldBytes) (xs : List ℕ) (x : ℕ) (old mid : I) (image : Picture) → ((s : ℕ) → is_member s xs ≡ true → IsHere m old s) → IsHere m mid x
        → EachIs (Back copies) xs old mid → Back copies x (m.image_of mid x) image → EachIs (Back copies) (xs ++ x ∷ []) old (m.with_image mid x image)
    back_more copies = each_more (Back copies) (back_twice copies)

    -- a segment's bytes are as many as before
    pub same_len : (copies : List OldBytes) (xs : List ℕ) (x : ℕ) (old mid : I) → IsHere m old x → EachIs (Back copies) xs old mid → length (bytes_of m mid x) ≡ length (bytes_of m old x)
    same_len copies xs x old mid here each = elim (cases_Bool (is_member x xs)) [
      | inl was ↦ (each.1 x was).1
      | inr not ↦ ap (λ (p : Picture). length p.bytes.items) (each.0.others x here not)
    ]
