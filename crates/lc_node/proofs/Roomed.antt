-- Held sides whose images are out, with more room by now.
use Rattle.std.proofs.Common.{◌≡◌, ℕ, zero, suc, ◌<◌, Bool, true, false, Ok, Err, List, [], ◌∷◌, Some, length, map, All, get_or, refl, sym, ap, subst, inl, inr, arith}
use Rattle.std.specs.Prelude.{slice_get, IfErr, IsSome, Result}
use Rattle.std.proofs.lemmas.Option.{same_Some as some_same}
use Rattle.lc_node.specs.Commits.{IsKept, IsKeptTidy}
use Rattle.lc_segments.specs.Each.{Each}
use Rattle.lc_node.specs.Held.{lent_side}
use Rattle.lc_node.specs.Sides.{HasFewParts, HasMoreRoom, IsRoomier}
use Rattle.lc_segments.specs.Sides.{IsOut}
use Rattle.lc_segments.specs.declared.held.HeldSide.{HeldSide}
use Rattle.lc_segments.specs.declared.lent.LentSlot.{LentSlot}
use Rattle.lc_segments.specs.declared.node_fault.NodeFault.{NodeFault}
use Rattle.lc_segments.proofs.Slots.{each_head, each_tail}
use Rattle.lc_node.proofs.Standing.{roomier_image}

each_cons : {A B : Type 0} (R : A → B → Type 0) (x : A) (xs : List A) (y : B) (ys : List B) → R x y → Each R xs ys → Each R (x ∷ xs) (y ∷ ys)
each_cons {A} {B} R x xs y ys r e = record { long = ap suc e.long; each = at }
  where
    at : (k : ℕ) (p : A) (q : B) → slice_get (x ∷ xs) k ≡ Some p → slice_get (y ∷ ys) k ≡ Some q → R p q
    at zero p q p_at q_at = subst (λ (i : A). R i q) (some_same x p p_at) (subst (λ (i : B). R x i) (some_same y q q_at) r)
    at (suc k) p q p_at q_at = e.each k p q p_at q_at

all_cons : {A : Type 0} (P : A → Type 0) (x : A) (xs : List A) → P x → All P xs → (k : ℕ) (d : A) → k < length (x ∷ xs) → P (get_or (x ∷ xs) k d)
all_cons P x xs p all zero d within = p
all_cons P x xs p all (suc k) d within = all k d (omega arith)

module _ {D : Type 0} where
  -- the same sides, with the room of these
  abbrev pub roomed : List (HeldSide D) → List (HeldSide D) → List (HeldSide D)
  roomed [] ms = []
  roomed (y ∷ ys) [] = []
  roomed (y ∷ ys) (m ∷ ms) = record y { side = record y.side { room = m.side.room; runs_room = m.side.runs_room } } ∷ roomed ys ms

  pub roomed_lent : (ys ms : List (HeldSide D)) → Each HasMoreRoom (map lent_side ys) ms → ms ≡ map lent_side (roomed ys ms)
  roomed_lent [] [] e = refl
  roomed_lent [] (m ∷ ms) e = absurd (let l = e.long in omega arith)
  roomed_lent (y ∷ ys) [] e = absurd (let l = e.long in omega arith)
  roomed_lent (y ∷ ys) (m ∷ ms) e = λ i. each_head HasMoreRoom (lent_side y) (map lent_side ys) m ms e i ∷ roomed_lent ys ms (each_tail HasMoreRoom (lent_side y) (map lent_side ys) m ms e) i

  roomier_with : (x y m : HeldSide D) → IsRoomier x y → IsRoomier x (record y { side = record y.side { room = m.side.room; runs_room = m.side.runs_room } })
  roomier_with x y m (inl is) = inl (ap (λ (h : HeldSide D). record h { side = record h.side { room = m.side.room; runs_room = m.side.runs_room } }) is)
  roomier_with x y m (inr is) = inr (is.0, ap (λ (h : HeldSide D). record h { side = record h.side { room = m.side.room; runs_room = m.side.runs_room } }) is.1)

  pub roomed_roomier : (xs ys ms : List (HeldSide D)) → Each IsRoomier xs ys → Each HasMoreRoom (map lent_side ys) ms → Each IsRoomier xs (roomed ys ms)
  roomed_roomier [] [] ms more e = more
  roomed_roomier [] (y ∷ ys) ms more e = absurd (let l = more.long in omega arith)
  roomed_roomier (x ∷ xs) [] ms more e = absurd (let l = more.long in omega arith)
  roomed_roomier (x ∷ xs) (y ∷ ys) [] more e = absurd (let l = e.long in omega arith)
  roomed_roomier (x ∷ xs) (y ∷ ys) (m ∷ ms) more e =
      each_cons IsRoomier x xs (record y { side = record y.side { room = m.side.room; runs_room = m.side.runs_room } }) (roomed ys ms) (roomier_with x y m (each_head IsRoomier x xs y ys more))
      (roomed_roomier xs ys ms (each_tail IsRoomier x xs y ys more) (each_tail HasMoreRoom (lent_side y) (map lent_side ys) m ms e))

  out_with : (y m : HeldSide D) (s : LentSlot) → IsOut y s → IsOut (record y { side = record y.side { room = m.side.room; runs_room = m.side.runs_room } }) s
  out_with y m s o = record { segment = o.segment; number = o.number; image = o.image; shows = o.shows; free = o.free; first = o.first; last = o.last; short = o.short }

  pub roomed_out : (ys ms : List (HeldSide D)) (slots : List LentSlot) → Each IsOut ys slots → Each HasMoreRoom (map lent_side ys) ms → Each IsOut (roomed ys ms) slots
  roomed_out [] ms slots out e = out
  roomed_out (y ∷ ys) ms [] out e = absurd (let l = out.long in omega arith)
  roomed_out (y ∷ ys) [] (s ∷ slots) out e = absurd (let l = e.long in omega arith)
  roomed_out (y ∷ ys) (m ∷ ms) (s ∷ slots) out e =
      each_cons IsOut (record y { side = record y.side { room = m.side.room; runs_room = m.side.runs_room } }) (roomed ys ms) s slots (out_with y m s (each_head IsOut y ys s slots out))
      (roomed_out ys ms slots (each_tail IsOut y ys s slots out) (each_tail HasMoreRoom (lent_side y) (map lent_side ys) m ms e))

  pub roomed_few : (ys ms : List (HeldSide D)) → All HasFewParts ys → Each HasMoreRoom (map lent_side ys) ms → All HasFewParts (roomed ys ms)
  roomed_few [] ms few e = few
  roomed_few (y ∷ ys) [] few e = absurd (let l = e.long in omega arith)
  roomed_few (y ∷ ys) (m ∷ ms) few e =
      all_cons HasFewParts (record y { side = record y.side { room = m.side.room; runs_room = m.side.runs_room } }) (roomed ys ms) (few 0 y (omega arith))
      (roomed_few ys ms (λ j z less. few (suc j) z (omega arith)) (each_tail HasMoreRoom (lent_side y) (map lent_side ys) m ms e))

  -- all of it: these are the sides without their images, as sides that had them, with this room
  pub record Primed (xs ms : List (HeldSide D)) (slots : List LentSlot) : Type 0 where
    pub all : List (HeldSide D)
    pub roomier : Each IsRoomier xs all
    pub out : Each IsOut all slots
    pub lent : ms ≡ map lent_side all
    pub few : All HasFewParts all

  pub primed : (xs ys zs ms : List (HeldSide D)) (slots : List LentSlot) → Each IsRoomier xs ys → All HasFewParts ys → Each IsOut ys slots → zs ≡ map lent_side ys → Each HasMoreRoom zs ms → Primed xs ms slots
  primed xs ys zs ms slots more few out gone room = let e : Each HasMoreRoom (map lent_side ys) ms = subst (λ (l : List (HeldSide D)). Each HasMoreRoom l ms) gone room in record {
    all = roomed ys ms;
    roomier = roomed_roomier xs ys ms more e;
    out = roomed_out ys ms slots out e;
    lent = roomed_lent ys ms e;
    few = roomed_few ys ms few e;
  }

  -- Images that are here

  pub here_roomier : (xs ys : List (HeldSide D)) → Each IsRoomier xs ys → All (λ (h : HeldSide D). IsSome h.side.image) xs → All (λ (h : HeldSide D). IsSome h.side.image) ys
  here_roomier [] [] more all = all
  here_roomier [] (y ∷ ys) more all = absurd (let l = more.long in omega arith)
  here_roomier (x ∷ xs) [] more all = λ k d within. absurd (omega arith)
  here_roomier (x ∷ xs) (y ∷ ys) more all =
      all_cons (λ (h : HeldSide D). IsSome h.side.image) y ys (subst (λ o. IsSome o) (sym (roomier_image x y (each_head IsRoomier x xs y ys more))) (all 0 x (omega arith)))
      (here_roomier xs ys (each_tail IsRoomier x xs y ys more) (λ j z less. all (suc j) z (omega arith)))

  pub kept_self : (xs : List (HeldSide D)) → All (λ (h : HeldSide D). IsSome h.side.image) xs → Each IsKept xs xs
  kept_self [] all = record { long = refl; each = λ k p q p_at q_at. absurd cc }
  kept_self (x ∷ xs) all =
      each_cons IsKept x xs x xs (x, inl refl, record { same = refl; here = all 0 x (omega arith); shows = refl }) (kept_self xs (λ j z less. all (suc j) z (omega arith)))

  pub kept_tidy : (xs ys : List (HeldSide D)) → Each IsKeptTidy xs ys → Each IsKept xs ys
  kept_tidy xs ys e = record { long = e.long; each = λ k p q p_at q_at. let t = e.each k p q p_at q_at in (t.0, t.1.0, t.2) }

-- How a commit may be done

cases_ok : (P : Type 0) (done : Bool) (r : Result Bool NodeFault) → r ≡ Ok done → (r ≡ Ok true → P) → (r ≡ Ok false → P) → P
cases_ok P true r is closed empty = closed is
cases_ok P false r is closed empty = empty is

pub cases_done : (P : Type 0) (r : Result Bool NodeFault) → (r ≡ Ok true → P) → (r ≡ Ok false → P) → ((f : NodeFault) → r ≡ Err f → P) → P
cases_done P (Ok done) closed empty refused = cases_ok P done (Ok done) refl closed empty
cases_done P (Err f) closed empty refused = refused f refl

pub at_err : (r : Result Bool NodeFault) (f : NodeFault) (P : NodeFault → Type 0) → r ≡ Err f → IfErr r P → P f
at_err r f P is p = subst (λ (x : Result Bool NodeFault). IfErr x P) is p

pub each_err : (r : Result Bool NodeFault) (P : NodeFault → Type 0) → ((f : NodeFault) → r ≡ Err f → P f) → IfErr r P
each_err (Ok done) P at = tt
each_err (Err f) P at = at f refl
