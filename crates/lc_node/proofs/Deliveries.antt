-- What became of held segments in the end, from what was made ready at each and how that was gone on with.
use Rattle.std.proofs.Common.{◌≡◌, ◌⊎◌, Bool, true, false, true≢false, ℕ, ◌+◌, List, [], ◌∷◌, ◌++◌, All, Some, None, length, length-append, get_or, set, refl, sym, ap, subst, ◌∙◌, inl, inr, arith}
use mathlib.Core.Logic.{dite}
use native.Mathlib.Decide.{ℕ_discrete as dec_eq}
use Rattle.std.specs.Option.{ForSome}
use Rattle.std.specs.Prelude.{◌↔◌, slice_get, Option, IsSome, IsSomeAnd, IsTrue}
use Rattle.std.proofs.lemmas.List.Elements.{All-set}
use Rattle.std.proofs.lemmas.Option.{slice_get_within, same_Some as some_same}
use Rattle.lc_record.specs.Part.{part_of}
use Rattle.lc_record.specs.declared.record.Record.{Record}
use Rattle.lc_record.proofs.ListLemmas.{slice_get_some as some_at, slice_get-set_same as get_same, slice_get-set_other as get_other}
use Rattle.lc_token.specs.declared.received.Received.{Received}
use Rattle.lc_segments.specs.Arriving.{MayArrive, with_token}
use Rattle.lc_node.specs.Delivering.{Admits, Answers, HasArrived, IsDelivered, IsReadiedSide}
use Rattle.lc_segments.specs.Each.{Each}
use Rattle.lc_node.specs.Each.{EachThree}
use Rattle.lc_segments.specs.Journey.{Journey}
use Rattle.lc_node.specs.Receptions.{IsFinished, IsForgone, IsPrepared}
use Rattle.lc_segments.specs.SegView.{SegView}
use Rattle.lc_segments.specs.declared.held.HeldSide.{HeldSide}
use Rattle.lc_segments.specs.declared.reception.Reception.{Reception}
use Rattle.lc_node.proofs.Backwards.{Backwards, step, finish}

module _ {A B : Type 0} where
  -- two changes that go by one list are one
  pub joined : (P R : A → B → A → Type 0) (Q : A → A → Type 0) → ((x m z : A) (y : B) → P x y m → R m y z → Q x z)
      → (xs mids zs : List A) (ys : List B) → EachThree P xs ys mids → EachThree R mids ys zs → Each Q xs zs
  joined P R Q join xs mids zs ys first then = record {
    long = then.long_too ∙ first.long_too;
    each = λ k x z x_at z_at.
        let within = slice_get_within xs k x x_at in
        let mid = some_at mids k (let e = first.long_too in omega arith) in
        let y = some_at ys k (let e = first.long in omega arith) in
        join x mid.0 z y.0 (first.each k x y.0 mid.0 x_at y.1 mid.1) (then.each k mid.0 y.0 z mid.1 y.1 z_at);
  }

  -- so it is at one place
  abbrev pub IsAt : (A → B → A → Type 0) → List A → List B → List A → ℕ → Type 0
  IsAt R xs ys zs k = (x : A) (y : B) (z : A) → slice_get xs k ≡ Some x → slice_get ys k ≡ Some y → slice_get zs k ≡ Some z → R x y z

  pub is_at : (R : A → B → A → Type 0) (xs : List A) (ys : List B) (zs : List A) (k : ℕ) (x : A) (y : B) (z : A) → slice_get xs k ≡ Some x → slice_get ys k ≡ Some y → slice_get zs k ≡ Some z → R x y z → IsAt R xs ys zs k
  is_at R xs ys zs k x y z x_at y_at z_at r p q o p_at q_at o_at =
      subst (λ (i : A). R i q o) (some_same x p (sym x_at ∙ p_at)) (subst (λ (i : B). R x i o) (some_same y q (sym y_at ∙ q_at)) (subst (λ (i : A). R x y i) (some_same z o (sym z_at ∙ o_at)) r))

module _ {A : Type 0} (P : A → A → Type 0) where
  -- it is so at a place
  abbrev pub IsSomewhere : List A → List A → Type 0
  IsSomewhere xs zs = (place : ℕ) × (x : A) × (z : A) × (slice_get xs place ≡ Some x) × (slice_get zs place ≡ Some z) × P x z

  -- where one element more is changed
  pub more_somewhere : (xs zs : List A) (k : ℕ) (x z : A) → slice_get xs k ≡ Some x → slice_get zs k ≡ Some x → ((y : A) → P y y → ⊥)
      → (P x z → IsSomewhere xs (set zs k z)) × (IsSomewhere xs zs → IsSomewhere xs (set zs k z)) × (IsSomewhere xs (set zs k z) → (P x z) ⊎ (IsSomewhere xs zs))
  more_somewhere xs zs k x z x_at now_at never = (
    λ p. (k, x, z, x_at, get_same zs k x z now_at, p),
    λ old. (
      old.0,
      old.1,
      old.2,
      old.3,
      get_other zs k old.0 z (λ e. never x
          (subst (λ i. P i x) (some_same old.1 x (sym old.3 ∙ (ap (λ (i : ℕ). slice_get xs i) e ∙ x_at)))
          (subst (λ i. P old.1 i) (some_same old.2 x (sym old.4 ∙ (ap (λ (i : ℕ). slice_get zs i) e ∙ now_at))) old.5))) ∙ old.4,
      old.5,
    ),
    λ new. dite (dec_eq new.0 k)
        (λ same. inl (subst (λ i. P i z) (some_same new.1 x (sym new.3 ∙ (ap (λ (i : ℕ). slice_get xs i) same ∙ x_at)))
        (subst (λ i. P new.1 i) (some_same new.2 z (sym new.4 ∙ (ap (λ (i : ℕ). slice_get (set zs k z) i) same ∙ get_same zs k x z now_at))) new.5)))
        (λ other. inr (new.0, new.1, new.2, new.3, sym (get_other zs k new.0 z other) ∙ new.4, new.5)),
  )

-- one of two
pub by_first : (one other : Bool) → one ≡ true → IsTrue one ↔ ((IsTrue one) ⊎ (IsTrue other))
by_first one other is = (λ some. inl some, λ some. is)

pub by_second : (one other : Bool) → one ≡ false → IsTrue other ↔ ((IsTrue one) ⊎ (IsTrue other))
by_second one other is = (λ some. inr some, λ some. elim some [ inl first ↦ absurd (true≢false (sym first ∙ is)) | inr second ↦ second ])

module _ {D : Type 0} where
  -- a token that waits has arrived, or nothing has changed
  pub admitted : (old new : SegView D) (waiting : Option (Journey D)) (arrived : Bool) → old.waiting ≡ waiting
      → (IsTrue arrived ↔ IsSomeAnd old.waiting (MayArrive old)) → (arrived ≡ true → ForSome old.waiting (λ journey. new ≡ record (with_token journey old) { waiting = None })) → (arrived ≡ false → new ≡ old) → Admits old new
  admitted old new waiting false is when came none = inl (λ may. true≢false (sym (when.1 may)), none refl)
  admitted old new None true is when came none = absurd (subst (λ o. IsSomeAnd o (MayArrive old)) is (when.0 refl))
  admitted old new (Some journey) true is when came none = inr (
    journey,
    is,
    subst (λ o. IsSomeAnd o (MayArrive old)) is (when.0 refl),
    came refl journey is,
  )

  pub forgone_side : (r : Record) (h m g : HeldSide D) (reception : Reception) → IsPrepared r h reception m → IsForgone m reception g → IsReadiedSide h g
  forgone_side r h m g reception ready forgone = (
    forgone.0 ∙ ap (λ (x : HeldSide D). record x { side = g.side }) ready.same,
    forgone.1 (part_of h.side.segment r) h.side ready.prepares,
  )

  pub finished_side : (r : Record) (h m g : HeldSide D) (reception : Reception) (answer : Received) → IsPrepared r h reception m → IsFinished m reception answer g → Answers r h answer g
  finished_side r h m g reception answer ready finished = record {
    between = finished.1.0;
    takes = finished.1.1 (part_of h.side.segment r) h.side ready.prepares;
    admits = finished.1.2;
    same = finished.0 ∙ ap (λ (x : HeldSide D). record x { side = g.side }) ready.same;
  }

  -- no token has arrived where nothing has changed
  pub none_arrived : (h : HeldSide D) → HasArrived h h → ⊥
  none_arrived h arrived = true≢false (sym (subst IsSome arrived.0 arrived.1))

  abbrev pub IsFinishedSo : HeldSide D → Reception → HeldSide D → Type 0
  IsFinishedSo h reception g = (answer : Received) × IsFinished h reception answer g

  -- those after these are finished, the first of them was answered so, and whether a token arrived at one of them
  pub record Finishing (xs now : List (HeldSide D)) (ys left : List Reception) (answer : Received) (came : Bool) : Type 0 where
    pub finished : Backwards IsFinishedSo xs now ys left
    pub first : IsAt (λ h reception g. IsFinished h reception answer g) xs ys now (length left)
    pub arrived : IsTrue came ↔ IsSomewhere HasArrived xs now
    pub here : All (λ h. IsSome h.side.image) now

  -- the segment whose reception is next from the back is finished
  pub next_finished : (xs now : List (HeldSide D)) (ys whole left : List Reception) (answer other : Received) (came one after : Bool) (reception : Reception) (h g : HeldSide D) → Finishing xs now ys whole other came
      → whole ≡ left ++ reception ∷ [] → h ≡ get_or now (length left) h → IsFinished h reception answer g → (IsTrue one ↔ HasArrived h g) → IsSome g.side.image
      → (IsTrue after ↔ ((IsTrue one) ⊎ (IsTrue came))) → Finishing xs (set now (length left) g) ys left answer after
  next_finished xs now ys whole left answer other came one after reception h g f split at is arrives here both =
      let n : ℕ = length left in
      let s = step IsFinishedSo xs now ys whole left reception h f.finished split at in
      let long : length whole ≡ n + 1 = ap (λ (l : List Reception). length l) split ∙ length-append left (reception ∷ []) in
      let now_h : slice_get now n ≡ Some h = f.finished.front n (omega arith) ∙ s.0 in
      let more = more_somewhere HasArrived xs now n h g s.0 now_h none_arrived in record {
        finished = s.2 g (answer, is);
        first = is_at (λ h reception g. IsFinished h reception answer g) xs ys (set now n g) n h reception g s.0 s.1 (get_same now n h g now_h) is;
        arrived = (
          λ some. elim (both.0 some) [ inl here ↦ more.0 (arrives.0 here) | inr before ↦ more.1 (f.arrived.0 before) ],
          λ some. elim (more.2 some) [ inl here ↦ both.1 (inl (arrives.1 here)) | inr before ↦ both.1 (inr (f.arrived.1 before)) ],
        );
        here = All-set (λ h. IsSome h.side.image) now n g here f.here;
      }

  -- after the last one
  pub all_delivered : (r : Record) (before xs now : List (HeldSide D)) (ys left : List Reception) (answer : Received) (came : Bool) → EachThree (IsPrepared r) before ys xs → Finishing xs now ys left answer came → left ≡ [] → Each (IsDelivered r) before now
  all_delivered r before xs now ys left answer came ready f none =
      joined (IsPrepared r) IsFinishedSo (IsDelivered r) (λ x m z y is so. (so.0, finished_side r x m z y so.0 is so.1)) before xs now ys ready (finish IsFinishedSo xs now ys left f.finished none)

  pub first_answered : (r : Record) (before xs now : List (HeldSide D)) (ys left : List Reception) (answer : Received) (came : Bool) → EachThree (IsPrepared r) before ys xs → Finishing xs now ys left answer came → left ≡ []
      → (h g : HeldSide D) → slice_get before 0 ≡ Some h → slice_get now 0 ≡ Some g → Answers r h answer g
  first_answered r before xs now ys left answer came ready f none h g h_at g_at =
      let at : IsAt (λ h reception g. IsFinished h reception answer g) xs ys now 0 = subst (IsAt (λ h reception g. IsFinished h reception answer g) xs ys now) (ap (λ (l : List Reception). length l) none) f.first in
      let within = slice_get_within before 0 h h_at in
      let m = some_at xs 0 (let e = ready.long_too in omega arith) in
      let y = some_at ys 0 (let e = ready.long in omega arith) in
      finished_side r h m.0 g y.0 answer (ready.each 0 h y.0 m.0 h_at y.1 m.1) (at m.0 y.0 g m.1 y.1 g_at)
