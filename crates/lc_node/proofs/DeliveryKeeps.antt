-- What a record that a peer published keeps of held segments, and what they are like once it was made ready for.
use Rattle.std.proofs.Common.{◌≡◌, List, All, Some, None, length, get_or, refl, sym, ap, subst, ◌∙◌, inl, inr, arith}
use Rattle.std.specs.Prelude.{◌↔◌, slice_get, Option, IsSome}
use Rattle.std.proofs.lemmas.Option.{slice_get_read, slice_get_within}
use Rattle.std.proofs.lemmas.List.{get_or_default}
use Rattle.lc_lock.specs.Loans.{IsLoanOf}
use Rattle.lc_record.specs.Part.{part_of}
use Rattle.lc_record.specs.declared.part.Part.{Part}
use Rattle.lc_record.specs.declared.record.Record.{Record}
use Rattle.lc_record.proofs.ListLemmas.{slice_get_some as some_at, All-slice_get as all_at}
use Rattle.lc_token.specs.declared.received.Received.{Received}
use Rattle.lc_token.specs.declared.received.Received.TheVariants.{Applied, HeldBack, Ignored}
use Rattle.lc_node.specs.Delivering.{Admits, HasArrived, IsDelivered, IsReadiedSide}
use Rattle.lc_segments.specs.Delivering.{TakesIn}
use Rattle.lc_segments.specs.Each.{Each}
use Rattle.lc_node.specs.Each.{EachThree}
use Rattle.lc_node.specs.Held.{IsHeldOf}
use Rattle.lc_segments.specs.Receptions.{CanFinish, IsReceived}
use Rattle.lc_node.specs.Receptions.{IsPrepared}
use Rattle.lc_segments.specs.SegView.{SegView}
use Rattle.lc_segments.specs.declared.held.HeldSide.{HeldSide}
use Rattle.lc_node.specs.declared.node.Node.{Node}
use Rattle.lc_segments.specs.declared.reception.Reception.{Reception}
use Rattle.lc_node.proofs.Deliveries.{IsSomewhere}
use Rattle.lc_node.proofs.Received.{can_finish, of_readied, same_standing}

-- a fact of each element, from what stands at its place in another list
pub all_through : {A : Type 0} (P Q : A → Type 0) (R : A → A → Type 0) (xs zs : List A) → Each R xs zs → ((x z : A) → P x → R x z → Q z) → All P xs → All Q zs
all_through {A = A} P Q R xs zs each step all k d l =
    let z : A = get_or zs k d in
    let z_at : slice_get zs k ≡ Some z = slice_get_read zs (length zs) k z refl l (get_or_default zs k d z l) in
    let x = some_at xs k (let e = each.long in omega arith) in
    step x.0 z (all_at P xs k x.0 all x.1) (each.each k x.0 z x.1 z_at)

module _ {D : Type 0} where
  -- it is the same one, by its lock
  abbrev pub IsSameOne : HeldSide D → HeldSide D → Type 0
  IsSameOne h g = (g.loan ≡ h.loan) × (g.side.segment ≡ h.side.segment)

  pub held_through : (node : Node D) (R : HeldSide D → HeldSide D → Type 0) (olds news : List (HeldSide D)) → Each R olds news → ((h g : HeldSide D) → R h g → IsSameOne h g)
      → All (λ h. IsSome h.side.image) news → All (IsHeldOf node) olds → All (IsHeldOf node) news
  held_through node R olds news each same here = all_through (IsHeldOf node) (IsHeldOf node) (λ h g. R h g × IsSome g.side.image) olds news
      (record { long = each.long; each = λ k h g h_at g_at. (each.each k h g h_at g_at, all_at (λ h. IsSome h.side.image) news k g here g_at) })
      (λ h g held is. let one = same h g is.0 in (held.0, held.1, held.2, one.1 ∙ held.3, subst (λ l. IsLoanOf held.1 l) (sym one.0) held.4, is.1))

  -- where no record came

  pub readied_same : (h g : HeldSide D) → IsReadiedSide h g → IsSameOne h g
  readied_same h g is = (ap (λ (x : HeldSide D). x.loan) is.0, (of_readied h.side g.side is.1).2)

  pub readied_here : (olds news : List (HeldSide D)) → Each IsReadiedSide olds news → All (λ h. IsSome h.side.image) olds → All (λ h. IsSome h.side.image) news
  readied_here olds news each = all_through (λ h. IsSome h.side.image) (λ h. IsSome h.side.image) IsReadiedSide olds news each (λ h g here is. subst IsSome (sym (of_readied h.side g.side is.1).1) here)

  -- where it came

  takes_segment : (part : Option Part) (old new : SegView D) (answer : Received) → TakesIn part old answer new → new.segment ≡ old.segment
  takes_segment None old new (Applied number) takes = absurd takes
  takes_segment None old new HeldBack takes = absurd takes
  takes_segment None old new Ignored takes = ap (λ (s : SegView D). s.segment) takes
  takes_segment (Some part) old new (Applied number) takes = ap (λ (s : SegView D). s.segment) takes.3.2 ∙ (of_readied old takes.3.0 takes.3.1.0).2
  takes_segment (Some part) old new HeldBack takes = ap (λ (s : SegView D). s.segment) takes.2
  takes_segment (Some part) old new Ignored takes = ap (λ (s : SegView D). s.segment) takes.1

  admits_segment : (old new : SegView D) → Admits old new → new.segment ≡ old.segment
  admits_segment old new (inl none) = ap (λ (s : SegView D). s.segment) none.1
  admits_segment old new (inr came) = ap (λ (s : SegView D). s.segment) came.3

  pub delivered_same : (r : Record) (h g : HeldSide D) → IsDelivered r h g → IsSameOne h g
  delivered_same r h g is = (
    ap (λ (x : HeldSide D). x.loan) is.1.same,
    admits_segment is.1.between g.side is.1.admits ∙ takes_segment (part_of h.side.segment r) h.side is.1.between is.0 is.1.takes,
  )

  -- once it was made ready for

  prepared_standing : (r : Record) (h m : HeldSide D) (reception : Reception) → IsPrepared r h reception m → (m.side.standing ≡ h.side.standing) × (m.side.image ≡ h.side.image) × (m.side.segment ≡ h.side.segment) × (m.side.waiting ≡ h.side.waiting)
  prepared_standing r h m reception is = same_standing (part_of h.side.segment r) h.side m.side reception is.prepares

  module _ (r : Record) (olds mids : List (HeldSide D)) (receptions : List Reception) (ready : EachThree (IsPrepared r) olds receptions mids) where
    pub prepared_here : All (λ h. IsSome h.side.image) olds → All (λ h. IsSome h.side.image) mids
    prepared_here = all_through (λ h. IsSome h.side.image) (λ h. IsSome h.side.image) (λ h m. m.side.image ≡ h.side.image) olds mids (record {
      long = ready.long_too;
      each = λ k h m h_at m_at. let y = some_at receptions k (let l = slice_get_within olds k h h_at in let e = ready.long in omega arith) in
          (prepared_standing r h m y.0 (ready.each k h y.0 m h_at y.1 m_at)).1;
    }) (λ h m here is. subst IsSome (sym is) here)

    pub ready_all : All IsReceived receptions → Each (λ h reception. CanFinish h.side reception) mids receptions
    ready_all received = record {
      long = ready.long ∙ sym ready.long_too;
      each = λ k m y m_at y_at. let h = some_at olds k (let l = slice_get_within mids k m m_at in let e = ready.long_too in omega arith) in
          can_finish (part_of h.0.side.segment r) h.0.side m.side y (all_at IsReceived receptions k y received y_at) (ready.each k h.0 y m h.1 y_at m_at).prepares;
    }

    pub arrived_through : (news : List (HeldSide D)) → IsSomewhere HasArrived mids news ↔ IsSomewhere HasArrived olds news
    arrived_through news = (
      λ some. let l = slice_get_within mids some.0 some.1 some.3 in let e = ready.long in let f = ready.long_too in
          let h = some_at olds some.0 (omega arith) in let y = some_at receptions some.0 (omega arith) in
          let same = prepared_standing r h.0 some.1 y.0 (ready.each some.0 h.0 y.0 some.1 h.1 y.1 some.3) in
          (some.0, h.0, some.2, h.1, some.4, (ap (λ s. s.token) (sym same.0) ∙ some.5.0, some.5.1)),
      λ some. let l = slice_get_within olds some.0 some.1 some.3 in let e = ready.long in let f = ready.long_too in
          let m = some_at mids some.0 (omega arith) in let y = some_at receptions some.0 (omega arith) in
          let same = prepared_standing r some.1 m.0 y.0 (ready.each some.0 some.1 y.0 m.0 some.3 y.1 m.1) in
          (some.0, m.0, some.2, m.1, some.4, (ap (λ s. s.token) same.0 ∙ some.5.0, some.5.1)),
    )
