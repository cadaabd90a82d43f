-- The least number up to which a node has applied the records of a segment.
use Rattle.std.proofs.Common.{◌≡◌, ◌⊎◌, ℕ, ◌+◌, ◌-◌, ◌^◌, ◌<◌, ◌≤◌, Some, length, min, sym, ap, subst, ◌∙◌, inl, inr, arith}
use Rattle.std.specs.Prelude.{slice_get}
use Rattle.std.proofs.lemmas.Bool.{cases_lt}
use Rattle.std.proofs.lemmas.Option.{slice_get_within, same_Some as some_same}
use Rattle.lc_node.specs.Forgetting.{HasApplied}
use Rattle.lc_cluster.specs.Forgetting.{IsLeastApplied}
use Rattle.lc_cluster.specs.declared.cluster.Cluster.{Cluster}
use Rattle.lc_cluster.specs.declared.member.Member.{Member}

module _ {D : Type 0} (cluster : Cluster D) (place : ℕ) where
  -- of the first so many nodes
  pub record IsLeastOf (n least : ℕ) : Type 0 where
    pub each : (k : ℕ) (member : Member D) → k < n → slice_get cluster.members.items k ≡ Some member → (more : ℕ) × HasApplied member.node place more × (least ≤ more)
    pub one : ((n ≡ 0) × (least ≡ 2 ^ 64 - 1)) ⊎ ((at : ℕ) × (member : Member D) × (slice_get cluster.members.items at ≡ Some member) × HasApplied member.node place least)

  pub least_more : (n least applied now : ℕ) (member : Member D) → IsLeastOf n least → slice_get cluster.members.items n ≡ Some member → HasApplied member.node place applied → applied < 2 ^ 64 → now ≡ min least applied → IsLeastOf (n + 1) now
  least_more n least applied now member l here has small is = record {
    each = λ k other within got. elim (cases_lt k n) [
      | inl low ↦ (let e = l.each k other low got in let more = e.2 in (e.0, e.1, omega (arith, is, more)))
      | inr high ↦ (let same : k ≡ n = omega (arith, within, high) in
          let its : member ≡ other = some_same member other (sym here ∙ (ap (λ (i : ℕ). slice_get cluster.members.items i) (sym same) ∙ got)) in
          (applied, subst (λ (m : Member D). HasApplied m.node place applied) its has, omega (arith, is)))
    ];
    one = elim (cases_lt applied least) [
      | inl less ↦ (let low : applied ≡ now = omega (arith, is, less) in inr (n, member, here, subst (HasApplied member.node place) low has))
      | inr not ↦ elim l.one [
        | inl none ↦ (let top = none.1 in let low : applied ≡ now = omega (arith, is, not, top, small) in inr (n, member, here, subst (HasApplied member.node place) low has))
        | inr some ↦ (let kept : least ≡ now = omega (arith, is, not) in inr (some.0, some.1, some.2, subst (HasApplied some.1.node place) kept some.3))
      ]
    ];
  }

  pub least_of_all : (n least : ℕ) → length cluster.members.items ≤ n → 0 < n → IsLeastOf n least → IsLeastApplied cluster place least
  least_of_all n least all some l = elim l.one [
    | inl none ↦ absurd (let zero = none.0 in omega (arith, some, zero))
    | inr one ↦ record {
      each = λ k member got. l.each k member (let within = slice_get_within cluster.members.items k member got in omega (arith, within, all)) got;
      at = one.0;
      one = one.1;
      of = one.2;
      has = one.3;
    }
  ]
