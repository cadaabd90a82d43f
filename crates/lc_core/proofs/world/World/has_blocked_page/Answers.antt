use Rattle.std.proofs.Common.{◌≡◌, ℕ, ◌+◌, inl, inr, sym, ap, subst, ◌∙◌, arith, true≢false}
use Rattle.std.proofs.lemmas.Bool.{cases_lt}
use Rattle.lc_core.specs.Truncating.{HasBlockedIn}
use Rattle.lc_core.proofs.world.World.has_blocked_page.Goals as goal

pub loop-place-preserved : goal.loop-place-preserved
loop-place-preserved g c = λ place before blocked. elim (cases_lt place c.loop-place.place) [
  | inl below ↦ c.loop-place.invariant place below blocked
  | inr above ↦
      let is : place ≡ c.loop-place.place = omega (arith, before, above) in
      true≢false (sym (c.has_blocked_in.ensures.1 (subst (λ (p : ℕ). HasBlockedIn g.D.Area c.args.self.now.phase c.args.node (p + 1) c.sizes-segments.result.1) is blocked)) ∙ c.if-has_blocked_in.false)
]

pub returns : goal.returns
returns g c =
    let sizes = c.sizes-segments.ensures.sizes in (
      λ is. absurd (true≢false (sym is)),
      λ some.
          absurd (c.loop-place.invariant some.place (omega (arith, some.inside, c.loop-place-test.false, ap (λ (pair : ℕ × ℕ). pair.0) sizes))
          (subst (λ (n : ℕ). HasBlockedIn g.D.Area c.args.self.now.phase c.args.node (some.place + 1) n) (ap (λ (pair : ℕ × ℕ). pair.1) (sym sizes)) some.blocked)),
    )
