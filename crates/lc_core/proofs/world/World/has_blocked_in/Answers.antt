use Rattle.std.proofs.Common.{◌≡◌, ℕ, inl, inr, refl, sym, subst, ◌∙◌, arith, true≢false}
use Rattle.std.proofs.lemmas.Bool.{cases_lt}
use Rattle.lc_core.specs.Truncating.{IsBlocked}
use Rattle.lc_core.proofs.world.World.has_blocked_in.Goals as goal

pub loop-page-init : goal.loop-page-init
loop-page-init g c = λ page before. absurd (omega (arith, before))

pub loop-page-preserved : goal.loop-page-preserved
loop-page-preserved g c = λ page before blocked. elim (cases_lt page c.loop-page.page) [
  | inl below ↦ c.loop-page.invariant page below blocked
  | inr above ↦
      let is : page ≡ c.loop-page.page = omega (arith, before, above) in
      true≢false (sym (c.is_blocked.ensures.1 (subst (λ (p : ℕ). IsBlocked g.D.Area c.args.self.now.phase c.args.node c.args.segment p) is blocked)) ∙ c.if-is_blocked.false)
]

pub returns-then-is_blocked : goal.returns-then-is_blocked
returns-then-is_blocked g c = (
  λ _. record { page = c.loop-page.page; within = c.loop-page-test.true; blocked = c.is_blocked.ensures.0 c.if-is_blocked.true },
  λ _. refl,
)

pub returns : goal.returns
returns g c = (
  λ is. absurd (true≢false (sym is)),
  λ some. absurd (c.loop-page.invariant some.page (omega (arith, some.within, c.loop-page-test.false)) some.blocked),
)
