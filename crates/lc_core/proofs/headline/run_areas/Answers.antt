use Rattle.std.proofs.Common.{None, ℕ, ◌∙◌, ap, inl, inr, length, refl, subst, sym, take}
use Rattle.lc_model.specs.State.{Setting}
use Rattle.lc_core.specs.Faults.{phase_failures}
use Rattle.lc_core.specs.Headline.{Holds}
use Rattle.lc_core.specs.Lives.{FitsLife}
use Rattle.lc_core.specs.Observed.{observed}
use Rattle.lc_core.specs.Stops.{HasAreas}
use Rattle.lc_core.specs.declared.world_phase.WorldPhase.{WorldPhase}
use Rattle.lc_core.proofs.Bases.{with_numbers, with_numbers-numbers, with_numbers-steps}
use Rattle.lc_core.proofs.HeadlineHolds.{all_of, failures_are, failures_in, holds, settles}
use Rattle.lc_recover.specs.Reads.{AllMergeTo}
use Rattle.lc_core.proofs.headline.run_areas.Goals as goal

pub returns-clause-headline : goal.returns-clause-headline
returns-clause-headline g c = λ start numbers honest merges.
    let m : Setting = record { geometry = c.args.geometry; start = start } in
    let x = with_numbers c.args.geometry numbers in
    subst (λ (failures : ℕ). Holds g.D.Area m numbers (take (length c.run-ran.result.replies.items) c.args.events.now) c.run-ran.result.replies.items failures (observed g.D.Area c.run-ran.new.self))
    (ap (λ phase. failures_in (phase_failures g.D.Area phase)) c.in_ok-world.ensures.down ∙ failures_are g.D.Area c.args.areas.items)
    (holds g.D.Area m x numbers c.in_ok-world.world c.run-ran.new.self _ c.run-ran.result.replies.items (with_numbers-numbers c.args.geometry numbers)
    (c.in_ok-world.ensures.fits m x refl honest
    (subst (λ (n : ℕ → ℕ). AllMergeTo g.D.Area c.args.geometry c.args.areas.items start n) (sym (with_numbers-numbers c.args.geometry numbers)) (all_of g.D.Area c.args.geometry c.args.areas.items start numbers merges))
    (with_numbers-steps c.args.geometry numbers)) c.run-ran.ensures.follows c.run-ran.ensures.faults)

pub returns-clause-fits : goal.returns-clause-fits
returns-clause-fits g c = λ start x honest merges none.
    let m : Setting = record { geometry = c.args.geometry; start = start } in
    settles g.D.Area m x c.in_ok-world.world c.run-ran.new.self _ c.run-ran.result.replies.items (c.in_ok-world.ensures.fits m x refl honest merges none) c.run-ran.ensures.follows

pub returns-clause-settled : goal.returns-clause-settled
returns-clause-settled g c = λ start x honest merges none.
    let m : Setting = record { geometry = c.args.geometry; start = start } in
    let its = settles g.D.Area m x c.in_ok-world.world c.run-ran.new.self _ c.run-ran.result.replies.items (c.in_ok-world.ensures.fits m x refl honest merges none) c.run-ran.ensures.follows in
    (its.0, its.1, its.2)

pub returns-clause-asks : goal.returns-clause-asks
returns-clause-asks g c = λ wants. elim (c.run-ran.ensures.asks wants) [
  | inl nothing ↦ inl nothing
  | inr next ↦ inr (
    next.0,
    λ start x honest merges none.
        (let m : Setting = record { geometry = c.args.geometry; start = start } in
        next.1 m _ x (c.in_ok-world.ensures.fits m x refl honest merges none)),
  )
]

pub returns-clause-calls : goal.returns-clause-calls
returns-clause-calls g c = λ shape news gives.
    c.run-ran.ensures.calls c.args.geometry shape c.args.areas.items news
    (subst (λ (p : WorldPhase g.row.D.Denot g.D.Area). HasAreas g.D.Area p c.args.geometry c.args.areas.items) (sym c.in_ok-world.ensures.down) (refl, refl)) gives

pub returns-clause-lives : goal.returns-clause-lives
returns-clause-lives g c = c.run-ran.ensures.lives c.args.geometry None
    (subst (λ (p : WorldPhase g.row.D.Denot g.D.Area). FitsLife g.D.Area c.args.geometry None p) (sym c.in_ok-world.ensures.down) refl)
