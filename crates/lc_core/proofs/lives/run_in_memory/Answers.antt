use Rattle.std.proofs.Common.{ℕ, inl, inr, length, sum_by, take, refl, sym, subst}
use Rattle.lc_disk.specs.contracts.mem_area.MemAreaArea.TheImpl.{ghosts}
use Rattle.lc_model.specs.Recovered.{zero_content}
use Rattle.lc_recover.specs.Reads.{AllMergeTo}
use Rattle.lc_recover.proofs.Blank.{zeros_all_merge}
use Rattle.lc_core.specs.Headline.{Holds}
use Rattle.lc_core.specs.Observed.{observed}
use Rattle.lc_core.specs.Runs.{of_zeros}
use Rattle.lc_core.proofs.HeadlineHolds.{all_by, none_failed, none_told}
use Rattle.lc_core.proofs.lives.run_in_memory.Goals as goal

pub returns-clause-holds : goal.returns-clause-holds
returns-clause-holds c =
    let geometry = c.args.geometry in
    let areas = c.in_ok-areas.areas.items in
    subst (λ (failures : ℕ). Holds ghosts (of_zeros geometry) (λ segment. 0) (take (length c.in-Ok.ran.1.replies.items) c.args.events.now) c.in-Ok.ran.1.replies.items failures (observed ghosts c.in-Ok.ran.0)) (none_failed areas)
    (c.in-Ok.ensures.headline (zero_content geometry) (λ segment. 0) (λ area device there. refl)
    (all_by ghosts geometry areas (zero_content geometry) (λ segment. 0) (zeros_all_merge ghosts geometry areas c.in_ok-areas.ensures.lengths c.in_ok-areas.ensures.zeros)))

pub returns-clause-answers : goal.returns-clause-answers
returns-clause-answers c =
    let geometry = c.args.geometry in
    let areas = c.in_ok-areas.areas.items in
    let holds : Holds ghosts (of_zeros geometry) (λ segment. 0) (take (length c.in-Ok.ran.1.replies.items) c.args.events.now) c.in-Ok.ran.1.replies.items (sum_by ghosts.failures areas) (observed ghosts c.in-Ok.ran.0) =
    c.in-Ok.ensures.headline (zero_content geometry) (λ segment. 0) (λ area device there. refl)
    (all_by ghosts geometry areas (zero_content geometry) (λ segment. 0) (zeros_all_merge ghosts geometry areas c.in_ok-areas.ensures.lengths c.in_ok-areas.ensures.zeros)) in
    (holds.after, holds.answers)

pub returns-clause-no_fault : goal.returns-clause-no_fault
returns-clause-no_fault c =
    let geometry = c.args.geometry in
    let areas = c.in_ok-areas.areas.items in
    let holds : Holds ghosts (of_zeros geometry) (λ segment. 0) (take (length c.in-Ok.ran.1.replies.items) c.args.events.now) c.in-Ok.ran.1.replies.items (sum_by ghosts.failures areas) (observed ghosts c.in-Ok.ran.0) =
    c.in-Ok.ensures.headline (zero_content geometry) (λ segment. 0) (λ area device there. refl)
    (all_by ghosts geometry areas (zero_content geometry) (λ segment. 0) (zeros_all_merge ghosts geometry areas c.in_ok-areas.ensures.lengths c.in_ok-areas.ensures.zeros)) in
    none_told areas holds.some_areas.0 c.in-Ok.ran.1.replies.items (holds.leaves geometry holds.some_areas.0 holds.some_areas.1).1.faults

pub returns-clause-fits : goal.returns-clause-fits
returns-clause-fits c x numbers none =
    let geometry = c.args.geometry in
    let areas = c.in_ok-areas.areas.items in
    c.in-Ok.ensures.fits (zero_content geometry) x (λ area device there. refl)
    (subst (λ (n : ℕ → ℕ). AllMergeTo ghosts geometry areas (zero_content geometry) n) (sym numbers)
    (zeros_all_merge ghosts geometry areas c.in_ok-areas.ensures.lengths c.in_ok-areas.ensures.zeros))
    none

pub returns-clause-asks : goal.returns-clause-asks
returns-clause-asks c wants = elim (c.in-Ok.ensures.asks wants) [
  | inl nothing ↦ inl nothing
  | inr next ↦ inr (
    next.0,
    λ x numbers none.
        (let geometry = c.args.geometry in
        let areas = c.in_ok-areas.areas.items in
        next.1 (zero_content geometry) x (λ area device there. refl)
        (subst (λ (n : ℕ → ℕ). AllMergeTo ghosts geometry areas (zero_content geometry) n) (sym numbers)
        (zeros_all_merge ghosts geometry areas c.in_ok-areas.ensures.lengths c.in_ok-areas.ensures.zeros))
        none),
  )
]
