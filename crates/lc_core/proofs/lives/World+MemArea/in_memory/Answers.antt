use Rattle.std.proofs.Common.{ℕ, refl, subst, sym}
use Rattle.lc_disk.specs.contracts.mem_area.MemAreaArea.TheImpl.{ghosts}
use Rattle.lc_model.specs.Recovered.{zero_content}
use Rattle.lc_recover.specs.Reads.{AllMergeTo}
use Rattle.lc_recover.proofs.Blank.{zeros_all_merge}
use Rattle.lc_core.proofs.lives.World+MemArea.in_memory.Goals as goal

pub returns : goal.returns
returns c x numbers none =
    let geometry = c.args.geometry in
    let areas = c.in_ok-areas.areas.items in
    c.in-Ok.ensures.fits (record { geometry = geometry; start = zero_content geometry }) x refl (λ area device there. refl)
    (subst (λ (n : ℕ → ℕ). AllMergeTo ghosts geometry areas (zero_content geometry) n) (sym numbers)
    (zeros_all_merge ghosts geometry areas c.in_ok-areas.ensures.lengths c.in_ok-areas.ensures.zeros))
    none
