-- How many steps of a recovery are done at most.
use Rattle.std.proofs.Common.{◌*◌, ◌≤◌, List, length, drop, refl, arith}
use Rattle.lc_disk.specs.declared.area.Area.{Ghosts}
use Rattle.lc_record.specs.declared.geometry.Geometry.{Geometry}
use Rattle.lc_recover.proofs.Going.{few-writes, few-resets}
use Rattle.lc_recover.proofs.ReadLemmas.{count-read}
use Rattle.lc_recover.specs.Page.{pages_of}
use Rattle.lc_recover.specs.Recovery.{all_steps, IsGoing}
use Rattle.lc_recover.specs.Steps.{all_pages, calls_done, steps_of}
use Rattle.lc_recover.specs.declared.recovery_phase.RecoveryPhase.{RecoveryPhase}
use Rattle.lc_recover.specs.declared.recovery_phase.RecoveryPhase.TheVariants.{Syncing, Reading, Writing as WritingPages, Resetting, Done}

module _ {D : Type 0} (a : Ghosts D) (g : Geometry) (areas : List D) where
  -- those of a recovery that writes each page of the store
  pub steps-bound : (stage : RecoveryPhase) → IsGoing a g stage areas → steps_of g stage ≤ all_steps g (g.segments * g.pages)
  steps-bound (Syncing synced) going = omega (arith, going.fits.1)
  steps-bound (Reading r) going = omega (arith, count-read g going.fits.1.0 r going.fits.1.2, going.fits.1.1.count)
  steps-bound (WritingPages w) going =
      let calls : calls_done w.current ≤ 6 * length (pages_of (drop w.next w.merged.changes.items)) = few-writes g w going.fits.1 w.current refl in
      omega (arith, calls, going.few (all_pages w) refl)
  steps-bound (Resetting r) going = omega (arith, few-resets g r going.next, going.few r.written refl)
  steps-bound (Done f) going = omega (arith, going.few f.written refl)
