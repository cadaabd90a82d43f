-- Of the store: how a transaction ends, layer by layer of a store: it gets its place in the log, and its record is
-- closed there.
use Rattle.std.specs.Prelude.{ℕ, Result}
use Rattle.lc_disk.specs.declared.area.Area.{Ghosts}
use Rattle.lc_model.specs.declared.event.Event.TheVariants.{Close, Reserve}
use Rattle.lc_core.specs.Layers.{StepsUp, TriesUp}
use Rattle.lc_events.specs.declared.call_fault.CallFault.{CallFault}
use Rattle.lc_events.specs.declared.placement.Placement.{Placement}
use Rattle.lc_core.specs.declared.up.Up.{Up as UpStore}
use Rattle.lc_events.specs.EndCalls.{EndsBy}

module _ {D : Type 0} (a : Ghosts D) where
  abbrev pub EndsUp : ℕ → ℕ → UpStore D a → Result Placement CallFault → UpStore D a → Type 0
  EndsUp node thread = EndsBy (λ old. TriesUp a old (Reserve node thread)) (λ old. StepsUp a old (Close node thread))
