-- What a step of a recovery answers, and what the last one leaves.
use Rattle.std.specs.Prelude.{◌≡◌, ℕ, drop, Some, Result, Ok, Err, IsErr, MatchOption, slice_get}
use Rattle.lc_disk.specs.declared.area.Area.{Ghosts}
use Rattle.lc_recover.specs.Fault.{refusal_to}
use Rattle.lc_recover.specs.Reads.{AreOfBytes, HaveLengths}
use Rattle.lc_recover.specs.Recovered.{RecoveredStore, AreFinished, IsMade}
use Rattle.lc_recover.specs.Recovery.{Recovering}
use Rattle.lc_recover.specs.declared.fault.RecoverFault.{RecoverFault}
use Rattle.lc_recover.specs.declared.progress.Progress.{Progress}
use Rattle.lc_recover.specs.declared.progress.Progress.TheVariants.{Stepped as HasStepped, Recovered as HasRecovered}
use Rattle.lc_model.specs.declared.reply.Reply.{Reply}
use Rattle.lc_model.specs.declared.reply.Reply.TheVariants.{Stepped, Recovered, Refused}
use Rattle.lc_core.specs.Fresh.{IsFresh}
use Rattle.lc_journal.specs.Log.{area_of}
use Rattle.lc_core.specs.Pages.{RestsAll, areas_of}
use Rattle.lc_events.specs.declared.node_state.NodeState.{NodeState}
use Rattle.lc_core.specs.declared.world_phase.WorldPhase.{WorldPhase}
use Rattle.lc_core.specs.declared.world_phase.WorldPhase.TheVariants.{Up as IsUp}
use Rattle.lc_core.specs.declared.up.Up.{Up}

abbrev pub RepliesTo : {E : Type 0} → Result Progress RecoverFault → Result Reply E → Type 0
RepliesTo (Ok (HasStepped steps)) result = result ≡ Ok (Stepped steps)
RepliesTo (Ok HasRecovered) result = result ≡ Ok Recovered
RepliesTo (Err fault) result = MatchOption (refusal_to fault) (IsErr result) (λ refusal. result ≡ Ok (Refused refusal))

module _ {D : Type 0} (a : Ghosts D) where
  -- the nodes are those of the store that a recovery has made, on its areas, and no page is being written
  pub record ComesUp (r : Recovering D) (up : Up D a) : Type 0 where
    pub store : RecoveredStore D
    pub geometry : store.geometry ≡ r.geometry
    pub areas : store.areas ≡ r.areas
    pub same_geometry : up.running.geometry ≡ r.geometry
    pub log_areas : (n : ℕ) (node : NodeState D a) → slice_get up.running.nodes.items n ≡ Some node → area_of a node.journal.log ≡ slice_get r.areas n
    pub made : IsMade a store
    pub each : AreFinished a store
    pub fresh : IsFresh a store up.running
    pub lengths : HaveLengths a r.geometry r.areas
    pub bytes : AreOfBytes a r.areas
    pub segments : areas_of a up.segments.items ≡ drop r.geometry.nodes r.areas
    pub rest : RestsAll a r.geometry up.segments.items

  abbrev pub HasComeUp : Recovering D → WorldPhase D a → Type 0
  HasComeUp r phase = (up : Up D a) × (phase ≡ IsUp up) × ComesUp r up
