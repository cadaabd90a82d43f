-- Of nodes that run: how a transaction ends, layer by layer of a store: it gets its place in the log, and its record
-- is closed there.
use Rattle.std.specs.Prelude.{◌≡◌, ◌⊎◌, ℕ, Result, Ok, Err, alloc_error}
use Rattle.std.specs.declared.alloc.AllocError.{AllocError}
use Rattle.lc_disk.specs.declared.area.Area.{Ghosts}
use Rattle.lc_model.specs.declared.event.Event.TheVariants.{Close, Reserve}
use Rattle.lc_model.specs.declared.refusal.Refusal.{Refusal}
use Rattle.lc_model.specs.declared.reply.Reply.{Reply}
use Rattle.lc_model.specs.declared.reply.Reply.TheVariants.{Ended, Refused, Reserved as HasPlace}
use Rattle.lc_events.specs.Answered.{closed_at, done}
use Rattle.lc_events.specs.Layers.{StepsRunning, TriesRunning}
use Rattle.lc_events.specs.NodeSteps.{StepsNode}
use Rattle.lc_events.specs.declared.call_fault.CallFault.{CallFault}
use Rattle.lc_events.specs.declared.call_fault.CallFault.TheVariants.{NoMemory, Refused as IsRefused}
use Rattle.lc_events.specs.declared.node_state.NodeState.{NodeState}
use Rattle.lc_events.specs.declared.placement.Placement.{Placement}
use Rattle.lc_events.specs.declared.placement.Placement.TheVariants.{Empty as IsEmpty, Record as HasRecord}
use Rattle.lc_events.specs.declared.running.Running.{Running}

-- the reply that a placement stands for, or that there was no memory
abbrev pub tried : Result Placement CallFault → Result Reply AllocError
tried (Ok (HasRecord place words)) = Ok (HasPlace place words)
tried (Ok IsEmpty) = Ok Ended
tried (Err (IsRefused refusal)) = Ok (Refused refusal)
tried (Err NoMemory) = Err alloc_error

-- no record is there to be closed
abbrev pub HasNone : Result Placement CallFault → Type 0
HasNone (Ok (HasRecord place words)) = ⊥
HasNone (Ok IsEmpty) = Unit {0}
HasNone (Err fault) = Unit {0}

module _ {S : Type 0} (Places : S → Result Reply AllocError → S → Type 0) (Closes : S → Reply → S → Type 0) where
  -- nothing is closed
  pub record EndsThere (old : S) (result : Result Placement CallFault) (new : S) : Type 0 where
    pub none : HasNone result
    pub places : Places old (tried result) new

  -- its record has this place, and is closed
  pub record EndsClosed (old : S) (result : Result Placement CallFault) (new : S) : Type 0 where
    pub place : ℕ
    pub words : ℕ
    pub mid : S
    pub closed : Result (Unit {0}) Refusal
    pub places : Places old (Ok (HasPlace place words)) mid
    pub closes : Closes mid (done closed) new
    pub is : result ≡ closed_at closed (HasRecord place words)

  abbrev pub EndsBy : S → Result Placement CallFault → S → Type 0
  EndsBy old result new = EndsThere old result new ⊎ EndsClosed old result new

module _ {D : Type 0} (a : Ghosts D) where
  -- a node whose log stays
  pub record PlacesNode (n thread : ℕ) (old : NodeState D a) (result : Result Reply AllocError) (new : NodeState D a) : Type 0 where
    pub steps : StepsNode a n (Reserve n thread) old result new
    pub log : new.journal.log ≡ old.journal.log

  abbrev pub EndsNode : ℕ → ℕ → NodeState D a → Result Placement CallFault → NodeState D a → Type 0
  EndsNode n thread = EndsBy (PlacesNode n thread) (λ old reply new. StepsNode a n (Close n thread) old (Ok reply) new)

  abbrev pub EndsRunning : ℕ → ℕ → Running D a → Result Placement CallFault → Running D a → Type 0
  EndsRunning node thread = EndsBy (λ old. TriesRunning a old (Reserve node thread)) (λ old. StepsRunning a old (Close node thread))
