-- Of nodes that run: how often the devices of a store have failed, and what its replies tell of it.
use Rattle.std.specs.Prelude.{◌≡◌, ℕ, Bool, true, false, List, map, Option}
use Rattle.lc_disk.specs.declared.area.Area.{Ghosts}
use Rattle.lc_model.specs.declared.event.Event.{Event}
use Rattle.lc_model.specs.declared.event.Event.TheVariants.{FlushStep, ResetStep}
use Rattle.lc_model.specs.declared.reply.Reply.{Reply}
use Rattle.lc_events.specs.CallReplies.{calls_log}
use Rattle.lc_events.specs.FaultReplies.{CallsOneOf, CountsFaults}
use Rattle.lc_journal.specs.FaultReplies.{failures_of, kind_of}
use Rattle.lc_journal.specs.Log.{area_of}
use Rattle.lc_journal.specs.declared.log.Log.{Log}
use Rattle.lc_events.specs.declared.node_state.NodeState.{NodeState}
use Rattle.lc_events.specs.declared.running.Running.{Running}

-- the log of a node is at this place
abbrev pub IsLogOf : Event → ℕ → Type 0
IsLogOf (FlushStep node) at = at ≡ node
IsLogOf (ResetStep node) at = at ≡ node
IsLogOf event at = ⊥

module _ {D : Type 0} (a : Ghosts D) where
  -- the logs of nodes
  abbrev pub logs_of : List (NodeState D a) → List (Log D a)
  logs_of nodes = map (λ node. node.journal.log) nodes

  -- and their areas
  abbrev pub areas_in : List (NodeState D a) → List (Option D)
  areas_in nodes = map (area_of a) (logs_of nodes)

  -- no node's log has changed
  pub record SameLogs (old new : Running D a) : Type 0 where
    pub geometry : new.geometry ≡ old.geometry
    pub logs : logs_of new.nodes.items ≡ logs_of old.nodes.items

  -- nor its area
  pub record SameLogAreas (old new : Running D a) : Type 0 where
    pub geometry : new.geometry ≡ old.geometry
    pub areas : areas_in new.nodes.items ≡ areas_in old.nodes.items

  -- how often the device of each has failed
  abbrev pub log_failures : List (Log D a) → List (Option ℕ)
  log_failures logs = map (failures_of a) logs

  -- what stays of the device of each
  abbrev pub log_kinds : List (Log D a) → List (Option (Bool × ℕ))
  log_kinds logs = map (kind_of a) logs

  -- the nodes have the same devices
  pub record SameDevices (old new : Running D a) : Type 0 where
    pub geometry : new.geometry ≡ old.geometry
    pub kinds : log_kinds (logs_of new.nodes.items) ≡ log_kinds (logs_of old.nodes.items)

  -- where there is to be a call, one of these areas was called, that of the node that acts; else none
  abbrev pub CallsLog : Event → Bool → List (Option D) → List (Option D) → Type 0
  CallsLog event true olds news = (calls : CallsOneOf a olds news) × IsLogOf event calls.at
  CallsLog event false olds news = news ≡ olds

  -- what a reply of running nodes tells of their devices
  pub record CountsLogs (old : Running D a) (event : Event) (reply : Reply) (new : Running D a) : Type 0 where
    pub counts : CountsFaults reply (log_failures (logs_of old.nodes.items)) (log_failures (logs_of new.nodes.items))
    pub devices : SameDevices old new
    pub calls : CallsLog event (calls_log event reply) (areas_in old.nodes.items) (areas_in new.nodes.items)
