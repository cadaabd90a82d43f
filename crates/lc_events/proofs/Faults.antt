-- Of nodes that run: which replies tell of a failure, and what the calls of a device count.
use Rattle.std.proofs.Common.{◌≡◌, ℕ, ◌+◌, Bool, true, false, List, map, Option, Some, slice_get, slice_set, refl, sym, ap, subst, ◌∙◌, true≢false}
use Rattle.std.specs.Prelude.{option_map, if◌then◌else◌}
use Rattle.std.proofs.lemmas.List.{map-set}
use Rattle.std.proofs.lemmas.Option.{slice_get-map}
use Rattle.lc_disk.specs.declared.area.Area.{Ghosts}
use Rattle.lc_model.specs.declared.event.Event.{Event}
use Rattle.lc_model.specs.declared.reply.Reply.{Reply}
use Rattle.lc_events.specs.CallReplies.{calls_log}
use Rattle.lc_journal.specs.FaultReplies.{CallsIf, TellsFault, failures_of, is_fault, kind_of}
use Rattle.lc_events.specs.FaultReplies.{CountsFaults}
use Rattle.lc_events.specs.Faults.{CallsLog, CountsLogs, IsLogOf, SameDevices, SameLogs, areas_in, log_failures, log_kinds, logs_of}
use Rattle.lc_journal.specs.Log.{area_of, is_failed}
use Rattle.lc_desk.specs.Places.{same_map_set}
use Rattle.lc_journal.specs.declared.log.Log.{Log}
use Rattle.lc_journal.specs.declared.log.Log.TheVariants.{Idle, Written, Synced, Opened, Sealed, Closing, Emptied, Failed, Torn, Taken}
use Rattle.lc_events.specs.declared.node_state.NodeState.{NodeState}
use Rattle.lc_events.specs.declared.running.Running.{Running}

module _ {D : Type 0} (a : Ghosts D) where
  has_area : (log : Log D a) → is_failed a log ≡ false → (area : D) × (area_of a log ≡ Some area)
  has_area (Idle log) up = (log.area, refl)
  has_area (Written log) up = (log.area, refl)
  has_area (Synced log) up = (log.area, refl)
  has_area (Opened log) up = (log.area, refl)
  has_area (Sealed log) up = (log.area, refl)
  has_area (Closing log) up = (log.area, refl)
  has_area (Emptied log) up = (log.area, refl)
  has_area (Failed log) up = absurd (true≢false up)
  has_area (Torn log) up = absurd (true≢false up)
  has_area Taken up = absurd (true≢false up)

  -- what changes a node, and not its log, changes no log
  pub logs_stay : (nodes : List (NodeState D a)) (n : ℕ) (old new : NodeState D a) → slice_get nodes n ≡ Some old → new.journal.log ≡ old.journal.log → logs_of a (slice_set nodes n new) ≡ logs_of a nodes
  logs_stay nodes n old new at same = same_map_set (λ (node : NodeState D a). node.journal.log) nodes n old new at same

  -- what leaves a node's device as it is does so for all
  pub same_kinds_at : (nodes : List (NodeState D a)) (n : ℕ) (old new : NodeState D a) → slice_get nodes n ≡ Some old → kind_of a new.journal.log ≡ kind_of a old.journal.log
      → log_kinds a (logs_of a (slice_set nodes n new)) ≡ log_kinds a (logs_of a nodes)
  same_kinds_at nodes n old new at same =
      ap (log_kinds a) (map-set (λ (node : NodeState D a). node.journal.log) nodes n new)
      ∙ same_map_set (kind_of a) (logs_of a nodes) n old.journal.log new.journal.log
      (slice_get-map (λ (node : NodeState D a). node.journal.log) nodes n ∙ ap (option_map (λ (node : NodeState D a). node.journal.log)) at) same

  pub same_devices : (old new : Running D a) → SameLogs a old new → SameDevices a old new
  same_devices old new same = record { geometry = same.geometry; kinds = ap (log_kinds a) same.logs }

  pub quiet : (old : Running D a) (event : Event) (reply : Reply) (new : Running D a) → calls_log event reply ≡ false → is_fault reply ≡ false → SameLogs a old new → CountsLogs a old event reply new
  quiet old event reply new none plain same = record {
    counts = record {
      fault = λ is. absurd (true≢false (sym is ∙ plain));
      none = λ _. ap (log_failures a) same.logs;
    };
    devices = same_devices old new same;
    calls = subst (λ (b : Bool). CallsLog a event b (areas_in a old.nodes.items) (areas_in a new.nodes.items)) (sym none) (ap (map (area_of a)) same.logs);
  }

  -- a step of a flush at one node
  module _ (nodes : List (NodeState D a)) (n : ℕ) (old new : NodeState D a) (calls : Bool) (reply : Reply) (at : slice_get nodes n ≡ Some old)
      (tells : TellsFault a calls reply old.journal.log new.journal.log) where
    log_at : slice_get (logs_of a nodes) n ≡ Some old.journal.log
    log_at = slice_get-map (λ (node : NodeState D a). node.journal.log) nodes n ∙ ap (option_map (λ (node : NodeState D a). node.journal.log)) at

    logs_are : logs_of a (slice_set nodes n new) ≡ slice_set (logs_of a nodes) n new.journal.log
    logs_are = map-set (λ (node : NodeState D a). node.journal.log) nodes n new

    told : (b : Bool) → is_fault reply ≡ b → failures_of a new.journal.log ≡ (if b then option_map (λ (count : ℕ). count + 1) (failures_of a old.journal.log) else failures_of a old.journal.log)
    told b is = subst (λ (v : Bool). failures_of a new.journal.log ≡ (if v then option_map (λ (count : ℕ). count + 1) (failures_of a old.journal.log) else failures_of a old.journal.log)) is tells.failures

    pub same_kinds : log_kinds a (logs_of a (slice_set nodes n new)) ≡ log_kinds a (logs_of a nodes)
    same_kinds = same_kinds_at nodes n old new at tells.kind

    pub flush_counts : is_failed a old.journal.log ≡ false → CountsFaults reply (log_failures a (logs_of a nodes)) (log_failures a (logs_of a (slice_set nodes n new)))
    flush_counts up =
        let area = has_area old.journal.log up in
        let was : failures_of a old.journal.log ≡ Some (a.failures area.0) = ap (option_map a.failures) area.1 in
        record {
          fault = λ is. record {
            at = n;
            count = a.failures area.0;
            was = slice_get-map (failures_of a) (logs_of a nodes) n ∙ ap (option_map (failures_of a)) log_at ∙ ap (λ (o : Option ℕ). Some o) was;
            is = ap (log_failures a) logs_are ∙ map-set (failures_of a) (logs_of a nodes) n new.journal.log
                ∙ ap (λ (o : Option ℕ). slice_set (log_failures a (logs_of a nodes)) n o) (told true is ∙ ap (option_map (λ (count : ℕ). count + 1)) was);
          };
          none = λ is. ap (log_failures a) logs_are ∙ same_map_set (failures_of a) (logs_of a nodes) n old.journal.log new.journal.log log_at (told false is);
        }

    area_at : slice_get (areas_in a nodes) n ≡ Some (area_of a old.journal.log)
    area_at = slice_get-map (area_of a) (logs_of a nodes) n ∙ ap (option_map (area_of a)) log_at

    areas_are : areas_in a (slice_set nodes n new) ≡ slice_set (areas_in a nodes) n (area_of a new.journal.log)
    areas_are = ap (map (area_of a)) logs_are ∙ map-set (area_of a) (logs_of a nodes) n new.journal.log

    called_if : (b : Bool) → CallsIf a b (area_of a old.journal.log) (area_of a new.journal.log) → (event : Event) → (b ≡ true → IsLogOf event n) → CallsLog a event b (areas_in a nodes) (areas_in a (slice_set nodes n new))
    called_if false same event is = ap (map (area_of a)) logs_are ∙ same_map_set (area_of a) (logs_of a nodes) n old.journal.log new.journal.log log_at same
    called_if true made event is = (
      record {
        at = n;
        old = made.0;
        new = made.1;
        ok = made.2;
        was = area_at ∙ ap (λ (o : Option D). Some o) made.3;
        is = areas_are ∙ ap (λ (o : Option D). slice_set (areas_in a nodes) n o) made.4;
        call = made.5;
      },
      is refl,
    )

    pub one_called : (event : Event) → (calls ≡ true → IsLogOf event n) → CallsLog a event calls (areas_in a nodes) (areas_in a (slice_set nodes n new))
    one_called event is = called_if calls tells.call event is
