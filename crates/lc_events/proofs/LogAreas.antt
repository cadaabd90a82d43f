-- What changes a node, and not the area of its log, changes no area of a log.
use Rattle.std.proofs.Common.{◌≡◌, ℕ, List, map, Some, slice_get, slice_set, ap, ◌∙◌}
use Rattle.std.specs.Prelude.{option_map}
use Rattle.std.proofs.lemmas.List.{map-set}
use Rattle.std.proofs.lemmas.Option.{slice_get-map}
use Rattle.lc_disk.specs.declared.area.Area.{Ghosts}
use Rattle.lc_events.specs.Faults.{logs_of}
use Rattle.lc_journal.specs.Log.{area_of}
use Rattle.lc_desk.specs.Places.{same_map_set}
use Rattle.lc_events.specs.declared.node_state.NodeState.{NodeState}

pub areas_stay : {D : Type 0} (a : Ghosts D) (nodes : List (NodeState D a)) (n : ℕ) (old new : NodeState D a) → slice_get nodes n ≡ Some old → area_of a new.journal.log ≡ area_of a old.journal.log
    → map (area_of a) (logs_of a (slice_set nodes n new)) ≡ map (area_of a) (logs_of a nodes)
areas_stay {D} a nodes n old new at same =
    ap (map (area_of a)) (map-set (λ (node : NodeState D a). node.journal.log) nodes n new)
    ∙ same_map_set (area_of a) (logs_of a nodes) n old.journal.log new.journal.log
    (slice_get-map (λ (node : NodeState D a). node.journal.log) nodes n ∙ ap (option_map (λ (node : NodeState D a). node.journal.log)) at) same
