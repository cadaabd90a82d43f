-- The devices of a store that is up stay what they are.
use Rattle.std.proofs.Common.{◌≡◌, ◌≤◌, ◌+◌, ◌*◌, ℕ, Bool, List, [], drop, length, Option, Some, None, refl, sym, ap, subst, ◌∙◌, arith}
use Rattle.std.specs.Prelude.{Result, Ok, Err, IfOk, OnErr, option_map, slice_get}
use Rattle.std.proofs.lemmas.List.{length-replicate}
use Rattle.std.proofs.lemmas.Option.{slice_get-map, slice_get_within, same_Some as same_some}
use Rattle.lc_disk.specs.declared.area.Area.{Ghosts}
use Rattle.lc_record.specs.declared.geometry.Geometry.{Geometry}
use Rattle.lc_record.proofs.ListLemmas.{slice_get-map_some as get-map, slice_get-drop as get-drop}
use Rattle.lc_core.specs.Devices.{HaveLogs, HavePages, HaveSegments, HonestLogs}
use Rattle.lc_journal.specs.FaultReplies.{device_kind, kind_of}
use Rattle.lc_events.specs.Faults.{CountsLogs, SameDevices, SameLogs, log_kinds, logs_of}
use Rattle.lc_journal.specs.Log.{area_of}
use Rattle.lc_core.specs.Pages.{RestsAll, areas_of}
use Rattle.lc_desk.specs.declared.page_state.PageState.TheVariants.{AtRest}
use Rattle.lc_desk.specs.declared.pages.Pages.{Pages}
use Rattle.lc_model.specs.declared.event.Event.{Event}
use Rattle.lc_model.specs.declared.reply.Reply.{Reply}
use Rattle.lc_recover.specs.Reads.{HaveLengths}
use Rattle.lc_events.proofs.Faults.{same_devices}
use Rattle.lc_core.proofs.Opening.{log_area, segment_len}
use Rattle.lc_journal.specs.declared.log.Log.{Log}
use Rattle.lc_events.specs.declared.node_state.NodeState.{NodeState}
use Rattle.lc_events.specs.declared.running.Running.{Running}
use Rattle.lc_core.specs.declared.up.Up.{Up as Rising}

module _ {D : Type 0} (a : Ghosts D) where
  kind_at : (nodes : List (NodeState D a)) (n : ℕ) → slice_get (log_kinds a (logs_of a nodes)) n ≡ option_map (λ (node : NodeState D a). kind_of a node.journal.log) (slice_get nodes n)
  kind_at nodes n =
      slice_get-map (kind_of a) (logs_of a nodes) n ∙ ap (option_map (kind_of a)) (slice_get-map (λ (node : NodeState D a). node.journal.log) nodes n)
      ∙ (elim (slice_get nodes n) as (λ (o : Option (NodeState D a)). option_map (kind_of a) (option_map (λ (node : NodeState D a). node.journal.log) o) ≡ option_map (λ (node : NodeState D a). kind_of a node.journal.log) o) [ None ↦ refl | Some node ↦ refl ])

  kind_some : (log : Log D a) (kind : Bool × ℕ) → kind_of a log ≡ Some kind → (area : D) × (area_of a log ≡ Some area) × (device_kind a area ≡ kind)
  kind_some log kind is = elim (area_of a log) as (λ (o : Option D). area_of a log ≡ o → option_map (device_kind a) o ≡ Some kind → (area : D) × (area_of a log ≡ Some area) × (device_kind a area ≡ kind)) [
    | None ↦ λ there none. absurd cc
    | Some area ↦ λ there some. (area, there, same_some (device_kind a area) kind some)
  ] refl is

  len_of_kind : (log : Log D a) → option_map (λ (area : D). length (a.now area)) (area_of a log) ≡ option_map (λ (kind : Bool × ℕ). kind.1) (kind_of a log)
  len_of_kind log = elim (area_of a log) as (λ (o : Option D). option_map (λ (area : D). length (a.now area)) o ≡ option_map (λ (kind : Bool × ℕ). kind.1) (option_map (device_kind a) o)) [ None ↦ refl | Some area ↦ refl ]

  -- the area of a node's log
  pub log_area_of : (len : ℕ) (nodes : List (NodeState D a)) → HaveLogs a len nodes → (n : ℕ) (node : NodeState D a) → slice_get nodes n ≡ Some node
      → (area : D) × (area_of a node.journal.log ≡ Some area) × (length (a.now area) ≡ len)
  log_area_of len nodes have n node at = elim (area_of a node.journal.log) as (λ (o : Option D). area_of a node.journal.log ≡ o → option_map (λ (area : D). length (a.now area)) o ≡ Some len
      → (area : D) × (area_of a node.journal.log ≡ Some area) × (length (a.now area) ≡ len)) [
        | None ↦ λ there none. absurd cc
        | Some area ↦ λ there is. (area, there, same_some (length (a.now area)) len is)
      ] refl (have n node at)

  module _ (olds news : List (NodeState D a)) (same : log_kinds a (logs_of a news) ≡ log_kinds a (logs_of a olds)) where
    -- the node was there, with the same device
    was : (n : ℕ) (node : NodeState D a) → slice_get news n ≡ Some node → (old : NodeState D a) × (slice_get olds n ≡ Some old) × (kind_of a node.journal.log ≡ kind_of a old.journal.log)
    was n node at =
        let its : Some (kind_of a node.journal.log) ≡ option_map (λ (o : NodeState D a). kind_of a o.journal.log) (slice_get olds n) =
        ap (option_map (λ (o : NodeState D a). kind_of a o.journal.log)) (sym at) ∙ sym (kind_at news n) ∙ ap (λ (kinds : List (Option (Bool × ℕ))). slice_get kinds n) same ∙ kind_at olds n in
        elim (slice_get olds n) as (λ (o : Option (NodeState D a)). slice_get olds n ≡ o → Some (kind_of a node.journal.log) ≡ option_map (λ (o : NodeState D a). kind_of a o.journal.log) o
        → (old : NodeState D a) × (slice_get olds n ≡ Some old) × (kind_of a node.journal.log ≡ kind_of a old.journal.log)) [
          | None ↦ λ there is. absurd cc
          | Some old ↦ λ there is. (old, there, same_some (kind_of a node.journal.log) (kind_of a old.journal.log) is)
        ] refl its

    pub logs_kept : (len : ℕ) → HaveLogs a len olds → HaveLogs a len news
    logs_kept len have n node at =
        let old = was n node at in
        len_of_kind node.journal.log ∙ ap (option_map (λ (kind : Bool × ℕ). kind.1)) old.2 ∙ sym (len_of_kind old.0.journal.log) ∙ have n old.0 old.1

    -- the old log of a node's area
    was_area : (n : ℕ) (node : NodeState D a) (area : D) → slice_get news n ≡ Some node → area_of a node.journal.log ≡ Some area
        → (old : NodeState D a) × (slice_get olds n ≡ Some old) × (before : D) × (area_of a old.journal.log ≡ Some before) × (device_kind a before ≡ device_kind a area)
    was_area n node area at there =
        let old = was n node at in
        let its = kind_some old.0.journal.log (device_kind a area) (sym old.2 ∙ ap (option_map (device_kind a)) there) in
        (old.0, old.1, its.0, its.1, its.2)

    pub honest_kept : HonestLogs a olds → HonestLogs a news
    honest_kept honest n node area at there =
        let it = was_area n node area at there in
        ap (λ (kind : Bool × ℕ). kind.0) (sym it.4) ∙ honest n it.0 it.2 it.1 it.3

  -- so they stay as a store that is up has them
  pub record IsWhole (up : Rising D a) (running : Running D a) : Type 0 where
    pub all_segments : up.segments.len ≡ running.geometry.segments
    pub logs : HaveLogs a (8 * (running.geometry.words + 1)) running.nodes.items
    pub lengths : HaveSegments a (2 * 272 * running.geometry.pages) up.segments.items
    pub pages : HavePages a running.geometry.pages up.segments.items
    pub none : up.spare.items ≡ []
    pub room : running.geometry.nodes + running.geometry.segments ≤ up.spare.cap

  pub up_whole : (up : Rising D a) (running : Running D a) → SameDevices a up.running running → IsWhole up running
  up_whole up running same = record {
    all_segments = up.all_segments ∙ ap (λ (g : Geometry). g.segments) (sym same.geometry);
    logs = subst (λ (g : Geometry). HaveLogs a (8 * (g.words + 1)) running.nodes.items) (sym same.geometry)
        (logs_kept up.running.nodes.items running.nodes.items same.kinds (8 * (up.running.geometry.words + 1)) up.logs);
    lengths = subst (λ (g : Geometry). HaveSegments a (2 * 272 * g.pages) up.segments.items) (sym same.geometry) up.lengths;
    pages = subst (λ (g : Geometry). HavePages a g.pages up.segments.items) (sym same.geometry) up.pages;
    none = up.none;
    room = subst (λ (g : Geometry). g.nodes + g.segments ≤ up.spare.cap) (sym same.geometry) up.room;
  }

  -- whatever a step answers
  pub steps_devices : {E : Type 0} (old new : Running D a) (event : Event) (result : Result Reply E) → IfOk result (λ reply. CountsLogs a old event reply new) → OnErr result (SameLogs a old new) → SameDevices a old new
  steps_devices old new event (Ok reply) counts same = counts.devices
  steps_devices old new event (Err fault) counts same = same_devices a old new same

  -- The nodes and segments of a recovery have the areas that it had

  pub logs_have : (g : Geometry) (areas : List D) (nodes : List (NodeState D a)) → HaveLengths a g areas → length nodes ≡ g.nodes
      → ((n : ℕ) (node : NodeState D a) → slice_get nodes n ≡ Some node → area_of a node.journal.log ≡ slice_get areas n) → HaveLogs a (8 * (g.words + 1)) nodes
  logs_have g areas nodes lengths count each n node at =
      let area = log_area a g areas n lengths (omega (arith, slice_get_within nodes n node at, count)) in
      ap (option_map (λ (d : D). length (a.now d))) (each n node at ∙ area.1) ∙ ap (λ (len : ℕ). Some len) area.2

  pub segments_have : (g : Geometry) (areas : List D) (segments : List (Pages D a)) → HaveLengths a g areas → areas_of a segments ≡ drop g.nodes areas → HaveSegments a (2 * 272 * g.pages) segments
  segments_have g areas segments lengths are k pages at =
      segment_len a g areas k pages.area lengths
      (sym (get-drop g.nodes k areas) ∙ ap (λ (l : List D). slice_get l k) (sym are) ∙ get-map (λ (p : Pages D a). p.area) segments k pages at)

  pub each_have : (g : Geometry) (areas : List D) (nodes same : List (NodeState D a)) → same ≡ nodes → HaveLengths a g areas → length nodes ≡ g.nodes
      → ((n : ℕ) (node : NodeState D a) → slice_get nodes n ≡ Some node → area_of a node.journal.log ≡ slice_get areas n) → HaveLogs a (8 * (g.words + 1)) same
  each_have g areas nodes same is lengths count each = subst (HaveLogs a (8 * (g.words + 1))) (sym is) (logs_have g areas nodes lengths count each)

  pub rests_have : (g h : Geometry) (segments : List (Pages D a)) → h ≡ g → RestsAll a h segments → HavePages a g.pages segments
  rests_have g h segments same rest k pages at = ap length (rest k pages at) ∙ length-replicate h.pages AtRest ∙ ap (λ (v : Geometry). v.pages) same
