-- A store that stops: its areas are stopped, and a recovery begins that fits the state of a cut.
use Rattle.std.proofs.Common.{◌≡◌, ℕ, ◌+◌, ◌-◌, ◌*◌, ◌<◌, ◌≤◌, true, List, [], ◌++◌, drop, length, Option, Some, None, refl, sym, ap, subst, ◌∙◌, inl, inr, arith}
use Rattle.std.specs.Prelude.{is_some, option_map, if◌then◌else◌, slice_get}
use Rattle.std.proofs.Math.Seq.{drop-append_seam}
use Rattle.std.proofs.lemmas.Bool.{cases_lt}
use Rattle.std.proofs.lemmas.List.{length-append, length-map}
use Rattle.std.proofs.lemmas.Option.{slice_get-map, slice_get_past, slice_get_within}
use Rattle.lc_disk.specs.declared.area.Area.{Ghosts}
use Rattle.lc_disk.specs.declared.choice.Choice.{Choice}
use Rattle.lc_record.specs.declared.geometry.Geometry.{Geometry}
use Rattle.lc_record.proofs.ListLemmas.{slice_get_some as get-some, slice_get-append_left as front_get, slice_get-map_some as get-map, slice_get-drop as get-drop}
use Rattle.lc_recover.specs.Reads.{AreHonest, HaveLengths, area_count}
use Rattle.lc_recover.specs.Recovery.{Recovering, begun}
use Rattle.lc_recover.proofs.Going.{same_lists}
use Rattle.lc_recover.proofs.Images.{len-log, len-none, len-segment}
use Rattle.lc_model.specs.Machine.{Row, StopRow}
use Rattle.lc_model.specs.Refusals.{Unless, common_refusal}
use Rattle.lc_model.specs.State.{Phase as Condition, DownAt, Up as IsUpNow, Setting, State}
use Rattle.lc_model.specs.declared.event.Event.{Event}
use Rattle.lc_model.specs.declared.event.Event.TheVariants.{Stop}
use Rattle.lc_model.specs.declared.refusal.Refusal.{Refusal}
use Rattle.lc_model.specs.declared.reply.Reply.TheVariants.{Down as IsDown}
use Rattle.lc_model.proofs.Keeps.{sound-step}
use Rattle.lc_core.specs.Areas.{AreOf, AreStopped}
use Rattle.lc_core.specs.HonestAreas.{HonestUp}
use Rattle.lc_core.specs.Faults.{area_failures, phase_failures}
use Rattle.lc_journal.specs.Log.{area_of}
use Rattle.lc_settled.specs.Numbers.{Numbers}
use Rattle.lc_core.specs.Pages.{areas_of}
use Rattle.lc_settled.specs.Settled.{settled_answer}
use Rattle.lc_core.specs.Stops.{AreLeftBy, HasAreas, IsLeftBy, StopsAll}
use Rattle.lc_core.specs.World.{FitsDown, FitsPhase, Leads}
use Rattle.lc_events.specs.declared.node_state.NodeState.{NodeState}
use Rattle.lc_desk.specs.declared.pages.Pages.{Pages}
use Rattle.lc_core.specs.declared.world_phase.WorldPhase.{WorldPhase}
use Rattle.lc_core.specs.declared.world_phase.WorldPhase.TheVariants.{Down, Up, Taken}
use Rattle.lc_core.specs.declared.up.Up.{Up as Rising}
use Rattle.lc_core.proofs.Devices.{log_area_of}
use Rattle.lc_core.proofs.Failures.{beside_segments}
use Rattle.lc_core.proofs.ImagesFit.{stopped_failures, stopped_honest, stopped_lengths, stopped_merge_one, stopped_merge_same}

-- the choices of a stop
choices_of : Event → List (List Choice)
choices_of (Stop choices) = choices
choices_of event = []

pub same_stop : (one other : List (List Choice)) → Stop one ≡ Stop other → one ≡ other
unfolding choices_of
same_stop one other is = ap choices_of is

module _ {D : Type 0} (a : Ghosts D) where
  -- The areas of a store that is up

  module _ (up : Rising D a) where
    nodes_count : length up.running.nodes.items ≡ up.running.geometry.nodes
    nodes_count = sym up.running.nodes.ok.0 ∙ up.running.all_nodes

    segments_count : length (areas_of a up.segments.items) ≡ up.running.geometry.segments
    segments_count = length-map up.segments.items (λ (p : Pages D a). p.area) ∙ sym up.segments.ok.0 ∙ up.all_segments

    -- those of the logs, and those of the segments after them
    pub are_of : (logs all : List D) → ((n : ℕ) (node : NodeState D a) → slice_get up.running.nodes.items n ≡ Some node → area_of a node.journal.log ≡ slice_get logs n)
        → length logs ≡ up.running.nodes.len → all ≡ logs ++ areas_of a up.segments.items → AreOf a up all
    are_of logs all each count is =
        let many : length logs ≡ up.running.geometry.nodes = count ∙ up.running.all_nodes in
        record {
          count = ap length is ∙ length-append logs (areas_of a up.segments.items) ∙ omega (arith, many, segments_count);
          logs = λ n node at. each n node at
              ∙ sym (ap (λ (l : List D). slice_get l n) is ∙ front_get logs (areas_of a up.segments.items) n (omega (arith, slice_get_within up.running.nodes.items n node at, nodes_count, many)));
          segments = sym (ap (drop up.running.geometry.nodes) is ∙ ap (λ (n : ℕ). drop n (logs ++ areas_of a up.segments.items)) (sym many) ∙ drop-append_seam logs (areas_of a up.segments.items));
        }

    module _ (areas : List D) (are : AreOf a up areas) where
      -- the area at a place after the logs
      pub segment_at : (k : ℕ) (pages : Pages D a) → slice_get up.segments.items k ≡ Some pages → slice_get areas (up.running.geometry.nodes + k) ≡ Some pages.area
      segment_at k pages at = sym (get-drop up.running.geometry.nodes k areas) ∙ ap (λ (l : List D). slice_get l k) (sym are.segments) ∙ get-map (λ (p : Pages D a). p.area) up.segments.items k pages at

      -- the log of a node
      log_at : (k : ℕ) → k < up.running.geometry.nodes → (node : NodeState D a) × (slice_get up.running.nodes.items k ≡ Some node) × (area_of a node.journal.log ≡ slice_get areas k)
      log_at k within =
          let node = get-some up.running.nodes.items k (omega (arith, within, nodes_count)) in
          (node.0, node.1, are.logs k node.0 node.1)

      -- the pages at a place after the logs
      pages_at : (k : ℕ) → up.running.geometry.nodes ≤ k → k < area_count up.running.geometry
          → (place : ℕ) × (pages : Pages D a) × (k ≡ up.running.geometry.nodes + place) × (slice_get up.segments.items place ≡ Some pages)
      pages_at k past within =
          let place = k - up.running.geometry.nodes in
          let count = up.all_segments in
          let ok = up.segments.ok.0 in
          let pages = get-some up.segments.items place (omega (arith, past, within, count, ok)) in
          (place, pages.0, omega (arith, past), pages.1)

      pub their_lengths : HaveLengths a up.running.geometry areas
      their_lengths k = elim (cases_lt k up.running.geometry.nodes) [
        | inl few ↦
            (let node = log_at k few in
            let area = log_area_of a (8 * (up.running.geometry.words + 1)) up.running.nodes.items up.logs k node.0 node.1 in
            slice_get-map len areas k ∙ ap (option_map len) (sym node.2 ∙ area.1) ∙ ap (λ (n : ℕ). Some n) area.2 ∙ sym (len-log up.running.geometry k few))
        | inr past ↦ (elim (cases_lt k (area_count up.running.geometry)) [
          | inl within ↦
              let it = pages_at k past within in
              slice_get-map len areas k ∙ ap (option_map len) (ap (slice_get areas) it.2 ∙ segment_at it.0 it.1 it.3) ∙ ap (λ (n : ℕ). Some n) (up.lengths it.0 it.1 it.3)
              ∙ sym (len-segment up.running.geometry k past within)
          | inr beyond ↦
              slice_get-map len areas k ∙ ap (option_map len) (slice_get_past areas k (omega (arith, beyond, are.count))) ∙ sym (len-none up.running.geometry k beyond)
        ])
      ]
        where
          len : D → ℕ
          len d = length (a.now d)

      pub their_honesty : HonestUp a up → AreHonest a areas
      their_honesty h k device at = elim (cases_lt k up.running.geometry.nodes) [
        | inl few ↦ (let node = log_at k few in h.logs k node.0 device node.1 (node.2 ∙ at))
        | inr past ↦
            let within : k < area_count up.running.geometry = omega (arith, slice_get_within areas k device at, are.count) in
            let it = pages_at k past within in
            let same : Some device ≡ Some it.1.area = sym at ∙ ap (slice_get areas) it.2 ∙ segment_at it.0 it.1 it.3 in
            subst (λ (d : D). a.honest d ≡ true) (ap (λ (o : Option D). elim o as (λ (o : Option D). D) [ None ↦ device | Some d ↦ d ]) (sym same)) (h.segments it.0 it.1 it.3)
      ]

  -- The row

  stop_common : (m : Setting) (s : State) (choices : List (List Choice)) → common_refusal m.geometry s (Stop choices) ≡ None
  stop_common m s choices = elim s.phase as (λ (p : Condition). common_refusal m.geometry (record s { phase = p }) (Stop choices) ≡ None) [
    | IsUpNow ↦ refl
    | DownAt cut ↦ refl
  ]

  -- a stop that the row allows, at an area's new state
  leads_by_stop : (m : Setting) (s : State) (x : Numbers) (choices : List (List Choice)) (after : State) (new : WorldPhase D a) → StopRow s.phase m.geometry s IsDown after → FitsPhase a m new after (record x { steps = 0 })
      → Leads a m (Stop choices) s x IsDown new
  leads_by_stop m s x choices after new row fits =
      let open_none : settled_answer m s x (Stop choices) ≡ None = ap (λ (c : Option Refusal). if is_some c then None else None) (stop_common m s choices) in
      record {
        after = after;
        next = record x { steps = 0 };
        step = subst (λ (c : Option Refusal). Unless c s IsDown after (Row m s (Stop choices) IsDown after)) (sym (stop_common m s choices)) row;
        settled = (λ answer is. (let none : None ≡ Some answer = sym open_none ∙ is in absurd cc), λ recovers. absurd cc);
        turns = refl;
        fits = fits;
      }

  module _ (m : Setting) (s : State) (x : Numbers) (choices : List (List Choice)) where
    stops_up : (up : Rising D a) (areas news : List D) → AreOf a up areas → AreStopped a areas news → FitsPhase a m (Up up) s x → Leads a m (Stop choices) s x IsDown (Down (begun up.running.geometry news))
    stops_up up areas news are stopped h =
        let honest = their_honesty up areas are h.1 in
        let one = stopped_merge_one a m s x up areas news h.0.running h.0.pages honest are stopped in
        let after : State = record s { phase = DownAt one.0 } in
        let row : StopRow s.phase m.geometry s IsDown after = subst (λ (p : Condition). StopRow p m.geometry s IsDown after) (sym h.0.running.up) (one.0, one.1, refl, refl) in
        leads_by_stop m s x choices after (Down (begun up.running.geometry news)) row (record {
          geometry_is = sym h.0.running.geometry_is;
          cut = one.0;
          down = refl;
          sound = sound-step m s (Stop choices) IsDown after h.0.running.sound
              (subst (λ (c : Option Refusal). Unless c s IsDown after (Row m s (Stop choices) IsDown after)) (sym (stop_common m s choices)) row);
          lengths = stopped_lengths a areas news stopped up.running.geometry (their_lengths up areas are);
          honest = stopped_honest a areas news stopped honest;
          merges = one.2;
          steps_are = refl;
        })

    stops_down : (r : Recovering D) (news : List D) → AreStopped a r.areas news → FitsDown a m r s x → Leads a m (Stop choices) s x IsDown (Down (begun r.geometry news))
    stops_down r news stopped h =
        leads_by_stop m s x choices s (Down (begun r.geometry news)) (subst (λ (p : Condition). StopRow p m.geometry s IsDown s) (sym h.down) (refl, refl)) (record {
          geometry_is = h.geometry_is;
          cut = h.cut;
          down = h.down;
          sound = h.sound;
          lengths = stopped_lengths a r.areas news stopped r.geometry h.lengths;
          honest = stopped_honest a r.areas news stopped h.honest;
          merges = stopped_merge_same a r.areas news m.geometry _ _ h.honest h.merges stopped;
          steps_are = refl;
        })

    pub stop_leads : (old new : WorldPhase D a) → StopsAll a old new → FitsPhase a m old s x → Leads a m (Stop choices) s x IsDown new
    stop_leads (Down r) new stops h =
        subst (λ (p : WorldPhase D a). Leads a m (Stop choices) s x IsDown p) (sym stops.recovers)
        (subst (λ (g : Geometry). Leads a m (Stop choices) s x IsDown (Down (begun g stops.news))) (sym stops.were.0)
        (stops_down r stops.news (subst (λ (areas : List D). AreStopped a areas stops.news) stops.were.1 stops.stopped) h))
    stop_leads (Up up) new stops h =
        subst (λ (p : WorldPhase D a). Leads a m (Stop choices) s x IsDown p) (sym stops.recovers)
        (subst (λ (g : Geometry). Leads a m (Stop choices) s x IsDown (Down (begun g stops.news))) (sym stops.were.0)
        (stops_up up stops.olds stops.news stops.were.1 stops.stopped h))
    stop_leads Taken new stops h = absurd h

  pub by_stops : (old : WorldPhase D a) (g : Geometry) (olds news : List D) (new : WorldPhase D a) → HasAreas a old g olds → AreStopped a olds news → new ≡ Down (begun g news) → StopsAll a old new
  by_stops (Down r) g olds news new were stopped recovers = record { geometry = g; olds = olds; news = news; were = were; stopped = stopped; recovers = recovers }
  by_stops (Up up) g olds news new were stopped recovers = record { geometry = g; olds = olds; news = news; were = were; stopped = stopped; recovers = recovers }
  by_stops Taken g olds news new were stopped recovers = absurd were

  -- a store has one list of areas
  pub one_list : (phase : WorldPhase D a) (g h : Geometry) (xs ys : List D) → HasAreas a phase g xs → HasAreas a phase h ys → xs ≡ ys
  one_list (Down r) g h xs ys one other = one.1 ∙ sym other.1
  one_list (Up up) g h xs ys one other = same_lists xs ys (one.1.count ∙ sym other.1.count) each
    where
      nodes : ℕ
      nodes = up.running.geometry.nodes

      log : (k : ℕ) → k < nodes → slice_get xs k ≡ slice_get ys k
      log k less =
          let count = nodes_count up in
          let inside : k < length up.running.nodes.items = omega (arith, less, count) in
          let node = get-some up.running.nodes.items k inside in
          sym (one.1.logs k node.0 node.1) ∙ other.1.logs k node.0 node.1

      segment : (k : ℕ) → nodes ≤ k → slice_get xs k ≡ slice_get ys k
      segment k most =
          let behind : nodes + (k - nodes) ≡ k = omega (arith, most) in
          ap (slice_get xs) (sym behind) ∙ sym (get-drop nodes (k - nodes) xs) ∙ ap (λ (l : List D). slice_get l (k - nodes)) (sym one.1.segments ∙ other.1.segments)
          ∙ get-drop nodes (k - nodes) ys ∙ ap (slice_get ys) behind

      each : (k : ℕ) → k < length xs → slice_get xs k ≡ slice_get ys k
      each k less = elim (cases_lt k nodes) [ inl before ↦ log k before | inr behind ↦ segment k behind ]
  one_list Taken g h xs ys one other = absurd one

  -- so what is said of one stop of them is said of the store
  pub left_so : (left : D → List Choice → ℕ → ℕ) (choices : List (List Choice)) (old : WorldPhase D a) (g : Geometry) (olds news : List D) (new : WorldPhase D a) → HasAreas a old g olds
      → AreLeftBy a left choices olds news → new ≡ Down (begun g news) → IsLeftBy a left choices old new
  left_so left choices old g olds news new were are recovers = λ shape other befores afters before after.
      subst (λ (xs : List D). AreLeftBy a left choices xs afters) (one_list old g shape olds befores were before)
      (subst (λ (ys : List D). AreLeftBy a left choices olds ys) (sym (subst (λ (p : WorldPhase D a). HasAreas a p other afters) recovers after).1) are)

  -- no failure is counted
  pub areas_failed : (phase : WorldPhase D a) (g : Geometry) (areas : List D) → HasAreas a phase g areas → phase_failures a phase ≡ area_failures a areas
  areas_failed (Down r) g areas are = ap (area_failures a) (sym are.1)
  areas_failed (Up up) g areas are =
      let count = are.1.count in
      beside_segments a up.running.nodes.items up.segments.items areas up.running.geometry.nodes are.1.logs are.1.segments (nodes_count up) (omega (arith, count))
  areas_failed Taken g areas are = absurd are

  pub stop_counts : (old new : WorldPhase D a) → StopsAll a old new → phase_failures a new ≡ phase_failures a old
  stop_counts (Down r) new stops = ap (phase_failures a) stops.recovers ∙ stopped_failures a stops.olds stops.news stops.stopped ∙ sym (areas_failed (Down r) stops.geometry stops.olds stops.were)
  stop_counts (Up up) new stops = ap (phase_failures a) stops.recovers ∙ stopped_failures a stops.olds stops.news stops.stopped ∙ sym (areas_failed (Up up) stops.geometry stops.olds stops.were)
  stop_counts Taken new stops = ap (phase_failures a) stops
