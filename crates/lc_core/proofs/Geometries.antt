-- Of the store: the geometry of a store stays, and what it does not have is unknown.
use Rattle.std.proofs.Common.{◌≡◌, ℕ, ◌+◌, ◌*◌, Bool, true, false, List, Option, None, Some, refl, sym, ap, subst, ◌∙◌, inl, inr, arith, lt-ltb}
use Rattle.std.specs.Option.{ForSome}
use Rattle.std.specs.Prelude.{Result, Ok, Err, IfOk, is_some, option_and_then, slice_get, if◌then◌else◌}
use Rattle.std.proofs.lemmas.Bool.{cases_lt, le-ltb}
use Rattle.std.proofs.lemmas.Option.{slice_get_past, same_Some as same_some}
use Rattle.std.proofs.lemmas.Result.{IfOk-from_err}
use Rattle.lc_disk.specs.declared.area.Area.{Ghosts}
use Rattle.lc_disk.specs.declared.choice.Choice.{Choice}
use Rattle.lc_record.specs.declared.geometry.Geometry.{Geometry}
use Rattle.lc_record.proofs.ListLemmas.{slice_get_some as get-some}
use Rattle.lc_model.specs.Refusals.{is_known, is_node}
use Rattle.lc_model.specs.declared.event.Event.{Event}
use Rattle.lc_model.specs.declared.event.Event.TheVariants.{RecoverStep, Stop}
use Rattle.lc_model.specs.declared.reply.Reply.{Reply}
use Rattle.lc_model.specs.declared.reply.Reply.TheVariants.{Down as IsDown}
use Rattle.lc_recover.specs.Reads.{HaveLengths}
use Rattle.lc_recover.specs.Recovery.{Recovering}
use Rattle.lc_recover.specs.declared.fault.RecoverFault.{RecoverFault}
use Rattle.lc_recover.specs.declared.fault.RecoverFault.TheVariants.{BadGeometry, Gap, Twice, OutOfSegment, DeviceFault as Failed, NoMemory}
use Rattle.lc_recover.specs.declared.progress.Progress.{Progress}
use Rattle.lc_recover.specs.declared.progress.Progress.TheVariants.{Stepped as HasStepped, Recovered as HasRecovered}
use Rattle.lc_journal.specs.FaultReplies.{is_unknown}
use Rattle.lc_core.specs.Geometries.{RefusesOutside, phase_geometry}
use Rattle.lc_events.specs.Geometries.{RefusesUnknown}
use Rattle.lc_journal.specs.Log.{area_of}
use Rattle.lc_core.specs.LogWords.{log_area}
use Rattle.lc_core.specs.Recovering.{ComesUp, RepliesTo}
use Rattle.lc_core.specs.Stops.{StopsAll}
use Rattle.lc_events.specs.declared.node_state.NodeState.{NodeState}
use Rattle.lc_core.specs.declared.world_phase.WorldPhase.{WorldPhase}
use Rattle.lc_core.specs.declared.world_phase.WorldPhase.TheVariants.{Down, Up, Taken}
use Rattle.lc_core.specs.declared.up.Up.{Up as Rising}
use Rattle.lc_core.proofs.Devices.{log_area_of}
use Rattle.lc_core.proofs.Opening.{log_area as area_at}
use Rattle.lc_core.proofs.Recoveries.{if_ok_at}
use Rattle.lc_events.proofs.Geometries.{not_unknown, refuses_known}

-- a step of a recovery refuses nothing as unknown
pub replies_known : {E : Type 0} (result : Result Progress RecoverFault) (answer : Result Reply E) → RepliesTo result answer → IfOk answer (λ reply. is_unknown reply ≡ false)
replies_known (Ok (HasStepped steps)) answer replies = if_ok_at answer _ _ replies refl
replies_known (Ok HasRecovered) answer replies = if_ok_at answer _ _ replies refl
replies_known (Err (BadGeometry area)) answer replies = if_ok_at answer _ _ replies refl
replies_known (Err (Gap segment seq)) answer replies = if_ok_at answer _ _ replies refl
replies_known (Err (Twice segment seq)) answer replies = if_ok_at answer _ _ replies refl
replies_known (Err (OutOfSegment area)) answer replies = if_ok_at answer _ _ replies refl
replies_known (Err Failed) answer replies = if_ok_at answer _ _ replies refl
replies_known (Err NoMemory) answer replies = IfOk-from_err answer _ replies

module _ {D : Type 0} (a : Ghosts D) where
  -- what goes for each store, whatever it is
  any_outside : (phase : WorldPhase D a) (event : Event) (reply : Reply) → ((g : Geometry) → is_known g event ≡ true) → is_unknown reply ≡ false → RefusesOutside a phase event reply
  any_outside (Down r) event reply known plain = not_unknown reply plain
  any_outside (Up up) event reply known plain = refuses_known up.running.geometry event reply (known up.running.geometry) plain
  any_outside Taken event reply known plain = not_unknown reply plain

  pub recovers_outside : (phase : WorldPhase D a) (event : Event) (reply : Reply) → event ≡ RecoverStep → is_unknown reply ≡ false → RefusesOutside a phase event reply
  recovers_outside phase event reply is plain = any_outside phase event reply (λ g. ap (is_known g) is) plain

  pub stops_outside : (phase : WorldPhase D a) (event : Event) (choices : List (List Choice)) (reply : Reply) → event ≡ Stop choices → reply ≡ IsDown → RefusesOutside a phase event reply
  stops_outside phase event choices reply is down = any_outside phase event reply (λ g. ap (is_known g) is) (ap is_unknown down)

  pub up_outside : (phase : WorldPhase D a) (up : Rising D a) (event : Event) (reply : Reply) → phase ≡ Up up → RefusesUnknown up.running.geometry event reply → RefusesOutside a phase event reply
  up_outside phase up event reply is refuses = subst (λ (p : WorldPhase D a). RefusesOutside a p event reply) (sym is) refuses

  pub down_outside : (phase : WorldPhase D a) (event : Event) (reply : Reply) → ((up : Rising D a) → phase ≡ Up up → ⊥) → is_unknown reply ≡ false → RefusesOutside a phase event reply
  down_outside (Down r) event reply other plain = not_unknown reply plain
  down_outside (Up up) event reply other plain = absurd (other up refl)
  down_outside Taken event reply other plain = not_unknown reply plain

  -- The geometry

  pub up_geometry : (phase : WorldPhase D a) (up new : Rising D a) → phase ≡ Up up → new.running.geometry ≡ up.running.geometry → phase_geometry a (Up new) ≡ phase_geometry a phase
  up_geometry phase up new is same = ap (λ (g : Geometry). Some g) same ∙ ap (phase_geometry a) (sym is)

  pub down_geometry : (phase : WorldPhase D a) (r new : Recovering D) → phase ≡ Down r → new.geometry ≡ r.geometry → phase_geometry a (Down new) ≡ phase_geometry a phase
  down_geometry phase r new is same = ap (λ (g : Geometry). Some g) same ∙ ap (phase_geometry a) (sym is)

  pub risen_geometry : (phase risen : WorldPhase D a) (r new : Recovering D) (up : Rising D a) → phase ≡ Down r → new.geometry ≡ r.geometry → risen ≡ Up up → ComesUp a new up
      → phase_geometry a risen ≡ phase_geometry a phase
  risen_geometry phase risen r new up is same rises came =
      ap (phase_geometry a) rises ∙ ap (λ (g : Geometry). Some g) (came.same_geometry ∙ same) ∙ ap (phase_geometry a) (sym is)

  pub stops_geometry : (old new : WorldPhase D a) → StopsAll a old new → phase_geometry a new ≡ phase_geometry a old
  stops_geometry (Down r) new stops = ap (phase_geometry a) stops.recovers ∙ ap (λ (g : Geometry). Some g) stops.were.0
  stops_geometry (Up up) new stops = ap (phase_geometry a) stops.recovers ∙ ap (λ (g : Geometry). Some g) stops.were.0
  stops_geometry Taken new stops = ap (phase_geometry a) stops

  -- The nodes that have a log

  pub down_nodes : (r : Recovering D) (node : ℕ) → HaveLengths a r.geometry r.areas → is_some (log_area a (Down r) node) ≡ is_node r.geometry node
  down_nodes r node lengths = elim (cases_lt node r.geometry.nodes) [
    | inl few ↦
        (let known = lt-ltb node r.geometry.nodes few in
        let area = area_at a r.geometry r.areas node lengths few in
        ap (λ (b : Bool). is_some (if b then slice_get r.areas node else None)) known ∙ ap (λ (o : Option D). is_some o) area.1 ∙ sym known)
    | inr past ↦
        (let unknown = le-ltb node r.geometry.nodes past in
        ap (λ (b : Bool). is_some (if b then slice_get r.areas node else None)) unknown ∙ sym unknown)
  ]

  up_nodes : (up : Rising D a) (node : ℕ) → is_some (log_area a (Up up) node) ≡ is_node up.running.geometry node
  up_nodes up node =
      let nodes = up.running.nodes in
      let its_log : Option (NodeState D a) → Option D = λ o. option_and_then (λ (its : NodeState D a). area_of a its.journal.log) o in
      elim (cases_lt node up.running.geometry.nodes) [
        | inl few ↦
            (let its = get-some nodes.items node (omega (arith, few, nodes.ok.0, up.running.all_nodes)) in
            let area = log_area_of a (8 * (up.running.geometry.words + 1)) nodes.items up.logs node its.0 its.1 in
            ap (λ (o : Option (NodeState D a)). is_some (its_log o)) its.1 ∙ ap (λ (o : Option D). is_some o) area.1 ∙ sym (lt-ltb node up.running.geometry.nodes few))
        | inr past ↦
            ap (λ (o : Option (NodeState D a)). is_some (its_log o)) (slice_get_past nodes.items node (omega (arith, past, nodes.ok.0, up.running.all_nodes)))
            ∙ sym (le-ltb node up.running.geometry.nodes past)
      ]

  pub nodes_down : (phase : WorldPhase D a) (r : Recovering D) (node : ℕ) → phase ≡ Down r → is_some (log_area a (Down r) node) ≡ is_node r.geometry node
      → ForSome (phase_geometry a phase) (λ g. is_some (log_area a phase node) ≡ is_node g node)
  nodes_down phase r node is its = subst (λ (p : WorldPhase D a). ForSome (phase_geometry a p) (λ g. is_some (log_area a p node) ≡ is_node g node)) (sym is)
      (λ g same. its ∙ ap (λ (h : Geometry). is_node h node) (same_some r.geometry g same))

  pub nodes_up : (phase : WorldPhase D a) (up : Rising D a) (node : ℕ) → phase ≡ Up up → ForSome (phase_geometry a phase) (λ g. is_some (log_area a phase node) ≡ is_node g node)
  nodes_up phase up node is = subst (λ (p : WorldPhase D a). ForSome (phase_geometry a p) (λ g. is_some (log_area a p node) ≡ is_node g node)) (sym is)
      (λ g same. up_nodes up node ∙ ap (λ (h : Geometry). is_node h node) (same_some up.running.geometry g same))
