-- What a store that fits knows of its nodes, and of the areas of its logs.
use Rattle.std.proofs.Common.{◌≡◌, ◌∙◌, ℕ, ◌+◌, ◌*◌, ◌<◌, ◌≤◌, List, length, map, Some, None, refl, sym, ap, inl, inr, arith, lt-ltb}
use Rattle.std.proofs.lemmas.List.{length-map}
use Rattle.std.proofs.lemmas.Option.{slice_get_cases, slice_get_past}
use Rattle.std.specs.Prelude.{slice_get, vec_len}
use Rattle.std.specs.List.{AllByRecursion}
use Rattle.lc_disk.specs.declared.area.Area.{Ghosts}
use Rattle.lc_record.specs.declared.geometry.Geometry.{Geometry}
use Rattle.lc_record.specs.declared.record.Record.{Record}
use Rattle.lc_log.specs.LogText.{IsWhole}
use Rattle.lc_recover.specs.Reads.{AreHonest}
use Rattle.lc_recover.specs.Recovery.{Recovering, all_steps}
use Rattle.lc_recover.specs.Steps.{first_steps}
use Rattle.lc_model.specs.declared.reply.Reply.{Reply}
use Rattle.lc_model.specs.declared.reply.Reply.TheVariants.{Stepped}
use Rattle.lc_core.specs.Recovers.{AnswersRecovery}
use Rattle.lc_core.specs.declared.world_phase.WorldPhase.{WorldPhase}
use Rattle.lc_model.specs.State.{Setting, State}
use Rattle.lc_model.specs.Stored.{records_of}
use Rattle.lc_journal.specs.Log.{Stands, area_of}
use Rattle.lc_core.specs.LogWords.{AreLogged, ShowRecords, log_area}
use Rattle.lc_events.specs.NodeState.{FitsNode}
use Rattle.lc_settled.specs.Numbers.{Numbers}
use Rattle.lc_events.specs.Running.{FitsRunning}
use Rattle.lc_core.specs.World.{FitsDown, FitsPhase}
use Rattle.lc_journal.specs.declared.log.Log.{Log}
use Rattle.lc_journal.specs.declared.log.Log.TheVariants.{Idle, Written, Synced, Opened, Sealed, Closing, Emptied, Failed, Torn, Taken as NoLog}
use Rattle.lc_events.specs.declared.node_state.NodeState.{NodeState}
use Rattle.lc_core.specs.declared.world_phase.WorldPhase.TheVariants.{Down, Up}
use Rattle.lc_core.specs.declared.up.Up.{Up as Rising}

module _ {D : Type 0} (a : Ghosts D) where
  pub running_fits : (up : Rising D a) (m : Setting) (s : State) (x : Numbers) → FitsPhase a m (Up up) s x → FitsRunning a m up.running s x
  running_fits up m s x fits = fits.0.running

  -- a store that is down has an area for each log
  pub down_log : (r : Recovering D) (m : Setting) (s : State) (x : Numbers) (node : ℕ) → FitsDown a m r s x → node < m.geometry.nodes → (area : D) × (slice_get r.areas node ≡ Some area)
  down_log r m s x node fits below =
      let same : r.geometry.nodes ≡ m.geometry.nodes = ap (λ (g : Geometry). g.nodes) fits.geometry_is in
      let len : slice_get (map (λ (d : D). length (a.now d)) r.areas) node ≡ Some (8 * (r.geometry.words + 1)) =
      fits.lengths node ∙ rw (lt-ltb node r.geometry.nodes (omega (arith, below, same))) refl in
      elim ((slice_get_cases r.areas node).1) [
        | inl found ↦ (found.0, found.2)
        | inr past ↦ let none = slice_get_past (map (λ (d : D). length (a.now d)) r.areas) node (omega (arith, past.0, length-map r.areas (λ (d : D). length (a.now d)))) in absurd cc
      ]

  -- the words that one shows that is up are those of the records that are logged
  pub words_logged : (up : Rising D a) (m : Setting) (s : State) (x : Numbers) (node : ℕ) (words : List ℕ) → FitsPhase a m (Up up) s x
      → ShowRecords a (Up up) node words → AreLogged m s x node words
  words_logged up m s x node words fits show = show m s x fits fits.0.running.up

  area_there : (log : Log D a) (steps : ℕ) (stable group : List Record) → Stands a log steps stable group → (area : D) × (area_of a log ≡ Some area)
  area_there (Idle log) steps stable group stands = (log.area, refl)
  area_there (Written log) steps stable group stands = (log.area, refl)
  area_there (Synced log) steps stable group stands = (log.area, refl)
  area_there (Opened log) steps stable group stands = (log.area, refl)
  area_there (Sealed log) steps stable group stands = (log.area, refl)
  area_there (Closing log) steps stable group stands = (log.area, refl)
  area_there (Emptied log) steps stable group stands = (log.area, refl)
  area_there (Failed log) steps stable group stands = (log.area, refl)
  area_there (Torn log) steps stable group stands = (log.area, refl)
  area_there NoLog steps stable group stands = absurd stands

  -- a node of the geometry
  pub known_node : (up : Rising D a) (m : Setting) (s : State) (x : Numbers) (node : ℕ) → FitsRunning a m up.running s x → node < m.geometry.nodes
      → (its : NodeState D a) × (slice_get up.running.nodes.items node ≡ Some its) × FitsNode a m node its s x
  known_node up m s x node fits below =
      let long : vec_len up.running.nodes ≡ m.geometry.nodes = up.running.all_nodes ∙ ap (λ (g : Geometry). g.nodes) (sym fits.geometry_is) in
      elim ((slice_get_cases up.running.nodes.items node).1) [
        | inl found ↦ (found.0, found.2, fits.each node found.0 found.2)
        | inr past ↦ absurd (omega (arith, past.0, long, below))
      ]

  -- its records are whole, and its log has an area
  pub records_whole : (up : Rising D a) (m : Setting) (s : State) (x : Numbers) (node : ℕ) → FitsRunning a m up.running s x → node < m.geometry.nodes → AllByRecursion IsWhole (records_of m s x.disks node)
  records_whole up m s x node fits below = (known_node up m s x node fits below).2.journal.whole

  pub up_log : (up : Rising D a) (m : Setting) (s : State) (x : Numbers) (node : ℕ) → FitsRunning a m up.running s x → node < m.geometry.nodes → (area : D) × (log_area a (Up up) node ≡ Some area)
  up_log up m s x node fits below =
      let its = known_node up m s x node fits below in
      let there = area_there its.0.journal.log (s.flush node).steps _ _ its.2.journal.stands in
      (there.0, rw its.1 there.1)

  -- and one that is none
  pub up_none : (up : Rising D a) (m : Setting) (s : State) (x : Numbers) (node : ℕ) → FitsRunning a m up.running s x → m.geometry.nodes ≤ node → log_area a (Up up) node ≡ None
  up_none up m s x node fits above =
      let long : vec_len up.running.nodes ≡ m.geometry.nodes = up.running.all_nodes ∙ ap (λ (g : Geometry). g.nodes) (sym fits.geometry_is) in
      rw (slice_get_past up.running.nodes.items node (omega (arith, long, above))) refl

  -- the areas that were read as they are, before the merge
  pub reads_same : (r later : Recovering D) (reply : Reply) (new : WorldPhase D a) (steps : ℕ) → AnswersRecovery a r reply new → new ≡ Down later → r.steps + 1 < first_steps r.geometry
      → AreHonest a r.areas → reply ≡ Stepped steps → AreHonest a later.areas × (map a.now later.areas ≡ map a.now r.areas)
  reads_same r later reply new steps answers down before honest is = answers.reads later down before honest steps is

  -- a recovery has so many steps at most
  pub few_steps : (r : Recovering D) (reply : Reply) (new : WorldPhase D a) (steps : ℕ) → AnswersRecovery a r reply new → reply ≡ Stepped steps → steps ≤ all_steps r.geometry (r.geometry.segments * r.geometry.pages)
  few_steps r reply new steps answers is = answers.few steps is
