-- What a store that is up refuses at once.
use Rattle.std.proofs.Common.{◌≡◌, ℕ, ◌<◌, nat_lt, Bool, true, false, ◌&&◌, List, Option, Some, None, get_or, refl, sym, ap, subst, ◌∙◌, arith, length, ltb-false}
use Rattle.std.proofs.lemmas.Bool.{ltb-true, and_parts as and-both}
use Rattle.std.proofs.lemmas.Option.{slice_get_read, same_Some as same_some}
use Rattle.std.specs.Prelude.{option_map, slice_get}
use Rattle.std.specs.Bool.{then_some}
use Rattle.std.specs.List.{list_all}
use Rattle.lc_disk.specs.declared.area.Area.{Ghosts}
use Rattle.lc_record.specs.declared.geometry.Geometry.{Geometry}
use Rattle.lc_model.specs.Refusals.{Named, named, are_known, acts_halted, common_refusal, is_known, is_halted, is_up, is_node, is_thread, is_segment, is_page}
use Rattle.lc_model.specs.State.{Setting, State}
use Rattle.lc_model.specs.declared.event.Event.{Event}
use Rattle.lc_model.specs.declared.refusal.Refusal.{Refusal}
use Rattle.lc_model.specs.declared.refusal.Refusal.TheVariants.{Halted, Unknown}
use Rattle.lc_model.specs.declared.reply.Reply.TheVariants.{Refused}
use Rattle.lc_model.proofs.Rows.{common-halted, common-none}
use Rattle.lc_journal.specs.Log.{is_failed}
use Rattle.lc_settled.specs.Numbers.{Numbers}
use Rattle.lc_events.specs.Geometries.{RefusesUnknown}
use Rattle.lc_events.specs.MayReply.{is_common}
use Rattle.lc_events.specs.Refuses.{Refuses, RefusesFirst, ActsRunning}
use Rattle.lc_events.specs.Running.{FitsRunning}
use Rattle.lc_events.specs.declared.node_state.NodeState.{NodeState}
use Rattle.lc_events.specs.declared.running.Running.{Running}
use Rattle.lc_events.proofs.Geometries.{refuses_known, refuses_outside}

-- the node that acts is one of the geometry
acts_within : (g : Geometry) (o : Option Named) (n : ℕ) → Some n ≡ option_map (λ its. its.node) o → are_known g o ≡ true → n < g.nodes
acts_within g None n acts known = absurd cc
acts_within g (Some its) n acts known =
    let others = list_all (is_node g) its.others in
    let threads = list_all (is_thread g) its.threads in
    let segments = list_all (is_segment g) its.segments in
    let a = and-both (is_node g its.node && others && threads && segments) (list_all (is_page g) its.pages) known in
    let b = and-both (is_node g its.node && others && threads) segments a.0 in
    let c = and-both (is_node g its.node && others) threads b.0 in
    let d = and-both (is_node g its.node) others c.0 in
    let same : n ≡ its.node = same_some n its.node acts in
    rw same (ltb-true its.node g.nodes d.0)

-- that it is halted is asked of that node
acts_at : (halted : ℕ → Bool) (o : Option Named) (n : ℕ) → Some n ≡ option_map (λ its. its.node) o → acts_halted halted o ≡ halted n
acts_at halted None n acts = absurd cc
acts_at halted (Some its) n acts = ap halted (sym (same_some n its.node acts))

-- what names something unknown
common-unknown : (g : Geometry) (s : State) (event : Event) → is_up s.phase ≡ true → is_known g event ≡ false → common_refusal g s event ≡ Some Unknown
common-unknown g s event up known = rw (up, known) refl

module _ {D : Type 0} (a : Ghosts D) where
  running_at : (nodes : List (NodeState D a)) (o : Option Named) (n : ℕ) (node : NodeState D a) → Some n ≡ option_map (λ its. its.node) o → slice_get nodes n ≡ Some node
      → is_failed a node.journal.log ≡ false → ActsRunning a o nodes
  running_at nodes None n node acts at goes = absurd cc
  running_at nodes (Some its) n node acts at goes = λ other got.
      let same : slice_get nodes its.node ≡ Some node = ap (slice_get nodes) (sym (same_some n its.node acts)) ∙ at in
      ap (λ (w : NodeState D a). is_failed a w.journal.log) (same_some other node (sym got ∙ same)) ∙ goes

  -- the node that acts, where all that the event names is known
  module _ (w : Running D a) (event : Event) (known : is_known w.geometry event ≡ true) (n : ℕ) (acts : Some n ≡ option_map (λ its. its.node) (named event))
      (node : NodeState D a) (read : node ≡ get_or w.nodes.items n node) where
    pub stands : slice_get w.nodes.items n ≡ Some node
    stands =
        let within : n < w.nodes.len = omega (arith, acts_within w.geometry (named event) n acts known, w.all_nodes) in
        slice_get_read w.nodes.items w.nodes.len n node w.nodes.ok.0 within read

    known_in : (m : Setting) (s : State) (x : Numbers) → FitsRunning a m w s x → is_known m.geometry event ≡ true
    known_in m s x h = ap (λ (g : Geometry). is_known g event) h.geometry_is ∙ known

    halts : (m : Setting) (s : State) (x : Numbers) → FitsRunning a m w s x → is_halted s.halted event ≡ is_failed a node.journal.log
    halts m s x h = acts_at s.halted (named event) n acts ∙ (h.each n node stands).journal.halted

    pub halted_at_once : is_failed a node.journal.log ≡ true → Refuses a w event (Some Halted)
    halted_at_once fails m s x h = sym (common-halted m.geometry s event (ap is_up h.up) (known_in m s x h) (halts m s x h ∙ fails))

    pub none_at_once : is_failed a node.journal.log ≡ false → Refuses a w event None
    none_at_once goes m s x h = sym (common-none m.geometry s event (ap is_up h.up) (known_in m s x h) (halts m s x h ∙ goes))

    pub acts_running : is_failed a node.journal.log ≡ false → ActsRunning a (named event) w.nodes.items
    acts_running goes = running_at w.nodes.items (named event) n node acts stands goes

    -- and all of it: the node serves, or is halted
    pub first_serves : is_failed a node.journal.log ≡ false → RefusesFirst a w event None
    first_serves goes = record {
      refused = none_at_once goes;
      names = λ refusal is. absurd cc;
      unknown = λ refusal is. absurd cc;
      known = λ none. known;
      running = λ none. acts_running goes;
    }

    pub first_halted : is_failed a node.journal.log ≡ true → RefusesFirst a w event (Some Halted)
    first_halted fails = record {
      refused = halted_at_once fails;
      names = λ refusal is. subst (λ (r : Refusal). is_common r ≡ true) (same_some Halted refusal is) refl;
      unknown = λ refusal is. subst (λ (r : Refusal). RefusesUnknown w.geometry event (Refused r)) (same_some Halted refusal is) (refuses_known w.geometry event (Refused Halted) known refl);
      known = λ none. absurd cc;
      running = λ none. absurd cc;
    }

    pub first_by : (fails : Bool) → is_failed a node.journal.log ≡ fails → RefusesFirst a w event (then_some fails Halted)
    first_by true fails = first_halted fails
    first_by false goes = first_serves goes

  -- what it names is unknown
  pub first_unknown : (w : Running D a) (event : Event) → is_known w.geometry event ≡ false → RefusesFirst a w event (Some Unknown)
  first_unknown w event outside = record {
    refused = λ m s x h. sym (common-unknown m.geometry s event (ap is_up h.up) (ap (λ (g : Geometry). is_known g event) h.geometry_is ∙ outside));
    names = λ refusal is. subst (λ (r : Refusal). is_common r ≡ true) (same_some Unknown refusal is) refl;
    unknown = λ refusal is. subst (λ (r : Refusal). RefusesUnknown w.geometry event (Refused r)) (same_some Unknown refusal is) (refuses_outside w.geometry event outside);
    known = λ none. absurd cc;
    running = λ none. absurd cc;
  }

  -- so is what is of a node behind the last
  pub outside_last : (w : Running D a) (event : Event) (n : ℕ) → Some n ≡ option_map (λ its. its.node) (named event) → nat_lt n (length w.nodes.items) ≡ false → is_known w.geometry event ≡ false
  outside_last w event n acts outside = go (is_known w.geometry event) refl
    where
      go : (b : Bool) → is_known w.geometry event ≡ b → b ≡ false
      go false is = refl
      go true is = absurd (omega (arith, acts_within w.geometry (named event) n acts is, w.all_nodes, w.nodes.ok.0, ltb-false n (length w.nodes.items) outside))

  -- the node of what is not refused is one of the store's
  pub node_within : (w : Running D a) (event : Event) (o : Option Refusal) → RefusesFirst a w event o → o ≡ None → (n : ℕ) → Some n ≡ option_map (λ its. its.node) (named event) → n < w.geometry.nodes
  node_within w event o first none n acts = acts_within w.geometry (named event) n acts (first.known none)
