-- Of nodes that run: a transaction gets its place, and its record is closed there, from the nodes up to the store.
use Rattle.std.proofs.Common.{◌≡◌, ℕ, false, true, Option, None, Some, get_or, refl, sym, ap, subst, ◌∙◌, inl, inr}
use Rattle.std.proofs.lemmas.List.{get_or-set_same, length-set, set-set}
use Rattle.std.proofs.lemmas.Option.{slice_get_within, same_Some as same_some}
use Rattle.std.specs.Prelude.{Result, Ok, Err, slice_get, slice_set}
use Rattle.std.specs.declared.alloc.AllocError.{AllocError}
use Rattle.lc_disk.specs.declared.area.Area.{Ghosts}
use Rattle.lc_model.specs.Refusals.{is_known}
use Rattle.lc_model.specs.declared.event.Event.TheVariants.{Close, Reserve}
use Rattle.lc_model.specs.declared.refusal.Refusal.{Refusal}
use Rattle.lc_model.specs.declared.reply.Reply.{Reply}
use Rattle.lc_model.specs.declared.reply.Reply.TheVariants.{Reserved as HasPlace}
use Rattle.lc_events.specs.Answered.{StandsFor, done, place_taken}
use Rattle.lc_events.specs.EndCalls.{EndsNode, EndsRunning, PlacesNode, tried}
use Rattle.lc_events.specs.Layers.{StepsRunning, TriesRunning}
use Rattle.lc_journal.specs.Log.{is_failed, is_sealed}
use Rattle.lc_events.specs.MayReply.{may_reserve}
use Rattle.lc_events.specs.NodeState.{FollowsReserve, HasSameRoom}
use Rattle.lc_events.specs.NodeSteps.{StepsNode}
use Rattle.lc_events.specs.Refuses.{RefusesFirst}
use Rattle.lc_events.specs.declared.call_fault.CallFault.{CallFault}
use Rattle.lc_events.specs.declared.call_fault.CallFault.TheVariants.{NoMemory, Refused as IsRefused}
use Rattle.lc_events.specs.declared.node_state.NodeState.{NodeState}
use Rattle.lc_events.specs.declared.placement.Placement.{Placement}
use Rattle.lc_events.specs.declared.placement.Placement.TheVariants.{Empty as IsEmpty, Record as HasRecord}
use Rattle.lc_events.specs.declared.running.Running.{Running}
use Rattle.lc_events.proofs.AtOnce.{first_serves, stands}
use Rattle.lc_events.proofs.Layering.{node_tries}
use Rattle.lc_events.proofs.Names.{answers_may}
use Rattle.lc_events.proofs.NodeSteps.{placed_steps, up_there}
use Rattle.lc_events.proofs.Onward.{whole_set}

-- what stands for the reply
pub tried_of : (result : Result Placement CallFault) (reply : Reply) → place_taken result ≡ Some reply → tried result ≡ Ok reply
tried_of (Ok (HasRecord place words)) reply is = ap (λ (r : Reply). Ok r) (same_some _ reply is)
tried_of (Ok IsEmpty) reply is = ap (λ (r : Reply). Ok r) (same_some _ reply is)
tried_of (Err (IsRefused refusal)) reply is = ap (λ (r : Reply). Ok r) (same_some _ reply is)
tried_of (Err NoMemory) reply is = absurd cc

module _ {D : Type 0} (a : Ghosts D) where
  -- of a node that has answered so
  pub placed_node : (n thread : ℕ) (old : NodeState D a) (reply : Reply) (mid : NodeState D a) → FollowsReserve a n thread (is_sealed a old.journal.log) old reply mid → HasSameRoom a old mid → may_reserve reply ≡ true
      → mid.journal.log ≡ old.journal.log → (placed result : Result Placement CallFault) → StandsFor (Reserve n thread) (place_taken placed) reply → placed ≡ result → PlacesNode a n thread old (tried result) mid
  placed_node n thread old reply mid follows room names log placed result stands is =
      let same : tried result ≡ Ok reply = tried_of result reply (subst (λ (p : Result Placement CallFault). place_taken p ≡ Some reply) is (stands (answers_may (Reserve n thread) reply names))) in
      record {
        steps = subst (λ (r : Result Reply AllocError). StepsNode a n (Reserve n thread) old r mid) (sym same) (placed_steps a n thread old (Ok reply) mid follows tt tt room names log);
        log = log;
      }

  pub end_room : (n thread : ℕ) (old : NodeState D a) (result : Result Placement CallFault) (new : NodeState D a) → EndsNode a n thread old result new → HasSameRoom a old new
  end_room n thread old result new (inl there) = there.places.steps.room
  end_room n thread old result new (inr closed) = record {
    seats = closed.closes.room.seats ∙ closed.places.steps.room.seats;
    slots = closed.closes.room.slots ∙ closed.places.steps.room.slots;
  }

  -- the node that acts, where nothing is refused at once
  module _ (w : Running D a) (n thread : ℕ) (o : Option Refusal) (first : RefusesFirst a w (Close n thread) o) (none : o ≡ None) (node : NodeState D a) (read : node ≡ get_or w.nodes.items n node) where
    known : is_known w.geometry (Close n thread) ≡ true
    known = first.known none

    pub at : slice_get w.nodes.items n ≡ Some node
    at = stands a w (Close n thread) known n refl node read

    -- the nodes between the two
    abbrev between : (mid : NodeState D a) → HasSameRoom a node mid → Running D a
    between mid room = record {
      geometry = w.geometry;
      nodes = record {
        ptr = w.nodes.ptr;
        len = w.nodes.len;
        cap = w.nodes.cap;
        alloc = w.nodes.alloc;
        items = slice_set w.nodes.items n mid;
        ok = (w.nodes.ok.0 ∙ sym (length-set w.nodes.items n mid), w.nodes.ok.1);
        small = w.nodes.small;
      };
      travelling = w.travelling;
      few = w.few;
      all_nodes = w.all_nodes;
      all_places = w.all_places;
      whole = whole_set a w.geometry w.nodes.items n node mid at w.whole room.seats room.slots;
      named = w.named;
    }

    pub places : (result : Result Reply AllocError) (mid : NodeState D a) → StepsNode a n (Reserve n thread) node result mid → (later : Running D a) → later.geometry ≡ w.geometry
        → later.nodes.items ≡ slice_set w.nodes.items n mid → later.travelling.items ≡ w.travelling.items → TriesRunning a w (Reserve n thread) result later
    places result mid steps later geometry nodes travelling =
        node_tries a w (Reserve n thread) refl o (record { refused = first.refused; names = first.names; unknown = λ refusal is. (let u = first.unknown refusal is in record { outside = u.outside; inside = u.inside }); known = first.known; running = first.running }) none n refl node read result mid steps later geometry nodes travelling

    pub closes : (mid : NodeState D a) (room : HasSameRoom a node mid) → mid.journal.log ≡ node.journal.log → (reply : Reply) (new : NodeState D a) → StepsNode a n (Close n thread) mid (Ok reply) new
        → (later : Running D a) → later.geometry ≡ w.geometry → later.nodes.items ≡ slice_set w.nodes.items n new → later.travelling.items ≡ w.travelling.items
        → StepsRunning a (between mid room) (Close n thread) reply later
    closes mid room log reply new steps later geometry nodes travelling =
        let m = between mid room in
        let r : Result Reply AllocError = Ok reply in
        let here : mid ≡ get_or m.nodes.items n mid = sym (get_or-set_same w.nodes.items n mid mid (slice_get_within w.nodes.items n node at)) in
        let goes : is_failed a mid.journal.log ≡ false = ap (is_failed a) log ∙ up_there a w (Close n thread) refl known (first.running none) n refl node read in
        (node_tries a m (Close n thread) refl None (first_serves a m (Close n thread) known n refl mid here goes) refl n refl mid here r new steps later
        geometry (nodes ∙ sym (set-set w.nodes.items n mid new)) travelling).steps

    pub node_ends : (result : Result Placement CallFault) (new : NodeState D a) → EndsNode a n thread node result new → (later : Running D a) → later.geometry ≡ w.geometry
        → later.nodes.items ≡ slice_set w.nodes.items n new → later.travelling.items ≡ w.travelling.items → EndsRunning a n thread w result later
    node_ends result new (inl there) later geometry nodes travelling = inl (record { none = there.none; places = places (tried result) new there.places.steps later geometry nodes travelling })
    node_ends result new (inr it) later geometry nodes travelling =
        let room = it.places.steps.room in
        inr (record {
          place = it.place;
          words = it.words;
          mid = between it.mid room;
          closed = it.closed;
          places = places (Ok (HasPlace it.place it.words)) it.mid it.places.steps (between it.mid room) refl refl refl;
          closes = closes it.mid room it.places.log (done it.closed) new it.closes later geometry nodes travelling;
          is = it.is;
        })
