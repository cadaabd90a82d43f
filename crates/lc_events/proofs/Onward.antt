-- A node goes on, and so do all nodes.
use Rattle.std.proofs.Common.{◌≡◌, ℕ, ◌+◌, List, Option, Some, None, sym, ap, subst, ◌∙◌, inl, inr}
use Rattle.std.proofs.lemmas.Bool.{cases_eq}
use Rattle.std.specs.Prelude.{slice_get, slice_set, vec_len}
use Rattle.std.proofs.lemmas.Option.{same_Some as same_some}
use Rattle.lc_disk.specs.declared.area.Area.{Ghosts}
use Rattle.lc_record.specs.declared.geometry.Geometry.{Geometry}
use Rattle.lc_token.specs.declared.token.Token.{Token}
use Rattle.lc_model.specs.Refusals.{common_refusal}
use Rattle.lc_model.specs.State.{At, Travelling, Setting, State}
use Rattle.lc_model.specs.declared.event.Event.{Event}
use Rattle.lc_model.specs.declared.reply.Reply.{Reply}
use Rattle.lc_model.proofs.Keeps.{sound-row}
use Rattle.lc_model.proofs.Rows.{known, step-row}
use Rattle.lc_events.specs.Beside.{BesideNode}
use Rattle.lc_desk.specs.FollowsDesk.{StillFits}
use Rattle.lc_desk.specs.Here.{the_images}
use Rattle.lc_desk.specs.declared.desk.Desk.{Desk}
use Rattle.lc_events.specs.NodeState.{FitsNode, GoesOn, moved_by}
use Rattle.lc_settled.specs.Numbers.{Numbers}
use Rattle.lc_desk.specs.Places.{get_set_other, get_set_same}
use Rattle.lc_events.specs.Nodes.{IsWhole, AreWhole}
use Rattle.lc_events.specs.Running.{FitsAll, FitsTravelling, Onward}
use Rattle.lc_desk.specs.Slots.{besides_of}
use Rattle.lc_events.specs.declared.node_state.NodeState.{NodeState}
use Rattle.lc_journal.proofs.CoherentSteps.{coherent_keeps, disks_keep}
use Rattle.lc_events.proofs.Going.{slots_alike}
use Rattle.lc_journal.proofs.OtherLogs.{log_beside}
use Rattle.lc_desk.proofs.Others.{desk_beside}
use Rattle.lc_events.proofs.Slotted.{places_at, slots_beside}

module _ {D : Type 0} (a : Ghosts D) where
  -- what a write to one place leaves of a fact on each
  pub each_set : {P Q : ℕ → NodeState D a → Type 0} (nodes : List (NodeState D a)) (n : ℕ) (old new : NodeState D a) → slice_get nodes n ≡ Some old
      → ((k : ℕ) (node : NodeState D a) → slice_get nodes k ≡ Some node → P k node) → Q n new → ((k : ℕ) (node : NodeState D a) → (k ≡ n → ⊥) → P k node → Q k node)
      → (k : ℕ) (node : NodeState D a) → slice_get (slice_set nodes n new) k ≡ Some node → Q k node
  each_set {P} {Q} nodes n old new at all own others k node got = elim (cases_eq k n) [
    | inl is ↦
        subst (λ (i : ℕ). Q i node) (sym is)
        (subst (λ (w : NodeState D a). Q n w) (same_some new node (sym (get_set_same nodes n old new at) ∙ sym (ap (slice_get (slice_set nodes n new)) is) ∙ got)) own)
    | inr differ ↦ others k node differ (all k node (sym (get_set_other nodes n k new differ) ∙ got))
  ]

  -- another node fits as before
  pub node_beside : (m : Setting) (n k : ℕ) (s : State) (x : Numbers) (after : State) (next : Numbers) (node : NodeState D a) → (k ≡ n → ⊥) → BesideNode m n s x after next
      → FitsNode a m k node s x → FitsNode a m k node after next
  node_beside m n k s x after next node differ aside h = record {
    desk = desk_beside m n k s after differ aside.desks node.desk.here node.desk.seats.items h.desk node.desk.runs;
    slots = slots_beside m n k (besides_of node.desk.here) s x after next aside.slots differ (places_at m k node.desk.here node.desk.seats.items s h.desk) h.slots;
    journal = let w = node.journal in log_beside a m n k s x after next differ aside.logs w.log w.records w.dropped w.trimmed w.taken w.acked h.journal;
    room = h.room;
    round = h.round ∙ sym (aside.logs.round k differ);
    known = λ segment first last. h.known segment first last ∙ sym (aside.known k segment differ);
  }

  pub whole_set : (g : Geometry) (nodes : List (NodeState D a)) (n : ℕ) (old new : NodeState D a) → slice_get nodes n ≡ Some old → AreWhole a g nodes
      → vec_len new.desk.seats ≡ vec_len old.desk.seats → vec_len new.desk.here.slots ≡ vec_len old.desk.here.slots → AreWhole a g (slice_set nodes n new)
  whole_set g nodes n old new at all seats slots =
      let its = all n old at in
      each_set {P = λ k node. IsWhole a g node} {Q = λ k node. IsWhole a g node} nodes n old new at all (record { seats = seats ∙ its.seats; slots = slots ∙ its.slots }) (λ k node differ whole. whole)

  module _ (m : Setting) (n : ℕ) (event : Event) (s : State) (x : Numbers) (reply : Reply) (geometry : Geometry) (nodes : List (NodeState D a)) (travelling : List (Option Token))
      (h : FitsAll a m geometry nodes travelling s x) (common : common_refusal m.geometry s event ≡ None) (old : NodeState D a) (at : slice_get nodes n ≡ Some old) (new : NodeState D a)
      (goes : GoesOn a m n event s x reply new) where
    unfoldable pub onward : (late : List (Option Token)) → FitsTravelling m late goes.after goes.next → Onward a m event s x reply geometry (slice_set nodes n new) late
    onward late on_the_way = let step = step-row m s event reply goes.after common goes.row in record {
      after = goes.after;
      next = goes.next;
      row = goes.row;
      settled = goes.settled;
      turns = goes.turns;
      fits = record {
        geometry_is = h.geometry_is;
        up = goes.phase ∙ h.up;
        sound = sound-row m s event reply goes.after h.sound (known m.geometry s event common) (inl h.up) goes.row;
        stored = disks_keep m s x event reply goes.after goes.next h.up (goes.phase ∙ h.up) h.stored h.coherent step goes.settled goes.turns;
        coherent = coherent_keeps m s x event reply goes.after goes.next h.up (goes.phase ∙ h.up) h.stored h.coherent step goes.settled goes.turns;
        each = each_set {P = λ k node. FitsNode a m k node s x} {Q = λ k node. FitsNode a m k node goes.after goes.next} nodes n old new at h.each goes.fits
            (λ k node differ fits. node_beside m n k s x goes.after goes.next node differ goes.aside fits);
        on_the_way = on_the_way;
      };
    }

    travels_not : (k : ℕ) → s.place (k + 1) ≡ Travelling → s.place (k + 1) ≡ At n → ⊥
    travels_not k travels there = (let both : Travelling ≡ At n = sym travels ∙ there in cc)

    -- the tokens that are on their way stay there
    pub travel_on : ((k : ℕ) → k + 1 ≡ moved_by event reply → ⊥) → FitsTravelling m travelling goes.after goes.next
    travel_on others = record {
      count = h.on_the_way.count;
      some = λ k token got.
          let its = h.on_the_way.some k token got in
          (goes.places (k + 1) (others k) ∙ its.0, goes.aside.slots.tokens (k + 1) token (travels_not k its.0) its.1);
      none = λ k got travels. h.on_the_way.none k got (sym (goes.places (k + 1) (others k)) ∙ travels);
    }

    pub stays_onward : ((k : ℕ) → k + 1 ≡ moved_by event reply → ⊥) → Onward a m event s x reply geometry (slice_set nodes n new) travelling
    stays_onward others = onward travelling (travel_on others)

  -- want of memory
  pub still_onward : (m : Setting) (n : ℕ) (s : State) (x : Numbers) (geometry : Geometry) (nodes : List (NodeState D a)) (travelling : List (Option Token)) (old new : NodeState D a) → slice_get nodes n ≡ Some old
      → (FitsNode a m n old s x → FitsNode a m n new s x) → FitsAll a m geometry nodes travelling s x → FitsAll a m geometry (slice_set nodes n new) travelling s x
  still_onward m n s x geometry nodes travelling old new at still h = record {
    geometry_is = h.geometry_is;
    up = h.up;
    sound = h.sound;
    stored = h.stored;
    coherent = h.coherent;
    each = each_set {P = λ k node. FitsNode a m k node s x} {Q = λ k node. FitsNode a m k node s x} nodes n old new at h.each (still (h.each n old at)) (λ k node differ fits. fits);
    on_the_way = h.on_the_way;
  }

  pub desk_still : (m : Setting) (n : ℕ) (s : State) (x : Numbers) (old : NodeState D a) (new : Desk) → StillFits old.desk new → the_images.IsSameBeside old.desk.here new.here
      → FitsNode a m n old s x → FitsNode a m n (record { desk = new; journal = old.journal; known = old.known }) s x
  desk_still m n s x old new still beside h = record {
    desk = still m n s h.desk;
    slots = slots_alike m n old.desk.here new.here s x beside h.slots;
    journal = h.journal;
    room = h.room;
    round = h.round;
    known = h.known;
  }
