-- A part that is put on an image from where its record stands.
use Rattle.std.proofs.Common.{◌≡◌, ℕ, ◌-◌, ◌<◌, ◌≤◌, ◌==◌, List, [], ◌∷◌, filter, length, map, Some, None, refl, sym, ap, subst, ◌∙◌, inl, inr, arith}
use Rattle.std.specs.Prelude.{slice_get, slice_set, slice_index_or, vec_len}
use Rattle.std.specs.Option.{ForSome}
use Rattle.std.proofs.lemmas.Bool.{cases_eq}
use Rattle.std.proofs.lemmas.List.{set-set}
use Rattle.std.proofs.lemmas.Option.{get_or_from_slice_get, same_Some as same_some}
use Rattle.lc_disk.specs.declared.area.Area.{Ghosts}
use Rattle.lc_record.specs.Part.{number_in, part_of}
use Rattle.lc_record.specs.declared.part.Part.{Part}
use Rattle.lc_record.specs.declared.record.Record.{Record}
use Rattle.lc_record.proofs.ListLemmas.{slice_get_some as some_at}
use Rattle.lc_token.specs.Backlog.{Backlog, PassesOn, Receives, counted}
use Rattle.lc_token.specs.declared.received.Received.{Received}
use Rattle.lc_tx.specs.Image.{laid_over}
use Rattle.lc_tx.specs.declared.image.Image.{Image as Picture}
use Rattle.lc_model.specs.Refusals.{common_refusal}
use Rattle.lc_model.specs.State.{Setting, State}
use Rattle.lc_model.specs.declared.event.Event.TheVariants.{Deliver}
use Rattle.lc_model.specs.declared.reply.Reply.{Reply}
use Rattle.lc_events.specs.Delivers.{Brings, IsReady}
use Rattle.lc_events.specs.Faults.{logs_of}
use Rattle.lc_journal.specs.Follows.{FitsJournal}
use Rattle.lc_desk.specs.Here.{beside}
use Rattle.lc_desk.specs.InPlace.{LendsImage, PutsNext, TakesAtOnce}
use Rattle.lc_events.specs.Nodes.{AreWhole}
use Rattle.lc_settled.specs.Numbers.{Numbers}
use Rattle.lc_desk.specs.Places.{get_set_other, get_set_same}
use Rattle.lc_journal.specs.Published.{LaysFound}
use Rattle.lc_desk.specs.Receives.{CatchesUp, FollowsReceive, parts_over, received_numbers, reply_of, without_due}
use Rattle.lc_events.specs.Running.{FitsRunning, Onward}
use Rattle.lc_desk.specs.Slots.{FitsSlots}
use Rattle.lc_events.specs.declared.token_moves.Delivery.TheVariants.{Next}
use Rattle.lc_desk.specs.declared.desk.Desk.{Desk}
use Rattle.lc_desk.specs.declared.here.Here.{Here}
use Rattle.lc_journal.specs.declared.journal.Journal.{Journal}
use Rattle.lc_events.specs.declared.node_state.NodeState.{NodeState}
use Rattle.lc_events.specs.declared.running.Running.{Running}
use Rattle.lc_desk.specs.declared.segment_copy.SegmentCopy.{SegmentCopy}
use Rattle.lc_events.proofs.Arrivals.{delivers, has_part, slot_within}
use Rattle.lc_desk.proofs.Away.{runs_away, short_at, stands_there, with_slot}
use Rattle.lc_desk.proofs.Caught.{Comes, comes_away}
use Rattle.lc_desk.proofs.Dropping.{desk_seen}
use Rattle.lc_events.proofs.Faults.{logs_stay}
use Rattle.lc_desk.proofs.Left.{same_items}
use Rattle.lc_events.proofs.Onward.{stays_onward, whole_set}

-- At the desk

module _ (old mid : Desk) (segment : ℕ) (was : Picture) (lends : LendsImage segment old was mid) where
  abbrev its : SegmentCopy
  its = lends.slot

  -- the slot is the same but for its image
  lent_at : slice_get mid.here.slots.items (segment - 1) ≡ Some (record its { image = lends.other })
  lent_at = ap (λ (h : Here). slice_get h.slots.items (segment - 1)) lends.has.here ∙ get_set_same old.here.slots.items (segment - 1) its (record its { image = lends.other }) lends.has.at

  pub still_takes : (number : ℕ) → TakesAtOnce number its → ForSome (slice_get mid.here.slots.items (segment - 1)) (λ slot. TakesAtOnce number slot)
  still_takes number takes slot got = subst (λ (z : SegmentCopy). TakesAtOnce number z) (same_some (record its { image = lends.other }) slot (sym lent_at ∙ got)) takes

  -- what was taken out has no more bytes than a record can name
  pub lent_short : (image : Picture) → length image.bytes.items ≡ length was.bytes.items → length image.bytes.items ≤ 262144
  lent_short image long =
      let few = short_at old.here (segment - 1) its lends.has.at old.short in
      let own = ap (λ (p : Picture). length p.bytes.items) lends.own in
      omega (arith, few, own, long)

  module _ (new : Desk) (number : ℕ) (image : Picture) (answer : Received) (puts : PutsNext segment number image mid answer new) where
    abbrev next : SegmentCopy
    next = record its { image = image; parts = counted its.parts number }

    same_slot : puts.slot ≡ record its { image = lends.other }
    same_slot = same_some puts.slot (record its { image = lends.other }) (sym puts.has.at ∙ lent_at)

    items_are : new.here.slots.items ≡ slice_set old.here.slots.items (segment - 1) next
    items_are =
        ap (λ (h : Here). h.slots.items) puts.has.here
        ∙ ap (λ (z : SegmentCopy). slice_set mid.here.slots.items (segment - 1) (record z { image = image; parts = counted z.parts number })) same_slot
        ∙ ap (λ (h : Here). slice_set h.slots.items (segment - 1) next) lends.has.here
        ∙ set-set old.here.slots.items (segment - 1) (record its { image = lends.other }) next

    spare_is : new.here.spare ≡ old.here.spare
    spare_is = ap (λ (h : Here). h.spare) puts.has.here ∙ ap (λ (h : Here). h.spare) lends.has.here

    seats_are : new.seats ≡ old.seats
    seats_are = puts.has.seats ∙ lends.has.seats

    -- it is as if the part had been received, and put on the image when it was handed out
    module _ (first : 1 ≤ segment) (away : its.token.token ≡ None) (whole : Record) (lock : number_in segment whole.locks ≡ Some number) (holders : image.holders ≡ was.holders)
        (laid : image.bytes.items ≡ laid_over (filter (λ range. range.segment == segment) whole.ranges) was.bytes.items) where
      abbrev part : Part
      part = record { segment = segment; seq = number; ranges = filter (λ range. range.segment == segment) whole.ranges }

      part_is : part_of segment whole ≡ Some part
      part_is = rw lock refl

      there : (its.parts.segment ≡ segment) × (its.parts.due ≡ [])
      there = stands_there old.here segment its first lends.has.at old.in_place

      passed : PassesOn number its.parts answer (counted its.parts number)
      passed = subst (λ (z : SegmentCopy). PassesOn number z.parts answer (counted z.parts number)) same_slot puts.passes

      abbrev between : Backlog
      between = (passed part refl).0

      handed : between ≡ record (counted its.parts number) { due = part ∷ its.parts.due }
      handed = (passed part refl).2

      caught : CatchesUp (record its { parts = between }) next
      caught = record {
        bytes = laid ∙ ap (λ (p : Picture). laid_over part.ranges p.bytes.items) lends.own
            ∙ sym (ap (λ (b : Backlog). parts_over b.due its.image.bytes.items) handed ∙ ap (λ (ps : List Part). parts_over (part ∷ ps) its.image.bytes.items) there.1);
        holders = holders ∙ ap (λ (p : Picture). p.holders) lends.own;
        token = refl;
        parts = sym (ap without_due handed ∙ ap (λ (ps : List Part). record (counted its.parts number) { due = ps }) (sym there.1));
      }

      received : ForSome (part_of its.parts.segment whole) (λ part. Receives part its.parts answer between)
      received other is =
          let same : part ≡ other = same_some part other (sym part_is ∙ ap (λ (n : ℕ). part_of n whole) (sym there.0) ∙ is) in
          subst (λ (p : Part). Receives p its.parts answer between) same (passed part refl).1

      comes : Comes segment whole old answer (with_slot old.here (segment - 1) next)
      comes = comes_away old segment first its lends.has.at whole next between answer away there.1 there.0 caught (has_part segment number whole lock) received

      pub follows_in_place : FollowsReceive segment whole old answer new
      follows_in_place m node s x place own sound desk slots found is closed =
          let step = comes m node s x place own sound desk slots found is closed in
          let here : Here = with_slot old.here (segment - 1) next in (
            step.0,
            rw seats_are (desk_seen m node here new.here old.seats.items s (runs_away old.here (segment - 1) its next lends.has.at refl away old.seats.items old.runs)
                (same_items here new.here items_are spare_is) step.1),
            subst (λ (items : List SegmentCopy). FitsSlots m node (map beside items) s (received_numbers x node segment own answer)) (sym items_are) step.2,
          )

-- Among the nodes

-- what is read where it was written
read_there : {A : Type 0} (xs : List A) (k : ℕ) (old new got : A) → slice_get xs k ≡ Some old → got ≡ slice_index_or (slice_set xs k new) k got → got ≡ new
read_there xs k old new got at is = is ∙ get_or_from_slice_get (slice_set xs k new) k new got (get_set_same xs k old new at)

module _ {D : Type 0} (a : Ghosts D) where
  -- a node's journal is read while another desk stands at one of the nodes
  record HasJournal (nodes : List (NodeState D a)) (k : ℕ) (got : NodeState D a) : Type 0 where
    from : NodeState D a
    at : slice_get nodes k ≡ Some from
    same : got.journal ≡ from.journal

  journal_there : (nodes : List (NodeState D a)) (n : ℕ) (old new : NodeState D a) → slice_get nodes n ≡ Some old → new.journal ≡ old.journal
      → (k : ℕ) (got : NodeState D a) → k < length nodes → got ≡ slice_index_or (slice_set nodes n new) k got → HasJournal nodes k got
  journal_there nodes n old new at same k got within is = elim (cases_eq k n) [
    | inl own ↦ record {
      from = old;
      at = ap (slice_get nodes) own ∙ at;
      same = ap (λ (w : NodeState D a). w.journal) (read_there nodes n old new got at (subst (λ (i : ℕ). got ≡ slice_index_or (slice_set nodes n new) i got) own is)) ∙ same;
    }
    | inr differ ↦
        let one = some_at nodes k within in
        record {
          from = one.0;
          at = one.1;
          same = ap (λ (w : NodeState D a). w.journal) (is ∙ get_or_from_slice_get (slice_set nodes n new) k one.0 got (get_set_other nodes n k new differ ∙ one.1));
        }
  ]

  -- the slot of the receiver takes the record at once
  pub ready_slot : (w : Running D a) (segment to own : ℕ) (node : NodeState D a) → IsReady a segment to own w → slice_get w.nodes.items to ≡ Some node
      → ForSome (slice_get node.desk.here.slots.items (segment - 1)) (λ slot. TakesAtOnce own slot)
  ready_slot w segment to own node ready at slot got =
      let same_node : ready.node ≡ node = same_some ready.node node (sym ready.at ∙ at) in
      let same : ready.slot ≡ slot = same_some ready.slot slot (sym ready.at_segment ∙ ap (λ (n : NodeState D a). slice_get n.desk.here.slots.items (segment - 1)) same_node ∙ got) in
      subst (λ (z : SegmentCopy). TakesAtOnce own z) same ready.takes

  -- its image is taken out, and the receiver is looked at again
  pub record Placing (w : Running D a) (sender number segment to : ℕ) : Type 0 where
    pub known : (to < w.geometry.nodes) × (sender < w.geometry.nodes) × (1 ≤ segment) × (segment ≤ w.geometry.segments)
    pub own : ℕ
    pub brings : Brings a sender number segment to w (Next own)
    pub node : NodeState D a
    pub at : slice_get w.nodes.items to ≡ Some node
    pub mid : Desk
    pub was : Picture
    pub lends : LendsImage segment node.desk was mid
    pub again : NodeState D a
    pub again_is : again ≡ slice_index_or (slice_set w.nodes.items to (record { desk = mid; journal = node.journal; known = node.known })) to again

  module _ (w : Running D a) (sender number segment to : ℕ) (p : Placing w sender number segment to) where
    abbrev bare : NodeState D a
    bare = record { desk = p.mid; journal = p.node.journal; known = p.node.known }

    abbrev bare_nodes : List (NodeState D a)
    bare_nodes = slice_set w.nodes.items to bare

    same_again : p.again ≡ bare
    same_again = read_there w.nodes.items to p.node bare p.again p.at p.again_is

    takes : TakesAtOnce p.own p.lends.slot
    takes = ready_slot w segment to p.own p.node p.brings.0 p.at p.lends.slot p.lends.has.at

    pub again_takes : ForSome (slice_get p.again.desk.here.slots.items (segment - 1)) (λ slot. TakesAtOnce p.own slot)
    again_takes = subst (λ (z : NodeState D a). ForSome (slice_get z.desk.here.slots.items (segment - 1)) (λ slot. TakesAtOnce p.own slot)) (sym same_again)
        (still_takes p.node.desk p.mid segment p.was p.lends p.own takes)

    pub again_slots : segment ≤ vec_len p.again.desk.here.slots
    again_slots =
        let within = slot_within a w to segment p.node p.at p.known.3 in
        let slots : vec_len p.again.desk.here.slots ≡ vec_len p.node.desk.here.slots = ap (λ (z : NodeState D a). vec_len z.desk.here.slots) same_again ∙ ap (λ (h : Here). vec_len h.slots) p.lends.has.here in
        omega (arith, within, slots)

    -- the image is put in its place
    module _ (image : Picture) (new : Desk) (answer : Received) (puts : PutsNext segment p.own image p.again.desk answer new) where
      abbrev last : NodeState D a
      last = record { desk = new; journal = p.node.journal; known = p.node.known }

      abbrev last_nodes : List (NodeState D a)
      last_nodes = slice_set bare_nodes to (record { desk = new; journal = p.again.journal; known = p.again.known })

      nodes_are : last_nodes ≡ slice_set w.nodes.items to last
      nodes_are = ap (λ (z : NodeState D a). slice_set bare_nodes to (record { desk = new; journal = z.journal; known = z.known })) same_again ∙ set-set w.nodes.items to bare last

      placed : PutsNext segment p.own image p.mid answer new
      placed = subst (λ (z : NodeState D a). PutsNext segment p.own image z.desk answer new) same_again puts

      pub last_whole : AreWhole a w.geometry last_nodes
      last_whole = subst (λ nodes. AreWhole a w.geometry nodes) (sym nodes_are)
          (whole_set a w.geometry w.nodes.items to p.node last p.at w.whole
          (ap (λ seats. vec_len seats) (placed.has.seats ∙ p.lends.has.seats))
          (ap (λ (h : Here). vec_len h.slots) placed.has.here ∙ ap (λ (h : Here). vec_len h.slots) p.lends.has.here))

      pub last_logs : logs_of a last_nodes ≡ logs_of a w.nodes.items
      last_logs = ap (logs_of a) nodes_are ∙ logs_stay a w.nodes.items to p.node last p.at refl

      pub last_onward : (reply : Reply) → reply ≡ reply_of answer → (from : NodeState D a) → from ≡ slice_index_or bare_nodes sender from
          → LaysFound a from.journal number segment p.was.bytes.items image.bytes.items → image.holders ≡ p.was.holders
          → (m : Setting) (s : State) (x : Numbers) → FitsRunning a m w s x → common_refusal m.geometry s (Deliver sender number segment to) ≡ None
          → Onward a m (Deliver sender number segment to) s x reply w.geometry last_nodes w.travelling.items
      last_onward reply says from from_is lays holders m s x h common =
          let found = p.brings.1 m s x h in
          let r = found.0 in
          let part = found.1 in
          let within = p.known.1 in
          let journal = journal_there w.nodes.items to p.node bare p.at refl sender from (omega (arith, within, w.all_nodes, w.nodes.ok.0)) from_is in
          let fits = subst (λ (j : Journal D a). FitsJournal a m sender j s x) (sym journal.same) (h.each sender journal.from journal.at).journal in
          let laid = lays m sender s x fits r (part.first, part.acked, part.kept, part.found) in
          let follows = follows_in_place p.node.desk p.mid segment p.was p.lends new p.own image answer placed p.known.2 takes.0 r (part.lock ∙ ap (λ i. Some i) found.2) holders laid in
          let goes = delivers a m to s x sender number segment r answer p.node new h.sound (h.each to p.node p.at) part follows in
          subst (λ (r : Reply). Onward a m (Deliver sender number segment to) s x r w.geometry last_nodes w.travelling.items) (sym says)
          (subst (λ nodes. Onward a m (Deliver sender number segment to) s x (reply_of answer) w.geometry nodes w.travelling.items) (sym nodes_are)
          (stays_onward a m to (Deliver sender number segment to) s x (reply_of answer) w.geometry w.nodes.items w.travelling.items h common p.node p.at last goes
          (λ k e. absurd (omega (arith, e)))))
