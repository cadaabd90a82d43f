-- A record that a node has published comes to a node, which goes on.
use Rattle.std.proofs.Common.{◌≡◌, ℕ, zero, suc, ◌+◌, ◌-◌, ◌<◌, ◌≤◌, Bool, true, false, ◌||◌, ◌&&◌, ◌==◌, nat_le, List, [], ◌∷◌, drop, Option, Some, None, is_some, ltb-true, refl, sym, ap, subst, ◌∙◌, arith}
use Rattle.std.specs.Prelude.{slice_get, slice_index_or, vec_len, IsSome, if◌then◌else◌}
use Rattle.std.specs.List.{list_all}
use Rattle.std.proofs.lemmas.Option.{slice_get_read, same_Some as same_some}
use Rattle.std.proofs.lemmas.Bool.{le-leb, leb-true, and_parts as and-both}
use Rattle.lc_disk.specs.declared.area.Area.{Ghosts}
use Rattle.lc_record.specs.Part.{number_in, part_of}
use Rattle.lc_record.specs.Transaction.{is_member}
use Rattle.lc_record.specs.declared.geometry.Geometry.{Geometry}
use Rattle.lc_record.specs.declared.part.Part.{Part}
use Rattle.lc_record.specs.declared.record.Lock.{Lock}
use Rattle.lc_record.specs.declared.record.Record.{Record}
use Rattle.lc_record.proofs.ListLemmas.{slice_get-map_some as get-map}
use Rattle.lc_token.specs.Backlog.{IsNext, is_known as knows}
use Rattle.lc_token.specs.declared.received.Received.{Received}
use Rattle.lc_token.specs.declared.received.Received.TheVariants.{Applied, HeldBack, Ignored}
use Rattle.lc_token.specs.declared.token.Token.{Token}
use Rattle.lc_model.specs.Machine.{may_deliver}
use Rattle.lc_model.specs.Refusals.{is_known, is_node, is_segment}
use Rattle.lc_model.specs.Sound.{Sound}
use Rattle.lc_model.specs.State.{Setting, State}
use Rattle.lc_model.specs.Stored.{records_of}
use Rattle.lc_model.specs.declared.event.Event.TheVariants.{Deliver}
use Rattle.lc_model.specs.declared.refusal.Refusal.TheVariants.{Unknown}
use Rattle.lc_model.specs.declared.reply.Reply.TheVariants.{Ignored as IsIgnored, Refused}
use Rattle.lc_events.specs.Delivers.{Brings, CopiesPart, HasNewPart}
use Rattle.lc_desk.specs.Here.{beside}
use Rattle.lc_events.specs.NodeState.{FitsNode, GoesOn}
use Rattle.lc_settled.specs.Numbers.{Numbers, token_number}
use Rattle.lc_journal.specs.Published.{Finds, IsFound}
use Rattle.lc_desk.specs.Receives.{FollowsReceive, received_numbers, reply_of}
use Rattle.lc_events.specs.Running.{FitsRunning}
use Rattle.lc_settled.specs.Settled.{deliver_answer, number_of}
use Rattle.lc_desk.specs.Slots.{FitsSlot}
use Rattle.lc_events.specs.declared.token_moves.Delivery.TheVariants.{Unknown as NotThere, Known, Next}
use Rattle.lc_desk.specs.declared.desk.Desk.{Desk}
use Rattle.lc_events.specs.declared.node_state.NodeState.{NodeState}
use Rattle.lc_journal.specs.declared.publishing.Published.TheVariants.{Unknown as IsNot, Trimmed, Record as Published}
use Rattle.lc_events.specs.declared.running.Running.{Running}
use Rattle.lc_desk.specs.declared.segment_copy.SegmentCopy.{SegmentCopy}
use Rattle.lc_desk.proofs.Away.{stands_there}
use Rattle.lc_desk.proofs.Caught.{ignored_is}
use Rattle.lc_events.proofs.Delivered.{acked_counted}
use Rattle.lc_desk.proofs.Dropping.{still}
use Rattle.lc_events.proofs.Gained.{aside_received, deliver_settled, deliver_trimmed, deliver_turns, deliver_unknown, log_received, logs_received}
use Rattle.lc_events.proofs.Going.{settled_by}
use Rattle.lc_desk.proofs.Kept.{member_is, numbers}
use Rattle.lc_desk.proofs.Others.{beside_open}

-- what a delivery names lies in the geometry
pub delivery_known : (g : Geometry) (sender number segment to : ℕ) → is_known g (Deliver sender number segment to) ≡ true
    → (to < g.nodes) × (sender < g.nodes) × (1 ≤ segment) × (segment ≤ g.segments)
delivery_known g sender number segment to h =
    let a = and-both (is_node g to && list_all (is_node g) (sender ∷ []) && true && list_all (is_segment g) (segment ∷ [])) true h in
    let b = and-both (is_node g to && list_all (is_node g) (sender ∷ []) && true) (list_all (is_segment g) (segment ∷ [])) a.0 in
    let c = and-both (is_node g to && list_all (is_node g) (sender ∷ [])) true b.0 in
    let d = and-both (is_node g to) (list_all (is_node g) (sender ∷ [])) c.0 in
    let e = and-both (is_segment g segment) true b.1 in
    let f = and-both (nat_le 1 segment) (nat_le segment g.segments) e.0 in
    (ltb-true to g.nodes d.0, ltb-true sender g.nodes (and-both (is_node g sender) true d.1).0, leb-true 1 segment f.0, leb-true segment g.segments f.1)

-- a slot knows what is applied or waits there, and where the token stands every closed record
pub slot_knows : (m : Setting) (n k number : ℕ) (slot : SegmentCopy) (s : State) (x : Numbers) → FitsSlot m n (k + 1) (beside slot) s x → number ≤ token_number s x (k + 1)
    → (is_some slot.token.token || knows slot.parts number) ≡ (nat_le number (x.applied n (k + 1)) || is_member number (x.waiting n (k + 1)))
slot_knows m n k number slot s x fits closed = by_token slot.token.token refl
  where
    by_token : (o : Option Token) → slot.token.token ≡ o → (is_some o || knows slot.parts number) ≡ (nat_le number (x.applied n (k + 1)) || is_member number (x.waiting n (k + 1)))
    by_token None is =
        ap (λ b. nat_le number slot.parts.applied || b) (member_is number slot.parts.kept)
        ∙ ap (λ ns. nat_le number slot.parts.applied || is_member number ns) fits.waiting
        ∙ ap (λ a. nat_le number a || is_member number (x.waiting n (k + 1))) fits.applied
    by_token (Some token) is =
        let all = (fits.token token is).1 in
        sym (ap (λ b. b || is_member number (x.waiting n (k + 1))) (le-leb number (x.applied n (k + 1)) (omega (arith, all, closed))))

-- a token that is not here
away_is : (o : Option Token) (b : Bool) → (is_some o || b) ≡ false → o ≡ None
away_is None b is = refl
away_is (Some token) b is = absurd cc

-- parts without a number
none_kept : (parts : List Part) → numbers parts ≡ [] → parts ≡ []
none_kept [] is = refl
none_kept (part ∷ parts) is = absurd cc

-- a record with a lock on the segment has a part of it
pub has_part : (segment own : ℕ) (r : Record) → number_in segment r.locks ≡ Some own → IsSome (part_of segment r)
has_part segment own r is = (rw is refl)

-- the number of the lock on a segment, from this place on
pub number_at : (segment place : ℕ) (lock : Lock) (locks : List Lock) → slice_get locks place ≡ Some lock
    → number_in segment (drop place locks) ≡ (if lock.segment == segment then Some lock.seq else number_in segment (drop (place + 1) locks))
number_at segment place lock [] at = absurd cc
number_at segment zero lock (first ∷ locks) at = ap (λ (l : Lock). if l.segment == segment then Some l.seq else number_in segment locks) (same_some first lock at)
number_at segment (suc place) lock (first ∷ locks) at =
    let next : suc place + 1 ≡ suc (place + 1) = omega arith in
    number_at segment place lock locks at
    ∙ ap (λ i. if lock.segment == segment then Some lock.seq else number_in segment (drop i (first ∷ locks))) (sym next)

-- of a record that the sender has acknowledged and still keeps, whose number of the segment a slot at the receiver knows or not
module _ (m : Setting) (s : State) (x : Numbers) (sound : Sound m.geometry s) (sender number segment to : ℕ) (first : 1 ≤ segment) (r : Record) (found : IsFound m sender s x number (Published r))
    (own : ℕ) (lock : number_in segment r.locks ≡ Some own) (slot : SegmentCopy) (fits : FitsSlot m to (segment - 1 + 1) (beside slot) s x) where
  number_is : number_of segment (slice_get (records_of m s x.disks sender) (number - 1)) ≡ Some own
  number_is = ap (number_of segment) found.3 ∙ lock

  known_is : (is_some slot.token.token || knows slot.parts own) ≡ (nat_le own (x.applied to segment) || is_member own (x.waiting to segment))
  known_is =
      let same : segment - 1 + 1 ≡ segment = omega (arith, first) in
      let some = found.0 in
      let acked = found.1 in
      let counted = acked_counted m s x sender (number - 1) segment own r sound found.3 (omega (arith, some, acked)) lock in
      slot_knows m to (segment - 1) own slot s x fits (subst (λ i. own ≤ token_number s x i) (sym same) counted.2)
      ∙ ap (λ i. nat_le own (x.applied to i) || is_member own (x.waiting to i)) same

  old_answer : (is_some slot.token.token || knows slot.parts own) ≡ true → deliver_answer m s x sender number segment to ≡ IsIgnored
  old_answer known = deliver_settled m s x sender number segment to (Some own) found.0 found.1 found.2 number_is ∙ ignored_is x to segment own (sym known_is ∙ known)

  new_part : (is_some slot.token.token || knows slot.parts own) ≡ false → HasNewPart m s x sender number segment to r
  new_part unknown = record { first = found.0; acked = found.1; kept = found.2; found = found.3; own = own; lock = lock; unknown = sym known_is ∙ unknown }

-- one without a lock on the segment
unlocked_answer : (m : Setting) (s : State) (x : Numbers) (sender number segment to : ℕ) (r : Record) → IsFound m sender s x number (Published r) → number_in segment r.locks ≡ None
    → deliver_answer m s x sender number segment to ≡ Refused Unknown
unlocked_answer m s x sender number segment to r found none = deliver_settled m s x sender number segment to None found.0 found.1 found.2 (ap (number_of segment) found.3 ∙ none)

-- no other number is touched
same_rounds : (x : Numbers) (n segment number : ℕ) (answer : Received) → (received_numbers x n segment number answer).round ≡ x.round
same_rounds x n segment number (Applied last) = refl
same_rounds x n segment number HeldBack = refl
same_rounds x n segment number Ignored = refl

same_known : (x : Numbers) (n segment number : ℕ) (answer : Received) → (received_numbers x n segment number answer).known ≡ x.known
same_known x n segment number (Applied last) = refl
same_known x n segment number HeldBack = refl
same_known x n segment number Ignored = refl

may_answer : (answer : Received) → may_deliver (reply_of answer) ≡ true
may_answer (Applied last) = refl
may_answer HeldBack = refl
may_answer Ignored = refl

module _ {D : Type 0} (a : Ghosts D) where
  -- a node that receives a new part
  pub delivers : (m : Setting) (n : ℕ) (s : State) (x : Numbers) (sender number segment : ℕ) (r : Record) (answer : Received) (old : NodeState D a) (new : Desk) → Sound m.geometry s
      → FitsNode a m n old s x → HasNewPart m s x sender number segment n r → FollowsReceive segment r old.desk answer new
      → GoesOn a m n (Deliver sender number segment n) s x (reply_of answer) (record { desk = new; journal = old.journal; known = old.known })
  delivers m n s x sender number segment r answer old new sound h part follows =
      let first = part.first in
      let acked = part.acked in
      let counted = acked_counted m s x sender (number - 1) segment part.own r sound part.found (omega (arith, first, acked)) part.lock in
      let step = follows m n s x counted.0 part.own sound h.desk h.slots counted.1 part.lock counted.2 in
      let number_is : number_of segment (slice_get (records_of m s x.disks sender) (number - 1)) ≡ Some part.own = ap (number_of segment) part.found ∙ part.lock in
      let event = Deliver sender number segment n in
      record {
        after = s;
        next = received_numbers x n segment part.own answer;
        row = (may_answer answer, refl);
        settled = settled_by m s x event (reply_of answer) (λ e. absurd cc) (λ other is.
            step.0 ∙ sym (deliver_settled m s x sender number segment n (Some part.own) first acked part.kept number_is)
            ∙ same_some (deliver_answer m s x sender number segment n) other is);
        turns = sym (deliver_turns m s x sender number segment n part.own answer number_is);
        aside = record {
          desks = beside_open m n s s (still n s);
          logs = logs_received m n s x segment part.own answer;
          slots = aside_received m n s x segment part.own answer;
          known = λ other any differ. ap (λ f. f other any) (same_known x n segment part.own answer);
        };
        fits = record {
          desk = step.1;
          slots = step.2;
          journal = let w = old.journal in log_received a m n n s x segment part.own answer w.log w.records w.dropped w.trimmed w.taken w.acked h.journal;
          room = h.room;
          round = h.round ∙ sym (ap (λ f. f n) (same_rounds x n segment part.own answer));
          known = λ any first last. h.known any first last ∙ sym (ap (λ f. f n any) (same_known x n segment part.own answer));
        };
        phase = refl;
        places = λ other differ. refl;
      }

  -- the node of a number, which has a slot for each segment
  pub node_at : (w : Running D a) (n : ℕ) (node : NodeState D a) → n < w.geometry.nodes → node ≡ slice_index_or w.nodes.items n node → slice_get w.nodes.items n ≡ Some node
  node_at w n node within is =
      let below : n < w.nodes.len = omega (arith, w.all_nodes, within) in
      slice_get_read w.nodes.items w.nodes.len n node w.nodes.ok.0 below is

  pub slot_within : (w : Running D a) (n segment : ℕ) (node : NodeState D a) → slice_get w.nodes.items n ≡ Some node → segment ≤ w.geometry.segments → segment ≤ vec_len node.desk.here.slots
  slot_within w n segment node at within = let all = (w.whole n node at).slots in omega (arith, all, within)

  -- what the journal of the sender gives under the number
  module _ (w : Running D a) (sender number segment to : ℕ) (from : NodeState D a) (at_sender : slice_get w.nodes.items sender ≡ Some from) where
    pub finds_unknown : Finds a from.journal number IsNot → Brings a sender number segment to w NotThere
    finds_unknown finds m s x h = deliver_unknown m s x sender number segment to (finds m sender s x (h.each sender from at_sender).journal)

    pub finds_trimmed : Finds a from.journal number Trimmed → Brings a sender number segment to w Known
    finds_trimmed finds m s x h = let its = finds m sender s x (h.each sender from at_sender).journal in deliver_trimmed m s x sender number segment to its.0 its.1 its.2

    module _ (r : Record) (finds : Finds a from.journal number (Published r)) where
      pub finds_unlocked : number_in segment r.locks ≡ None → Brings a sender number segment to w NotThere
      finds_unlocked none m s x h = unlocked_answer m s x sender number segment to r (finds m sender s x (h.each sender from at_sender).journal) none

      module _ (own : ℕ) (lock : number_in segment r.locks ≡ Some own) (first : 1 ≤ segment) (node : NodeState D a) (at : slice_get w.nodes.items to ≡ Some node) (slot : SegmentCopy)
          (at_segment : slice_get node.desk.here.slots.items (segment - 1) ≡ Some slot) where
        its_slot : (m : Setting) (s : State) (x : Numbers) → FitsRunning a m w s x → FitsSlot m to (segment - 1 + 1) (beside slot) s x
        its_slot m s x h = (h.each to node at).slots.each (segment - 1) (beside slot) (get-map beside node.desk.here.slots.items (segment - 1) slot at_segment)

        pub finds_known : (is_some slot.token.token || knows slot.parts own) ≡ true → Brings a sender number segment to w Known
        finds_known known m s x h =
            old_answer m s x h.sound sender number segment to first r (finds m sender s x (h.each sender from at_sender).journal) own lock slot (its_slot m s x h) known

        pub finds_new : (is_some slot.token.token || knows slot.parts own) ≡ false → (m : Setting) (s : State) (x : Numbers) → FitsRunning a m w s x → HasNewPart m s x sender number segment to r
        finds_new unknown m s x h =
            new_part m s x h.sound sender number segment to first r (finds m sender s x (h.each sender from at_sender).journal) own lock slot (its_slot m s x h) unknown

        -- the same number, whichever record has it
        own_number : (m : Setting) (s : State) (x : Numbers) (part : HasNewPart m s x sender number segment to r) → part.own ≡ own
        own_number m s x part = same_some part.own own (sym part.lock ∙ lock)

        pub finds_next : (is_some slot.token.token || knows slot.parts own) ≡ false → IsNext slot.parts own → Brings a sender number segment to w (Next own)
        finds_next unknown next = (
          record { node = node; slot = slot; at = at; at_segment = at_segment; takes = (away_is slot.token.token (knows slot.parts own) unknown, next) },
          λ m s x h. (let part = finds_new unknown m s x h in (r, part, own_number m s x part)),
        )

        -- where its part is not put on the image at once, it is copied
        pub finds_kept : (is_some slot.token.token || knows slot.parts own) ≡ false → (IsNext slot.parts own → ⊥) → (m : Setting) (s : State) (x : Numbers) → FitsRunning a m w s x
            → CopiesPart m s x sender number segment to r
        finds_kept unknown behind m s x h =
            let part = finds_new unknown m s x h in
            let fits = its_slot m s x h in
            let same : segment - 1 + 1 ≡ segment = omega (arith, first) in
            let applied : slot.parts.applied ≡ x.applied to segment = fits.applied ∙ ap (x.applied to) same in
            let waiting : numbers slot.parts.kept ≡ x.waiting to segment = fits.waiting ∙ ap (x.waiting to) same in
            record {
              part = part;
              waits = λ next none. behind (record {
                next = sym (own_number m s x part) ∙ next ∙ ap (λ i. i + 1) (sym applied);
                none_due = (stands_there node.desk.here segment slot first at_segment node.desk.in_place).1;
                none_kept = none_kept slot.parts.kept (waiting ∙ none);
              });
            }
