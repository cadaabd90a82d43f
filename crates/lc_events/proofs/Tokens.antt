-- A token that leaves a node, and one that arrives there.
use Rattle.std.proofs.Common.{◌≡◌, ℕ, suc, ◌+◌, ◌-◌, ◌≤◌, Bool, Option, Some, None, refl, sym, ap, subst, ◌∙◌, inl, inr, arith}
use Rattle.std.specs.Prelude.{MatchOption, List, max, map, slice_get, is_some, nat_lt, IsSome, if◌then◌else◌, Ok, Err}
use Rattle.std.specs.Option.{ForSome}
use Rattle.std.proofs.lemmas.Bool.{cases_eq, eq-eqb, le-ltb, lt-ltb, ne_eqb}
use Rattle.std.proofs.lemmas.Option.{same_Some as same_some}
use Rattle.lc_disk.specs.declared.area.Area.{Ghosts}
use Rattle.lc_record.specs.Content.{segment_of}
use Rattle.lc_record.proofs.ListLemmas.{slice_get-map_some as get-map}
use Rattle.lc_model.proofs.Moves.{update_at-own as own_at}
use Rattle.lc_model.specs.History.{reserved, value}
use Rattle.lc_model.specs.Machine.{Row, placed}
use Rattle.lc_model.specs.Refusals.{refuse_if, leave_refusal}
use Rattle.lc_model.specs.Sound.{Sound}
use Rattle.lc_model.specs.State.{is_held, Place, At, Travelling, Setting, State}
use Rattle.lc_model.proofs.Seats.{update-own, update-other}
use Rattle.lc_model.specs.declared.event.Event.TheVariants.{Leave, Arrive}
use Rattle.lc_model.specs.declared.refusal.Refusal.{Refusal}
use Rattle.lc_model.specs.declared.refusal.Refusal.TheVariants.{Behind}
use Rattle.lc_model.specs.declared.reply.Reply.{Reply}
use Rattle.lc_model.specs.declared.reply.Reply.TheVariants.{Ok as Accepted, Refused}
use Rattle.lc_token.specs.declared.fault.TokenFault.{TokenFault}
use Rattle.lc_token.specs.declared.token.Token.{Token}
use Rattle.lc_tx.specs.Holders.{writer_of}
use Rattle.lc_tx.specs.Images.{IsHere, holders_of}
use Rattle.lc_tx.specs.declared.holders.Holders.TheVariants.{Free}
use Rattle.lc_desk.specs.Arrives.{Arrives}
use Rattle.lc_journal.specs.Beside.{BesideLogs}
use Rattle.lc_journal.specs.Follows.{FitsJournal}
use Rattle.lc_desk.specs.Desk.{FitsDesk}
use Rattle.lc_desk.specs.Here.{beside, the_images, number_in, number_at, image_at}
use Rattle.lc_desk.specs.Leaves.{Leaves, MayLeave}
use Rattle.lc_events.specs.NodeState.{FitsNode, GoesOn}
use Rattle.lc_settled.specs.Numbers.{Numbers, token_number}
use Rattle.lc_settled.specs.Settled.{Settled, is_writing, leave_answer, arrive_answer, open_answer, refusal_or}
use Rattle.lc_desk.specs.Slots.{FitsSlots, FitsToken, besides_of}
use Rattle.lc_desk.specs.TokenRefused.{token_refusal}
use Rattle.lc_settled.specs.Turns.{seen}
use Rattle.lc_desk.specs.declared.desk.Desk.{Desk}
use Rattle.lc_desk.specs.declared.here.Here.{Here}
use Rattle.lc_journal.specs.declared.journal.Journal.{Journal}
use Rattle.lc_events.specs.declared.node_state.NodeState.{NodeState}
use Rattle.lc_desk.specs.declared.segment_copy.SegmentCopy.{SegmentCopy}
use Rattle.lc_token.specs.KnownClean.{Sees, known as known_of}
use Rattle.lc_model.specs.Moves.{update_at}
use Rattle.lc_desk.proofs.Gained.{other_node, other_segment}
use Rattle.lc_events.proofs.Going.{settled_by, stays_so}
use Rattle.lc_desk.proofs.Holding.{free-unheld}
use Rattle.lc_desk.proofs.Others.{beside_placed}
use Rattle.lc_events.proofs.Slotted.{aside_placed, aside_known, none_held, slots_placed, slots_known, slots_left, slots_arrived, token_left, token_placed, waits}

-- what is at the place of a segment
here_at : (here : Here) (segment : ℕ) (slot : SegmentCopy) → 1 ≤ segment → slice_get here.slots.items (segment - 1) ≡ Some slot
    → (the_images.number_of here segment ≡ number_in slot.token.token) × (the_images.image_of here segment ≡ slot.image)
here_at here segment slot first at =
    let is : segment ≡ suc (segment - 1) = omega (arith, first) in (
      ap (λ (n : ℕ). the_images.number_of here n) is ∙ ap number_at at,
      ap (λ (n : ℕ). the_images.image_of here n) is ∙ ap (image_at here.spare) at,
    )

logs_placed : (m : Setting) (n : ℕ) (s : State) (x y : Numbers) (segment : ℕ) (place : Place) → y.disks ≡ x.disks → y.trimmed ≡ x.trimmed → y.reset ≡ x.reset → y.round ≡ x.round → BesideLogs m n s x (placed s segment place) y
logs_placed m n s x y segment place disks trimmed reset round = record {
  records = λ other differ. rw disks refl;
  marks = λ other differ. refl;
  flush = λ other differ. refl;
  halted = λ other differ. refl;
  ack = λ other differ. refl;
  dropped = λ other differ. rw disks refl;
  trimmed = λ other differ. rw trimmed refl;
  reset = λ other differ. rw reset refl;
  round = λ other differ. rw round refl;
}

module _ {D : Type 0} (a : Ghosts D) where
  journal_placed : (m : Setting) (n : ℕ) (w : Journal D a) (s : State) (x y : Numbers) (segment : ℕ) (place : Place) → y.disks ≡ x.disks → y.trimmed ≡ x.trimmed → y.reset ≡ x.reset
      → FitsJournal a m n w s x → FitsJournal a m n w (placed s segment place) y
  journal_placed m n w s x y segment place disks trimmed reset h = record {
    words = rw disks h.words;
    marks = h.marks;
    all_closed = h.all_closed;
    whole = rw disks h.whole;
    stands = rw disks h.stands;
    halted = h.halted;
    dropped_is = rw disks h.dropped_is;
    trimmed_is = rw trimmed h.trimmed_is;
    acked_is = h.acked_is;
    taken_is = h.taken_is;
    reset_is = rw reset h.reset_is;
  }

  -- where nothing has changed
  pub same_goes : (m : Setting) (n : ℕ) (s : State) (x : Numbers) (old : NodeState D a) (new : Desk) → new.here.slots.items ≡ old.desk.here.slots.items → FitsDesk m n new.here new.seats.items s
      → FitsNode a m n old s x → FitsNode a m n (record { desk = new; journal = old.journal; known = old.known }) s x
  same_goes m n s x old new slots desk h = record {
    desk = desk;
    slots = subst (λ items. FitsSlots m n (map beside items) s x) (sym slots) h.slots;
    journal = h.journal;
    room = h.room;
    round = h.round;
    known = h.known;
  }

  module _ (m : Setting) (n : ℕ) (s : State) (x : Numbers) (sound : Sound m.geometry s) (old : NodeState D a) (h : FitsNode a m n old s x) (new : Desk) where
    -- a token leaves
    module _ (segment : ℕ) (first : 1 ≤ segment) (last : segment ≤ m.geometry.segments) (writing : Bool) (count stable : ℕ) (counts : count ≡ reserved n s.history) (stables : stable ≡ s.ack n) (told : writing ≡ is_writing m x segment) where
      leave_settled : leave_answer m s x n segment ≡ Accepted → ForSome (open_answer m s x (Leave n segment)) (λ answer. Accepted ≡ answer)
      leave_settled is answer open_is = behind (leave_refusal s n segment) open_is
        where
          behind : (o : Option Refusal) → (if is_some o then None else Some (leave_answer m s x n segment)) ≡ Some answer → Accepted ≡ answer
          behind None same = sym is ∙ same_some _ _ same
          behind (Some refusal) same = absurd cc

      pub token_leaves : (token : Token) → Leaves segment writing count stable old.desk (Ok token) new
          → ((slot : SegmentCopy) → slice_get old.desk.here.slots.items (segment - 1) ≡ Some slot → MayLeave writing count stable slot)
          → (goes : GoesOn a m n (Leave n segment) s x Accepted (record { desk = new; journal = old.journal; known = old.known })) × (goes.after.place segment ≡ Travelling)
          × FitsToken m segment token goes.after goes.next
      token_leaves token left may =
          let slot = left.0.0 in
          let moved = left.0.2 in
          let stands = left.0.1 in
          let free = (may slot moved.at).1 in
          let at_place = here_at old.desk.here segment slot first moved.at in
          let is : (segment - 1) + 1 ≡ segment = omega (arith, first) in
          let here : IsHere the_images old.desk.here segment = subst (λ (o : Option ℕ). IsSome o) (sym (at_place.0 ∙ ap number_in stands)) refl in
          let holders : holders_of the_images old.desk.here segment ≡ Free = ap (λ p. p.holders) at_place.1 ∙ free in
          let unheld = free-unheld m n old.desk.here old.desk.seats.items s h.desk sound old.desk.runs segment here holders in
          let shown : slot.image.bytes.items ≡ segment_of segment (value m.start s.earlier s.history) =
          ap (λ p. p.bytes.items) (sym at_place.1) ∙ h.desk.shown segment here (ap writer_of holders) in
          let step = left.1 m n s sound last h.desk counts stables in
          let gone = slots_left m n old.desk.here (segment - 1) slot moved.at s x h.slots token stands sound
          (none_held m s ((segment - 1) + 1) sound (ap (λ i. is_held i s) is ∙ unheld)) free (shown ∙ ap (λ i. segment_of i (value m.start s.earlier s.history)) (sym is)) in (
            record {
              after = placed s segment Travelling;
              next = x;
              row = step.0;
              settled = settled_by m s x (Leave n segment) Accepted (λ e. absurd cc) (leave_settled (step.2 x told));
              turns = refl;
              aside = record {
                desks = beside_placed m n segment Travelling s (inl (h.desk.places segment here)) (inr refl);
                logs = logs_placed m n s x x segment Travelling refl refl refl refl;
                slots = aside_placed m n s x segment Travelling;
                known = λ other any differ. refl;
              };
              fits = record {
                desk = step.1;
                slots = slots_placed m n (besides_of new.here) s x segment Travelling (subst (λ (w : Here). FitsSlots m n (besides_of w) s x) (sym moved.here) gone);
                journal = journal_placed m n old.journal s x x segment Travelling refl refl refl h.journal;
                room = h.room;
                round = h.round;
                known = h.known;
              };
              phase = refl;
              places = λ other differ. update-other s.place segment Travelling other differ;
            },
            update-own s.place segment Travelling,
            token_placed m segment token s x segment Travelling
                (subst (λ (i : ℕ). FitsToken m i token s x) is (token_left m n old.desk.here (segment - 1) slot moved.at s x h.slots token stands)),
          )

      pub token_stays : (fault : TokenFault) (refusal : Refusal) → token_refusal fault ≡ Some refusal → Leaves segment writing count stable old.desk (Err fault) new
          → GoesOn a m n (Leave n segment) s x (Refused refusal) (record { desk = new; journal = old.journal; known = old.known })
      token_stays fault refusal is left =
          let step = subst (λ (o : Option Refusal). MatchOption o ⊥ (λ refusal. (m : Setting) (node : ℕ) (s : State) → Sound m.geometry s → segment ≤ m.geometry.segments → FitsDesk m node old.desk.here old.desk.seats.items s
          → count ≡ reserved node s.history → stable ≡ s.ack node → Row m s (Leave node segment) (Refused refusal) s
          × ((x : Numbers) → writing ≡ is_writing m x segment → ForSome (open_answer m s x (Leave node segment)) (λ answer. Refused refusal ≡ answer)))) is left.1 in
          let now = step m n s sound last h.desk counts stables in
          stays_so a m n (Leave n segment) s x (Refused refusal) now.0 (settled_by m s x (Leave n segment) (Refused refusal) (λ e. absurd cc) (now.1 x told)) refl
          (same_goes m n s x old new left.0.slots (left.0.fits m n s h.desk) h)

    -- a token arrives
    module _ (token : Token) (first : 1 ≤ token.segment) (slot : SegmentCopy) (at : slice_get old.desk.here.slots.items (token.segment - 1) ≡ Some slot) (empty : slot.token.token ≡ None)
        (travels : s.place token.segment ≡ Travelling) (its : FitsToken m token.segment token s x) where
      is : (token.segment - 1) + 1 ≡ token.segment
      is = omega (arith, first)

      its_place : FitsToken m ((token.segment - 1) + 1) token s x
      its_place = subst (λ (i : ℕ). FitsToken m i token s x) (sym is) its

      applied_is : slot.parts.applied ≡ x.applied n token.segment
      applied_is = (h.slots.each (token.segment - 1) (beside slot) (get-map beside old.desk.here.slots.items (token.segment - 1) slot at)).applied ∙ ap (x.applied n) is

      answer_is : open_answer m s x (Arrive n token.segment)
          ≡ Some (refusal_or (refuse_if (nat_lt slot.parts.applied token.seq) (Behind slot.parts.applied token.seq) None) Accepted)
      answer_is = ap (λ (p : Place). arrive_answer p s x n token.segment) travels
          ∙ ap (λ (i : ℕ). Some (refusal_or (refuse_if (nat_lt i (token_number s x token.segment)) (Behind i (token_number s x token.segment)) None) Accepted)) (sym applied_is)
          ∙ ap (λ (i : ℕ). Some (refusal_or (refuse_if (nat_lt slot.parts.applied i) (Behind slot.parts.applied i) None) Accepted)) (sym its.number)

      arrive_settled : (reply : Reply) → refusal_or (refuse_if (nat_lt slot.parts.applied token.seq) (Behind slot.parts.applied token.seq) None) Accepted ≡ reply
          → Settled m s x (Arrive n token.segment) reply
      arrive_settled reply gives = settled_by m s x (Arrive n token.segment) reply (λ e. absurd cc) (λ answer open_is. sym gives ∙ same_some _ _ (sym answer_is ∙ open_is))

      -- and what it calls clean is seen
      known_seen : (known : List ℕ) → Sees old.known token known → (any : ℕ) → 1 ≤ any → any ≤ m.geometry.segments
          → known_of known any ≡ (seen x n token.segment).known n any
      known_seen known sees any from to =
          let clean = max (x.known n token.segment) (x.clean token.segment) in
          elim (cases_eq any token.segment) [
            | inl same ↦
                sees any ∙ ap (λ (b : Bool). if b then max (known_of old.known any) token.clean else known_of old.known any) (eq-eqb any token.segment same)
                ∙ ap (max (known_of old.known any)) its.clean ∙ ap (λ (i : ℕ). max i (x.clean token.segment)) (h.known any from to)
                ∙ ap (λ (i : ℕ). max (x.known n i) (x.clean token.segment)) same
                ∙ sym (ap (update_at x.known n token.segment clean n) same ∙ own_at x.known n token.segment clean)
            | inr differ ↦
                sees any ∙ ap (λ (b : Bool). if b then max (known_of old.known any) token.clean else known_of old.known any) (ne_eqb any token.segment differ)
                ∙ h.known any from to ∙ sym (other_segment x.known n token.segment clean any differ)
          ]

      pub token_arrives : (known : List ℕ) → Sees old.known token known → Arrives token slot old.desk (Ok tt) new
          → (goes : GoesOn a m n (Arrive n token.segment) s x Accepted (record { desk = new; journal = old.journal; known = known })) × (goes.after.place token.segment ≡ At n)
      token_arrives known sees came =
          let moved = came.1 in
          let ready = waits m n old.desk.here (token.segment - 1) slot at s x h.slots empty old.desk.seats.items token h.desk its_place (ap s.place is ∙ travels) sound in
          let step = came.2 m n s h.desk ready in
          let placed_there = slots_arrived m n old.desk.here (token.segment - 1) slot at s x h.slots token its_place came.0 in (
            record {
              after = placed s token.segment (At n);
              next = seen x n token.segment;
              row = step.0;
              settled = arrive_settled Accepted (ap (λ b. refusal_or (refuse_if b (Behind slot.parts.applied token.seq) None) Accepted) (le-ltb slot.parts.applied token.seq came.0));
              turns = refl;
              aside = record {
                desks = beside_placed m n token.segment (At n) s (inr travels) (inl refl);
                logs = logs_placed m n s x (seen x n token.segment) token.segment (At n) refl refl refl refl;
                slots = aside_known m n s (placed s token.segment (At n)) x n token.segment refl refl;
                known = λ other any differ. other_node x.known n token.segment (max (x.known n token.segment) (x.clean token.segment)) other any differ;
              };
              fits = record {
                desk = step.1;
                slots = slots_known m n (besides_of new.here) s (placed s token.segment (At n)) x n token.segment refl refl
                    (subst (λ (w : Here). FitsSlots m n (besides_of w) s x) (sym moved.here) placed_there);
                journal = journal_placed m n old.journal s x (seen x n token.segment) token.segment (At n) refl refl refl h.journal;
                room = h.room;
                round = h.round;
                known = known_seen known sees;
              };
              phase = refl;
              places = λ other differ. update-other s.place token.segment (At n) other differ;
            },
            update-own s.place token.segment (At n),
          )

      pub token_comes_back : (back : Token) (fault : TokenFault) (refusal : Refusal) → token_refusal fault ≡ Some refusal → Arrives token slot old.desk (Err (back, fault)) new
          → GoesOn a m n (Arrive n token.segment) s x (Refused refusal) (record { desk = new; journal = old.journal; known = old.known })
      token_comes_back back fault refusal named came =
          let same : refusal ≡ Behind slot.parts.applied token.seq = same_some _ _ (sym named ∙ ap (λ (p : Token × TokenFault). token_refusal p.1) came.1) in
          rw same (stays_so a m n (Arrive n token.segment) s x (Refused (Behind slot.parts.applied token.seq)) (came.3 m n s travels)
          (arrive_settled (Refused (Behind slot.parts.applied token.seq)) (ap (λ b. refusal_or (refuse_if b (Behind slot.parts.applied token.seq) None) Accepted) (lt-ltb slot.parts.applied token.seq came.0))) refl
          (same_goes m n s x old new came.2.slots (came.2.fits m n s h.desk) h))

-- where a token of the segment stands, none of it is on its way
pub stands_here : (m : Setting) (n : ℕ) (w : Desk) (s : State) (segment : ℕ) (slot : SegmentCopy) → FitsDesk m n w.here w.seats.items s → 1 ≤ segment
    → slice_get w.here.slots.items (segment - 1) ≡ Some slot → (slot.token.token ≡ None → ⊥) → s.place segment ≡ Travelling → ⊥
stands_here m n w s segment slot h first at some travels = by_token slot.token.token refl
  where
    by_token : (o : Option Token) → slot.token.token ≡ o → ⊥
    by_token None is = some is
    by_token (Some token) is =
        let here : IsHere the_images w.here segment = subst (λ (o : Option ℕ). IsSome o) (sym ((here_at w.here segment slot first at).0 ∙ ap number_in is)) refl in
        let both : At n ≡ Travelling = sym (h.places segment here) ∙ travels in
        cc
