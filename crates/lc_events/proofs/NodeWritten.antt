-- The end of a page write: what the node and the others see of it.
use Rattle.std.proofs.Common.{◌≡◌, ◌≢◌, ℕ, ◌+◌, ◌-◌, ◌<◌, ◌≤◌, List, filter, take, Option, Some, refl, sym, ap, subst, ◌∙◌, inl, inr, arith}
use Rattle.std.specs.Prelude.{max, slice_get, slice_set, if◌then◌else◌}
use Rattle.std.specs.Vec.{with_item}
use Rattle.std.proofs.lemmas.Bool.{cases_eq, eq-eqb, ne_eqb}
use Rattle.std.proofs.lemmas.List.{length-set, map-set}
use Rattle.std.proofs.lemmas.Option.{same_Some as same_some}
use Rattle.lc_disk.specs.declared.area.Area.{Ghosts}
use Rattle.lc_page.specs.PageVector.{settled_text}
use Rattle.lc_record.specs.Content.{segment_of}
use Rattle.lc_record.specs.Recorded.{records_from}
use Rattle.lc_record.specs.Transaction.{effects}
use Rattle.lc_record.specs.declared.part.Part.{Part}
use Rattle.lc_record.proofs.ListLemmas.{slice_get-map_some as get-map}
use Rattle.lc_model.proofs.Moves.{update_at-own as own_at}
use Rattle.lc_token.specs.Token.{IsWritten}
use Rattle.lc_token.specs.declared.token.Token.{Token}
use Rattle.lc_token.specs.Clean.{closed_of}
use Rattle.lc_token.specs.KnownClean.{Sees, known as known_of}
use Rattle.lc_model.specs.History.{transactions}
use Rattle.lc_model.specs.Merge.{Page}
use Rattle.lc_model.specs.Merging.{counted_all, sets}
use Rattle.lc_model.specs.Moves.{update_at}
use Rattle.lc_model.specs.State.{At, Setting, State}
use Rattle.lc_model.specs.Stored.{Disks, base}
use Rattle.lc_model.specs.declared.event.Event.TheVariants.{PageStep}
use Rattle.lc_model.specs.declared.reply.Reply.TheVariants.{Written}
use Rattle.lc_model.proofs.Seats.{update-other}
use Rattle.lc_events.specs.Beside.{BesideSlots}
use Rattle.lc_settled.specs.Follows.{SameButLog}
use Rattle.lc_desk.specs.Here.{beside, number_in}
use Rattle.lc_desk.specs.Leaves.{HasToken, with_token}
use Rattle.lc_events.specs.NodeState.{FitsNode, GoesOn}
use Rattle.lc_settled.specs.Numbers.{Numbers, token_number}
use Rattle.lc_desk.specs.Places.{get_set_other, get_set_same}
use Rattle.lc_settled.specs.Settled.{Settled, begun_number}
use Rattle.lc_desk.specs.Slots.{Awaits, Besides, FitsSlot, FitsSlots, FitsToken, besides_of, segment_to}
use Rattle.lc_settled.specs.Turns.{cleaned, page_settled, settled_with, written}
use Rattle.lc_desk.specs.declared.desk.Desk.{Desk}
use Rattle.lc_desk.specs.declared.here.Here.{Here}
use Rattle.lc_events.specs.declared.node_state.NodeState.{NodeState}
use Rattle.lc_desk.specs.declared.segment_copy.SegmentCopy.{SegmentCopy}
use Rattle.lc_events.proofs.Calling.{SameForLogs, journal_paged, logs_paged}
use Rattle.lc_events.proofs.Emptying.{stays_itself}
use Rattle.lc_desk.proofs.Gained.{other_node, other_segment}
use Rattle.lc_events.proofs.Noted.{desk_noted}
use Rattle.lc_desk.proofs.Others.{beside_logged}
use Rattle.lc_desk.proofs.Slotted.{slot_kept}
use Rattle.lc_events.proofs.TokenWritten.{token_written_fits}

module _ (m : Setting) (s : State) (x : Numbers) (n segment page : ℕ) (text : Page) (begun : x.disks.begun segment page ≡ Some text) where
  abbrev z : Numbers
  z = cleaned m.geometry s (page_settled x segment page) segment

  abbrev y : Numbers
  y = written m.geometry s x n segment page

  abbrev put : Option Page → Disks
  put o = settled_with x.disks segment page o

  -- What stays of the numbers

  numbers_is : y.disks.numbers ≡ x.disks.numbers
  numbers_is = ap (λ (o : Option Page). (put o).numbers) begun

  pub logs_is : SameForLogs x y
  logs_is = record { numbers = numbers_is; dropped = ap (λ (o : Option Page). (put o).dropped) begun; trimmed = refl; reset = refl; round = refl }

  number_is : (other : ℕ) → token_number s y other ≡ token_number s x other
  number_is other = ap (λ (f : ℕ → ℕ). counted_all f (closed_of s.history) other) numbers_is

  awaits : (other : ℕ) (part : Part) → Awaits m s x other part → Awaits m s y other part
  awaits other part h = record {
    place = h.place;
    whole = h.whole;
    found = ap (λ (f : ℕ → ℕ). slice_get (records_from f (base m s) (transactions s.history)) h.place) numbers_is ∙ h.found;
    part_is = h.part_is;
    closed = subst (λ (k : ℕ). part.seq ≤ k) (sym (number_is other)) h.closed;
  }

  shown : (other number : ℕ) → segment_to m s y.disks other number ≡ segment_to m s x.disks other number
  shown other number = ap (λ (f : ℕ → ℕ). segment_of other (effects (take (number - f other) (filter (sets other) (transactions s.history))) (base m s))) numbers_is

  -- the token of another segment
  other_token : (other : ℕ) (token : Token) → other ≢ segment → FitsToken m other token s x → FitsToken m other token s y
  other_token other token differ h = record {
    segment_is = h.segment_is;
    number = h.number ∙ sym (number_is other);
    small = h.small;
    clean = h.clean ∙ sym (update-other x.clean segment _ other differ);
    pages = h.pages;
    touched = h.touched;
    stable_is = λ k within. h.stable_is k within
        ∙ sym (ap (λ (o : Option Page). ((put o).page other k).sequence) begun ∙ ap (λ (p : Page). p.sequence) (other_node x.disks.page segment page text other k differ));
    text_is = λ k within. h.text_is k within ∙ sym (other_node x.texts segment page (settled_text (x.texts segment page) (begun_number (x.disks.begun segment page))) other k differ);
    uncounted = h.uncounted;
  }

  other_slot : (node other : ℕ) (b : Besides) → other ≢ segment → FitsSlot m node other b s x → FitsSlot m node other b s y
  other_slot node other b differ = slot_kept m node other b s x s y refl refl (let same = number_is other in omega (arith, same)) (awaits other) (λ number within. shown other number)
      (λ token is. (number_is other, other_token other token differ))

  -- the other nodes do not show it
  pub aside : s.place segment ≡ At n → BesideSlots m n s x s y
  aside here = record {
    applied = λ other any differ. refl;
    waiting = λ other any differ. refl;
    rises = λ other. (let same = number_is other in omega (arith, same));
    parts = awaits;
    shown = λ other number within. shown other number;
    number = λ other away. number_is other;
    tokens = λ other token away. other_token other token (λ same. away (ap s.place same ∙ here));
  }

  -- The node where it was written

  module _ (within : page < m.geometry.pages) (first : 1 ≤ segment) (slot : SegmentCopy) (token after : Token) (is : IsWritten token page text.sequence after) where
    pub k_is : (segment - 1) + 1 ≡ segment
    k_is = omega (arith, first)

    pub own_token : FitsToken m segment token s x → FitsToken m segment after s y
    own_token h = token_written_fits m s x n segment page token after text begun within h is

    own_slot : slot.token.token ≡ Some token → FitsSlot m n segment (beside slot) s x → FitsSlot m n segment (beside (with_token slot (Some after))) s y
    own_slot stands h = record {
      applied = h.applied;
      within = (let same = number_is segment in let low = h.within in omega (arith, low, same));
      waiting = h.waiting;
      ascends = h.ascends;
      parts = λ k d k_in. awaits segment _ (h.parts k d k_in);
      token = λ other got. (
        subst (λ (t : Token). FitsToken m segment t s y) (same_some after other got) (own_token (h.token token stands).0),
        (h.token token stands).1 ∙ sym (number_is segment),
      );
      image = λ image got. absurd cc;
    }

    pub slots_written : (here : Here) → slice_get here.slots.items (segment - 1) ≡ Some slot → slot.token.token ≡ Some token → FitsSlots m n (besides_of here) s x
        → FitsSlots m n (besides_of (record here { slots = with_item here.slots (segment - 1) (with_token slot (Some after)) })) s y
    slots_written here at stands h = subst (λ (bs : List Besides). FitsSlots m n bs s y) (sym (map-set beside here.slots.items (segment - 1) (with_token slot (Some after)))) (record {
      count = length-set (besides_of here) (segment - 1) new ∙ h.count;
      each = λ j c got. elim (cases_eq j (segment - 1)) [
        | inl same ↦
            let there : slice_get (slice_set (besides_of here) (segment - 1) new) (segment - 1) ≡ Some c = subst (λ (i : ℕ). slice_get (slice_set (besides_of here) (segment - 1) new) i ≡ Some c) same got in
            subst (λ (i : ℕ). FitsSlot m n (i + 1) c s y) (sym same)
            (subst (λ (i : ℕ). FitsSlot m n i c s y) (sym k_is)
            (subst (λ (d : Besides). FitsSlot m n segment d s y) (same_some new c (sym (get_set_same (besides_of here) (segment - 1) (beside slot) new was) ∙ there)) own))
        | inr differ ↦
            other_slot n (j + 1) c (λ same. differ (omega (arith, same, first))) (h.each j c (sym (get_set_other (besides_of here) (segment - 1) j new differ) ∙ got))
      ];
    })
      where
        new : Besides
        new = beside (with_token slot (Some after))

        was : slice_get (besides_of here) (segment - 1) ≡ Some (beside slot)
        was = get-map beside here.slots.items (segment - 1) slot at

        own : FitsSlot m n segment new s y
        own = own_slot stands (subst (λ (i : ℕ). FitsSlot m n i (beside slot) s x) k_is (h.each (segment - 1) (beside slot) was))

    -- and what the token calls clean is seen
    pub known_seen : (old known : List ℕ) → FitsToken m segment after s y → Sees old after known → (any : ℕ) → known_of old any ≡ x.known n any → known_of known any ≡ y.known n any
    known_seen old known its sees any was =
        let clean = max (x.known n segment) (z.clean segment) in
        elim (cases_eq any segment) [
          | inl same ↦
              sees any ∙ ap (λ b. if b then max (known_of old any) after.clean else known_of old any) (eq-eqb any after.segment (same ∙ sym its.segment_is))
              ∙ ap (max (known_of old any)) its.clean ∙ ap (λ (i : ℕ). max i (z.clean segment)) was
              ∙ ap (λ (i : ℕ). max (x.known n i) (z.clean segment)) same
              ∙ sym (ap (update_at x.known n segment clean n) same ∙ own_at x.known n segment clean)
          | inr differ ↦
              sees any ∙ ap (λ b. if b then max (known_of old any) after.clean else known_of old any) (ne_eqb any after.segment (λ same. differ (same ∙ its.segment_is)))
              ∙ was ∙ sym (other_segment x.known n segment clean any differ)
        ]

    unfoldable pub by_written : {D : Type 0} (a : Ghosts D) (old : NodeState D a) (new : Desk) (known : List ℕ) → slot.token.token ≡ Some token → s.place segment ≡ At n → FitsNode a m n old s x
        → HasToken segment slot (Some after) old.desk new → Sees old.known after known → Settled m s x (PageStep n segment page) (Written text.sequence)
        → GoesOn a m n (PageStep n segment page) s x (Written text.sequence) (record { desk = new; journal = old.journal; known = known })
    by_written a old new known stands here h moved sees settled =
        let same : SameButLog n s s = stays_itself n s in
        let fits = subst (λ (i : ℕ). FitsSlot m n i (beside slot) s x) k_is (h.slots.each (segment - 1) (beside slot) (get-map beside old.desk.here.slots.items (segment - 1) slot moved.at)) in
        let its = own_token (fits.token token stands).0 in
        record {
          after = s;
          next = y;
          row = inl (refl, refl);
          settled = settled;
          turns = refl;
          aside = record {
            desks = beside_logged m n s s same;
            logs = logs_paged m n s s x y same logs_is;
            slots = aside here;
            known = λ other any differ. other_node x.known n segment (max (x.known n segment) (z.clean segment)) other any differ;
          };
          fits = record {
            desk = rw (moved.seats, moved.here) (desk_noted old.desk.here (segment - 1) slot moved.at (record slot.token { token = Some after }) (ap (λ (k : ℕ). Some k) is.seq ∙ sym (ap number_in stands))
                m n old.desk.seats.items s old.desk.runs h.desk);
            slots = rw moved.here (slots_written old.desk.here moved.at stands h.slots);
            journal = journal_paged a m n old.journal s x y logs_is h.journal;
            room = h.room;
            round = h.round;
            known = λ any from to. known_seen old.known known its sees any (h.known any from to);
          };
          phase = refl;
          places = λ other differ. refl;
        }
