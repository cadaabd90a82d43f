-- A record of a peer that comes to a node's desk.
use Rattle.std.proofs.Common.{◌≡◌, ◌≢◌, ℕ, ◌+◌, ◌-◌, ◌<◌, ◌≤◌, true, false, ◌||◌, ◌==◌, nat_lt, nat_le, List, [], ◌∷◌, ◌++◌, filter, map, length, get_or, All, Option, Some, None, refl, sym, ap, subst, ◌∙◌, arith, eq-eqb, ne_eqb}
use Rattle.std.specs.Prelude.{slice_get, slice_set, IsSome, if◌then◌else◌}
use Rattle.std.specs.Option.{ForSome}
use Rattle.std.proofs.lemmas.Bool.{false_from_ne_true, le-leb}
use Rattle.std.proofs.lemmas.List.{map-set}
use Rattle.std.proofs.lemmas.List.Elements.{All-cons, All-filter}
use Rattle.std.proofs.lemmas.Option.{same_Some as same_some}
use Rattle.lc_record.specs.Part.{number_in, part_of}
use Rattle.lc_record.specs.Transaction.{is_member}
use Rattle.lc_record.specs.declared.part.Part.{Part}
use Rattle.lc_record.specs.declared.record.Record.{Record}
use Rattle.lc_record.proofs.ListLemmas.{slice_get-map_some as get-map}
use Rattle.lc_model.proofs.Moves.{update_at-own as own_at}
use Rattle.lc_token.specs.Backlog.{Backlog, Ascends, Receives, advanced, due_behind, is_known, keeping, numbered, run_of}
use Rattle.lc_token.specs.declared.received.Received.{Received}
use Rattle.lc_token.specs.declared.received.Received.TheVariants.{Applied, HeldBack, Ignored}
use Rattle.lc_token.specs.declared.token.Token.{Token}
use Rattle.lc_token.proofs.BacklogLemmas.{ascends_past, ascends_put, due_next, unknown}
use Rattle.lc_token.specs.Clean.{all_of}
use Rattle.lc_tx.specs.declared.holders.Holders.TheVariants.{Free}
use Rattle.lc_tx.specs.declared.image.Image.{Image as Picture}
use Rattle.lc_model.specs.Sound.{Sound}
use Rattle.lc_model.specs.State.{Setting, State}
use Rattle.lc_model.specs.declared.reply.Reply.TheVariants.{Applied as IsApplied, HeldBack as IsHeldBack, Ignored as IsIgnored}
use Rattle.lc_desk.specs.Desk.{FitsDesk}
use Rattle.lc_desk.specs.Here.{number_in as seq_in, hidden, beside}
use Rattle.lc_settled.specs.Numbers.{Numbers, token_number, reached}
use Rattle.lc_desk.specs.Receives.{CatchesUp, IsNew, parts_over, received_numbers, reply_of}
use Rattle.lc_settled.specs.Settled.{receive_answer}
use Rattle.lc_desk.specs.Slots.{Awaits, Besides, FitsSlot, FitsSlots, besides_of, segment_to}
use Rattle.lc_settled.specs.Turns.{applied_to, held_back, put_number}
use Rattle.lc_desk.specs.declared.desk.Desk.{Desk}
use Rattle.lc_desk.specs.declared.here.Here.{Here}
use Rattle.lc_desk.specs.declared.segment_copy.SegmentCopy.{SegmentCopy}
use Rattle.lc_desk.proofs.Away.{with_slot, desk_away}
use Rattle.lc_desk.proofs.Dropping.{desk_seen}
use Rattle.lc_desk.proofs.Gained.{gained, awaits_still, slots_gained, other_segment}
use Rattle.lc_desk.proofs.Kept.{numbers, member_is, put_is, above_is, above_ascends, all_put, run_reaches, run_within, run_over}
use Rattle.lc_desk.proofs.Left.{same_items}
use Rattle.lc_desk.proofs.PartPut.{is_part, part_put}
use Rattle.lc_desk.proofs.Seating.{set_same}

-- The answer

pub ignored_is : (x : Numbers) (n segment number : ℕ) → (nat_le number (x.applied n segment) || is_member number (x.waiting n segment)) ≡ true → receive_answer x n segment number ≡ IsIgnored
ignored_is x n segment number known =
    ap (λ b. if b then IsIgnored else if number == x.applied n segment + 1 then IsApplied (reached number (x.waiting n segment)) else IsHeldBack) known

new_is : (x : Numbers) (n segment number : ℕ) → (nat_le number (x.applied n segment) || is_member number (x.waiting n segment)) ≡ false
    → receive_answer x n segment number ≡ (if number == x.applied n segment + 1 then IsApplied (reached number (x.waiting n segment)) else IsHeldBack)
new_is x n segment number new =
    ap (λ b. if b then IsIgnored else if number == x.applied n segment + 1 then IsApplied (reached number (x.waiting n segment)) else IsHeldBack) new

-- A part comes to a slot whose token is elsewhere

module _ (m : Setting) (n k : ℕ) (slot next : SegmentCopy) (middle : Backlog) (away : slot.token.token ≡ None) (none_due : slot.parts.due ≡ [])
    (caught : CatchesUp (record slot { parts = middle }) next) (s : State) (x : Numbers) (sound : Sound m.geometry s) (fits : FitsSlot m n (k + 1) (beside slot) s x)
    (whole : Record) (part : Part) (part_is : part_of (k + 1) whole ≡ Some part) (place : ℕ) (found : slice_get (all_of m s x.disks) place ≡ Some whole)
    (closed : part.seq ≤ token_number s x (k + 1)) where
  abbrev kept : List Part
  kept = slot.parts.kept

  abbrev low : ℕ
  low = slot.parts.applied

  abbrev shown : ℕ → List ℕ
  shown number = segment_to m s x.disks (k + 1) number

  awaits : Awaits m s x (k + 1) part
  awaits = record { place = place; whole = whole; found = found; part_is = part_is; closed = closed }

  all_await : All (Awaits m s x (k + 1)) (part ∷ kept)
  all_await = All-cons (Awaits m s x (k + 1)) part kept awaits fits.parts

  picture : (slot.image.holders ≡ Free) × (slot.image.bytes.items ≡ shown (x.applied n (k + 1)))
  picture = fits.image slot.image (ap (λ o. hidden (seq_in o) slot.image) away)

  known_is : (nat_le part.seq (x.applied n (k + 1)) || is_member part.seq (x.waiting n (k + 1))) ≡ is_known slot.parts part.seq
  known_is =
      ap (λ a. nat_le part.seq a || is_member part.seq (x.waiting n (k + 1))) (sym fits.applied)
      ∙ ap (λ ns. nat_le part.seq low || is_member part.seq ns) (sym fits.waiting)
      ∙ ap (λ b. nat_le part.seq low || b) (sym (member_is part.seq kept))

  -- what the slot is once these parts are kept, up to this number
  module _ (applied : ℕ → ℕ → ℕ) (waiting : ℕ → ℕ → List ℕ) (within : applied n (k + 1) ≤ token_number s x (k + 1))
      (number : middle.applied ≡ applied n (k + 1)) (numbers_are : numbers middle.kept ≡ waiting n (k + 1)) (ascends : Ascends middle.applied middle.kept)
      (parts : All (Awaits m s x (k + 1)) middle.kept) (bytes : parts_over middle.due slot.image.bytes.items ≡ shown (applied n (k + 1))) where
    caught_up : FitsSlot m n (k + 1) (beside next) s (gained x applied waiting)
    caught_up = record {
      applied = ap (λ (b : Backlog). b.applied) caught.parts ∙ number;
      within = within;
      waiting = ap (λ (b : Backlog). numbers b.kept) caught.parts ∙ numbers_are;
      ascends = subst (λ (b : Backlog). Ascends b.applied b.kept) (sym caught.parts) ascends;
      parts = subst (λ (b : Backlog). All (Awaits m s (gained x applied waiting) (k + 1)) b.kept) (sym caught.parts)
          (λ j d j_in. awaits_still m s x applied waiting (k + 1) (get_or middle.kept j d) (parts j d j_in));
      token = λ token is. absurd (let no : None ≡ Some token = sym away ∙ ap (λ t. t.token) (sym caught.token) ∙ is in cc);
      image = λ image is.
          (let own : next.image ≡ image = same_some next.image image (sym (ap (λ o. hidden (seq_in o) next.image) (ap (λ t. t.token) caught.token ∙ away)) ∙ is) in
          subst (λ (p : Picture). (p.holders ≡ Free) × (p.bytes.items ≡ shown (applied n (k + 1)))) own (caught.holders ∙ picture.0, caught.bytes ∙ bytes));
    }

  -- it was known
  module _ (known : is_known slot.parts part.seq ≡ true) (same : middle ≡ slot.parts) where
    ignored_answer : receive_answer x n (k + 1) part.seq ≡ IsIgnored
    ignored_answer = ignored_is x n (k + 1) part.seq (known_is ∙ known)

    ignored_slot : FitsSlot m n (k + 1) (beside next) s x
    ignored_slot = caught_up x.applied x.waiting fits.within
        (ap (λ (b : Backlog). b.applied) same ∙ fits.applied) (ap (λ (b : Backlog). numbers b.kept) same ∙ fits.waiting)
        (subst (λ (b : Backlog). Ascends b.applied b.kept) (sym same) fits.ascends) (subst (λ (b : Backlog). All (Awaits m s x (k + 1)) b.kept) (sym same) fits.parts)
        (ap (λ (b : Backlog). parts_over b.due slot.image.bytes.items) same ∙ ap (λ ps. parts_over ps slot.image.bytes.items) none_due ∙ picture.1)

  module _ (new : is_known slot.parts part.seq ≡ false) where
    -- one before it is missing
    module _ (behind : low + 1 < part.seq) (same : middle ≡ keeping slot.parts part) where
      held_answer : receive_answer x n (k + 1) part.seq ≡ IsHeldBack
      held_answer =
          let apart : part.seq ≢ x.applied n (k + 1) + 1 = λ e. (let its = fits.applied in omega (arith, e, behind, its)) in
          new_is x n (k + 1) part.seq (known_is ∙ new)
          ∙ ap (λ b. if b then IsApplied (reached part.seq (x.waiting n (k + 1))) else IsHeldBack) (ne_eqb part.seq (x.applied n (k + 1) + 1) apart)

      held_slot : FitsSlot m n (k + 1) (beside next) s (held_back x n (k + 1) (Some part.seq))
      held_slot = caught_up x.applied (held_back x n (k + 1) (Some part.seq)).waiting fits.within
          (ap (λ (b : Backlog). b.applied) same ∙ fits.applied)
          (ap (λ (b : Backlog). numbers b.kept) same ∙ put_is part kept ∙ ap (put_number part.seq) fits.waiting
          ∙ sym (own_at x.waiting n (k + 1) (put_number part.seq (x.waiting n (k + 1)))))
          (subst (λ (b : Backlog). Ascends b.applied b.kept) (sym same) (ascends_put low part kept fits.ascends (omega (arith, behind)) (unknown slot.parts part.seq new).1))
          (subst (λ (b : Backlog). All (Awaits m s x (k + 1)) b.kept) (sym same) (all_put (Awaits m s x (k + 1)) part kept awaits fits.parts))
          (ap (λ (b : Backlog). parts_over b.due slot.image.bytes.items) same ∙ ap (λ ps. parts_over ps slot.image.bytes.items) none_due ∙ picture.1)

    -- it has the next number
    module _ (is_next : part.seq ≡ low + 1) (same : middle ≡ advanced slot.parts (due_behind low (part ∷ kept))) where
      abbrev run : List Part
      run = run_of low (part ∷ kept)

      abbrev last : ℕ
      last = low + length run

      run_is : due_behind low (part ∷ kept) ≡ run
      run_is =
          let none : numbered (low + 1) kept ≡ None = ap (λ (i : ℕ). numbered i kept) (sym is_next) ∙ (unknown slot.parts part.seq new).1 in
          due_next low part kept is_next (ascends_past low kept fits.ascends none)
          ∙ ap (λ b. if b then part ∷ run_of (low + 1) kept else []) (sym (eq-eqb part.seq (low + 1) is_next))

      middle_is : middle ≡ advanced slot.parts run
      middle_is = same ∙ ap (advanced slot.parts) run_is

      last_is : reached part.seq (x.waiting n (k + 1)) ≡ last
      last_is =
          ap (reached part.seq) (sym fits.waiting)
          ∙ ap (λ b. if b then reached part.seq (numbers kept) else low) (sym (eq-eqb part.seq (low + 1) is_next))
          ∙ run_reaches low (part ∷ kept)

      applied_answer : receive_answer x n (k + 1) part.seq ≡ IsApplied last
      applied_answer =
          let its : part.seq ≡ x.applied n (k + 1) + 1 = is_next ∙ ap (λ i. i + 1) fits.applied in
          new_is x n (k + 1) part.seq (known_is ∙ new)
          ∙ ap (λ b. if b then IsApplied (reached part.seq (x.waiting n (k + 1))) else IsHeldBack) (eq-eqb part.seq (x.applied n (k + 1) + 1) its)
          ∙ ap IsApplied last_is

      over : parts_over run (shown low) ≡ shown last
      over = run_over shown low (part ∷ kept)
          (λ j d j_in. (let its = all_await j d j_in in part_put m s x.disks (k + 1) its.place its.whole (get_or (part ∷ kept) j d) sound its.found its.part_is))

      most : last ≤ token_number s x (k + 1)
      most = run_within low (token_number s x (k + 1)) (part ∷ kept) (let its = fits.applied in let within = fits.within in omega (arith, its, within)) (λ j d j_in. (all_await j d j_in).closed)

      applied_slot : FitsSlot m n (k + 1) (beside next) s (applied_to x n (k + 1) last)
      applied_slot =
          let own : update_own last ≡ last = own_at x.applied n (k + 1) last in
          caught_up (applied_to x n (k + 1) last).applied (applied_to x n (k + 1) last).waiting
          (omega (arith, own, most))
          (ap (λ (b : Backlog). b.applied) middle_is ∙ sym own)
          (ap (λ (b : Backlog). numbers b.kept) middle_is ∙ above_is last kept ∙ ap (filter (λ i. nat_lt last i)) fits.waiting
          ∙ sym (own_at x.waiting n (k + 1) (filter (λ i. nat_lt last i) (x.waiting n (k + 1)))))
          (subst (λ (b : Backlog). Ascends b.applied b.kept) (sym middle_is) (above_ascends low last kept fits.ascends))
          (subst (λ (b : Backlog). All (Awaits m s x (k + 1)) b.kept) (sym middle_is) (All-filter (λ p. nat_lt last p.seq) (Awaits m s x (k + 1)) kept fits.parts))
          (ap (λ (b : Backlog). parts_over b.due slot.image.bytes.items) middle_is ∙ ap (λ ps. parts_over (ps ++ run) slot.image.bytes.items) none_due
          ∙ ap (parts_over run) (picture.1 ∙ ap shown (sym fits.applied)) ∙ over ∙ ap shown (sym own))
        where
          update_own : ℕ → ℕ
          update_own number = (applied_to x n (k + 1) number).applied n (k + 1)

  received : (answer : Received) → Receives part slot.parts answer middle
      → (reply_of answer ≡ receive_answer x n (k + 1) part.seq) × FitsSlot m n (k + 1) (beside next) s (received_numbers x n (k + 1) part.seq answer)
  received (Applied number) is =
      let last = is.2 ∙ ap (λ (b : Backlog). b.applied) (middle_is is.0 is.1 is.3) in (
        ap IsApplied last ∙ sym (applied_answer is.0 is.1 is.3),
        subst (λ (i : ℕ). FitsSlot m n (k + 1) (beside next) s (applied_to x n (k + 1) i)) (sym last) (applied_slot is.0 is.1 is.3),
      )
  received HeldBack is = (sym (held_answer is.0 is.1 is.2), held_slot is.0 is.1 is.2)
  received Ignored is = (sym (ignored_answer is.0 is.1), ignored_slot is.0 is.1)

-- At the desk

slots_received : (m : Setting) (n k : ℕ) (bs : List Besides) (b next : Besides) (s : State) (x : Numbers) (number : ℕ) (answer : Received) → slice_get bs k ≡ Some b
    → FitsSlot m n (k + 1) next s (received_numbers x n (k + 1) number answer) → FitsSlots m n bs s x → FitsSlots m n (slice_set bs k next) s (received_numbers x n (k + 1) number answer)
slots_received m n k bs b next s x number (Applied last) at own h =
    slots_gained m s x (applied_to x n (k + 1) last).applied (applied_to x n (k + 1) last).waiting n bs k b next at own
    (other_segment x.applied n (k + 1) last) (other_segment x.waiting n (k + 1) (filter (λ i. nat_lt last i) (x.waiting n (k + 1)))) h
slots_received m n k bs b next s x number HeldBack at own h =
    slots_gained m s x x.applied (held_back x n (k + 1) (Some number)).waiting n bs k b next at own
    (λ other differ. refl) (other_segment x.waiting n (k + 1) (put_number number (x.waiting n (k + 1)))) h
slots_received m n k bs b next s x number Ignored at own h = slots_gained m s x x.applied x.waiting n bs k b next at own (λ other differ. refl) (λ other differ. refl) h

-- what `FollowsReceive` says of the parts of the desk
abbrev pub Comes : ℕ → Record → Desk → Received → Here → Type 0
Comes segment whole old answer there =
    (m : Setting) (node : ℕ) (s : State) (x : Numbers) (place number : ℕ) → Sound m.geometry s
    → FitsDesk m node old.here old.seats.items s → FitsSlots m node (besides_of old.here) s x
    → slice_get (all_of m s x.disks) place ≡ Some whole → number_in segment whole.locks ≡ Some number → number ≤ token_number s x segment
    → (reply_of answer ≡ receive_answer x node segment number)
    × FitsDesk m node there old.seats.items s
    × FitsSlots m node (besides_of there) s (received_numbers x node segment number answer)

some_of : {A : Type 0} (o : Option A) → IsSome o → (x : A) × (o ≡ Some x)
some_of None some = absurd cc
some_of (Some x) some = (x, refl)

module _ (old : Desk) (segment : ℕ) (first : 1 ≤ segment) (slot : SegmentCopy) (at : slice_get old.here.slots.items (segment - 1) ≡ Some slot) (whole : Record) where
  abbrev k : ℕ
  k = segment - 1

  next_is : segment ≡ k + 1
  next_is = omega (arith, first)

  was : slice_get (besides_of old.here) k ≡ Some (beside slot)
  was = get-map beside old.here.slots.items k slot at

  -- nothing has changed where the token stands here
  pub comes_here : (slot.token.token ≡ None → ⊥) → Comes segment whole old Ignored (with_slot old.here k slot)
  comes_here stands = subst (λ n. Comes n whole old Ignored (with_slot old.here k slot)) (sym next_is) follows
    where
      by_token : (m : Setting) (node : ℕ) (s : State) (x : Numbers) (number : ℕ) → FitsSlot m node (k + 1) (beside slot) s x → number ≤ token_number s x (k + 1)
          → (o : Option Token) → slot.token.token ≡ o → IsIgnored ≡ receive_answer x node (k + 1) number
      by_token m node s x number fits closed None is = absurd (stands is)
      by_token m node s x number fits closed (Some token) is =
          let all = (fits.token token is).1 in
          sym (ignored_is x node (k + 1) number (ap (λ b. b || is_member number (x.waiting node (k + 1))) (le-leb number (x.applied node (k + 1)) (omega (arith, all, closed)))))

      same : slice_set old.here.slots.items k slot ≡ old.here.slots.items
      same = set_same old.here.slots.items k slot at

      follows : Comes (k + 1) whole old Ignored (with_slot old.here k slot)
      follows m node s x place number sound desk slots found number_is closed = (
        by_token m node s x number (slots.each k (beside slot) was) closed slot.token.token refl,
        desk_seen m node old.here (with_slot old.here k slot) old.seats.items s old.runs (same_items old.here (with_slot old.here k slot) same refl) desk,
        subst (λ items. FitsSlots m node (map beside items) s x) (sym same) slots,
      )

  follows_away : (next : SegmentCopy) (middle : Backlog) (part : Part) (answer : Received)
      → slot.token.token ≡ None → slot.parts.due ≡ [] → CatchesUp (record slot { parts = middle }) next → part_of (k + 1) whole ≡ Some part → Receives part slot.parts answer middle
      → Comes (k + 1) whole old answer (with_slot old.here k next)
  follows_away next middle part answer away none_due caught part_is receives m node s x place number sound desk slots found number_is closed =
      let fits : FitsSlot m node (k + 1) (beside slot) s x = slots.each k (beside slot) was in
      let same : part.seq ≡ number = same_some part.seq number (sym (is_part (k + 1) whole part part_is).number ∙ number_is) in
      let its = received m node k slot next middle away none_due caught s x sound fits whole part part_is place found (subst (λ i. i ≤ token_number s x (k + 1)) (sym same) closed) answer receives in
      let there = slots_received m node k (besides_of old.here) (beside slot) (beside next) s x part.seq answer was its.1 slots in (
        its.0 ∙ ap (receive_answer x node (k + 1)) same,
        desk_away old.here k slot next at caught.token away m node old.seats.items s old.runs desk,
        subst (λ bs. FitsSlots m node bs s (received_numbers x node (k + 1) number answer)) (sym (map-set beside old.here.slots.items k next))
            (subst (λ i. FitsSlots m node (slice_set (besides_of old.here) k (beside next)) s (received_numbers x node (k + 1) i answer)) same there),
      )

  -- elsewhere its part is put on the image, or kept
  pub comes_away : (next : SegmentCopy) (middle : Backlog) (answer : Received) → slot.token.token ≡ None → slot.parts.due ≡ [] → slot.parts.segment ≡ segment → CatchesUp (record slot { parts = middle }) next
      → IsSome (part_of segment whole) → ForSome (part_of slot.parts.segment whole) (λ part. Receives part slot.parts answer middle)
      → Comes segment whole old answer (with_slot old.here k next)
  comes_away next middle answer away none_due segment_is caught some receives =
      let part = some_of (part_of segment whole) some in
      subst (λ n. Comes n whole old answer (with_slot old.here k next)) (sym next_is)
      (follows_away next middle part.0 answer away none_due caught (ap (λ n. part_of n whole) (sym next_is) ∙ part.1) (receives part.0 (ap (λ n. part_of n whole) segment_is ∙ part.1)))

  -- no memory was asked for but for a part that is new
  pub is_new : slot.token.token ≡ None → slot.parts.segment ≡ segment → ForSome (part_of slot.parts.segment whole) (λ part. is_known slot.parts part.seq ≡ true → ⊥)
      → ForSome (slice_get old.here.slots.items k) (λ other. IsNew segment whole other)
  is_new away segment_is unknown_is other got =
      subst (λ (o : SegmentCopy). IsNew segment whole o) (same_some slot other (sym at ∙ got))
      (away, λ part is. false_from_ne_true (is_known slot.parts part.seq) (unknown_is part (ap (λ n. part_of n whole) segment_is ∙ is)))
