-- Of nodes that run: what stands in a node's slots, where the machine goes on and tokens leave and come.
use Rattle.std.proofs.Common.{◌≡◌, ℕ, zero, suc, ◌+◌, ◌-◌, ◌≤◌, Bool, true, false, List, [], ◌∷◌, ◌++◌, map, filter, take, length, get_or, All, Option, Some, None, refl, sym, ap, subst, ◌∙◌, inl, inr, arith, true≢false}
use Rattle.std.specs.Prelude.{slice_get, slice_set, option_map, IsSome, if◌then◌else◌}
use Rattle.std.specs.Option.{ForSome}
use Rattle.std.specs.Vec.{with_item}
use Rattle.std.proofs.lemmas.Bool.{cases_eq, false_from_ne_true}
use Rattle.std.proofs.lemmas.Option.{slice_get-map, slice_get_within, same_Some as same_some}
use Rattle.std.proofs.lemmas.List.{take-append-le, take_all, length-map, length-set, map-set}
use Rattle.std.proofs.lemmas.List.Elements.{All-head, All-tail, filter-append}
use Rattle.lc_record.specs.Content.{segment_of}
use Rattle.lc_record.specs.Geometry.{segment_len}
use Rattle.lc_record.specs.Recorded.{records_from}
use Rattle.lc_record.specs.Transaction.{Transaction, effects, holds}
use Rattle.lc_record.specs.declared.part.Part.{Part}
use Rattle.lc_record.proofs.LockLemmas.{lock_holds}
use Rattle.lc_record.proofs.ListLemmas.{slice_get-map_some as get-map, All-append_right as All-right}
use Rattle.lc_token.specs.declared.token.Token.{Token}
use Rattle.lc_token.specs.Clean.{all_of, closed_of}
use Rattle.lc_tx.specs.declared.holders.Holders.TheVariants.{Free}
use Rattle.lc_tx.specs.declared.image.Image.{Image as Picture}
use Rattle.lc_model.specs.History.{History, transactions, value}
use Rattle.lc_model.specs.Machine.{appended, placed}
use Rattle.lc_model.specs.Merge.{Page}
use Rattle.lc_model.specs.Merging.{sets, counted_all}
use Rattle.lc_model.specs.Sound.{Sound, IsProper, unclosed}
use Rattle.lc_model.specs.State.{Place, At, Travelling, Setting, State, is_held}
use Rattle.lc_model.specs.Stored.{base, up_to}
use Rattle.lc_model.proofs.Fronts.{entry, no_holder}
use Rattle.lc_model.proofs.Keeps.{transactions-push, history-well, unclosed-here}
use Rattle.lc_model.proofs.Law.{effects-append}
use Rattle.lc_model.proofs.Merging.{counted-length, of_a_segment, records_from-append}
use Rattle.lc_model.proofs.Numbers.{part-replicate}
use Rattle.lc_model.proofs.RecordBytes.{sets-locks}
use Rattle.lc_model.proofs.Result.{shape-effects}
use Rattle.lc_desk.specs.Arrives.{Waits}
use Rattle.lc_events.specs.Beside.{BesideSlots}
use Rattle.lc_desk.specs.Desk.{FitsDesk}
use Rattle.lc_settled.specs.Follows.{SameButLog}
use Rattle.lc_settled.specs.FollowsDesk.{SameButOpen}
use Rattle.lc_desk.specs.Here.{number_in, number_at, hidden, beside}
use Rattle.lc_desk.specs.Leaves.{with_token}
use Rattle.lc_settled.specs.Numbers.{Numbers, token_number}
use Rattle.lc_desk.specs.Places.{get_set_same, get_set_other}
use Rattle.lc_desk.specs.Prepares.{FitsNumbers}
use Rattle.lc_desk.specs.Slots.{Besides, besides_of, segment_to, Awaits, FitsToken, FitsSlot, FitsSlots}
use Rattle.lc_settled.specs.Turns.{seen}
use Rattle.lc_desk.specs.declared.here.Here.{Here}
use Rattle.lc_desk.specs.Seat.{Seat}
use Rattle.lc_desk.specs.declared.segment_copy.SegmentCopy.{SegmentCopy}
use Rattle.lc_desk.proofs.Appending.{get-before}
use Rattle.lc_desk.proofs.Holding.{holders-proper}
use Rattle.lc_journal.proofs.Reserved.{closed_appended}
use Rattle.lc_desk.proofs.Slotted.{slot_kept}

-- The numbers of the tokens that are here

pub numbers_fit : (m : Setting) (n : ℕ) (here : Here) (s : State) (x : Numbers) → FitsSlots m n (besides_of here) s x → FitsNumbers here s x
numbers_fit m n here s x h zero is = absurd cc
numbers_fit m n here s x h (suc k) is = at (slice_get here.slots.items k) refl is
  where
    next : k + 1 ≡ suc k
    next = omega arith

    token_is : (o : Option Token) → ForSome o (λ token. FitsToken m (k + 1) token s x × (x.applied n (k + 1) ≡ token_number s x (k + 1))) → IsSome (number_in o)
        → number_in o ≡ Some (token_number s x (suc k))
    token_is None fits some = absurd cc
    token_is (Some token) fits some = ap (λ i. Some i) ((fits token refl).0.number ∙ ap (token_number s x) next)

    at : (o : Option SegmentCopy) → slice_get here.slots.items k ≡ o → IsSome (number_at o) → number_at o ≡ Some (token_number s x (suc k))
    at None same some = absurd cc
    at (Some slot) same some = token_is slot.token.token (h.each k (beside slot) (get-map beside here.slots.items k slot same)).token some

-- Where nothing changes that a slot shows

-- the records stay or grow, and the numbers of the tokens stay
pub record Stays (m : Setting) (s : State) (x : Numbers) (after : State) (y : Numbers) : Type 0 where
  pub applied : (node segment : ℕ) → y.applied node segment ≡ x.applied node segment
  pub waiting : (node segment : ℕ) → y.waiting node segment ≡ x.waiting node segment
  pub number : (segment : ℕ) → token_number after y segment ≡ token_number s x segment
  pub parts : (segment : ℕ) (part : Part) → Awaits m s x segment part → Awaits m after y segment part
  pub shown : (segment number : ℕ) → number ≤ token_number s x segment → segment_to m after y.disks segment number ≡ segment_to m s x.disks segment number
  pub tokens : (segment : ℕ) (token : Token) → FitsToken m segment token s x → FitsToken m segment token after y

pub aside_stays : (m : Setting) (node : ℕ) (s : State) (x : Numbers) (after : State) (y : Numbers) → Stays m s x after y → BesideSlots m node s x after y
aside_stays m node s x after y h = record {
  applied = λ other segment differ. h.applied other segment;
  waiting = λ other segment differ. h.waiting other segment;
  rises = λ segment. (let same = h.number segment in omega (arith, same));
  parts = h.parts;
  shown = h.shown;
  number = λ segment away. h.number segment;
  tokens = λ segment token away. h.tokens segment token;
}

pub slots_stay : (m : Setting) (n : ℕ) (bs : List Besides) (s : State) (x : Numbers) (after : State) (y : Numbers) → Stays m s x after y → FitsSlots m n bs s x → FitsSlots m n bs after y
slots_stay m n bs s x after y stays h = record {
  count = h.count;
  each = λ k b at. slot_kept m n (k + 1) b s x after y (stays.applied n (k + 1)) (stays.waiting n (k + 1)) (let same = stays.number (k + 1) in omega (arith, same))
      (stays.parts (k + 1)) (stays.shown (k + 1)) (λ token is. (stays.number (k + 1), stays.tokens (k + 1) token)) (h.each k b at);
}

-- a node's slots stay, where the others see a step of another node
pub slots_beside : (m : Setting) (node other : ℕ) (bs : List Besides) (s : State) (x : Numbers) (after : State) (y : Numbers) → BesideSlots m node s x after y → (other ≡ node → ⊥)
    → ((k : ℕ) (b : Besides) (token : Token) → slice_get bs k ≡ Some b → b.0.token ≡ Some token → s.place (k + 1) ≡ At other)
    → FitsSlots m other bs s x → FitsSlots m other bs after y
slots_beside m node other bs s x after y aside differ places h = record {
  count = h.count;
  each = λ k b at. slot_kept m other (k + 1) b s x after y (aside.applied other (k + 1) differ) (aside.waiting other (k + 1) differ) (aside.rises (k + 1))
      (aside.parts (k + 1)) (aside.shown (k + 1))
      (λ token is. (let away = not_there (s.place (k + 1)) (places k b token at is) in (aside.number (k + 1) away, aside.tokens (k + 1) token away))) (h.each k b at);
}
  where
    not_there : (place : Place) → place ≡ At other → place ≡ At node → ⊥
    not_there place here there = differ (let same : At other ≡ At node = sym here ∙ there in cc)

-- as they need to know, the tokens that are at a node's desk are there
pub places_at : (m : Setting) (node : ℕ) (here : Here) (seats : List Seat) (s : State) → FitsDesk m node here seats s
    → (k : ℕ) (b : Besides) (token : Token) → slice_get (besides_of here) k ≡ Some b → b.0.token ≡ Some token → s.place (k + 1) ≡ At node
places_at m node here seats s h k b token at stands = at_place (slice_get here.slots.items k) refl
  where
    next : k + 1 ≡ suc k
    next = omega arith

    at_place : (o : Option SegmentCopy) → slice_get here.slots.items k ≡ o → s.place (k + 1) ≡ At node
    at_place None same = absurd (let none : slice_get (besides_of here) k ≡ None = slice_get-map beside here.slots.items k ∙ ap (option_map beside) same in let no : None ≡ Some b = sym none ∙ at in cc)
    at_place (Some slot) same =
        let own : beside slot ≡ b = same_some (beside slot) b (sym (get-map beside here.slots.items k slot same) ∙ at) in
        let its : slot.token.token ≡ Some token = ap (λ (c : Besides). c.0.token) own ∙ stands in
        ap s.place next ∙ h.places (suc k) (subst (λ (o : Option ℕ). IsSome o) (sym (ap number_at same ∙ ap number_in its)) refl)

-- The history stays

-- and so does what the slots show of the numbers
pub stays_where : (m : Setting) (s after : State) (x y : Numbers) → after.earlier ≡ s.earlier → after.history ≡ s.history
    → y.disks.numbers ≡ x.disks.numbers → y.disks.page ≡ x.disks.page → y.applied ≡ x.applied → y.waiting ≡ x.waiting → y.clean ≡ x.clean → y.touched ≡ x.touched → y.texts ≡ x.texts → Stays m s x after y
stays_where m s after x y earlier history numbers pages applied waiting clean touched texts = record {
  applied = λ node segment. ap (λ f. f node segment) applied;
  waiting = λ node segment. ap (λ f. f node segment) waiting;
  number = number;
  parts = λ segment part h. record {
    place = h.place;
    whole = h.whole;
    found = ap (λ rs. slice_get rs h.place) records ∙ h.found;
    part_is = h.part_is;
    closed = (let same = number segment in let closed = h.closed in omega (arith, same, closed));
  };
  shown = λ segment number within.
      ap (λ (f : ℕ → ℕ). segment_of segment (effects (take (number - f segment) (filter (sets segment) (transactions after.history))) (base m after))) numbers
      ∙ ap (λ (h : History). segment_of segment (effects (take (number - x.disks.numbers segment) (filter (sets segment) (transactions h))) (base m after))) history
      ∙ ap (λ ts. segment_of segment (effects (up_to x.disks s segment number) (effects ts m.start))) earlier;
  tokens = λ segment token h. record {
    segment_is = h.segment_is;
    number = h.number ∙ sym (number segment);
    small = h.small;
    clean = h.clean ∙ sym (ap (λ f. f segment) clean);
    pages = h.pages;
    touched = λ page below. h.touched page below ∙ sym (ap (λ f. f segment page) touched);
    stable_is = λ page below. h.stable_is page below ∙ sym (ap (λ (f : ℕ → ℕ → Page). (f segment page).sequence) pages);
    text_is = λ page below. h.text_is page below ∙ sym (ap (λ f. f segment page) texts);
    uncounted = h.uncounted;
  };
}
  where
    number : (segment : ℕ) → token_number after y segment ≡ token_number s x segment
    number segment =
        ap (λ (f : ℕ → ℕ). counted_all f (closed_of after.history) segment) numbers
        ∙ ap (λ (h : History). counted_all x.disks.numbers (closed_of h) segment) history

    records : all_of m after y.disks ≡ all_of m s x.disks
    records =
        ap (λ (f : ℕ → ℕ). records_from f (base m after) (transactions after.history)) numbers
        ∙ ap (λ (h : History). records_from x.disks.numbers (base m after) (transactions h)) history
        ∙ ap (λ ts. records_from x.disks.numbers (effects ts m.start) (transactions s.history)) earlier

pub stays_same : (m : Setting) (s after : State) (x : Numbers) → after.earlier ≡ s.earlier → after.history ≡ s.history → Stays m s x after x
stays_same m s after x earlier history = stays_where m s after x x earlier history refl refl refl refl refl refl refl

pub slots_same : (m : Setting) (n : ℕ) (bs : List Besides) (s after : State) (x : Numbers) → after.earlier ≡ s.earlier → after.history ≡ s.history
    → FitsSlots m n bs s x → FitsSlots m n bs after x
slots_same m n bs s after x earlier history = slots_stay m n bs s x after x (stays_same m s after x earlier history)

pub token_same : (m : Setting) (segment : ℕ) (token : Token) (s after : State) (x : Numbers) → after.earlier ≡ s.earlier → after.history ≡ s.history
    → FitsToken m segment token s x → FitsToken m segment token after x
token_same m segment token s after x earlier history = (stays_same m s after x earlier history).tokens segment token

pub aside_same : (m : Setting) (node : ℕ) (s after : State) (x : Numbers) → after.earlier ≡ s.earlier → after.history ≡ s.history → BesideSlots m node s x after x
aside_same m node s after x earlier history = aside_stays m node s x after x (stays_same m s after x earlier history)

pub aside_open : (m : Setting) (node : ℕ) (s after : State) (x : Numbers) → SameButOpen node s after → BesideSlots m node s x after x
aside_open m node s after x same = aside_same m node s after x same.earlier same.history

pub aside_logged : (m : Setting) (node : ℕ) (s after : State) (x : Numbers) → SameButLog node s after → BesideSlots m node s x after x
aside_logged m node s after x same = aside_same m node s after x same.earlier same.history

-- the slots do not show how clean a node has seen a segment
pub aside_known : (m : Setting) (node : ℕ) (s after : State) (x : Numbers) (to segment : ℕ) → after.earlier ≡ s.earlier → after.history ≡ s.history → BesideSlots m node s x after (seen x to segment)
aside_known m node s after x to segment earlier history =
    aside_stays m node s x after (seen x to segment) (stays_where m s after x (seen x to segment) earlier history refl refl refl refl refl refl refl)

pub slots_known : (m : Setting) (n : ℕ) (bs : List Besides) (s after : State) (x : Numbers) (to segment : ℕ) → after.earlier ≡ s.earlier → after.history ≡ s.history
    → FitsSlots m n bs s x → FitsSlots m n bs after (seen x to segment)
slots_known m n bs s after x to segment earlier history =
    slots_stay m n bs s x after (seen x to segment) (stays_where m s after x (seen x to segment) earlier history refl refl refl refl refl refl refl)

-- nor how many records it has dropped of those that it published
pub aside_trimmed : (m : Setting) (node : ℕ) (s after : State) (x : Numbers) (trimmed : ℕ → ℕ) → after.earlier ≡ s.earlier → after.history ≡ s.history
    → BesideSlots m node s x after (record x { trimmed = trimmed })
aside_trimmed m node s after x trimmed earlier history =
    aside_stays m node s x after (record x { trimmed = trimmed }) (stays_where m s after x (record x { trimmed = trimmed }) earlier history refl refl refl refl refl refl refl)

pub slots_trimmed : (m : Setting) (n : ℕ) (bs : List Besides) (s after : State) (x : Numbers) (trimmed : ℕ → ℕ) → after.earlier ≡ s.earlier → after.history ≡ s.history
    → FitsSlots m n bs s x → FitsSlots m n bs after (record x { trimmed = trimmed })
slots_trimmed m n bs s after x trimmed earlier history =
    slots_stay m n bs s x after (record x { trimmed = trimmed }) (stays_where m s after x (record x { trimmed = trimmed }) earlier history refl refl refl refl refl refl refl)

-- a token leaves or comes
pub slots_placed : (m : Setting) (n : ℕ) (bs : List Besides) (s : State) (x : Numbers) (segment : ℕ) (place : Place) → FitsSlots m n bs s x → FitsSlots m n bs (placed s segment place) x
slots_placed m n bs s x segment place = slots_same m n bs s (placed s segment place) x refl refl

pub token_placed : (m : Setting) (segment : ℕ) (token : Token) (s : State) (x : Numbers) (moved : ℕ) (place : Place) → FitsToken m segment token s x → FitsToken m segment token (placed s moved place) x
token_placed m segment token s x moved place = token_same m segment token s (placed s moved place) x refl refl

pub aside_placed : (m : Setting) (node : ℕ) (s : State) (x : Numbers) (segment : ℕ) (place : Place) → BesideSlots m node s x (placed s segment place) x
aside_placed m node s x segment place = aside_same m node s (placed s segment place) x refl refl

-- A transaction comes to the end of the history

closed_some_one : (p : Transaction → Bool) (t : Transaction) (closed : Bool) (es : History) → length (filter p (closed_of es)) ≤ length (filter p (transactions es))
    → length (filter p (closed_of (entry t closed ∷ es))) ≤ length (filter p (t ∷ transactions es))
closed_some_one p t true es fewer =
    elim (p t) as (λ b. length (if b then t ∷ filter p (closed_of es) else filter p (closed_of es)) ≤ length (if b then t ∷ filter p (transactions es) else filter p (transactions es))) [
      | true ↦ omega (arith, fewer)
      | false ↦ fewer
    ]
closed_some_one p t false es fewer =
    elim (p t) as (λ b. length (filter p (closed_of es)) ≤ length (if b then t ∷ filter p (transactions es) else filter p (transactions es))) [
      | true ↦ omega (arith, fewer)
      | false ↦ fewer
    ]

-- no more of the closed ones pass a test than of all
closed_some : (p : Transaction → Bool) (history : History) → length (filter p (closed_of history)) ≤ length (filter p (transactions history))
closed_some p [] = omega arith
closed_some p (e ∷ es) = closed_some_one p e.transaction e.closed es (closed_some p es)

-- it is not closed, so that no token counts it
pub stays_appended : (m : Setting) (s : State) (x : Numbers) (t : Transaction) → Stays m s x (appended s t) x
stays_appended m s x t = record {
  applied = λ node segment. refl;
  waiting = λ node segment. refl;
  number = number;
  parts = λ segment part h. record {
    place = h.place;
    whole = h.whole;
    found = ap (λ rs. slice_get rs h.place) grown
        ∙ get-before (all_of m s x.disks) (records_from (counted_all x.disks.numbers (transactions s.history)) (effects (transactions s.history) (base m s)) (t ∷ [])) h.place h.whole h.found;
    part_is = h.part_is;
    closed = (let same = number segment in let closed = h.closed in omega (arith, same, closed));
  };
  shown = λ segment number within. ap (λ ts. segment_of segment (effects ts (base m s))) (still_up_to segment number within);
  tokens = λ segment token h. record {
    segment_is = h.segment_is;
    number = h.number ∙ sym (number segment);
    small = h.small;
    clean = h.clean;
    pages = h.pages;
    touched = h.touched;
    stable_is = h.stable_is;
    text_is = h.text_is;
    uncounted = h.uncounted;
  };
}
  where
    number : (segment : ℕ) → token_number (appended s t) x segment ≡ token_number s x segment
    number segment = ap (λ ts. counted_all x.disks.numbers ts segment) (closed_appended s t)

    grown : all_of m (appended s t) x.disks ≡ all_of m s x.disks ++ records_from (counted_all x.disks.numbers (transactions s.history)) (effects (transactions s.history) (base m s)) (t ∷ [])
    grown = ap (records_from x.disks.numbers (base m s)) (transactions-push s.history (entry t false)) ∙ records_from-append x.disks.numbers (base m s) (transactions s.history) (t ∷ [])

    still_up_to : (segment number : ℕ) → number ≤ token_number s x segment → up_to x.disks (appended s t) segment number ≡ up_to x.disks s segment number
    still_up_to segment number within =
        let count = counted-length x.disks.numbers (closed_of s.history) segment in
        let fewer = closed_some (sets segment) s.history in
        let enough : number - x.disks.numbers segment ≤ length (filter (sets segment) (transactions s.history)) = omega (arith, within, count, fewer) in
        ap (λ ts. take (number - x.disks.numbers segment) (filter (sets segment) ts)) (transactions-push s.history (entry t false))
        ∙ ap (take (number - x.disks.numbers segment)) (filter-append (sets segment) (transactions s.history) (t ∷ []))
        ∙ take-append-le (number - x.disks.numbers segment) (filter (sets segment) (transactions s.history)) (filter (sets segment) (t ∷ [])) enough

pub slots_appended : (m : Setting) (n : ℕ) (bs : List Besides) (s : State) (x : Numbers) (t : Transaction) → FitsSlots m n bs s x → FitsSlots m n bs (appended s t) x
slots_appended m n bs s x t = slots_stay m n bs s x (appended s t) x (stays_appended m s x t)

pub aside_appended : (m : Setting) (node : ℕ) (s : State) (x : Numbers) (t : Transaction) → BesideSlots m node s x (appended s t) x
aside_appended m node s x t = aside_stays m node s x (appended s t) x (stays_appended m s x t)

-- Where all of a segment's records are closed

all_closed_one : (p : Transaction → Bool) (t : Transaction) (closed : Bool) (es : History) → All (λ u. p u ≡ false) (unclosed (entry t closed ∷ es))
    → (All (λ u. p u ≡ false) (unclosed es) → filter p (closed_of es) ≡ filter p (transactions es))
    → filter p (closed_of (entry t closed ∷ es)) ≡ filter p (t ∷ transactions es)
all_closed_one p t true es none next = ap (λ ts. if p t then t ∷ ts else ts) (next none)
all_closed_one p t false es none next =
    next (All-tail (λ u. p u ≡ false) t (unclosed es) none)
    ∙ sym (ap (λ b. if b then t ∷ filter p (transactions es) else filter p (transactions es)) (All-head (λ u. p u ≡ false) t (unclosed es) none))

-- where no unclosed one passes a test, all that pass it are closed
pub all_closed : (p : Transaction → Bool) (history : History) → All (λ u. p u ≡ false) (unclosed history) → filter p (closed_of history) ≡ filter p (transactions history)
all_closed p [] none = refl
all_closed p (e ∷ es) none = all_closed_one p e.transaction e.closed es none (all_closed p es)

-- the segment up to its token's number is as the history makes it
pub all_shown : (m : Setting) (s : State) (x : Numbers) (segment : ℕ) → Sound m.geometry s → All (λ t. sets segment t ≡ false) (unclosed s.history)
    → segment_to m s x.disks segment (token_number s x segment) ≡ segment_of segment (value m.start s.earlier s.history)
all_shown m s x segment sound none =
    let count = counted-length x.disks.numbers (closed_of s.history) segment in
    let many = ap length (all_closed (sets segment) s.history none) in
    let long : length (filter (sets segment) (transactions s.history)) ≤ token_number s x segment - x.disks.numbers segment = omega (arith, count, many) in
    ap (λ ts. segment_of segment (effects ts (base m s))) (take_all (token_number s x segment - x.disks.numbers segment) (filter (sets segment) (transactions s.history)) long)
    ∙ sym (of_a_segment (base m s) (transactions s.history) segment (history-well m.geometry s sound))
    ∙ ap (segment_of segment) (sym (effects-append s.earlier (transactions s.history) m.start))

-- what does not hold a segment did not set it
unheld_unset : (m : Setting) (s : State) (segment : ℕ) → Sound m.geometry s → All (λ t. holds t segment ≡ true → ⊥) (unclosed s.history) → All (λ t. sets segment t ≡ false) (unclosed s.history)
unheld_unset m s segment sound free = λ k d k_in. false_from_ne_true (sets segment (get_or (unclosed s.history) k d)) (λ its. free k d k_in
    (lock_holds (get_or (unclosed s.history) k d) segment
    (sets-locks (get_or (unclosed s.history) k d) segment (All-right (IsProper m.geometry) s.running (unclosed s.history) (holders-proper m s sound) k d k_in).well its)))

-- nobody has the segment
pub none_held : (m : Setting) (s : State) (segment : ℕ) → Sound m.geometry s → is_held segment s ≡ false → All (λ t. sets segment t ≡ false) (unclosed s.history)
none_held m s segment sound unheld = unheld_unset m s segment sound (λ k d k_in its.
    true≢false (sym its ∙ All-right (λ t. holds t segment ≡ false) s.running (unclosed s.history) (no_holder (λ t. holds t segment) s unheld) k d k_in))

-- its token is on its way
pub none_travelling : (m : Setting) (s : State) (segment : ℕ) → Sound m.geometry s → s.place segment ≡ Travelling → All (λ t. sets segment t ≡ false) (unclosed s.history)
none_travelling m s segment sound travels = unheld_unset m s segment sound (λ k d k_in its.
    (let same : Travelling ≡ At (get_or (unclosed s.history) k d).node = sym travels ∙ unclosed-here m.geometry s sound k d k_in segment its in absurd cc))

-- A slot with another token

slots_set : (m : Setting) (n : ℕ) (bs : List Besides) (k : ℕ) (b next : Besides) (s : State) (x : Numbers) → slice_get bs k ≡ Some b → FitsSlot m n (k + 1) next s x
    → FitsSlots m n bs s x → FitsSlots m n (slice_set bs k next) s x
slots_set m n bs k b next s x at own h = record {
  count = length-set bs k next ∙ h.count;
  each = λ j c got. elim (cases_eq j k) [
    | inl same ↦
        let there : slice_get (slice_set bs k next) k ≡ Some c = subst (λ (i : ℕ). slice_get (slice_set bs k next) i ≡ Some c) same got in
        subst (λ (i : ℕ). FitsSlot m n (i + 1) c s x) (sym same)
        (subst (λ (d : Besides). FitsSlot m n (k + 1) d s x) (same_some next c (sym (get_set_same bs k b next at) ∙ there)) own)
    | inr differ ↦ h.each j c (sym (get_set_other bs k j next differ) ∙ got)
  ];
}

module _ (m : Setting) (n : ℕ) (here : Here) (k : ℕ) (slot : SegmentCopy) (at : slice_get here.slots.items k ≡ Some slot) (s : State) (x : Numbers) (h : FitsSlots m n (besides_of here) s x) where
  beside_at : slice_get (besides_of here) k ≡ Some (beside slot)
  beside_at = get-map beside here.slots.items k slot at

  fits : FitsSlot m n (k + 1) (beside slot) s x
  fits = h.each k (beside slot) beside_at

  moved : (token : Option Token) → FitsSlot m n (k + 1) (beside (with_token slot token)) s x → FitsSlots m n (besides_of (record here { slots = with_item here.slots k (with_token slot token) })) s x
  moved token own = subst (λ (bs : List Besides). FitsSlots m n bs s x) (sym (map-set beside here.slots.items k (with_token slot token)))
      (slots_set m n (besides_of here) k (beside slot) (beside (with_token slot token)) s x beside_at own h)

  -- it leaves
  module _ (token : Token) (stands : slot.token.token ≡ Some token) where
    pub token_left : FitsToken m (k + 1) token s x
    token_left = (fits.token token stands).0

    pub slots_left : Sound m.geometry s → All (λ t. sets (k + 1) t ≡ false) (unclosed s.history) → slot.image.holders ≡ Free
        → slot.image.bytes.items ≡ segment_of (k + 1) (value m.start s.earlier s.history)
        → FitsSlots m n (besides_of (record here { slots = with_item here.slots k (with_token slot None) })) s x
    slots_left sound none free bytes = moved None (record {
      applied = fits.applied;
      within = fits.within;
      waiting = fits.waiting;
      ascends = fits.ascends;
      parts = fits.parts;
      token = λ other is. absurd cc;
      image = λ image is. (let same : slot.image ≡ image = same_some slot.image image is in subst (λ (p : Picture). (p.holders ≡ Free) × (p.bytes.items ≡ segment_to m s x.disks (k + 1) (x.applied n (k + 1)))) same
          (free, bytes ∙ sym (ap (segment_to m s x.disks (k + 1)) (fits.token token stands).1 ∙ all_shown m s x (k + 1) sound none)));
    })

  -- a token comes
  module _ (token : Token) (its : FitsToken m (k + 1) token s x) (reached : token.seq ≤ slot.parts.applied) where
    all_applied : x.applied n (k + 1) ≡ token_number s x (k + 1)
    all_applied = (let number = its.number in let applied = fits.applied in let within = fits.within in omega (arith, number, applied, within, reached))

    pub slots_arrived : FitsSlots m n (besides_of (record here { slots = with_item here.slots k (with_token slot (Some token)) })) s x
    slots_arrived = moved (Some token) (record {
      applied = fits.applied;
      within = fits.within;
      waiting = fits.waiting;
      ascends = fits.ascends;
      parts = fits.parts;
      token = λ other is. subst (λ (t : Token). FitsToken m (k + 1) t s x × (x.applied n (k + 1) ≡ token_number s x (k + 1))) (same_some token other is) (its, all_applied);
      image = λ image is. absurd cc;
    })

  -- what waits for it
  module _ (none : slot.token.token ≡ None) where
    picture : (slot.image.holders ≡ Free) × (slot.image.bytes.items ≡ segment_to m s x.disks (k + 1) (x.applied n (k + 1)))
    picture = fits.image slot.image (ap (λ o. hidden (number_in o) slot.image) none)

    pub image_free : slot.image.holders ≡ Free
    image_free = picture.0

    pub image_shown : (token : Token) → FitsToken m (k + 1) token s x → token.seq ≤ slot.parts.applied → s.place (k + 1) ≡ Travelling → Sound m.geometry s
        → slot.image.bytes.items ≡ segment_of (k + 1) (value m.start s.earlier s.history)
    image_shown token its reached travels sound =
        picture.1 ∙ ap (segment_to m s x.disks (k + 1)) (all_applied token its reached) ∙ all_shown m s x (k + 1) sound (none_travelling m s (k + 1) sound travels)

    pub image_size : (seats : List Seat) → FitsDesk m n here seats s → length slot.image.bytes.items ≡ segment_len m.geometry
    image_size seats desk =
        let ts : List Transaction = up_to x.disks s (k + 1) (x.applied n (k + 1)) in
        let shape = shape-effects ts (base m s) ∙ sym (shape-effects (transactions s.history) (base m s)) ∙ ap (map length) (sym (effects-append s.earlier (transactions s.history) m.start)) ∙ desk.shape in
        let known = slice_get_within here.slots.items k slot at in
        let many = sym (length-map here.slots.items beside) ∙ h.count in
        ap length picture.1 ∙ part-replicate (k + 1) m.geometry.segments (segment_len m.geometry) (effects ts (base m s)) shape (omega arith) (omega (arith, known, many))

    pub waits : (seats : List Seat) (token : Token) → FitsDesk m n here seats s → FitsToken m (k + 1) token s x → s.place (k + 1) ≡ Travelling → Sound m.geometry s → Waits m token slot s
    waits seats token desk its travels sound = record {
      travels = ap s.place its.segment_is ∙ travels;
      unheld = image_free;
      size = image_size seats desk;
      shown = λ reached. image_shown token its reached travels sound ∙ ap (λ (i : ℕ). segment_of i (value m.start s.earlier s.history)) (sym its.segment_is);
    }
