-- Of nodes that run: a record that is closed: what it makes of the tokens' numbers, of the node's slots, and of those
-- of the others.
use Rattle.std.proofs.Common.{◌≡◌, ℕ, zero, suc, ◌+◌, ◌-◌, ◌*◌, ◌<◌, ◌≤◌, Bool, true, false, not, List, [], ◌∷◌, map, take, length, filter, find, Option, Some, None, All, AllPairs, IsTrue, refl, sym, ap, subst, ◌∙◌, inl, inr, arith, add-one, true≢false}
use Rattle.std.specs.Prelude.{◌^◌, ◌&&◌, ◌↔◌, ◌==◌, nat_lt, max, slice_get, option_map, IsSome, MatchBool, MatchOption, if◌then◌else◌}
use Rattle.std.specs.List.{AllByRecursion}
use Rattle.std.specs.Option.{unwrap_or}
use Rattle.std.proofs.lemmas.Bool.{and_from, eq-eqb, eqb-true, false_from_ne_true, lt-ltb, ne_eqb, or_cases, or_left, or_right}
use Rattle.std.proofs.lemmas.List.{length-map}
use Rattle.std.proofs.lemmas.Option.{slice_get-map, slice_get_within, same_Some as same_some}
use Rattle.std.proofs.lemmas.List.Elements.{All-nil, All-head, All-tail, All-map, All-filter, All-from_recursion, All-weaker}
use Rattle.lc_log.specs.LogText.{IsWhole}
use Rattle.lc_page.specs.PageVector.{entry_at, entry_text, touched_at}
use Rattle.lc_page.specs.declared.page_entry.PageEntry.{PageEntry}
use Rattle.lc_range.specs.RangeSet.{Has, IsCanonical}
use Rattle.lc_range.specs.declared.range.Range.{Range}
use Rattle.lc_record.specs.Content.{Content, segment_of}
use Rattle.lc_record.specs.Newest.{number_or_zero}
use Rattle.lc_record.specs.Part.{number_in as lock_number_in}
use Rattle.lc_record.specs.declared.part.Part.{Part}
use Rattle.lc_record.specs.Record.{IsLock}
use Rattle.lc_record.specs.Recorded.{record_of, records_from, counted, locks_of}
use Rattle.lc_record.specs.Transaction.{Transaction, all_set, IsWellFormed, effect, effects}
use Rattle.lc_record.specs.declared.record.Lock.{Lock}
use Rattle.lc_record.proofs.LockLemmas.{lock_holds}
use Rattle.lc_record.proofs.ListLemmas.{slice_get_some as get-some, same_Bool as same_truth, All-append_right as All-right}
use Rattle.lc_model.specs.History.{Entry as HistoryEntry, History, transactions}
use Rattle.lc_model.specs.Merging.{sets, counted_all, is_from}
use Rattle.lc_model.specs.Refusals.{is_at}
use Rattle.lc_model.specs.Sound.{IsHere as HasItsPlaces, Sound, IsClosedBefore, IsProper, unclosed}
use Rattle.lc_model.specs.State.{At, Setting, State, is_by}
use Rattle.lc_model.specs.Stored.{base, records_of}
use Rattle.lc_model.proofs.Fronts.{entry, transactions-closed}
use Rattle.lc_model.proofs.Holders.{is_by-both}
use Rattle.lc_model.proofs.Law.{AllPairs-head, AllPairs-tail}
use Rattle.lc_model.proofs.Lists.{All-from_map, found-all, found-passes}
use Rattle.lc_model.proofs.Merging.{counted-length}
use Rattle.lc_model.proofs.RecordBytes.{place-set, record-number, set-place, sets-locks}
use Rattle.lc_token.specs.Backlog.{Ascends, Backlog, parts_above}
use Rattle.lc_token.specs.Standing.{Standing}
use Rattle.lc_token.specs.declared.token.Token.{Token}
use Rattle.lc_token.specs.Clean.{closed_of}
use Rattle.lc_tx.specs.Images.{IsHere}
use Rattle.lc_events.specs.Beside.{BesideSlots}
use Rattle.lc_desk.specs.Counts.{Counts, CountsAll, CountsSlot, CountsToken, countable, countable_in, names, names_page}
use Rattle.lc_desk.specs.Desk.{FitsDesk}
use Rattle.lc_desk.specs.Here.{beside, hidden, number_at, number_in, number_of, the_images}
use Rattle.lc_settled.specs.Numbers.{Numbers, sets_on, stable, token_number}
use Rattle.lc_desk.specs.Slots.{Awaits, Besides, FitsSlot, FitsSlots, FitsToken, besides_of, segment_to}
use Rattle.lc_settled.specs.Turns.{with_record}
use Rattle.lc_desk.specs.declared.here.Here.{Here}
use Rattle.lc_desk.specs.Seat.{Seat}
use Rattle.lc_desk.specs.declared.segment_copy.SegmentCopy.{SegmentCopy}
use Rattle.lc_journal.proofs.Counted.{after, none_behind, on_place, place_on, setting, token_number_closed, unset_on}
use Rattle.lc_desk.proofs.Counted.{has_meets, meets_has}

-- The last number is not used

lock_most : (segment : ℕ) (locks : List Lock) → AllByRecursion IsLock locks → number_or_zero segment locks ≤ 2 ^ 60
lock_most segment [] each = omega arith
lock_most segment (lock ∷ locks) each =
    elim (lock.segment == segment) as (λ b. unwrap_or (if b then Some lock.seq else lock_number_in segment locks) 0 ≤ 2 ^ 60) [
      | true ↦ each.0.3
      | false ↦ lock_most segment locks each.1
    ]

counted_rises : (numbers : ℕ → ℕ) (u : Transaction) (ts : List Transaction) (segment : ℕ) → counted_all numbers ts segment ≤ counted_all (counted numbers u) ts segment
counted_rises numbers u ts segment =
    let one : counted_all numbers ts segment ≡ numbers segment + setting segment ts = counted-length numbers ts segment in
    let two : counted_all (counted numbers u) ts segment ≡ counted numbers u segment + setting segment ts = counted-length (counted numbers u) ts segment in
    let rises : numbers segment ≤ counted numbers u segment =
    elim (sets segment u) as (λ b. numbers segment ≤ (if b then numbers segment + 1 else numbers segment)) [ true ↦ omega arith | false ↦ omega arith ] in
    omega (arith, one, two, rises)

module _ (n i segment : ℕ) (t : Transaction) (set : sets segment t ≡ true) where
  abbrev Wholes : (ℕ → ℕ) → Content → List Transaction → Type 0
  Wholes numbers content ts = All IsWhole (filter (is_from n) (records_from numbers content ts))

  whole_behind : (numbers : ℕ → ℕ) (content : Content) (u : Transaction) (ts : List Transaction) → Wholes numbers content (u ∷ ts) → Wholes (counted numbers u) (effect u content) ts
  whole_behind numbers content u ts whole =
      elim (u.node == n) as (λ b. All IsWhole (if b then record_of numbers content u ∷ filter (is_from n) (records_from (counted numbers u) (effect u content) ts) else filter (is_from n) (records_from (counted numbers u) (effect u content) ts))
      → Wholes (counted numbers u) (effect u content) ts) [
        | true ↦ λ all. All-tail IsWhole (record_of numbers content u) (filter (is_from n) (records_from (counted numbers u) (effect u content) ts)) all
        | false ↦ λ all. all
      ] whole

  unspent_one : (numbers : ℕ → ℕ) (content : Content) (u : Transaction) (closed : Bool) (es : History) → All IsWellFormed (transactions (entry u closed ∷ es)) → AllPairs IsClosedBefore (entry u closed ∷ es)
      → find (is_by n i) (unclosed (entry u closed ∷ es)) ≡ Some t → Wholes numbers content (transactions (entry u closed ∷ es))
      → (find (is_by n i) (unclosed es) ≡ Some t → counted_all (counted numbers u) (closed_of es) segment < 2 ^ 60)
      → counted_all numbers (closed_of (entry u closed ∷ es)) segment < 2 ^ 60
  unspent_one numbers content u true es well closed found whole next = next found
  unspent_one numbers content u false es well closed found whole next =
      elim (is_by n i u) as (λ b. is_by n i u ≡ b → counted_all numbers (closed_of es) segment < 2 ^ 60) [
        | true ↦ λ own.
            let same : u ≡ t = (let some : Some u ≡ Some t = rw own at found in cc) in
            let its : IsWhole (record_of numbers content u) = All-head IsWhole (record_of numbers content u) (filter (is_from n) (records_from (counted numbers u) (effect u content) (transactions es)))
            (subst (λ b. All IsWhole (if b then record_of numbers content u ∷ filter (is_from n) (records_from (counted numbers u) (effect u content) (transactions es)) else filter (is_from n) (records_from (counted numbers u) (effect u content) (transactions es))))
            (eq-eqb u.node n (is_by-both n i u own).0) whole) in
            let most : number_or_zero segment (locks_of numbers 1 u.marks) ≤ 2 ^ 60 = lock_most segment (locks_of numbers 1 u.marks) its.canonical.each_lock in
            let number : number_or_zero segment (locks_of numbers 1 u.marks) ≡ numbers segment + 1 =
            record-number numbers segment u ∙ ap (λ b. if b then numbers segment + 1 else 0) (ap (sets segment) same ∙ set) in
            let none : setting segment (closed_of es) ≡ 0 = (none_behind n i segment t set) es (subst IsWellFormed same (All-head IsWellFormed u (transactions es) well)) (All-tail IsWellFormed u (transactions es) well)
            (subst (λ v. All (IsClosedBefore (entry v false)) es) same (AllPairs-head IsClosedBefore (entry u false) es closed)) in
            let is : counted_all numbers (closed_of es) segment ≡ numbers segment + setting segment (closed_of es) = counted-length numbers (closed_of es) segment in
            omega (arith, most, number, none, is)
        | false ↦ λ other.
            let later : counted_all (counted numbers u) (closed_of es) segment < 2 ^ 60 = next (rw other at found) in
            let rises : counted_all numbers (closed_of es) segment ≤ counted_all (counted numbers u) (closed_of es) segment = counted_rises numbers u (closed_of es) segment in
            omega (arith, later, rises)
      ] refl

  unspent_from : (numbers : ℕ → ℕ) (content : Content) (history : History) → All IsWellFormed (transactions history) → AllPairs IsClosedBefore history → find (is_by n i) (unclosed history) ≡ Some t
      → Wholes numbers content (transactions history) → counted_all numbers (closed_of history) segment < 2 ^ 60
  unspent_from numbers content [] well closed found whole = absurd cc
  unspent_from numbers content (e ∷ es) well closed found whole = unspent_one numbers content e.transaction e.closed es well closed found whole
      (λ later. unspent_from (counted numbers e.transaction) (effect e.transaction content) es (All-tail IsWellFormed e.transaction (transactions es) well) (AllPairs-tail IsClosedBefore e es closed) later
      (whole_behind numbers content e.transaction (transactions es) whole))

-- a reservation's record has a number of each segment that it set, so the tokens there have a number left
pub unspent_of : (m : Setting) (n i segment : ℕ) (s : State) (x : Numbers) (t : Transaction) → Sound m.geometry s → find (is_by n i) (unclosed s.history) ≡ Some t
    → AllByRecursion IsWhole (records_of m s x.disks n) → sets segment t ≡ true → token_number s x segment < 2 ^ 60
unspent_of m n i segment s x t sound found whole set =
    unspent_from n i segment t set x.disks.numbers (base m s) s.history (All-weaker (IsProper m.geometry) IsWellFormed (λ u proper. proper.well) (transactions s.history) sound.history_proper) sound.earlier_closed found
    (All-from_recursion IsWhole (records_of m s x.disks n) whole)

-- Ranges

named_has : (segment : ℕ) (ranges : List Range) → IsCanonical ranges → names segment ranges ≡ true → (k : ℕ) × Has ranges segment k
named_has segment [] canonical named = absurd (true≢false (sym named))
named_has segment (r ∷ rs) canonical named = elim (or_cases (r.segment == segment) (names segment rs) named) [
  | inl own ↦ (r.offset, inl (sym (eqb-true r.segment segment own), omega arith, omega (arith, canonical.0)))
  | inr later ↦ (let behind : (k : ℕ) × Has rs segment k = named_has segment rs canonical.2 later in (behind.0, inr behind.1))
]

has_named : (segment k : ℕ) (ranges : List Range) → Has ranges segment k → names segment ranges ≡ true
has_named segment k [] has = absurd has
has_named segment k (r ∷ rs) (inl own) = or_left (r.segment == segment) (names segment rs) (eq-eqb r.segment segment (sym own.0))
has_named segment k (r ∷ rs) (inr later) = or_right (r.segment == segment) (names segment rs) (has_named segment k rs later)

module _ (t : Transaction) (ranges : List Range) (canonical : IsCanonical ranges) (has : (segment k : ℕ) → Has ranges segment k ↔ IsTrue (all_set k 1 (segment_of segment t.marks))) where
  pub names_is : (segment : ℕ) → names segment ranges ≡ sets segment t
  names_is segment = same_truth (names segment ranges) (sets segment t)
      (λ named. let at = named_has segment ranges canonical named in place-set (segment_of segment t.marks) at.0 ((has segment at.0).0 at.1))
      (λ set. let at = set-place (segment_of segment t.marks) set in has_named segment at.0 ranges ((has segment at.0).1 at.1))

  pub names_page_is : (segment page : ℕ) → names_page segment page ranges ≡ sets_on segment page t
  names_page_is segment page = same_truth (names_page segment page ranges) (sets_on segment page t)
      (λ named. let at = meets_has segment (page * 256) (page * 256 + 256) ranges canonical (omega arith) named in place_on segment page at.0 t at.1 at.2 ((has segment at.0).0 at.3))
      (λ set. let at = on_place segment page t set in has_meets segment (page * 256) (page * 256 + 256) at.0 ranges at.1 at.2 ((has segment at.0).1 at.3))

-- The slots

none_waits : (m : Setting) (s : State) (x : Numbers) (segment low : ℕ) (parts : List Part) → Ascends low parts → All (Awaits m s x segment) parts → low ≡ token_number s x segment → parts ≡ []
none_waits m s x segment low [] up waits same = refl
none_waits m s x segment low (part ∷ parts) up waits same =
    let most : part.seq ≤ token_number s x segment = (All-head (Awaits m s x segment) part parts waits).closed in
    absurd (omega (arith, up.0, most, same))

counts : (slot : SegmentCopy) (token : Token) → slot.token.token ≡ Some token → token.seq < 2 ^ 60 → token.seq ≡ slot.parts.applied → countable slot ≡ Some token
counts slot token is few same =
    ap (countable_in slot.parts.applied) is
    ∙ ap (λ b. if b then Some token else None) (and_from (nat_lt token.seq (2 ^ 60)) (token.seq == slot.parts.applied) (lt-ltb token.seq (2 ^ 60) few) (eq-eqb token.seq slot.parts.applied same))

token_in : (o : Option Token) → IsSome (number_in o) → (token : Token) × (o ≡ Some token)
token_in None is = absurd cc
token_in (Some token) is = (token, refl)

module _ (m : Setting) (n i : ℕ) (s : State) (x : Numbers) (t : Transaction) (sound : Sound m.geometry s) (found : find (is_by n i) (unclosed s.history) ≡ Some t) where
  abbrev y : Numbers
  y = with_record s x n t

  number_unset : (segment : ℕ) → sets segment t ≡ false → token_number (after m n i s x t sound found) y segment ≡ token_number s x segment
  number_unset segment unset = token_number_closed m.geometry s x n i segment t sound found ∙ ap (λ b. if b then token_number s x segment + 1 else token_number s x segment) unset

  number_set : (segment : ℕ) → sets segment t ≡ true → token_number (after m n i s x t sound found) y segment ≡ token_number s x segment + 1
  number_set segment set = token_number_closed m.geometry s x n i segment t sound found ∙ ap (λ b. if b then token_number s x segment + 1 else token_number s x segment) set

  rises : (segment : ℕ) → token_number s x segment ≤ token_number (after m n i s x t sound found) y segment
  rises segment = elim (sets segment t) as (λ b. sets segment t ≡ b → token_number s x segment ≤ token_number (after m n i s x t sound found) y segment) [
    | true ↦ λ set. omega (arith, number_set segment set)
    | false ↦ λ unset. omega (arith, number_unset segment unset)
  ] refl

  awaits : (segment : ℕ) (part : Part) → Awaits m s x segment part → Awaits m (after m n i s x t sound found) y segment part
  awaits segment part h = record {
    place = h.place;
    whole = h.whole;
    found = ap (λ ts. slice_get (records_from x.disks.numbers (base m s) ts) h.place) (transactions-closed n i s.history) ∙ h.found;
    part_is = h.part_is;
    closed = (let most : part.seq ≤ token_number s x segment = h.closed in omega (arith, most, rises segment));
  }

  shown : (segment number : ℕ) → segment_to m (after m n i s x t sound found) y.disks segment number ≡ segment_to m s x.disks segment number
  shown segment number = ap (λ ts. segment_of segment (effects (take (number - x.disks.numbers segment) (filter (sets segment) ts)) (base m s))) (transactions-closed n i s.history)

  token_kept : (segment : ℕ) (token : Token) → sets segment t ≡ false → FitsToken m segment token s x → FitsToken m segment token (after m n i s x t sound found) y
  token_kept segment token unset h = record {
    segment_is = h.segment_is;
    number = h.number ∙ sym (number_unset segment unset);
    small = h.small;
    clean = h.clean;
    pages = h.pages;
    touched = λ page within. h.touched page within
        ∙ sym (ap (λ b. if b then max (x.touched segment page) (token_number s x segment + 1) else x.touched segment page) (unset_on segment page t unset));
    stable_is = h.stable_is;
    text_is = h.text_is;
    uncounted = h.uncounted;
  }

  applied_unset : (segment : ℕ) → sets segment t ≡ false → y.applied n segment ≡ x.applied n segment
  applied_unset segment unset =
      ap (λ b. if b && sets segment t then token_number s x segment + 1 else x.applied n segment) (eq-eqb n n refl)
      ∙ ap (λ b. if b then token_number s x segment + 1 else x.applied n segment) unset

  applied_set : (segment : ℕ) → sets segment t ≡ true → y.applied n segment ≡ token_number s x segment + 1
  applied_set segment set =
      ap (λ b. if b && sets segment t then token_number s x segment + 1 else x.applied n segment) (eq-eqb n n refl)
      ∙ ap (λ b. if b then token_number s x segment + 1 else x.applied n segment) set

  -- a slot of a segment that it did not set stays
  slot_kept : (segment : ℕ) (b : Besides) → sets segment t ≡ false → FitsSlot m n segment b s x → FitsSlot m n segment b (after m n i s x t sound found) y
  slot_kept segment b unset h = record {
    applied = h.applied ∙ sym (applied_unset segment unset);
    within = (let most : x.applied n segment ≤ token_number s x segment = h.within in omega (arith, most, applied_unset segment unset, number_unset segment unset));
    waiting = h.waiting;
    ascends = h.ascends;
    parts = All-weaker (Awaits m s x segment) (Awaits m (after m n i s x t sound found) y segment) (awaits segment) b.1.kept h.parts;
    token = λ token is. (token_kept segment token unset (h.token token is).0, applied_unset segment unset ∙ (h.token token is).1 ∙ sym (number_unset segment unset));
    image = λ image is. ((h.image image is).0, (h.image image is).1 ∙ ap (segment_to m s x.disks segment) (sym (applied_unset segment unset)) ∙ sym (shown segment (y.applied n segment)));
  }

  module _ (ranges : List Range) (canonical : IsCanonical ranges) (has : (segment k : ℕ) → Has ranges segment k ↔ IsTrue (all_set k 1 (segment_of segment t.marks))) where
    token_counted : (segment : ℕ) (old new : Token) → sets segment t ≡ true → old.seq < 2 ^ 60 → FitsToken m segment old s x → CountsToken segment ranges old new → FitsToken m segment new (after m n i s x t sound found) y
    token_counted segment old new set few h c = record {
      segment_is = c.same_segment ∙ h.segment_is;
      number = c.next ∙ ap (λ k. k + 1) h.number ∙ sym (number_set segment set);
      small = omega (arith, c.next, few);
      clean = c.same_clean ∙ h.clean;
      pages = c.same_count ∙ h.pages;
      touched = λ page within. ap (λ (e : PageEntry). e.touched) (entry page within)
          ∙ elim (sets_on segment page t) as (λ b. (if b then touched_at (entry_at old.pages page) (old.seq + 1) else entry_at old.pages page).touched
          ≡ (if b then max (x.touched segment page) (token_number s x segment + 1) else x.touched segment page)) [
            | true ↦ ap (λ k. max k (old.seq + 1)) (h.touched page within) ∙ ap (λ k. max (x.touched segment page) (k + 1)) h.number
            | false ↦ h.touched page within
          ];
      stable_is = λ page within. ap (λ (e : PageEntry). e.stable) (entry page within)
          ∙ elim (sets_on segment page t) as (λ b. (if b then touched_at (entry_at old.pages page) (old.seq + 1) else entry_at old.pages page).stable ≡ stable x segment page) [
            | true ↦ h.stable_is page within
            | false ↦ h.stable_is page within
          ];
      text_is = λ page within. ap entry_text (entry page within)
          ∙ elim (sets_on segment page t) as (λ b. entry_text (if b then touched_at (entry_at old.pages page) (old.seq + 1) else entry_at old.pages page) ≡ x.texts segment page) [
            | true ↦ h.text_is page within
            | false ↦ h.text_is page within
          ];
      uncounted = λ page within. ap (λ (e : PageEntry). e.uncommitted) (entry page within)
          ∙ elim (sets_on segment page t) as (λ b. (if b then touched_at (entry_at old.pages page) (old.seq + 1) else entry_at old.pages page).uncommitted ≡ 0) [
            | true ↦ h.uncounted page within
            | false ↦ h.uncounted page within
          ];
    }
      where
        entry : (page : ℕ) → page < m.geometry.pages → entry_at new.pages page ≡ (if sets_on segment page t then touched_at (entry_at old.pages page) (old.seq + 1) else entry_at old.pages page)
        entry page within = c.entries page (subst (λ k. page < k) (sym h.pages) within)
            ∙ ap (λ b. if b then touched_at (entry_at old.pages page) (old.seq + 1) else entry_at old.pages page) (names_page_is t ranges canonical has segment page)

    slot_counted : (segment : ℕ) (token : Token) (old new : SegmentCopy) → sets segment t ≡ true → old.token.token ≡ Some token → token.seq < 2 ^ 60 → FitsSlot m n segment (beside old) s x → CountsSlot segment ranges token old new
        → FitsSlot m n segment (beside new) (after m n i s x t sound found) y
    slot_counted segment token old new set is few h c = record {
      applied = ap (λ (p : Backlog). p.applied) c.parts_are ∙ ap (λ k. k + 1) fits.number ∙ sym (applied_set segment set);
      within = omega (arith, applied_set segment set, number_set segment set);
      waiting = ap (map (λ (p : Part). p.seq)) none_after ∙ sym (ap (map (λ (p : Part). p.seq)) none) ∙ h.waiting;
      ascends = subst (Ascends new.parts.applied) (sym none_after) tt;
      parts = subst (All (Awaits m (after m n i s x t sound found) y segment)) (sym none_after) (All-nil (Awaits m (after m n i s x t sound found) y segment));
      token = λ other at. (
        subst (λ k. FitsToken m segment k (after m n i s x t sound found) y) (same_some c.after other (sym (ap (λ (p : Standing). p.token) c.token_is) ∙ at)) (token_counted segment token c.after set few fits c.counts),
        applied_set segment set ∙ sym (number_set segment set),
      );
      image = λ image at. absurd (let no : None ≡ Some image = sym (ap (λ (p : Standing). hidden (number_in p.token) new.image) c.token_is) ∙ at in cc);
    }
      where
        fits : FitsToken m segment token s x
        fits = (h.token token is).0

        none : old.parts.kept ≡ []
        none = none_waits m s x segment old.parts.applied old.parts.kept h.ascends h.parts (h.applied ∙ (h.token token is).1)

        none_after : new.parts.kept ≡ []
        none_after = ap (λ (p : Backlog). p.kept) c.parts_are ∙ ap (parts_above (token.seq + 1)) none

    module _ (few : (segment : ℕ) → sets segment t ≡ true → token_number s x segment < 2 ^ 60) where
      slot_after : (segment : ℕ) (old new : SegmentCopy) → (sets segment t ≡ true → IsSome (number_in old.token.token)) → FitsSlot m n segment (beside old) s x → Counts segment ranges old new → FitsSlot m n segment (beside new) (after m n i s x t sound found) y
      slot_after segment old new here h c = elim (sets segment t) as (λ b. sets segment t ≡ b → FitsSlot m n segment (beside new) (after m n i s x t sound found) y) [
        | true ↦ λ set.
            let at : (token : Token) × (old.token.token ≡ Some token) = token_in old.token.token (here set) in
            let fits = h.token at.0 at.1 in
            let low : at.0.seq < 2 ^ 60 = subst (λ k. k < 2 ^ 60) (sym fits.0.number) (few segment set) in
            let one : CountsSlot segment ranges at.0 old new =
            subst (λ o. MatchOption o (new ≡ old) (λ token. CountsSlot segment ranges token old new))
            (counts old at.0 at.1 low (fits.0.number ∙ sym fits.1 ∙ sym h.applied))
            (subst (λ b. MatchBool b (MatchOption (countable old) (new ≡ old) (λ token. CountsSlot segment ranges token old new)) (new ≡ old)) (names_is t ranges canonical has segment ∙ set) c) in
            slot_counted segment at.0 old new set at.1 low h one
        | false ↦ λ unset.
            let same : new ≡ old = subst (λ b. MatchBool b (MatchOption (countable old) (new ≡ old) (λ token. CountsSlot segment ranges token old new)) (new ≡ old)) (names_is t ranges canonical has segment ∙ unset) c in
            slot_kept segment (beside new) unset (subst (λ z. FitsSlot m n segment (beside z) s x) (sym same) h)
      ] refl

      -- the node's own slots after the close of a record
      pub slots_counted : (old new : Here) → ((segment : ℕ) → sets segment t ≡ true → IsHere the_images old segment) → CountsAll ranges old.slots.items new.slots.items
          → FitsSlots m n (besides_of old) s x → FitsSlots m n (besides_of new) (after m n i s x t sound found) y
      slots_counted old new here each h = record {
        count = length-map new.slots.items beside ∙ each.same_length ∙ sym (length-map old.slots.items beside) ∙ h.count;
        each = λ k b at.
            let now : (slot : SegmentCopy) × (slice_get new.slots.items k ≡ Some slot) × (beside slot ≡ b) = got new.slots.items k b at in
            let within : k < length new.slots.items = slice_get_within new.slots.items k now.0 now.1 in
            let was : (slot : SegmentCopy) × (slice_get old.slots.items k ≡ Some slot) = get-some old.slots.items k (subst (λ l. k < l) each.same_length within) in
            let one = each.each k was.0 was.1 in
            let same : one.0 ≡ now.0 = same_some one.0 now.0 (sym one.1 ∙ now.1) in
            subst (λ z. FitsSlot m n (k + 1) z (after m n i s x t sound found) y) now.2
            (slot_after (k + 1) was.0 now.0
            (λ set. subst (λ o. IsSome (number_at o)) was.1 (subst (λ j. IsSome (number_of old.slots.items j)) (add-one k) (here (k + 1) set)))
            (h.each k (beside was.0) (slice_get-map beside old.slots.items k ∙ ap (option_map beside) was.1))
            (subst (λ z. Counts (k + 1) ranges was.0 z) same one.2));
      }
        where
          got : (slots : List SegmentCopy) (k : ℕ) (b : Besides) → slice_get (map beside slots) k ≡ Some b → (slot : SegmentCopy) × (slice_get slots k ≡ Some slot) × (beside slot ≡ b)
          got [] k b at = absurd cc
          got (slot ∷ slots) zero b at = (slot, refl, same_some (beside slot) b at)
          got (slot ∷ slots) (suc k) b at = got slots k b at

  -- The slots of the other nodes

  its_proper : IsProper m.geometry t
  its_proper = found-all (is_by n i) (IsProper m.geometry) (unclosed s.history) t found (proper_unclosed s.history sound.history_proper)
    where
      proper_unclosed : (history : History) → All (IsProper m.geometry) (transactions history) → All (IsProper m.geometry) (unclosed history)
      proper_unclosed history proper = All-map (IsProper m.geometry) (λ (e : HistoryEntry). e.transaction) (filter (λ (e : HistoryEntry). not e.closed) history)
          (All-filter (λ (e : HistoryEntry). not e.closed) (λ (e : HistoryEntry). IsProper m.geometry e.transaction) history (All-from_map (IsProper m.geometry) (λ (e : HistoryEntry). e.transaction) history proper))

  -- the token of what it set is at its node
  pub set_here : (segment : ℕ) → sets segment t ≡ true → s.place segment ≡ At n
  set_here segment set = its_place segment (lock_holds t segment (sets-locks t segment its_proper.well set)) ∙ ap At (is_by-both n i t (found-passes (is_by n i) (unclosed s.history) t found)).0
    where
      its_place : HasItsPlaces s.place t
      its_place = found-all (is_by n i) (HasItsPlaces s.place) (unclosed s.history) t found (All-right (HasItsPlaces s.place) s.running (unclosed s.history) sound.holders_here)

  unset_away : (segment : ℕ) → (s.place segment ≡ At n → ⊥) → sets segment t ≡ false
  unset_away segment away = false_from_ne_true (sets segment t) (λ set. away (set_here segment set))

  -- and so it is among the images of the node's desk
  pub set_at_desk : (here : Here) (seats : List Seat) → FitsDesk m n here seats s → (segment : ℕ) → sets segment t ≡ true → IsHere the_images here segment
  set_at_desk here seats h segment set =
      let bounds = its_proper.segments_known segment (lock_holds t segment (sets-locks t segment its_proper.well set)) in
      elim (the_images.number_of here segment) as (λ o. the_images.number_of here segment ≡ o → IsSome o) [
        | None ↦ λ none. absurd (true≢false (sym (ap (is_at n) (set_here segment set) ∙ eq-eqb n n refl) ∙ h.elsewhere segment bounds.0 bounds.1 none))
        | Some number ↦ λ some. refl
      ] refl

  pub aside_closed : BesideSlots m n s x (after m n i s x t sound found) y
  aside_closed = record {
    applied = λ other segment differ. ap (λ b. if b && sets segment t then token_number s x segment + 1 else x.applied other segment) (ne_eqb other n differ);
    waiting = λ other segment differ. refl;
    rises = rises;
    parts = awaits;
    shown = λ segment number within. shown segment number;
    number = λ segment away. number_unset segment (unset_away segment away);
    tokens = λ segment token away fits. token_kept segment token (unset_away segment away) fits;
  }
