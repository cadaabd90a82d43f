-- A closed record in the slots of its segments, one range after another.
use Rattle.std.proofs.Common.{◌≡◌, ◌≢◌, ◌⊎◌, inl, inr, ◌<◌, ◌≤◌, ◌+◌, ℕ, zero, suc, max, List, [], ◌∷◌, ◌++◌, length, map, take, Bool, true, false, ◌||◌, ◌&&◌, ◌==◌, Some, None, if◌then◌else◌, ap, sym, refl, subst, ◌∙◌, arith}
use Rattle.std.proofs.lemmas.Bool.{both_ways, cases_Bool, cases_eq, eq-eqb, eqb-true, ne_eqb, or_cases, MatchBool-at_true, MatchBool-at_false, or_parts as or_clear}
use Rattle.std.proofs.lemmas.List.{length-set}
use Rattle.std.proofs.lemmas.List.Folds.{list_any-append}
use Rattle.std.proofs.lemmas.Option.{slice_get_within as within, same_Some as same_some}
use Rattle.std.specs.Prelude.{slice_set, slice_get, Option, MatchBool, MatchOption}
use Rattle.std.proofs.Math.Bool.{or-false as or_none, or-true as or_set}
use Rattle.lc_page.specs.declared.page_entry.PageEntry.{PageEntry}
use Rattle.lc_page.specs.PageVector.{entry_at, touched_at}
use Rattle.lc_range.specs.declared.range.Range.{Range}
use Rattle.lc_range.specs.RangeSet.{IsCanonical, LiesBefore}
use Rattle.lc_token.specs.Standing.{Standing}
use Rattle.lc_token.specs.declared.token.Token.{Token}
use Rattle.lc_record.proofs.ListLemmas.{slice_get_some as there}
use Rattle.lc_desk.specs.Places.{get_set_other, get_set_same}
use Rattle.lc_desk.specs.declared.segment_copy.SegmentCopy.{SegmentCopy}
use Rattle.lc_desk.specs.Counts.{Counts, CountsAll, CountsSlot, CountsToken, TouchesSlot, TouchesToken, countable, counting, is_on, names, names_page}

-- what one range more names

names_other : (segment : ℕ) (done : List Range) (r : Range) → r.segment ≢ segment → names segment (done ++ r ∷ []) ≡ names segment done
names_other segment done r differ =
    list_any-append (λ (q : Range). q.segment == segment) done (r ∷ [])
    ∙ ap (λ b. names segment done || (b || false)) (ne_eqb r.segment segment differ)
    ∙ or_none (names segment done)

names_own : (segment : ℕ) (done : List Range) (r : Range) → r.segment ≡ segment → names segment (done ++ r ∷ []) ≡ true
names_own segment done r same =
    list_any-append (λ (q : Range). q.segment == segment) done (r ∷ [])
    ∙ ap (λ b. names segment done || (b || false)) (eq-eqb r.segment segment same)
    ∙ or_set (names segment done)

pages_other : (segment page : ℕ) (done : List Range) (r : Range) → r.segment ≢ segment → names_page segment page (done ++ r ∷ []) ≡ names_page segment page done
pages_other segment page done r differ =
    list_any-append (λ (q : Range). (q.segment == segment) && is_on q.offset q.len page) done (r ∷ [])
    ∙ ap (λ b. names_page segment page done || ((b && is_on r.offset r.len page) || false)) (ne_eqb r.segment segment differ)
    ∙ or_none (names_page segment page done)

pages_own : (segment page : ℕ) (done : List Range) (r : Range) → r.segment ≡ segment
    → names_page segment page (done ++ r ∷ []) ≡ (names_page segment page done || is_on r.offset r.len page)
pages_own segment page done r same =
    list_any-append (λ (q : Range). (q.segment == segment) && is_on q.offset q.len page) done (r ∷ [])
    ∙ ap (λ b. names_page segment page done || ((b && is_on r.offset r.len page) || false)) (eq-eqb r.segment segment same)
    ∙ ap (λ b. names_page segment page done || b) (or_none (is_on r.offset r.len page))

pages_none : (segment page : ℕ) (done : List Range) → names segment done ≡ false → names_page segment page done ≡ false
pages_none segment page [] none = refl
pages_none segment page (r ∷ done) none =
    let both = or_clear (r.segment == segment) (names segment done) none in
    ap (λ b. (b && is_on r.offset r.len page) || names_page segment page done) both.0 ∙ pages_none segment page done both.1

-- an outcome of a slot: what `Counts` says where a range names its segment, and whether it counted
pub record Outcome (segment : ℕ) (ranges : List Range) (flag : Bool) (old new : SegmentCopy) : Type 0 where
  pub is : MatchOption (countable old) ((new ≡ old) × (flag ≡ false)) (λ token. CountsSlot segment ranges token old new × (flag ≡ true))

map_option : {A : Type 0} (o : Option A) (P P' : Type 0) (Q Q' : A → Type 0) → (P → P') → ((x : A) → Q x → Q' x) → MatchOption o P Q → MatchOption o P' Q'
map_option None P P' Q Q' f g h = f h
map_option (Some x) P P' Q Q' f g h = g x h

-- a segment that no range names stays
stays : (segment : ℕ) (ranges : List Range) (old new : SegmentCopy) → names segment ranges ≡ false → Counts segment ranges old new → new ≡ old
stays segment ranges old new none h = MatchBool-at_false (MatchOption (countable old) (new ≡ old) (λ token. CountsSlot segment ranges token old new)) (new ≡ old) none h

counts_none : (segment : ℕ) (ranges : List Range) (old new : SegmentCopy) → names segment ranges ≡ false → new ≡ old → Counts segment ranges old new
counts_none segment ranges old new none same =
    subst (λ (b : Bool). MatchBool b (MatchOption (countable old) (new ≡ old) (λ token. CountsSlot segment ranges token old new)) (new ≡ old)) (sym none) same

counts_some : (segment : ℕ) (ranges : List Range) (old new : SegmentCopy) → names segment ranges ≡ true
    → MatchOption (countable old) (new ≡ old) (λ token. CountsSlot segment ranges token old new) → Counts segment ranges old new
counts_some segment ranges old new some h =
    subst (λ (b : Bool). MatchBool b (MatchOption (countable old) (new ≡ old) (λ token. CountsSlot segment ranges token old new)) (new ≡ old)) (sym some) h

counts_from : (segment : ℕ) (ranges : List Range) (flag : Bool) (old new : SegmentCopy) → names segment ranges ≡ true → Outcome segment ranges flag old new → Counts segment ranges old new
counts_from segment ranges flag old new some h =
    counts_some segment ranges old new some
    (map_option (countable old) _ _ _ _ (λ p. p.0) (λ token p. p.0) h.is)

-- a range of another segment

token_other : (segment : ℕ) (done : List Range) (r : Range) (old new : Token) → r.segment ≢ segment → CountsToken segment done old new → CountsToken segment (done ++ r ∷ []) old new
token_other segment done r old new differ h = record {
  same_segment = h.same_segment;
  same_clean = h.same_clean;
  next = h.next;
  same_count = h.same_count;
  entries = λ page among.
      h.entries page among
      ∙ ap (λ (b : Bool). if b then touched_at (entry_at old.pages page) (old.seq + 1) else entry_at old.pages page) (sym (pages_other segment page done r differ));
}

slot_other : (segment : ℕ) (done : List Range) (r : Range) (token : Token) (old new : SegmentCopy) → r.segment ≢ segment
    → CountsSlot segment done token old new → CountsSlot segment (done ++ r ∷ []) token old new
slot_other segment done r token old new differ h = record {
  same_image = h.same_image;
  after = h.after;
  token_is = h.token_is;
  counts = token_other segment done r token h.after differ h.counts;
  parts_are = h.parts_are;
}

outcome_other : (segment : ℕ) (done : List Range) (r : Range) (flag : Bool) (old new : SegmentCopy) → r.segment ≢ segment
    → Outcome segment done flag old new → Outcome segment (done ++ r ∷ []) flag old new
outcome_other segment done r flag old new differ h = record {
  is = map_option (countable old) _ _ _ _ (λ p. p) (λ token p. (slot_other segment done r token old new differ p.0, p.1)) h.is;
}

counts_other : (segment : ℕ) (done : List Range) (r : Range) (old new : SegmentCopy) → r.segment ≢ segment → Counts segment done old new → Counts segment (done ++ r ∷ []) old new
counts_other segment done r old new differ h =
    let same = names_other segment done r differ in
    elim (cases_Bool (names segment done)) [
      | inl some ↦ counts_some segment (done ++ r ∷ []) old new (same ∙ some)
          (map_option (countable old) _ _ _ _ (λ p. p) (λ token p. slot_other segment done r token old new differ p)
          (MatchBool-at_true (MatchOption (countable old) (new ≡ old) (λ token. CountsSlot segment done token old new)) (new ≡ old) some h))
      | inr none ↦ counts_none segment (done ++ r ∷ []) old new (same ∙ none) (stays segment done old new none h)
    ]

-- the first range of a segment: its slot counts

token_first : (segment : ℕ) (done : List Range) (token : Token) → names segment done ≡ false → CountsToken segment done token (record token { seq = token.seq + 1 })
token_first segment done token none = record {
  same_segment = refl;
  same_clean = refl;
  next = refl;
  same_count = refl;
  entries = λ page among.
      ap (λ (b : Bool). if b then touched_at (entry_at token.pages page) (token.seq + 1) else entry_at token.pages page) (sym (pages_none segment page done none));
}

pub outcome_first : (segment : ℕ) (done : List Range) (flag : Bool) (old mid new : SegmentCopy) → names segment done ≡ false → mid ≡ old
    → MatchOption (countable mid) ((flag ≡ false) × (new ≡ mid)) (λ token. (flag ≡ true) × (new ≡ counting token mid)) → Outcome segment done flag old new
outcome_first segment done flag old mid new none same h =
    let from : MatchOption (countable old) ((flag ≡ false) × (new ≡ old)) (λ token. (flag ≡ true) × (new ≡ counting token old)) =
    subst (λ (s : SegmentCopy). MatchOption (countable s) ((flag ≡ false) × (new ≡ s)) (λ token. (flag ≡ true) × (new ≡ counting token s))) same h in record {
      is = map_option (countable old) _ _ _ _
          (λ p. (p.1, p.0))
          (λ token p. (
            record {
              same_image = ap (λ (s : SegmentCopy). s.image) p.1;
              after = record token { seq = token.seq + 1 };
              token_is = ap (λ (s : SegmentCopy). s.token) p.1;
              counts = token_first segment done token none;
              parts_are = ap (λ (s : SegmentCopy). s.parts) p.1;
            },
            p.0,
          ))
          from;
    }

-- its pages are changed

twice : (first second : Bool) (number : ℕ) (old mid new : PageEntry) → mid ≡ (if first then touched_at old number else old) → new ≡ (if second then touched_at mid number else mid)
    → new ≡ (if first || second then touched_at old number else old)
twice true true number old mid new one two =
    let same : max (max old.touched number) number ≡ max old.touched number = omega arith in
    two ∙ ap (λ (e : PageEntry). touched_at e number) one ∙ ap (λ (n : ℕ). record old { touched = n }) same
twice true false number old mid new one two = two ∙ one
twice false true number old mid new one two = two ∙ ap (λ (e : PageEntry). touched_at e number) one
twice false false number old mid new one two = two ∙ one

token_more : (segment : ℕ) (done : List Range) (r : Range) (old mid new : Token) → r.segment ≡ segment → CountsToken segment done old mid
    → TouchesToken r.offset r.len mid new → CountsToken segment (done ++ r ∷ []) old new
token_more segment done r old mid new same h t = record {
  same_segment = t.same_segment ∙ h.same_segment;
  same_clean = t.same_clean ∙ h.same_clean;
  next = t.same_seq ∙ h.next;
  same_count = t.same_count ∙ h.same_count;
  entries = λ page among.
      let there : page < length mid.pages = omega (arith, among, h.same_count) in
      twice (names_page segment page done) (is_on r.offset r.len page) (old.seq + 1) (entry_at old.pages page) (entry_at mid.pages page) (entry_at new.pages page)
      (h.entries page among)
      (t.entries page there
      ∙ ap (λ (n : ℕ). if is_on r.offset r.len page then touched_at (entry_at mid.pages page) n else entry_at mid.pages page) h.next)
      ∙ ap (λ (b : Bool). if b then touched_at (entry_at old.pages page) (old.seq + 1) else entry_at old.pages page) (sym (pages_own segment page done r same));
}

slot_more : (segment : ℕ) (done : List Range) (r : Range) (token : Token) (old mid new : SegmentCopy) → r.segment ≡ segment → CountsSlot segment done token old mid
    → MatchOption mid.token.token (new ≡ mid) (λ t. TouchesSlot r.offset r.len t mid new) → CountsSlot segment (done ++ r ∷ []) token old new
slot_more segment done r token old mid new same h touched =
    let t = subst (λ (o : Option Token). MatchOption o (new ≡ mid) (λ t. TouchesSlot r.offset r.len t mid new)) (ap (λ (p : Standing). p.token) h.token_is) touched in record {
      same_image = ap (λ (s : SegmentCopy). s.image) t.slot_is ∙ h.same_image;
      after = t.after;
      token_is = ap (λ (s : SegmentCopy). s.token) t.slot_is ∙ ap (λ (p : Standing). record p { token = Some t.after }) h.token_is;
      counts = token_more segment done r token h.after t.after same h.counts t.touches;
      parts_are = ap (λ (s : SegmentCopy). s.parts) t.slot_is ∙ h.parts_are;
    }

pub outcome_touched : (segment : ℕ) (done : List Range) (r : Range) (old mid new : SegmentCopy) → r.segment ≡ segment → (flag : Bool) → flag ≡ true
    → Outcome segment done flag old mid → MatchOption mid.token.token (new ≡ mid) (λ t. TouchesSlot r.offset r.len t mid new)
    → Outcome segment (done ++ r ∷ []) flag old new
outcome_touched segment done r old mid new same flag counted h touched = record {
  is = map_option (countable old) _ _ _ _
      (λ p. absurd (both_ways flag p.1 counted))
      (λ token p. (slot_more segment done r token old mid new same p.0 touched, p.1))
      h.is;
}

pub outcome_left : (segment : ℕ) (done : List Range) (r : Range) (old new : SegmentCopy) (flag : Bool) → flag ≡ false
    → Outcome segment done flag old new → Outcome segment (done ++ r ∷ []) flag old new
outcome_left segment done r old new flag clear h = record {
  is = map_option (countable old) _ _ _ _ (λ p. p) (λ token p. absurd (both_ways flag clear p.1)) h.is;
}

-- the slots after a part of the ranges, the last of them of this segment; `flag` says whether its slot counted
pub record CountsSome (done : List Range) (segment : ℕ) (flag : Bool) (old now : List SegmentCopy) : Type 0 where
  pub all : CountsAll done old now
  pub reached : (k : ℕ) → k < length old → names (k + 1) done ≡ true → k + 1 ≤ segment
  pub named : (segment ≡ 0) ⊎ (names segment done ≡ true)
  pub outcome : (k : ℕ) (slot after : SegmentCopy) → k + 1 ≡ segment → slice_get old k ≡ Some slot → slice_get now k ≡ Some after → Outcome segment done flag slot after

pub none_done : (flag : Bool) (slots : List SegmentCopy) → CountsSome [] 0 flag slots slots
none_done flag slots = record {
  all = record { same_length = refl; each = λ k slot is. (slot, is, refl) };
  reached = λ k within some. absurd cc;
  named = inl refl;
  outcome = λ k slot after is there here. absurd (omega (arith, is));
}

names_more : (segment : ℕ) (done : List Range) (r : Range) → names segment done ≡ true → names segment (done ++ r ∷ []) ≡ true
names_more segment done r some =
    list_any-append (λ (q : Range). q.segment == segment) done (r ∷ []) ∙ ap (λ b. b || ((r.segment == segment) || false)) some

-- a range of no slot
pub range_skipped : (done : List Range) (r : Range) (segment : ℕ) (flag : Bool) (old now : List SegmentCopy) → CountsSome done segment flag old now
    → (1 ≤ r.segment → r.segment ≤ length old → ⊥) → CountsSome (done ++ r ∷ []) segment flag old now
range_skipped done r segment flag old now h outside =
    let differ = λ (k : ℕ) (lt : k < length old) (e : r.segment ≡ k + 1). outside (omega (arith, e)) (omega (arith, e, lt)) in record {
      all = record {
        same_length = h.all.same_length;
        each = λ k slot is.
            let e = h.all.each k slot is in
            (e.0, e.1, counts_other (k + 1) done r slot e.0 (differ k (within old k slot is)) e.2);
      };
      reached = λ k lt some. h.reached k lt (sym (names_other (k + 1) done r (differ k lt)) ∙ some);
      named = elim h.named [ inl is ↦ inl is | inr is ↦ inr (names_more segment done r is) ];
      outcome = λ k slot after same is now_is.
          outcome_other segment done r flag slot after (λ e. differ k (within old k slot is) (e ∙ sym same)) (h.outcome k slot after same is now_is);
    }

-- a range of this slot
module _ (done : List Range) (r : Range) (segment : ℕ) (flag : Bool) (old now : List SegmentCopy) (h : CountsSome done segment flag old now)
    (before : (s : ℕ) → names s done ≡ true → s ≤ r.segment)
    (k : ℕ) (is : r.segment ≡ k + 1) (mid : SegmentCopy) (mid_is : slice_get now k ≡ Some mid) where
  pub the_slot : (slot : SegmentCopy) × (slice_get old k ≡ Some slot)
  the_slot = there old k (omega (arith, within now k mid mid_is, h.all.same_length))

  -- the first of its segment
  not_named : r.segment ≢ segment → names (k + 1) done ≡ false
  not_named differ = elim (cases_Bool (names (k + 1) done)) [
    | inl some ↦
        let le : k + 1 ≤ segment = h.reached k (omega (arith, within now k mid mid_is, h.all.same_length)) some in
        absurd (elim h.named [
          | inl zero_is ↦ omega (arith, le, zero_is)
          | inr some_is ↦ differ (omega (arith, le, is, before segment some_is))
        ])
    | inr none ↦ none
  ]

  pub first_range : (next : SegmentCopy) (counted : Bool) → r.segment ≢ segment
      → MatchOption (countable mid) ((counted ≡ false) × (next ≡ mid)) (λ token. (counted ≡ true) × (next ≡ counting token mid))
      → Outcome (k + 1) done counted the_slot.0 next
  first_range next counted differ counts =
      let e = h.all.each k the_slot.0 the_slot.1 in
      let none = not_named differ in
      let same : mid ≡ the_slot.0 = same_some mid e.0 (sym mid_is ∙ e.1) ∙ stays (k + 1) done the_slot.0 e.0 none e.2 in
      outcome_first (k + 1) done counted the_slot.0 mid next none same counts

  pub next_range : r.segment ≡ segment → Outcome (k + 1) done flag the_slot.0 mid
  next_range same =
      let number : segment ≡ k + 1 = sym same ∙ is in
      subst (λ (s : ℕ). Outcome s done flag the_slot.0 mid) number (h.outcome k the_slot.0 mid (sym number) the_slot.1 mid_is)

  pub range_done : (new : SegmentCopy) (counted : Bool) → Outcome (k + 1) (done ++ r ∷ []) counted the_slot.0 new
      → CountsSome (done ++ r ∷ []) r.segment counted old (slice_set now k new)
  range_done new counted result =
      let named_now : names (k + 1) (done ++ r ∷ []) ≡ true = names_own (k + 1) done r is in
      let new_is : slice_get (slice_set now k new) k ≡ Some new = get_set_same now k mid new mid_is in record {
        all = record {
          same_length = length-set now k new ∙ h.all.same_length;
          each = λ j slot at. elim (cases_eq j k) [
            | inl same ↦
                let own : the_slot.0 ≡ slot = same_some the_slot.0 slot (sym the_slot.1 ∙ ap (slice_get old) (sym same) ∙ at) in (
                  new,
                  ap (slice_get (slice_set now k new)) same ∙ new_is,
                  subst (λ (i : ℕ). Counts (i + 1) (done ++ r ∷ []) slot new) (sym same)
                      (subst (λ (s : SegmentCopy). Counts (k + 1) (done ++ r ∷ []) s new) own (counts_from (k + 1) (done ++ r ∷ []) counted the_slot.0 new named_now result)),
                )
            | inr differ ↦
                let e = h.all.each j slot at in (
                  e.0,
                  get_set_other now k j new differ ∙ e.1,
                  counts_other (j + 1) done r slot e.0 (λ same. differ (omega (arith, same, is))) e.2,
                )
          ];
        };
        reached = λ j lt some. elim (cases_eq r.segment (j + 1)) [
          | inl same ↦ omega (arith, same)
          | inr differ ↦ before (j + 1) (sym (names_other (j + 1) done r differ) ∙ some)
        ];
        named = inr (names_own r.segment done r refl);
        outcome = λ j slot after number at there_is.
            let same : j ≡ k = omega (arith, number, is) in
            let own : the_slot.0 ≡ slot = same_some the_slot.0 slot (sym the_slot.1 ∙ ap (slice_get old) (sym same) ∙ at) in
            let put : new ≡ after = same_some new after (sym new_is ∙ ap (slice_get (slice_set now k new)) (sym same) ∙ there_is) in
            subst (λ (s : ℕ). Outcome s (done ++ r ∷ []) counted slot after) (sym is)
            (subst (λ (s : SegmentCopy). Outcome (k + 1) (done ++ r ∷ []) counted s after) own
            (subst (λ (s : SegmentCopy). Outcome (k + 1) (done ++ r ∷ []) counted the_slot.0 s) put result));
      }

-- the ranges ascend by segment

first_least : (r x : Range) (ranges : List Range) (k : ℕ) → LiesBefore r ranges → slice_get ranges k ≡ Some x → r.segment ≤ x.segment
first_least r x [] k lies is = absurd cc
first_least r x (q ∷ ranges) zero lies is =
    let same : q.segment ≡ x.segment = ap (λ (y : Range). y.segment) (same_some q x is) in
    elim lies.0 [ inl less ↦ omega (arith, less, same) | inr more ↦ omega (arith, more.0, same) ]
first_least r x (q ∷ ranges) (suc k) lies is = first_least r x ranges k lies.1 is

pub names_before : (ranges : List Range) (k : ℕ) (x : Range) → IsCanonical ranges → slice_get ranges k ≡ Some x
    → (s : ℕ) → names s (take k ranges) ≡ true → s ≤ x.segment
names_before [] k x canonical is s some = absurd cc
names_before (r ∷ ranges) zero x canonical is s some = absurd cc
names_before (r ∷ ranges) (suc k) x canonical is s some = elim (or_cases (r.segment == s) (names s (take k ranges)) some) [
  | inl own ↦ omega (arith, eqb-true r.segment s own, first_least r x ranges k canonical.1 is)
  | inr later ↦ names_before ranges k x canonical.2 is s later
]

take_suc : (ranges : List Range) (k : ℕ) (x : Range) → slice_get ranges k ≡ Some x → take (suc k) ranges ≡ take k ranges ++ x ∷ []
take_suc [] k x is = absurd cc
take_suc (r ∷ ranges) zero x is = ap (λ (y : Range). y ∷ []) (same_some r x is)
take_suc (r ∷ ranges) (suc k) x is = ap (λ (l : List Range). r ∷ l) (take_suc ranges k x is)

pub take_next : (ranges : List Range) (k : ℕ) (x : Range) → slice_get ranges k ≡ Some x → take (k + 1) ranges ≡ take k ranges ++ x ∷ []
take_next ranges k x is =
    let same : k + 1 ≡ suc k = omega arith in
    ap (λ (n : ℕ). take n ranges) same ∙ take_suc ranges k x is

-- what callers want

pub same_map : {A B : Type 0} (f : A → B) (xs ys : List A) → length ys ≡ length xs
    → ((k : ℕ) (x : A) → slice_get xs k ≡ Some x → (y : A) × (slice_get ys k ≡ Some y) × (f y ≡ f x)) → map f ys ≡ map f xs
same_map f [] [] size each = refl
same_map f [] (y ∷ ys) size each = absurd cc
same_map f (x ∷ xs) [] size each = absurd cc
same_map f (x ∷ xs) (y ∷ ys) size each =
    let first = each 0 x refl in
    let head : f y ≡ f x = ap f (same_some y first.0 first.1) ∙ first.2 in
    ap (λ b. b ∷ map f ys) head ∙ ap (λ bs. f x ∷ bs) (same_map f xs ys (omega (arith, size)) (λ k z is. each (suc k) z is))

same_if : (o : Option Token) (segment : ℕ) (ranges : List Range) (old new : SegmentCopy)
    → MatchOption o (new ≡ old) (λ token. CountsSlot segment ranges token old new) → new.image ≡ old.image
same_if None segment ranges old new h = ap (λ (s : SegmentCopy). s.image) h
same_if (Some token) segment ranges old new h = h.same_image

same_image : (segment : ℕ) (ranges : List Range) (old new : SegmentCopy) → Counts segment ranges old new → new.image ≡ old.image
same_image segment ranges old new h = elim (cases_Bool (names segment ranges)) [
  | inl some ↦ same_if (countable old) segment ranges old new
      (MatchBool-at_true (MatchOption (countable old) (new ≡ old) (λ token. CountsSlot segment ranges token old new)) (new ≡ old) some h)
  | inr none ↦ ap (λ (s : SegmentCopy). s.image) (stays segment ranges old new none h)
]
