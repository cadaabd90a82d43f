-- A page with the ranges of its changes put on it has of each byte that of the record with the greatest number.
use Rattle.std.proofs.Common.{◌≡◌, ◌⊎◌, ℕ, ◌+◌, ◌*◌, ◌<◌, ◌≤◌, true, false, nat_lt, true≢false, List, [], ◌∷◌, ◌++◌, Option, Some, None, is_some, All, Contains, IsTrue, refl, sym, ◌∙◌, ap, subst, arith, inl, inr}
use Rattle.std.specs.Prelude.{slice_get}
use Rattle.std.specs.Option.{option_or}
use Rattle.std.proofs.lemmas.Bool.{cases_Bool, lt-ltb, and_from as both_are}
use Rattle.std.proofs.lemmas.List.Elements.{All-nil, All-cons, All-head, All-tail, All-weaker, All-contains, All-contains_itself, Contains-append_right, Contains-append_cases}
use Rattle.std.proofs.lemmas.Option.{same_Some}
use Rattle.lc_record.specs.Content.{segment_of}
use Rattle.lc_record.specs.Newest.{number_or_zero, byte_in, byte_of, has_byte, IsByNumber}
use Rattle.lc_record.specs.declared.record.Record.{Record}
use Rattle.lc_record.specs.declared.record.RangeData.{RangeData}
use Rattle.lc_record.proofs.ListLemmas.{option_or-some as or_some, All-append_right as all_behind, All-append_left as all_front}
use Rattle.lc_model.specs.Merge.{Page, StoreText, all_records}
use Rattle.lc_model.proofs.Visible.{in-logs, log-known}
use Rattle.lc_recover.specs.StoreContents.{Names, Reaches, IsChange, IsBefore, AreAscending, IsIndex}
use Rattle.lc_recover.specs.Page.{IsOf, IsOfAnother, AreAt, byte_with, AreOfPage, PagesMerge, RangesStand}
use Rattle.lc_recover.specs.declared.redo_range.RedoRange.{RedoRange}
use Rattle.lc_recover.proofs.RangeBytes.{byte_in-some, one_range, some_of}

abbrev number : ℕ → Record → ℕ
number segment r = number_or_zero segment r.locks

cases_some : (o : Option ℕ) → (o ≡ None) ⊎ (is_some o ≡ true)
cases_some None = inl refl
cases_some (Some x) = inr refl

none_is_not_some : (o : Option ℕ) → o ≡ None → is_some o ≡ true → ⊥
none_is_not_some o none some = true≢false (sym some ∙ ap (λ (p : Option ℕ). is_some p) none)

or_none : (o p : Option ℕ) → o ≡ None → option_or o p ≡ p
or_none o p none = ap (λ (q : Option ℕ). option_or q p) none

-- One change

-- the range of a change has a byte where the change reaches
pub reaches : (logs : List (List ℕ)) (c : RedoRange) (range : RangeData) (segment place : ℕ) → Names logs c range → c.segment ≡ segment → Reaches c place → is_some (byte_in segment place range) ≡ true
reaches logs c range segment place names of has =
    byte_in-some segment place range (names.segment ∙ of) (omega (arith, names.offset, has.0)) (omega (arith, names.offset, names.len, has.1))

-- its record has a byte for the place, under a number above the page's sequence
pub change_has : (logs : List (List ℕ)) (store : StoreText) (c : RedoRange) (change : IsChange logs store c) → IsTrue (has_byte c.segment (c.page * 256 + change.offset) change.text.sequence change.changing)
change_has logs store c change =
    let place : ℕ = c.page * 256 + change.offset in
    let above : change.text.sequence < number c.segment change.changing = omega (arith, change.newer, change.number) in
    both_are (is_some (byte_of c.segment place change.changing.ranges)) (nat_lt change.text.sequence (number c.segment change.changing))
    (some_of c.segment place change.changing.ranges change.range change.its (reaches logs c change.range c.segment place change.names refl change.has))
    (lt-ltb change.text.sequence (number c.segment change.changing) above)

-- a change is of one range
one_named : (logs : List (List ℕ)) (c : RedoRange) (q r : RangeData) → Names logs c q → Names logs c r → q ≡ r
one_named logs c q r one other =
    ap (λ (s : ℕ). record { segment = s; offset = q.offset; bytes = q.bytes }) (one.segment ∙ sym other.segment)
    ∙ ap (λ (o : ℕ). record { segment = r.segment; offset = o; bytes = q.bytes }) (one.offset ∙ sym other.offset)
    ∙ ap (λ (b : List ℕ). record { segment = r.segment; offset = r.offset; bytes = b }) (sym one.bytes ∙ other.bytes)

-- The last of them

abbrev IsNoMore : RedoRange → RedoRange → Type 0
IsNoMore c d = c.seq ≤ d.seq

abbrev AreRising : List RedoRange → Type 0
AreRising [] = Unit {0}
AreRising (c ∷ cs) = All (IsNoMore c) cs × AreRising cs

-- the last of these whose range has a byte for the place
record IsLast (logs : List (List ℕ)) (segment place : ℕ) (cs : List RedoRange) (rs : List RangeData) : Type 0 where
  change : RedoRange
  range : RangeData
  among : Contains cs change
  names : Names logs change range
  some : is_some (byte_in segment place range) ≡ true
  is : byte_of segment place rs ≡ byte_in segment place range
  greatest : All (λ d. Reaches d place → d.seq ≤ change.seq) cs

last_found : (logs : List (List ℕ)) (segment place : ℕ) (cs : List RedoRange) (rs : List RangeData) → AreRising cs → AreAt logs cs rs → All (λ c. c.segment ≡ segment) cs
    → (All (λ c. Reaches c place → ⊥) cs × (byte_of segment place rs ≡ None)) ⊎ IsLast logs segment place cs rs
last_found logs segment place [] [] rising at of = inl (All-nil (λ c. Reaches c place → ⊥), refl)
last_found logs segment place [] (r ∷ rs) rising at of = absurd at
last_found logs segment place (c ∷ cs) [] rising at of = absurd at
last_found logs segment place (c ∷ cs) (r ∷ rs) rising at of =
    let its = byte_in segment place r in
    let others = byte_of segment place rs in
    let own : c.segment ≡ segment = All-head (λ d. d.segment ≡ segment) c cs of in
    elim (last_found logs segment place cs rs rising.1 at.1 (All-tail (λ d. d.segment ≡ segment) c cs of)) [
      | inl none ↦
          (elim (cases_some (byte_in segment place r)) [
            | inl no_byte ↦ inl (
              All-cons (λ d. Reaches d place → ⊥) c cs (λ has. none_is_not_some (byte_in segment place r) no_byte (reaches logs c r segment place at.0 own has)) none.0,
              or_none others its none.1 ∙ no_byte,
            )
            | inr byte ↦ inr (record {
              change = c;
              range = r;
              among = (0, omega arith, refl);
              names = at.0;
              some = byte;
              is = or_none others its none.1;
              greatest = All-cons (λ d. Reaches d place → d.seq ≤ c.seq) c cs (λ _. omega arith)
                  (All-weaker (λ d. Reaches d place → ⊥) (λ d. Reaches d place → d.seq ≤ c.seq) (λ d none_there has. absurd (none_there has)) cs none.0);
            })
          ])
      | inr last ↦
          let no_more : c.seq ≤ last.change.seq = All-contains (IsNoMore c) cs last.change rising.0 last.among in
          let others_some : is_some (byte_of segment place rs) ≡ true = ap (λ (o : Option ℕ). is_some o) last.is ∙ last.some in
          inr (record {
            change = last.change;
            range = last.range;
            among = Contains-append_right (c ∷ []) cs last.change last.among;
            names = last.names;
            some = last.some;
            is = or_some others its others_some ∙ last.is;
            greatest = All-cons (λ d. Reaches d place → d.seq ≤ last.change.seq) c cs (λ _. omega (arith, no_more)) last.greatest;
          })
    ]

-- The ranges of changes

pub some_ranges : (logs : List (List ℕ)) (store : StoreText) (cs : List RedoRange) → All (IsChange logs store) cs → (ranges : List RangeData) × AreAt logs cs ranges
some_ranges logs store [] sound = ([], tt)
some_ranges logs store (c ∷ cs) sound =
    let one = All-head (IsChange logs store) c cs sound in
    let others = some_ranges logs store cs (All-tail (IsChange logs store) c cs sound) in
    (one.range ∷ others.0, (one.names, others.1))

-- Changes of one page

module _ (segment page : ℕ) where
  by_seq : (c d : RedoRange) → IsOf segment page c → IsOf segment page d → IsBefore c d → c.seq ≤ d.seq
  by_seq c d one other before =
      elim before [
        | inl less ↦ omega (arith, less, one.0, other.0)
        | inr alike ↦ (elim alike.1 [ inl less ↦ omega (arith, less, one.1, other.1) | inr last ↦ last.1 ])
      ]

  later_seqs : (c : RedoRange) (cs : List RedoRange) → IsOf segment page c → All (IsOf segment page) cs → All (IsBefore c) cs → All (IsNoMore c) cs
  later_seqs c [] of ofs before = All-nil (IsNoMore c)
  later_seqs c (d ∷ cs) of ofs before =
      All-cons (IsNoMore c) d cs (by_seq c d of (All-head (IsOf segment page) d cs ofs) (All-head (IsBefore c) d cs before))
      (later_seqs c cs of (All-tail (IsOf segment page) d cs ofs) (All-tail (IsBefore c) d cs before))

  rising : (cs : List RedoRange) → All (IsOf segment page) cs → AreAscending cs → AreRising cs
  rising [] ofs ascending = tt
  rising (c ∷ cs) ofs ascending = (
    later_seqs c cs (All-head (IsOf segment page) c cs ofs) (All-tail (IsOf segment page) c cs ofs) ascending.0,
    rising cs (All-tail (IsOf segment page) c cs ofs) ascending.1,
  )

-- The changes of the page, among all

pub ascending_front : (cs ds : List RedoRange) → AreAscending (cs ++ ds) → AreAscending cs
ascending_front [] ds ascending = tt
ascending_front (c ∷ cs) ds ascending = (all_front (IsBefore c) cs ds ascending.0, ascending_front cs ds ascending.1)

pub ascending_behind : (cs ds : List RedoRange) → AreAscending (cs ++ ds) → AreAscending ds
ascending_behind [] ds ascending = ascending
ascending_behind (c ∷ cs) ds ascending = ascending_behind cs ds ascending.1

pub sound_here : (logs : List (List ℕ)) (store : StoreText) (changes here : List RedoRange) (segment page : ℕ) → IsIndex logs store changes → AreOfPage changes segment page here → All (IsChange logs store) here
sound_here logs store changes here segment page index of =
    all_front (IsChange logs store) here of.behind (all_behind (IsChange logs store) of.before (here ++ of.behind) (subst (All (IsChange logs store)) of.whole index.sound))

-- a change of the page is one of these
pub one_of_these : (changes here : List RedoRange) (segment page : ℕ) (c : RedoRange) → AreOfPage changes segment page here → Contains changes c → IsOf segment page c → Contains here c
one_of_these changes here segment page c of has of_page =
    elim (Contains-append_cases of.before (here ++ of.behind) c (subst (λ (cs : List RedoRange). Contains cs c) of.whole has)) [
      | inl before ↦ absurd (All-contains (IsOfAnother segment page) of.before c of.none_before before of_page)
      | inr others ↦
          (elim (Contains-append_cases here of.behind c others) [
            | inl here ↦ here
            | inr behind ↦ absurd (All-contains (IsOfAnother segment page) of.behind c of.none_behind behind of_page)
          ])
    ]

module _ (logs : List (List ℕ)) (store : StoreText) (changes here : List RedoRange) (segment page : ℕ) (text : Page) (ranges : List RangeData)
    (index : IsIndex logs store changes) (of : AreOfPage changes segment page here)
    (text_is : slice_get (segment_of segment store.pages) page ≡ Some text) (at : AreAt logs here ranges) (offset : ℕ) (within : offset < 256) where
  abbrev all : List Record
  all = all_records store

  abbrev place : ℕ
  place = page * 256 + offset

  -- of a record with a byte for the place there is a change
  is_put : (q : Record) → Contains all q → has_byte segment place text.sequence q ≡ true → (c : RedoRange) × Contains here c × (c.seq ≡ number segment q) × Reaches c place
  is_put q among has =
      let named = index.whole segment page offset text q text_is among within has in
      (named.0, one_of_these changes here segment page named.0 of named.1 (named.2, named.3), named.4, named.5)

  its_rising : AreRising here
  its_rising =
      rising segment page here of.of_page
      (ascending_front here of.behind (ascending_behind of.before (here ++ of.behind) (subst AreAscending of.whole index.ascending)))

  its_segment : All (λ c. c.segment ≡ segment) here
  its_segment = All-weaker (IsOf segment page) (λ c. c.segment ≡ segment) (λ c is. is.0) here of.of_page

  -- the record of the last one
  record Newest (last : IsLast logs segment place here ranges) : Type 0 where
    its : Record
    among : Contains all its
    has : has_byte segment place text.sequence its ≡ true
    is : byte_in segment place last.range ≡ byte_of segment place its.ranges
    number_is : number segment its ≡ last.change.seq

  newest : (last : IsLast logs segment place here ranges) → Newest last
  newest last =
      let c : RedoRange = last.change in
      let own : IsChange logs store last.change = All-contains (IsChange logs store) here last.change (sound_here logs store changes here segment page index of) last.among in
      let of_page : IsOf segment page last.change = All-contains (IsOf segment page) here last.change of.of_page last.among in
      let same : last.range ≡ own.range = one_named logs c last.range own.range last.names own.names in
      let some : is_some (byte_in segment place own.range) ≡ true = ap (λ (r : RangeData). is_some (byte_in segment place r)) (sym same) ∙ last.some in
      let there : slice_get (segment_of segment store.pages) page ≡ Some own.text =
      subst (λ (p : ℕ). slice_get (segment_of segment store.pages) p ≡ Some own.text) of_page.1 (subst (λ (s : ℕ). slice_get (segment_of s store.pages) c.page ≡ Some own.text) of_page.0 own.page) in
      let same_text : own.text ≡ text = same_Some own.text text (sym there ∙ text_is) in
      let sequence : own.text.sequence ≡ text.sequence = ap (λ (p : Page). p.sequence) same_text in
      let number_is : number segment own.changing ≡ last.change.seq = ap (λ (s : ℕ). number s own.changing) (sym of_page.0) ∙ own.number in
      let above : text.sequence < number segment own.changing = omega (arith, own.newer, sequence, number_is) in
      record {
        its = own.changing;
        among = in-logs store.logs c.log own.changing (log-known store.logs c.log own.changing own.among) own.among;
        has = both_are (is_some (byte_of segment place own.changing.ranges)) (nat_lt text.sequence (number segment own.changing))
            (some_of segment place own.changing.ranges own.range own.its some) (lt-ltb text.sequence (number segment own.changing) above);
        is = ap (byte_in segment place) same ∙ sym (one_range segment place own.changing.ranges own.range own.canonical.ranges_ascend own.its some);
        number_is = number_is;
      }

  pub merged : IsByNumber segment (page * 256 + offset) text.sequence (all_records store) (slice_get text.bytes offset) (byte_with segment page ranges text.bytes offset)
  merged =
      let old = slice_get text.bytes offset in
      elim (last_found logs segment place here ranges its_rising at its_segment) [
        | inl none ↦ inl (
          All-weaker (Contains all) (λ q. has_byte segment place text.sequence q ≡ false)
              (λ q among.
              elim (cases_Bool (has_byte segment place text.sequence q)) [
                | inl has ↦ (let put = is_put q among has in absurd (All-contains (λ c. Reaches c place → ⊥) here put.0 none.0 put.1 put.3))
                | inr has_none ↦ has_none
              ])
              all (All-contains_itself all),
          or_none (byte_of segment place ranges) old none.1,
        )
        | inr last ↦
            let one = newest last in
            let some : is_some (byte_of segment place ranges) ≡ true = ap (λ (o : Option ℕ). is_some o) last.is ∙ last.some in
            inr (
              one.its,
              record {
                among = one.among;
                has = one.has;
                is = or_some (byte_of segment place ranges) old some ∙ last.is ∙ one.is;
                greatest = All-weaker (Contains all) (λ q. IsTrue (has_byte segment place text.sequence q) → number segment q ≤ number segment one.its)
                    (λ q among has.
                    let put = is_put q among has in
                    omega (arith, All-contains (λ d. Reaches d place → d.seq ≤ last.change.seq) here put.0 last.greatest put.1 put.3, put.2, one.number_is))
                    all (All-contains_itself all);
              },
            )
      ]

pub page_merged : PagesMerge
page_merged = merged

pub ranges_stand : RangesStand
ranges_stand logs store changes here segment page index of = some_ranges logs store here (sound_here logs store changes here segment page index of)
