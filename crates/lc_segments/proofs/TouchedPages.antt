-- The pages that ranges touch, one range and one page after another.
use Rattle.std.proofs.Common.{◌≡◌, ◌≢◌, ℕ, zero, suc, ◌+◌, ◌*◌, ◌<◌, ◌≤◌, ◌||◌, Bool, true, false, cond, max, nat_lt, ◌^◌, Option, List, [], ◌∷◌, ◌++◌, length, Some, refl, sym, ap, subst, ◌∙◌, inl, inr, arith, below_more, get_or-set_other, get_or-set_same}
use Rattle.std.proofs.lemmas.Bool.{cases_lt, lt-ltb, le-ltb}
use Rattle.std.proofs.lemmas.List.{ext_get_or, length-set}
use Rattle.std.proofs.lemmas.List.Folds.{list_any-append}
use Rattle.std.specs.List.{list_any}
use Rattle.std.specs.Prelude.{slice_set, IsSome}
use Rattle.std.proofs.Math.Bool.{and-false as and_false}
use Rattle.lc_page.specs.declared.page_entry.PageEntry.{PageEntry}
use Rattle.lc_page.specs.PageVector.{entry_at, no_entry, touched_at}
use Rattle.lc_record.specs.declared.record.RangeData.{RangeData}
use Rattle.lc_record.proofs.ListLemmas.{some_from_is_some as some_token}
use Rattle.lc_token.specs.Standing.{Standing}
use Rattle.lc_token.specs.declared.token.Token.{Token}
use Rattle.lc_segments.specs.Touched.{is_on, touched_by, touched_from, touched_pages}

length-touched_from : (ranges : List RangeData) (seq page : ℕ) (entries : List PageEntry) → length (touched_from ranges seq page entries) ≡ length entries
length-touched_from ranges seq page [] = refl
length-touched_from ranges seq page (entry ∷ entries) = ap suc (length-touched_from ranges seq (suc page) entries)

entry-touched_from : (ranges : List RangeData) (seq page : ℕ) (entries : List PageEntry) (k at : ℕ) → k < length entries → at ≡ page + k
    → entry_at (touched_from ranges seq page entries) k ≡ touched_by ranges seq at (entry_at entries k)
entry-touched_from ranges seq page [] k at l e = absurd (omega arith)
entry-touched_from ranges seq page (entry ∷ entries) zero at l e = let same : page ≡ at = omega arith in ap (λ (p : ℕ). touched_by ranges seq p entry) same
entry-touched_from ranges seq page (entry ∷ entries) (suc k) at l e = entry-touched_from ranges seq (suc page) entries k at (omega arith) (omega arith)

pub length-touched_pages : (ranges : List RangeData) (seq : ℕ) (entries : List PageEntry) → length (touched_pages ranges seq entries) ≡ length entries
length-touched_pages ranges seq entries = length-touched_from ranges seq 0 entries

pub entry-touched_pages : (ranges : List RangeData) (seq : ℕ) (entries : List PageEntry) (page : ℕ) → page < length entries
    → entry_at (touched_pages ranges seq entries) page ≡ touched_by ranges seq page (entry_at entries page)
entry-touched_pages ranges seq entries page l = entry-touched_from ranges seq 0 entries page page l (omega arith)

-- One range after another

none_from : (seq page : ℕ) (entries : List PageEntry) → touched_from [] seq page entries ≡ entries
none_from seq page [] = refl
none_from seq page (entry ∷ entries) = ap (λ (l : List PageEntry). entry ∷ l) (none_from seq (suc page) entries)

pub touched_none : (seq : ℕ) (entries : List PageEntry) → touched_pages [] seq entries ≡ entries
touched_none seq entries = none_from seq 0 entries

touched_if : Bool → ℕ → PageEntry → PageEntry
touched_if b seq entry = cond b (touched_at entry seq) entry

-- what is touched twice is as if touched once
touched_either : (a b : Bool) (seq : ℕ) (entry : PageEntry) → touched_if (a || (b || false)) seq entry ≡ touched_if (b || false) seq (touched_if a seq entry)
unfolding touched_if
touched_either true true seq entry = let same : max entry.touched seq ≡ max (max entry.touched seq) seq = omega arith in ap (λ (n : ℕ). record entry { touched = n }) same
touched_either true false seq entry = refl
touched_either false true seq entry = refl
touched_either false false seq entry = refl

by_more : (ranges : List RangeData) (range : RangeData) (seq page : ℕ) (entry : PageEntry)
    → touched_by (ranges ++ range ∷ []) seq page entry ≡ touched_by (range ∷ []) seq page (touched_by ranges seq page entry)
unfolding touched_if
by_more ranges range seq page entry =
    ap (λ (b : Bool). touched_if b seq entry) (list_any-append (is_on page) ranges (range ∷ []))
    ∙ touched_either (list_any (is_on page) ranges) (is_on page range) seq entry

from_more : (ranges : List RangeData) (range : RangeData) (seq page : ℕ) (entries : List PageEntry)
    → touched_from (ranges ++ range ∷ []) seq page entries ≡ touched_from (range ∷ []) seq page (touched_from ranges seq page entries)
from_more ranges range seq page [] = refl
from_more ranges range seq page (entry ∷ entries) =
    ap (λ (e : PageEntry). e ∷ touched_from (ranges ++ range ∷ []) seq (suc page) entries) (by_more ranges range seq page entry)
    ∙ ap (λ (l : List PageEntry). touched_by (range ∷ []) seq page (touched_by ranges seq page entry) ∷ l) (from_more ranges range seq (suc page) entries)

-- one range more
pub touched_more : (ranges : List RangeData) (range : RangeData) (seq : ℕ) (entries : List PageEntry)
    → touched_pages (ranges ++ range ∷ []) seq entries ≡ touched_pages (range ∷ []) seq (touched_pages ranges seq entries)
touched_more ranges range seq entries = from_more ranges range seq 0 entries

-- One page after another

pub on_page : (range : RangeData) (page : ℕ) → 0 < length range.bytes → range.offset < page * 256 + 256 → page * 256 < range.offset + length range.bytes
    → is_on page range ≡ true
on_page range page some begins ends = rw (lt-ltb 0 (length range.bytes) some, lt-ltb range.offset (page * 256 + 256) begins, lt-ltb (page * 256) (range.offset + length range.bytes) ends) refl

before_page : (range : RangeData) (page : ℕ) → page * 256 + 256 ≤ range.offset → is_on page range ≡ false
before_page range page before =
    rw (le-ltb range.offset (page * 256 + 256) before) (and_false (nat_lt 0 (length range.bytes)))

behind_page : (range : RangeData) (page : ℕ) → range.offset + length range.bytes ≤ page * 256 → is_on page range ≡ false
behind_page range page behind =
    rw (le-ltb (page * 256) (range.offset + length range.bytes) behind, and_false (nat_lt range.offset (page * 256 + 256))) (and_false (nat_lt 0 (length range.bytes)))

by_on : (range : RangeData) (seq page : ℕ) (entry : PageEntry) → is_on page range ≡ true → touched_by (range ∷ []) seq page entry ≡ touched_at entry seq
by_on range seq page entry on = ap (λ (b : Bool). cond (b || false) (touched_at entry seq) entry) on

by_off : (range : RangeData) (seq page : ℕ) (entry : PageEntry) → is_on page range ≡ false → touched_by (range ∷ []) seq page entry ≡ entry
by_off range seq page entry off = ap (λ (b : Bool). cond (b || false) (touched_at entry seq) entry) off

empty_page : (range : RangeData) (page : ℕ) → length range.bytes ≡ 0 → is_on page range ≡ false
empty_page range page empty = rw (le-ltb 0 (length range.bytes) (omega arith)) refl

-- the entries of the pages below this one are touched so, and the others are as they were
pub record TouchedBelow (range : RangeData) (below seq : ℕ) (old new : List PageEntry) : Type 0 where
  pub same_count : length new ≡ length old
  pub in_front : (page : ℕ) → page < below → page < length old → entry_at new page ≡ touched_by (range ∷ []) seq page (entry_at old page)
  pub behind : (page : ℕ) → below ≤ page → entry_at new page ≡ entry_at old page

pub record Touching (range : RangeData) (below : ℕ) (token : Token) (old new : Standing) : Type 0 where
  pub pages : List PageEntry
  pub is : new ≡ record old { token = Some (record token { pages = pages }) }
  pub touched : TouchedBelow range below token.seq token.pages pages

pub touching_start : (range : RangeData) (below : ℕ) (token : Token) (place : Standing) → below * 256 ≤ range.offset → place.token ≡ Some token → Touching range below token place place
touching_start range below token place first is = record {
  pages = token.pages;
  is = ap (λ o. record place { token = o }) is;
  touched = record {
    same_count = refl;
    in_front = λ page lt among. sym (by_off range token.seq page (entry_at token.pages page) (before_page range page (omega arith)));
    behind = λ page le. refl;
  };
}

pages_step : (range : RangeData) (below seq : ℕ) (old now : List PageEntry) → TouchedBelow range below seq old now → is_on below range ≡ true → below < length old
    → TouchedBelow range (below + 1) seq old (slice_set now below (touched_at (entry_at now below) seq))
pages_step range below seq old now h on within =
    let x : PageEntry = touched_at (entry_at now below) seq in
    let here : entry_at (slice_set now below x) below ≡ touched_by (range ∷ []) seq below (entry_at old below) =
    get_or-set_same now below x no_entry (omega (arith, h.same_count))
    ∙ (ap (λ (e : PageEntry). touched_at e seq) (h.behind below (omega arith)) ∙ sym (by_on range seq below (entry_at old below) on)) in
    let other : (page : ℕ) → page ≢ below → entry_at (slice_set now below x) page ≡ entry_at now page =
    λ page differ. get_or-set_other now below page x no_entry differ in record {
      same_count = length-set now below x ∙ h.same_count;
      in_front = below_more _ _
          (λ page lt among. other page (λ e. omega (arith, e, lt)) ∙ h.in_front page lt among)
          (λ among. here);
      behind = λ page le. other page (λ e. omega (arith, e, le)) ∙ h.behind page (omega (arith, le));
    }

-- one page more
pub touching_step : (range : RangeData) (below : ℕ) (token : Token) (old now next : Standing) → Touching range below token old now
    → 0 < length range.bytes → range.offset < below * 256 + 256 → below * 256 < range.offset + length range.bytes → below < length token.pages
    → ((t : Token) → now.token ≡ Some t → next ≡ record now { token = Some (record t { pages = slice_set t.pages below (touched_at (entry_at t.pages below) t.seq) }) })
    → Touching range (below + 1) token old next
touching_step range below token old now next h some begins ends within is =
    let t : Token = record token { pages = h.pages } in
    let after : List PageEntry = slice_set h.pages below (touched_at (entry_at h.pages below) token.seq) in record {
      pages = after;
      is =
          is t (ap (λ (p : Standing). p.token) h.is)
          ∙ ap (λ (p : Standing). record p { token = Some (record token { pages = after }) }) h.is;
      touched = pages_step range below token.seq token.pages h.pages h.touched (on_page range below some begins ends) within;
    }

all_touched : (range : RangeData) (below seq : ℕ) (old new : List PageEntry) → TouchedBelow range below seq old new
    → ((page : ℕ) → below ≤ page → page < length old → is_on page range ≡ false) → new ≡ touched_pages (range ∷ []) seq old
all_touched range below seq old new h off = ext_get_or no_entry new (touched_pages (range ∷ []) seq old) (h.same_count ∙ sym (length-touched_pages (range ∷ []) seq old)) (λ page l.
    let among : page < length old = omega (arith, h.same_count) in
    let at = entry-touched_pages (range ∷ []) seq old page among in
    elim (cases_lt page below) [
      | inl lt ↦ h.in_front page lt among ∙ sym at
      | inr le ↦ h.behind page le ∙ (sym (by_off range seq page (entry_at old page) (off page le among)) ∙ sym at)
    ])

touching_all : (range : RangeData) (below : ℕ) (token : Token) (old new : Standing) → Touching range below token old new
    → ((page : ℕ) → below ≤ page → page < length token.pages → is_on page range ≡ false)
    → new ≡ record old { token = Some (record token { pages = touched_pages (range ∷ []) token.seq token.pages }) }
touching_all range below token old new h off =
    h.is ∙ ap (λ (es : List PageEntry). record old { token = Some (record token { pages = es }) }) (all_touched range below token.seq token.pages h.pages h.touched off)

-- up to the last page with a byte of the range, or to the last of all
pub touching_end : (range : RangeData) (below : ℕ) (token : Token) (old new : Standing) → Touching range below token old new
    → ((page : ℕ) → below ≤ page → page < length token.pages → range.offset + length range.bytes ≤ page * 256)
    → new ≡ record old { token = Some (record token { pages = touched_pages (range ∷ []) token.seq token.pages }) }
touching_end range below token old new h end = touching_all range below token old new h (λ page le among. behind_page range page (end page le among))

-- where there is no byte nothing is touched
pub touched_empty : (range : RangeData) (token : Token) (place : Standing) → length range.bytes ≡ 0 → place.token ≡ Some token
    → place ≡ record place { token = Some (record token { pages = touched_pages (range ∷ []) token.seq token.pages }) }
touched_empty range token place empty is = touching_all range 0 token place place (touching_start range 0 token place (omega arith) is) (λ page le among. empty_page range page empty)

pub one_more_range : (ranges : List RangeData) (range : RangeData) (token : Token) (old now next : Standing)
    → now ≡ record old { token = Some (record token { pages = touched_pages ranges token.seq token.pages }) }
    → ((t : Token) → now.token ≡ Some t → next ≡ record now { token = Some (record t { pages = touched_pages (range ∷ []) t.seq t.pages }) })
    → next ≡ record old { token = Some (record token { pages = touched_pages (ranges ++ range ∷ []) token.seq token.pages }) }
one_more_range ranges range token old now next is more =
    let t : Token = record token { pages = touched_pages ranges token.seq token.pages } in
    let pages : List PageEntry = touched_pages (range ∷ []) token.seq t.pages in
    more t (ap (λ (p : Standing). p.token) is)
    ∙ (ap (λ (p : Standing). record p { token = Some (record token { pages = pages }) }) is
    ∙ ap (λ (es : List PageEntry). record old { token = Some (record token { pages = es }) }) (sym (touched_more ranges range token.seq token.pages)))

-- no range touches nothing
pub no_range : (token : Token) (place : Standing) → place.token ≡ Some token → place ≡ record place { token = Some (record token { pages = touched_pages [] token.seq token.pages }) }
no_range token place is =
    ap (λ o. record place { token = o }) is
    ∙ ap (λ (es : List PageEntry). record place { token = Some (record token { pages = es }) }) (sym (touched_none token.seq token.pages))

same_token : (x y : Token) → Some x ≡ Some y → x ≡ y
same_token x y is = cc

-- a token that has so many pages stands here still
pub stands_on : (ranges : List RangeData) (old now : Standing) → IsSome old.token → ((t : Token) → old.token ≡ Some t → length t.pages ≤ 2 ^ 32)
    → ((t : Token) → old.token ≡ Some t → now ≡ record old { token = Some (record t { pages = touched_pages ranges t.seq t.pages }) })
    → IsSome now.token × ((t : Token) → now.token ≡ Some t → length t.pages ≤ 2 ^ 32)
stands_on ranges old now here few is =
    let token : Token = (some_token old.token here).0 in
    let old_is : old.token ≡ Some token = (some_token old.token here).1 in
    let after : Token = record token { pages = touched_pages ranges token.seq token.pages } in
    let now_is : now.token ≡ Some after = ap (λ (p : Standing). p.token) (is token old_is) in (
      subst (λ (o : Option Token). IsSome o) (sym now_is) refl,
      λ t t_is.
          let same : after ≡ t = same_token after t (sym now_is ∙ t_is) in
          omega (arith, ap (λ (x : Token). length x.pages) same, length-touched_pages ranges token.seq token.pages, few token old_is),
    )
