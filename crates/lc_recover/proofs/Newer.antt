-- Where a record is to be put on a page, it is newer than the page.
use Rattle.std.proofs.Common.{◌≡◌, ℕ, zero, suc, ◌+◌, Some, List, [], ◌∷◌, map, length, Contains, sym, subst, arith, inl, inr}
use Rattle.std.specs.Prelude.{slice_get}
use Rattle.std.proofs.lemmas.Option.{none-some, same_Some as one_item}
use Rattle.std.proofs.lemmas.List.Elements.{Contains-append_left, Contains-append_right}
use Rattle.lc_model.specs.Merge.{Page, StoreText, all_records, MergeFault, MergesTo, Refuses, BadGeometry, OutOfSegment, Twice, Gap}
use Rattle.lc_model.proofs.SomeOutcome.{some-outcome}
use Rattle.lc_model.proofs.Visible.{in-logs, log-known}
use Rattle.lc_record.specs.Content.{Content, segment_of}
use Rattle.lc_recover.specs.Changes.{PlacedRecord, SomeIsOf, seats_of, seats_from}
use Rattle.lc_recover.specs.StoreContents.{HasNewer, IsFaultless}
use Rattle.lc_recover.specs.Pages.{kept_pages}
use Rattle.lc_recover.specs.Reading.{store_of}
use Rattle.lc_recover.specs.Recovery.{HasPageToWrite}
use Rattle.lc_recover.specs.declared.redo_range.RedoRange.{RedoRange}
use Rattle.lc_recover.specs.declared.segment_pages.SegmentPages.{SegmentPages}
use Rattle.lc_recover.proofs.Ascents.{is-change}
use Rattle.lc_recover.proofs.MergedPage.{change_has}

pub seat-in : (first : ℕ) (logs : List (List ℕ)) (k : ℕ) (words : List ℕ) (s : PlacedRecord) → slice_get logs k ≡ Some words → Contains (seats_of (first + k) words) s → Contains (seats_from first logs) s
seat-in first [] k words s is has = absurd (none-some words is)
seat-in first (log ∷ logs) zero words s is has =
    let here : first + 0 ≡ first = omega arith in
    Contains-append_left (seats_of first log) (seats_from (first + 1) logs) s
    (subst (λ (l : List ℕ). Contains (seats_of first l) s) (sym (one_item log words is)) (subst (λ (n : ℕ). Contains (seats_of n words) s) here has))
seat-in first (log ∷ logs) (suc k) words s is has =
    let next : first + suc k ≡ first + 1 + k = omega arith in
    Contains-append_right (seats_of first log) (seats_from (first + 1) logs) s
    (seat-in (first + 1) logs k words s is (subst (λ (n : ℕ). Contains (seats_of n words) s) next has))

pub some-newer : (logs : List (List ℕ)) (segments : List SegmentPages) → SomeIsOf (map kept_pages segments) (seats_from 0 logs) → HasNewer (store_of logs segments)
some-newer logs segments some =
    let c : RedoRange = some.2.0 in
    let its = is-change logs segments some.0 some.2.0 some.1 some.2.1 in
    let among : Contains (all_records (store_of logs segments)) its.changing = in-logs (store_of logs segments).logs some.2.0.log its.changing (log-known (store_of logs segments).logs some.2.0.log its.changing its.among) its.among in
    (c.segment, c.page, its.text, its.page, (its.changing, among, its.offset, its.on_page, change_has logs (store_of logs segments) some.2.0 its))

-- what has no fault merges
no-fault : (store : StoreText) → IsFaultless store → (fault : MergeFault) → Refuses store fault → ⊥
no-fault store is (BadGeometry area) refused = is.own area refused.is
no-fault store is (OutOfSegment area) refused = is.lying_within area refused.1.is
no-fault store is (Twice segment seq) refused = is.once segment seq refused.2.is
no-fault store is (Gap segment seq) refused = is.no_gap segment seq refused.3.is

pub faultless-merges : (store : StoreText) → IsFaultless store → ((segment page : ℕ) (text : Page) → slice_get (segment_of segment store.pages) page ≡ Some text → length text.bytes ≡ 256) →
    (content : Content) × (numbers : ℕ → ℕ) × MergesTo store content numbers
faultless-merges store is long =
    elim (some-outcome store long) [
      | inl refused ↦ absurd (no-fault store is refused.0 refused.1)
      | inr result ↦ result
    ]

pub page-to-write : (store : StoreText) → IsFaultless store → ((segment page : ℕ) (text : Page) → slice_get (segment_of segment store.pages) page ≡ Some text → length text.bytes ≡ 256) → HasNewer store → HasPageToWrite store
page-to-write store is long newer = (let result = faultless-merges store is long in record { content = result.0; numbers = result.1; merges = result.2; newer = newer })
