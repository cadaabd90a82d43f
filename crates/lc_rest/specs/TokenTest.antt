-- What is tested of a segment's token, its records and its pages, before the records are merged.
use Rattle.std.specs.Prelude.{◌≡◌, ◌⊎◌, ℕ, ◌+◌, ◌-◌, ◌*◌, ◌^◌, ◌<◌, ◌≤◌, Bool, true, false, nat_lt, List, [], ◌∷◌, length, filter, All, Some, slice_index_or}
use Rattle.lc_page.specs.Page.{page_in, text_in}
use Rattle.lc_page.specs.PageVector.{entry_at, entry_text}
use Rattle.lc_page.specs.declared.page_entry.PageEntry.{PageEntry}
use Rattle.lc_record.specs.Part.{number_in}
use Rattle.lc_record.specs.declared.record.RangeData.{RangeData}
use Rattle.lc_record.specs.declared.record.Record.{Record}
use Rattle.lc_token.specs.declared.token.Token.{Token}
use Rattle.lc_rest.specs.Turns.{has_lock}
use Rattle.lc_rest.specs.Merge.{no_record, record_at}
use Rattle.lc_rest.specs.declared.holder.Holder.{Holder}
use Rattle.lc_rest.specs.declared.holder.Holder.TheVariants.{Here}

-- the range has a byte on the page
abbrev pub ReachesPage : RangeData → ℕ → Type 0
ReachesPage range page = (range.offset < page * 256 + 256) × (page * 256 < range.offset + length range.bytes)

-- under this number the page is touched, and where the number is clean it is on the page
abbrev pub IsKeptPage : ℕ → ℕ → List ℕ → List PageEntry → ℕ → Type 0
IsKeptPage number clean area entries page = (number ≤ (entry_at entries page).touched) × (number ≤ clean → number ≤ (page_in area page).sequence)

-- so it is with each page on which the range has a byte
abbrev pub IsKeptRange : ℕ → ℕ → ℕ → List ℕ → List PageEntry → RangeData → Type 0
IsKeptRange number clean pages area entries range = (page : ℕ) → page < pages → ReachesPage range page → IsKeptPage number clean area entries page

-- a number of a record of this node, stable or not, against the least that is not stable
pub record IsOnItsSide (least : ℕ) (holder : Holder) (stable : Bool) (node number : ℕ) : Type 0 where
  pub below : stable ≡ true → number < least
  pub above : stable ≡ false → least ≤ number
  pub home : stable ≡ false → holder ≡ Here node

-- a record, if it is of the segment
abbrev pub IsKeptRecord : ℕ → ℕ → ℕ → ℕ → Holder → List ℕ → List PageEntry → Bool → Record → Type 0
IsKeptRecord segment least clean pages holder area entries stable r =
    (number : ℕ) → number_in segment r.locks ≡ Some number →
    IsOnItsSide least holder stable r.node number × All (λ (range : RangeData). range.segment ≡ segment → IsKeptRange number clean pages area entries range) r.ranges

-- a record that is not stable has this number of the segment
pub record IsWaiting (segment : ℕ) (logs : List (List Record)) (counts : List ℕ) (number : ℕ) : Type 0 where
  pub node : ℕ
  pub place : ℕ
  pub known : node < length logs
  pub waits : slice_index_or counts node 0 ≤ place
  pub within : place < length (slice_index_or logs node [])
  pub has : number_in segment (record_at logs node place).locks ≡ Some number

-- the least such number, or the one above the token's where that is less
pub record IsLeastWaiting (segment seq : ℕ) (logs : List (List Record)) (counts : List ℕ) (least : ℕ) : Type 0 where
  pub most : least ≤ seq + 1
  pub below : (number : ℕ) → IsWaiting segment logs counts number → least ≤ number
  pub is : (least ≡ seq + 1) ⊎ IsWaiting segment logs counts least

-- the lesser of a number and the least of the segment in the records of a log between two places
pub record IsLowered (segment : ℕ) (log : List Record) (from to old new : ℕ) : Type 0 where
  pub most : new ≤ old
  pub below : (place number : ℕ) → from ≤ place → place < to → number_in segment (slice_index_or log place no_record).locks ≡ Some number → new ≤ number
  pub is : (new ≡ old) ⊎ ((place : ℕ) × (from ≤ place) × (place < length log) × (number_in segment (slice_index_or log place no_record).locks ≡ Some new))

-- what the token says of the page is what its area says, and the page is below this number
pub record IsReadPage (least : ℕ) (area : List ℕ) (entries : List PageEntry) (page : ℕ) : Type 0 where
  pub below : (page_in area page).sequence < least
  pub text : entry_text (entry_at entries page) ≡ text_in area page

-- how many of these are of the segment
abbrev pub count_log : ℕ → List Record → ℕ
count_log segment rs = length (filter (has_lock segment) rs)

-- and of all logs
abbrev pub count_on : ℕ → List (List Record) → ℕ
count_on segment [] = 0
count_on segment (log ∷ logs) = count_log segment log + count_on segment logs

-- the token's number is small and not below its clean one, and it has an entry for each page, as its area has them; its records
-- are as many as end at its number, and some page has come to the number before them; those that are not stable are at home, above
-- all that are and all pages
pub record IsKeptToken (segment pages : ℕ) (token : Token) (holder : Holder) (logs : List (List Record)) (counts : List ℕ) (area : List ℕ) : Type 0 where
  pub small : token.seq ≤ 2 ^ 60
  pub clean_within : token.clean ≤ token.seq
  pub entries : pages ≤ length token.pages
  pub few : count_on segment logs ≤ token.seq
  pub reached : (page : ℕ) × (page < pages) × (token.seq - count_on segment logs ≤ (page_in area page).sequence)
  pub least : ℕ
  pub most : least ≤ token.seq + 1
  pub read : (page : ℕ) → page < pages → IsReadPage least area token.pages page
  pub records : (n k : ℕ) → n < length logs → k < length (slice_index_or logs n [])
      → IsKeptRecord segment least token.clean pages holder area token.pages (nat_lt k (slice_index_or counts n 0)) (record_at logs n k)
