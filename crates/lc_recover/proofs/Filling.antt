-- The pages of a segment are filled one after another.
use Rattle.std.proofs.Common.{◌≡◌, ◌≢◌, ℕ, ◌+◌, ◌*◌, ◌<◌, ◌≤◌, List, length, take, drop, ◌∙◌, ap, subst, arith, inl, inr}
use Rattle.std.specs.Prelude.{slice_set}
use Rattle.std.proofs.lemmas.Bool.{cases_lt}
use Rattle.std.proofs.lemmas.List.{length-set}
use Rattle.lc_disk.specs.Area.{overlaid}
use Rattle.lc_page.specs.Page.{page_in, text_in}
use Rattle.lc_page.specs.PageVector.{entry_at, new_entry, no_entry}
use Rattle.lc_page.specs.declared.page_entry.PageEntry.{PageEntry}
use Rattle.lc_recover.proofs.Settles.{entry_other, entry_set, overlaid_whole, page_beside, page_over}
use Rattle.lc_recover.specs.Pages.{AreKept, bytes_of_page}
use Rattle.lc_recover.specs.declared.segment_pages.SegmentPages.{SegmentPages}

abbrev bytes_at : List ℕ → ℕ → List ℕ
bytes_at l page = take 256 (drop (page * 256) l)

-- the first ones are those of the area
pub record AreFilled (area : List ℕ) (pages filled : ℕ) (s : SegmentPages) : Type 0 where
  pub count : length s.texts ≡ pages
  pub len : length s.bytes.items ≡ pages * 256
  pub entries : (page : ℕ) → page < filled → entry_at s.texts page ≡ new_entry (text_in area page)
  pub bytes : (page : ℕ) → page < filled → bytes_of_page s page ≡ (page_in area page).content

pub filled-none : (area : List ℕ) (pages : ℕ) (s : SegmentPages) → length s.texts ≡ pages → length s.bytes.items ≡ pages * 256 → AreFilled area pages 0 s
filled-none area pages s count len = record {
  count = count;
  len = len;
  entries = λ page less. absurd (omega (arith, less));
  bytes = λ page less. absurd (omega (arith, less));
}

pub filled-all : (area : List ℕ) (pages filled : ℕ) (s : SegmentPages) → pages ≤ filled → AreFilled area pages filled s → AreKept area pages s
filled-all area pages filled s all are = record {
  count = are.count;
  len = are.len;
  entries = λ page less. are.entries page (omega (arith, less, all));
  bytes = λ page less. are.bytes page (omega (arith, less, all));
}

pub filled-more : (area : List ℕ) (pages filled : ℕ) (s new : SegmentPages) (bytes : List ℕ) → AreFilled area pages filled s → filled < pages
    → new.texts ≡ slice_set s.texts filled (new_entry (text_in area filled)) → new.bytes.items ≡ overlaid s.bytes.items (filled * 256) bytes
    → length bytes ≡ 256 → bytes ≡ (page_in area filled).content → AreFilled area pages (filled + 1) new
filled-more area pages filled s new bytes are less texts over long its =
    let room : filled * 256 + 256 ≤ length s.bytes.items = omega (arith, less, are.len) in
    record {
      count = ap (λ (l : List PageEntry). length l) texts ∙ length-set s.texts filled (new_entry (text_in area filled)) ∙ are.count;
      len = ap (λ (l : List ℕ). length l) over ∙ overlaid_whole s.bytes.items bytes (filled * 256) (omega (arith, room, long)) ∙ are.len;
      entries = λ page within.
          ap (λ (l : List PageEntry). entry_at l page) texts
          ∙ elim (cases_lt page filled) as (λ _. entry_at (slice_set s.texts filled (new_entry (text_in area filled))) page ≡ new_entry (text_in area page)) [
            | inl before ↦
                let differ : page ≢ filled = λ same. omega (arith, same, before) in
                entry_other s.texts filled (new_entry (text_in area filled)) no_entry page (omega (arith, before, less, are.count)) differ ∙ are.entries page before
            | inr last ↦
                let here : filled ≡ page = omega (arith, last, within) in
                subst (λ (p : ℕ). entry_at (slice_set s.texts filled (new_entry (text_in area filled))) p ≡ new_entry (text_in area p)) here
                (entry_set s.texts filled (new_entry (text_in area filled)) no_entry (omega (arith, less, are.count)))
          ];
      bytes = λ page within.
          ap (λ (l : List ℕ). bytes_at l page) over
          ∙ elim (cases_lt page filled) as (λ _. bytes_at (overlaid s.bytes.items (filled * 256) bytes) page ≡ (page_in area page).content) [
            | inl before ↦
                let differ : page ≢ filled = λ same. omega (arith, same, before) in
                page_beside s.bytes.items bytes filled page long room differ ∙ are.bytes page before
            | inr last ↦
                let here : filled ≡ page = omega (arith, last, within) in
                subst (λ (p : ℕ). bytes_at (overlaid s.bytes.items (filled * 256) bytes) p ≡ (page_in area p).content) here
                (page_over s.bytes.items bytes (filled * 256) long room ∙ its)
          ];
    }
