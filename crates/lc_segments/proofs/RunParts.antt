-- The part that runs have of a segment, with the bytes of an image: how much it takes, and which pages it touches.
use Rattle.std.proofs.Common.{◌≡◌, ℕ, suc, ◌+◌, ◌*◌, ◌&&◌, ◌||◌, nat_lt, Bool, List, [], ◌∷◌, ◌++◌, length, map, take, drop, cond, eq-eqb, ne_eqb, ◌==◌, ◌≢◌, refl, sym, ap, ◌∙◌, arith}
use Rattle.std.specs.List.{list_any}
use Rattle.std.proofs.lemmas.List.{append-nil}
use Rattle.std.proofs.lemmas.List.Elements.{filter-append}
use Rattle.lc_page.specs.PageVector.{touched_at}
use Rattle.lc_page.specs.declared.page_entry.PageEntry.{PageEntry}
use Rattle.lc_range.specs.RangeSet.{EndWithin}
use Rattle.lc_range.specs.declared.range.Range.{Range}
use Rattle.lc_record.specs.Marks.{counting}
use Rattle.lc_record.proofs.ListLemmas.{length-counting}
use Rattle.lc_applied.specs.AppliedParts.{range_of_run, runs_of}
use Rattle.lc_applied.proofs.RunsLemmas.{length-in_run}
use Rattle.lc_segments.specs.Growing.{ranges_size, runs_size}
use Rattle.lc_segments.specs.Touched.{is_on, range_at, touched_by, touched_from, touched_pages}

pub size_same : (image : List ℕ) (runs : List Range) → EndWithin runs (length image) → ranges_size (map (range_of_run image) runs) ≡ runs_size runs
size_same image [] within = refl
size_same image (run ∷ runs) within = omega (arith, length-in_run run image within.0, size_same image runs within.1)

any_same : (page : ℕ) (image : List ℕ) (runs : List Range) → EndWithin runs (length image) → list_any (is_on page) (map (range_of_run image) runs) ≡ list_any (is_on page) (map range_at runs)
any_same page image [] within = refl
any_same page image (run ∷ runs) within =
    let long : length (take run.len (drop run.offset image)) ≡ length (counting 0 run.len) = length-in_run run image within.0 ∙ sym (length-counting 0 run.len) in
    ap (λ (n : ℕ). (nat_lt 0 n && (nat_lt run.offset (page * 256 + 256) && nat_lt (page * 256) (run.offset + n))) || list_any (is_on page) (map (range_of_run image) runs)) long
    ∙ ap (λ (b : Bool). is_on page (range_at run) || b) (any_same page image runs within.1)

from_same : (image : List ℕ) (runs : List Range) → EndWithin runs (length image) → (seq page : ℕ) (entries : List PageEntry)
    → touched_from (map range_at runs) seq page entries ≡ touched_from (map (range_of_run image) runs) seq page entries
from_same image runs within seq page [] = refl
from_same image runs within seq page (entry ∷ entries) =
    ap (λ (b : Bool). cond b (touched_at entry seq) entry ∷ touched_from (map range_at runs) seq (suc page) entries) (sym (any_same page image runs within))
    ∙ ap (λ (l : List PageEntry). touched_by (map (range_of_run image) runs) seq page entry ∷ l) (from_same image runs within seq (suc page) entries)

-- the same pages are touched, whichever bytes the runs have
pub touched_same : (image : List ℕ) (runs : List Range) → EndWithin runs (length image) → (seq : ℕ) (entries : List PageEntry)
    → touched_pages (map range_at runs) seq entries ≡ touched_pages (map (range_of_run image) runs) seq entries
touched_same image runs within seq entries = from_same image runs within seq 0 entries

-- The runs of a segment, with one run more

kept_if : Bool → Range → List Range
kept_if b run = cond b (run ∷ []) []

runs_more : (segment : ℕ) (runs : List Range) (run : Range) → runs_of segment (runs ++ run ∷ []) ≡ runs_of segment runs ++ runs_of segment (run ∷ [])
runs_more segment runs run = filter-append (λ (r : Range). r.segment == segment) runs (run ∷ [])

pub runs_one : (segment : ℕ) (runs : List Range) (run : Range) → run.segment ≡ segment → runs_of segment (runs ++ run ∷ []) ≡ runs_of segment runs ++ run ∷ []
unfolding kept_if
runs_one segment runs run same = runs_more segment runs run ∙ ap (λ (b : Bool). runs_of segment runs ++ kept_if b run) (eq-eqb run.segment segment same)

pub runs_other : (segment : ℕ) (runs : List Range) (run : Range) → run.segment ≢ segment → runs_of segment (runs ++ run ∷ []) ≡ runs_of segment runs
unfolding kept_if
runs_other segment runs run differ = runs_more segment runs run ∙ (ap (λ (b : Bool). runs_of segment runs ++ kept_if b run) (ne_eqb run.segment segment differ) ∙ append-nil (runs_of segment runs))
