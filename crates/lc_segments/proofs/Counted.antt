-- A record that is counted.
use Rattle.std.proofs.Common.{◌≡◌, ℕ, ◌+◌, ◌<◌, ◌≤◌, ◌^◌, List, Some, None, length, refl, sym, ap, ◌∙◌, arith}
use Rattle.std.specs.Prelude.{Option}
use Rattle.std.specs.Option.{ForSome}
use Rattle.lc_disk.specs.declared.area.Area.{Ghosts}
use Rattle.lc_record.specs.declared.part.Part.{Part}
use Rattle.lc_token.specs.Standing.{Standing}
use Rattle.lc_token.specs.declared.token.Token.{Token}
use Rattle.lc_tx.specs.Image.{laid_over}
use Rattle.lc_segments.specs.SegSide.{FitsArea}
use Rattle.lc_segments.specs.Sides.{next_token, IsNext}
use Rattle.lc_segments.specs.Touched.{touched_pages}
use Rattle.lc_segments.specs.declared.page_area.PageArea.{PageArea}
use Rattle.lc_segments.specs.declared.page_area.PageArea.TheVariants.{Elsewhere, Serves, Failed}
use Rattle.lc_segments.proofs.CountedFits.{counted_fits}
use Rattle.lc_segments.proofs.TouchedPages.{length-touched_pages}

-- the number of a token, if there is one
abbrev seq_of : Option Token → ℕ
seq_of None = 0
seq_of (Some t) = t.seq

abbrev pages_of : Option Token → ℕ
pages_of None = 0
pages_of (Some t) = length t.pages

-- the token that is here has the number before the part's
pub token_before : (part : Part) (o : Option Token) → IsNext part o → (t : Token) × (o ≡ Some t) × (part.seq ≡ t.seq + 1) × (t.seq < 2 ^ 60)
token_before part None next = absurd next
token_before part (Some t) next = (t, refl, next.0, next.1)

-- after it the token has the part's
pub number_counted : (part : Part) (o : Option Token) (t x : Token) → o ≡ Some t → Some x ≡ next_token part o → x.seq ≡ t.seq + 1
number_counted part o t x is same = ap seq_of (same ∙ ap (next_token part) is)

-- it counts the record, and then touches its pages
pub token_counted : (part : Part) (old mid new : Standing) (t : Token) → old.token ≡ Some t
    → ForSome old.token (λ x. mid ≡ record old { token = Some (record x { seq = x.seq + 1 }) })
    → ForSome mid.token (λ x. new ≡ record mid { token = Some (record x { pages = touched_pages part.ranges x.seq x.pages }) })
    → new ≡ record old { token = next_token part old.token }
token_counted part old mid new t is counts touches =
    let mid_is : mid ≡ record old { token = Some (record t { seq = t.seq + 1 }) } = counts t is in
    let new_is : new ≡ record mid { token = Some (record t { seq = t.seq + 1; pages = touched_pages part.ranges (t.seq + 1) t.pages }) } = touches (record t { seq = t.seq + 1 }) (ap (λ (s : Standing). s.token) mid_is) in
    new_is ∙ (ap (λ (s : Standing). record s { token = Some (record t { seq = t.seq + 1; pages = touched_pages part.ranges (t.seq + 1) t.pages }) }) mid_is
    ∙ ap (λ (o : Option Token). record old { token = next_token part o }) (sym is))

-- the area stands as the token says, with the part on the bytes
pub area_counted : {D : Type 0} (a : Ghosts D) (since : ℕ) (pages : PageArea D) (token : Option Token) (part : Part) (bytes : List ℕ) → IsNext part token
    → FitsArea a since pages token bytes → FitsArea a since pages (next_token part token) (laid_over part.ranges bytes)
area_counted a since pages None part bytes next fits = absurd next
area_counted a since Elsewhere (Some t) part bytes next fits = absurd cc
area_counted a since (Serves area) (Some t) part bytes next fits = counted_fits a since area t bytes part.ranges fits next.1
area_counted a since (Failed area) (Some t) part bytes next fits = refl

-- it has as many pages
pub few_behind : (part : Part) (o : Option Token) (n : ℕ) → ForSome o (λ t. length t.pages ≤ n) → ForSome (next_token part o) (λ t. length t.pages ≤ n)
few_behind part None n few = λ x is. absurd cc
few_behind part (Some t) n few = λ x is.
    let same : length x.pages ≡ length t.pages = ap pages_of (sym is) ∙ length-touched_pages part.ranges (t.seq + 1) t.pages in
    let was = few t refl in omega arith

pub few_before : (o new : Option Token) (t : Token) (n : ℕ) → o ≡ Some t → new ≡ Some (record t { seq = t.seq + 1 }) → ForSome o (λ x. length x.pages ≤ n) → ForSome new (λ x. length x.pages ≤ n)
few_before o new t n is new_is few = λ x there. let same : length x.pages ≡ length t.pages = ap pages_of (sym there ∙ new_is) in let was = few t is in omega arith
