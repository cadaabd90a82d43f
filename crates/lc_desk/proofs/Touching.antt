-- The pages of a slot that a range changes.
use Rattle.std.proofs.Common.{◌≡◌, ◌≢◌, inl, inr, ◌<◌, ◌≤◌, ◌+◌, ◌*◌, ◌/◌, ℕ, min, nat_lt, length, Bool, true, false, Some, if◌then◌else◌, ap, refl, ◌∙◌, arith, below_more, get_or-set_other, get_or-set_same}
use Rattle.std.proofs.lemmas.Bool.{and_parts, and_cases, cases_lt, ltb-true, ltb-false}
use Rattle.std.proofs.lemmas.List.{length-set}
use Rattle.std.specs.Int.{div_ceil}
use Rattle.std.specs.Prelude.{slice_set}
use Rattle.lc_page.specs.declared.page_entry.PageEntry.{PageEntry}
use Rattle.lc_page.specs.PageVector.{entry_at, no_entry, touched_at}
use Rattle.lc_token.specs.Standing.{Standing}
use Rattle.lc_token.specs.declared.token.Token.{Token}
use Rattle.lc_desk.specs.declared.segment_copy.SegmentCopy.{SegmentCopy}
use Rattle.lc_desk.specs.Counts.{TouchesSlot, is_on}

-- the pages between two are changed under the token's number
pub record TouchedBetween (from below : ℕ) (old new : Token) : Type 0 where
  pub same_segment : new.segment ≡ old.segment
  pub same_seq : new.seq ≡ old.seq
  pub same_clean : new.clean ≡ old.clean
  pub same_count : length new.pages ≡ length old.pages
  pub touched : (page : ℕ) → page < below → from ≤ page → page < length old.pages → entry_at new.pages page ≡ touched_at (entry_at old.pages page) old.seq
  pub in_front : (page : ℕ) → page < from → entry_at new.pages page ≡ entry_at old.pages page
  pub behind : (page : ℕ) → below ≤ page → entry_at new.pages page ≡ entry_at old.pages page

pub record Touching (from below : ℕ) (token : Token) (old new : SegmentCopy) : Type 0 where
  pub after : Token
  pub slot_is : new ≡ record old { token = record old.token { token = Some after } }
  pub between : TouchedBetween from below token after

-- one page more
token_step : (from below : ℕ) (old now : Token) → TouchedBetween from below old now → from ≤ below → below < length old.pages
    → TouchedBetween from (below + 1) old (record now { pages = slice_set now.pages below (touched_at (entry_at now.pages below) now.seq) })
token_step from below old now h order within =
    let x : PageEntry = touched_at (entry_at now.pages below) now.seq in
    let among : below < length now.pages = omega (arith, h.same_count, within) in
    let here : entry_at (slice_set now.pages below x) below ≡ touched_at (entry_at old.pages below) old.seq =
    get_or-set_same now.pages below x no_entry among
    ∙ ap (touched_at (entry_at now.pages below)) h.same_seq
    ∙ ap (λ e. touched_at e old.seq) (h.behind below (omega arith)) in
    let other : (page : ℕ) → page ≢ below → entry_at (slice_set now.pages below x) page ≡ entry_at now.pages page =
    λ page differ. get_or-set_other now.pages below page x no_entry differ in record {
      same_segment = h.same_segment;
      same_seq = h.same_seq;
      same_clean = h.same_clean;
      same_count = length-set now.pages below x ∙ h.same_count;
      touched = below_more _ _
          (λ page lt ge among. other page (λ e. omega (arith, e, lt)) ∙ h.touched page lt ge among)
          (λ ge among. here);
      in_front = λ page lt. other page (λ e. omega (arith, e, lt, order)) ∙ h.in_front page lt;
      behind = λ page le. other page (λ e. omega (arith, e, le)) ∙ h.behind page (omega (arith, le));
    }

pub touching_step : (from below : ℕ) (token : Token) (old now : SegmentCopy) (place : Standing) → Touching from below token old now → from ≤ below
    → below < length token.pages
    → ((t : Token) → now.token.token ≡ Some t → place ≡ record now.token { token = Some (record t { pages = slice_set t.pages below (touched_at (entry_at t.pages below) t.seq) }) })
    → Touching from (below + 1) token old (record now { token = place })
touching_step from below token old now place h order within is =
    let a : Token = h.after in
    let after : Token = record a { pages = slice_set a.pages below (touched_at (entry_at a.pages below) a.seq) } in record {
      after = after;
      slot_is =
          ap (λ (p : Standing). record now { token = p }) (is a (ap (λ (s : SegmentCopy). s.token.token) h.slot_is))
          ∙ ap (λ (s : SegmentCopy). record s { token = record s.token { token = Some after } }) h.slot_is;
      between = token_step from below token a h.between order within;
    }

pub if_is : {A : Type 0} (b : Bool) (x y z : A) → (b ≡ true → z ≡ x) → (b ≡ false → z ≡ y) → z ≡ (if b then x else y)
if_is b x y z one another = elim b as (λ b. (b ≡ true → z ≡ x) → (b ≡ false → z ≡ y) → z ≡ (if b then x else y)) [ true ↦ λ p q. p refl | false ↦ λ p q. q refl ] one another

-- the pages up to the last one that has one of these positions, or to the last of all
pub touching_end : (offset len behind page : ℕ) (token : Token) (old new : SegmentCopy) → Touching (offset / 256) page token old new
    → (offset / 256 < page → page ≤ div_ceil (offset + len) 256) → behind ≡ min (div_ceil (offset + len) 256) (length token.pages) → behind ≤ page
    → TouchesSlot offset len token old new
touching_end offset len behind page token old new h few is done =
    let t = h.between in record {
      after = h.after;
      slot_is = h.slot_is;
      touches = record {
        same_segment = t.same_segment;
        same_seq = t.same_seq;
        same_clean = t.same_clean;
        same_count = t.same_count;
        entries = λ q among. if_is (is_on offset len q) _ _ _
            (λ on.
            let both = and_parts (nat_lt offset (q * 256 + 256)) (nat_lt (q * 256) (offset + len)) on in
            let ge : offset / 256 ≤ q = omega (arith, ltb-true offset (q * 256 + 256) both.0) in
            let lt : q < page = omega (arith, ltb-true (q * 256) (offset + len) both.1, done, is, among) in
            t.touched q lt ge among)
            (λ off. elim (and_cases (nat_lt offset (q * 256 + 256)) (nat_lt (q * 256) (offset + len)) off) [
              | inl clear ↦ t.in_front q (omega (arith, ltb-false offset (q * 256 + 256) clear))
              | inr clear ↦
                  let end : offset + len ≤ q * 256 = ltb-false (q * 256) (offset + len) clear in
                  t.behind q (elim (cases_lt (offset / 256) page) [ inl lt ↦ omega (arith, end, few lt) | inr ge ↦ omega (arith, end, ge) ])
            ]);
      };
    }
