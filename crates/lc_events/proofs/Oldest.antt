-- How far the pages of a segment on the disk have come, by the numbers.
use Rattle.std.proofs.Common.{◌≡◌, ℕ, zero, suc, ◌+◌, ◌<◌, ◌≤◌, Bool, true, false, List, length, Option, Some, None, refl, sym, ap, subst, ◌∙◌, arith, inl, inr, true≢false}
use Rattle.std.specs.Prelude.{◌^◌, min, if◌then◌else◌}
use Rattle.std.specs.Option.{unwrap_or}
use Rattle.std.proofs.lemmas.Bool.{cases_lt}
use Rattle.lc_record.specs.Marks.{counting}
use Rattle.lc_page.specs.PageVector.{entry_at, is_dirty as is_dirty_entry}
use Rattle.lc_page.specs.declared.page_entry.PageEntry.{PageEntry}
use Rattle.lc_token.specs.Token.{IsReached, least_with}
use Rattle.lc_settled.specs.Numbers.{Numbers, stable}
use Rattle.lc_settled.specs.Turns.{is_dirty, oldest_dirty}

module _ (x : Numbers) (segment : ℕ) where
  -- of the pages from one up to another none is dirty
  abbrev AllClean : ℕ → ℕ → Type 0
  AllClean from to = (page : ℕ) → from ≤ page → page < to → is_dirty x segment page ≡ false

  -- this is the least sequence of a dirty one
  record IsLeast (from to least : ℕ) : Type 0 where
    page : ℕ
    first : from ≤ page
    last : page < to
    dirty : is_dirty x segment page ≡ true
    sequence : stable x segment page ≡ least
    lower : (other : ℕ) → from ≤ other → other < to → is_dirty x segment other ≡ true → least ≤ stable x segment other

  abbrev IsOldest : ℕ → ℕ → Option ℕ → Type 0
  IsOldest from to None = AllClean from to
  IsOldest from to (Some least) = IsLeast from to least

  one_more : (from to : ℕ) (b : Bool) (o : Option ℕ) → from < to → is_dirty x segment from ≡ b → IsOldest (from + 1) to o
      → IsOldest from to (if b then Some (least_with o (stable x segment from)) else o)
  one_more from to false None some clean rest = λ page first last. elim (cases_lt from page) [
    | inl above ↦ rest page (omega (arith, above)) last
    | inr at ↦ (let same : page ≡ from = omega (arith, at, first) in ap (is_dirty x segment) same ∙ clean)
  ]
  one_more from to false (Some least) some clean rest = record {
    page = rest.page;
    first = (let above = rest.first in omega (arith, above));
    last = rest.last;
    dirty = rest.dirty;
    sequence = rest.sequence;
    lower = λ other first last dirty. elim (cases_lt from other) [
      | inl above ↦ rest.lower other (omega (arith, above)) last dirty
      | inr at ↦ (let same : other ≡ from = omega (arith, at, first) in absurd (true≢false (sym dirty ∙ ap (is_dirty x segment) same ∙ clean)))
    ];
  }
  one_more from to true None some is rest = record {
    page = from;
    first = omega arith;
    last = some;
    dirty = is;
    sequence = refl;
    lower = λ other first last dirty. elim (cases_lt from other) [
      | inl above ↦ absurd (true≢false (sym dirty ∙ rest other (omega (arith, above)) last))
      | inr at ↦ (let same : other ≡ from = omega (arith, at, first) in subst (λ (i : ℕ). stable x segment from ≤ stable x segment i) (sym same) (omega arith))
    ];
  }
  one_more from to true (Some least) some is rest = elim (cases_lt (stable x segment from) least) [
    | inl below ↦ record {
      page = from;
      first = omega arith;
      last = some;
      dirty = is;
      sequence = omega (arith, below);
      lower = lower;
    }
    | inr above ↦ record {
      page = rest.page;
      first = (let after = rest.first in omega (arith, after));
      last = rest.last;
      dirty = rest.dirty;
      sequence = (let same = rest.sequence in omega (arith, above, same));
      lower = lower;
    }
  ]
    where
      lower : (other : ℕ) → from ≤ other → other < to → is_dirty x segment other ≡ true → min least (stable x segment from) ≤ stable x segment other
      lower other first last dirty = elim (cases_lt from other) [
        | inl later ↦ (let low = rest.lower other (omega (arith, later)) last dirty in omega (arith, low))
        | inr at ↦ (let same : other ≡ from = omega (arith, at, first) in subst (λ (i : ℕ). min least (stable x segment from) ≤ stable x segment i) (sym same) (omega arith))
      ]

  oldest_is : (from n : ℕ) → IsOldest from (from + n) (oldest_dirty x segment (counting from n))
  oldest_is from zero = λ page first last. absurd (omega (arith, first, last))
  oldest_is from (suc n) =
      let same : from + 1 + n ≡ from + suc n = omega arith in
      one_more from (from + suc n) (is_dirty x segment from) (oldest_dirty x segment (counting (from + 1) n)) (omega arith) refl
      (subst (λ (to : ℕ). IsOldest (from + 1) to (oldest_dirty x segment (counting (from + 1) n))) same (oldest_is (from + 1) n))

  -- what entries that say the same have reached
  pub reached_is : (pages seq reached : ℕ) (entries : List PageEntry) → length entries ≡ pages → pages ≤ 2 ^ 32
      → ((page : ℕ) → page < pages → is_dirty_entry (entry_at entries page) ≡ is_dirty x segment page)
      → ((page : ℕ) → page < pages → (entry_at entries page).stable ≡ stable x segment page)
      → IsReached seq entries reached → unwrap_or (oldest_dirty x segment (counting 0 pages)) seq ≡ reached
  reached_is pages seq reached entries count few dirties stables is = by_oldest (oldest_dirty x segment (counting 0 pages)) (subst (λ (to : ℕ). IsOldest 0 to (oldest_dirty x segment (counting 0 pages))) (omega arith) (oldest_is 0 pages)) is
    where
      by_oldest : (o : Option ℕ) → IsOldest 0 pages o → IsReached seq entries reached → unwrap_or o seq ≡ reached
      by_oldest None clean (inl all) = sym all.1
      by_oldest None clean (inr least) =
          let within = least.0.1.0 in
          let below : least.0.0 < pages = omega (arith, within, count) in
          absurd (true≢false (sym least.0.1.2 ∙ dirties least.0.0 below ∙ clean least.0.0 (omega arith) below))
      by_oldest (Some oldest) one (inl all) =
          let below = one.last in
          absurd (all.0 one.page (omega (arith, below, count), omega (arith, below, few), dirties one.page below ∙ one.dirty))
      by_oldest (Some oldest) one (inr least) =
          let within = least.0.1.0 in
          let below : least.0.0 < pages = omega (arith, within, count) in
          let last = one.last in
          let low = one.lower least.0.0 (omega arith) below (sym (dirties least.0.0 below) ∙ least.0.1.2) in
          let its = stables least.0.0 below in
          let number = least.0.2 in
          let high = least.1 one.page (omega (arith, last, count), omega (arith, last, few), dirties one.page last ∙ one.dirty) in
          let own = stables one.page last in
          let sequence = one.sequence in
          omega (arith, low, its, number, high, own, sequence)
