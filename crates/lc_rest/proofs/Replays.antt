-- One range, one record, one page more of a replay.
use Rattle.std.proofs.Common.{rules, ◌≡◌, ◌≢◌, ◌⊎◌, ℕ, zero, suc, ◌+◌, ◌<◌, ◌≤◌, Bool, true, false, ◌==◌, ◌||◌, List, [], ◌∷◌, map, length, take, refl, sym, ◌∙◌, ap, subst, arith, inl, inr, add-one, below_more}
use Rattle.std.proofs.lemmas.Bool.{leb-true, leb-false}
use Rattle.std.specs.List.{list_any}
use Rattle.std.specs.Prelude.{Option, Some, None, max, min, nat_le, slice_index_or, if◌then◌else◌}
use Rattle.lc_page.specs.Page.{page_in}
use Rattle.lc_record.specs.Content.{put}
use Rattle.lc_record.proofs.SegmentLemmas.{length-put}
use Rattle.lc_record.specs.Transaction.{is_member}
use Rattle.lc_record.specs.declared.record.Lock.{Lock}
use Rattle.lc_record.specs.declared.record.RangeData.{RangeData}
use Rattle.lc_record.specs.declared.record.Record.{Record}
use Rattle.lc_rest.specs.Turns.{has_lock}
use Rattle.lc_rest.specs.Replay.{above_on, AreMet, IsDue, IsPlayed, bytes_above, bytes_after, laid_on, lesser, number_after, part_at, range_on}

-- Ranges

laid-next : (segment : ℕ) (ranges : List RangeData) (bytes : List ℕ) (i : ℕ) (d : RangeData) → i < length ranges
    → range_on segment (slice_index_or ranges i d) (laid_on segment (take i ranges) bytes) ≡ laid_on segment (take (suc i) ranges) bytes
laid-next segment [] bytes i d less = absurd (omega (arith, less))
laid-next segment (range ∷ ranges) bytes zero d less = refl
laid-next segment (range ∷ ranges) bytes (suc i) d less = laid-next segment ranges (range_on segment range bytes) i d (omega (arith, less))

pub laid-more : (segment : ℕ) (ranges : List RangeData) (now bytes : List ℕ) (i : ℕ) (d : RangeData) → i < length ranges → now ≡ laid_on segment (take i ranges) bytes
    → range_on segment (slice_index_or ranges i d) now ≡ laid_on segment (take (i + 1) ranges) bytes
laid-more segment ranges now bytes i d less is = ap (range_on segment (slice_index_or ranges i d)) is ∙ laid-next segment ranges bytes i d less ∙ ap (λ n. laid_on segment (take n ranges) bytes) (sym (add-one i))

-- Records

bytes-next : (segment : ℕ) (rs : List Record) (bytes : List ℕ) (i : ℕ) (d : Record) → i < length rs
    → laid_on segment (slice_index_or rs i d).ranges (bytes_after segment (take i rs) bytes) ≡ bytes_after segment (take (suc i) rs) bytes
bytes-next segment [] bytes i d less = absurd (omega (arith, less))
bytes-next segment (r ∷ rs) bytes zero d less = refl
bytes-next segment (r ∷ rs) bytes (suc i) d less = bytes-next segment rs (laid_on segment r.ranges bytes) i d (omega (arith, less))

pub bytes-more : (segment : ℕ) (rs : List Record) (now bytes : List ℕ) (i : ℕ) (d : Record) → i < length rs → now ≡ bytes_after segment (take i rs) bytes
    → laid_on segment (slice_index_or rs i d).ranges now ≡ bytes_after segment (take (i + 1) rs) bytes
bytes-more segment rs now bytes i d less is = ap (laid_on segment (slice_index_or rs i d).ranges) is ∙ bytes-next segment rs bytes i d less ∙ ap (λ n. bytes_after segment (take n rs) bytes) (sym (add-one i))

abbrev pub number_on : ℕ → Record → ℕ → ℕ
number_on segment r number = if has_lock segment r then number + 1 else number

number-next : (segment : ℕ) (rs : List Record) (number i : ℕ) (d : Record) → i < length rs
    → number_on segment (slice_index_or rs i d) (number_after segment (take i rs) number) ≡ number_after segment (take (suc i) rs) number
number-next segment [] number i d less = absurd (omega (arith, less))
number-next segment (r ∷ rs) number zero d less = refl
number-next segment (r ∷ rs) number (suc i) d less = number-next segment rs (number_on segment r number) i d (omega (arith, less))

pub number-more : (segment : ℕ) (rs : List Record) (now number i : ℕ) (d : Record) → i < length rs → now ≡ number_after segment (take i rs) number
    → (if has_lock segment (slice_index_or rs i d) then now + 1 else now) ≡ number_after segment (take (i + 1) rs) number
number-more segment rs now number i d less is = ap (number_on segment (slice_index_or rs i d)) is ∙ number-next segment rs number i d less ∙ ap (λ n. number_after segment (take n rs) number) (sym (add-one i))

pub on-rises : (b : Bool) (n : ℕ) → n ≤ (if b then n + 1 else n)
on-rises true n = omega arith
on-rises false n = omega arith

number-rises : (segment : ℕ) (rs : List Record) (number : ℕ) → number ≤ number_after segment rs number
number-rises segment [] number = omega arith
number-rises segment (r ∷ rs) number = (let here = on-rises (has_lock segment r) number in let later = number-rises segment rs (number_on segment r number) in omega (arith, here, later))

-- more records count no less
pub number-grows : (segment : ℕ) (rs : List Record) (number few many : ℕ) → few ≤ many → number_after segment (take few rs) number ≤ number_after segment (take many rs) number
number-grows segment rs number zero many less = number-rises segment (take many rs) number
number-grows segment rs number (suc few) zero less = absurd (omega (arith, less))
number-grows segment [] number (suc few) (suc many) less = omega arith
number-grows segment (r ∷ rs) number (suc few) (suc many) less = number-grows segment rs (number_on segment r number) few many (omega (arith, less))

pub number-most : (segment : ℕ) (rs : List Record) (number few : ℕ) → number_after segment (take few rs) number ≤ number_after segment rs number
number-most segment rs number zero = number-rises segment rs number
number-most segment [] number (suc few) = omega arith
number-most segment (r ∷ rs) number (suc few) = number-most segment rs (number_on segment r number) few

len-range : (segment : ℕ) (range : RangeData) (bytes : List ℕ) → length (range_on segment range bytes) ≡ length bytes
len-range segment range bytes = elim (range.segment == segment) as (λ b. length (if b then put range.offset range.bytes bytes else bytes) ≡ length bytes) [
  | true ↦ length-put range.offset range.bytes bytes
  | false ↦ refl
]

pub length-laid : (segment : ℕ) (ranges : List RangeData) (bytes : List ℕ) → length (laid_on segment ranges bytes) ≡ length bytes
length-laid segment [] bytes = refl
length-laid segment (range ∷ ranges) bytes = length-laid segment ranges (range_on segment range bytes) ∙ len-range segment range bytes

-- Pages

pub met-more : (area : List ℕ) (page number : ℕ) (bytes : List ℕ) → AreMet area page number bytes → ((page_in area page).sequence ≡ number → (page_in area page).content ≡ part_at page bytes) → AreMet area (page + 1) number bytes
met-more area page number bytes are last = below_more (λ p. (page_in area p).sequence ≡ number → (page_in area p).content ≡ part_at p bytes) page are last

-- The least sequence above a number

abbrev HasSequence : List ℕ → ℕ → ℕ → Type 0
HasSequence area pages seq = (page : ℕ) × (page < pages) × ((page_in area page).sequence ≡ seq)

one-wider : (area : List ℕ) (pages seq : ℕ) → HasSequence area pages seq → HasSequence area (pages + 1) seq
one-wider area pages seq its = (let less = its.1 in (its.0, omega (arith, less), its.2))

pub min-cases : (a b : ℕ) → (min a b ≡ a) ⊎ (min a b ≡ b)
min-cases a b = grind arith

due-one : (area : List ℕ) (page number : ℕ) (due : Option ℕ) → IsDue area page number due → IsDue area (page + 1) number (lesser due number (page_in area page).sequence)
due-one area page number None are = elim (nat_le (page_in area page).sequence number) as (λ b. nat_le (page_in area page).sequence number ≡ b → IsDue area (page + 1) number (if b then None else Some (page_in area page).sequence)) [
  | true ↦ λ e. below_more (λ p. (page_in area p).sequence ≤ number) page are (leb-true (page_in area page).sequence number e)
  | false ↦ λ e. (
    above e,
    (page, omega arith, refl),
    below_more (λ p. number < (page_in area p).sequence → (page_in area page).sequence ≤ (page_in area p).sequence) page (λ p less over. absurd (let most = are p less in omega (arith, most, over))) (λ over. omega arith),
  )
] refl
  where
    above : nat_le (page_in area page).sequence number ≡ false → number < (page_in area page).sequence
    above e = leb-false (page_in area page).sequence number e
due-one area page number (Some least) are = elim (nat_le (page_in area page).sequence number) as (λ b. nat_le (page_in area page).sequence number ≡ b → IsDue area (page + 1) number (if b then Some least else Some (min least (page_in area page).sequence))) [
  | true ↦ λ e. (are.0, one-wider area page least are.1, below_more (λ p. number < (page_in area p).sequence → least ≤ (page_in area p).sequence) page are.2 (λ over. absurd (let most = leb-true (page_in area page).sequence number e in omega (arith, most, over))))
  | false ↦ λ e. (let over = leb-false (page_in area page).sequence number e in let first = are.0 in (
    grind (arith, over, first),
    found,
    below_more (λ p. number < (page_in area p).sequence → min least (page_in area page).sequence ≤ (page_in area p).sequence) page (λ p less above. let its = are.2 p less above in grind (arith, its)) (λ above. grind arith),
  ))
] refl
  where
    found : HasSequence area (page + 1) (min least (page_in area page).sequence)
    found = elim (min-cases least (page_in area page).sequence) [
      | inl is ↦ subst (HasSequence area (page + 1)) (sym is) (one-wider area page least are.1)
      | inr is ↦ (page, omega arith, sym is)
    ]

pub due-more : (area : List ℕ) (page number seq : ℕ) (due : Option ℕ) → seq ≡ (page_in area page).sequence → IsDue area page number due → IsDue area (page + 1) number (lesser due number seq)
due-more area page number seq due is are = subst (λ s. IsDue area (page + 1) number (lesser due number s)) (sym is) (due-one area page number due are)

-- Locks

pub member-any : (n : ℕ) (locks : List Lock) → is_member n (map (λ (lock : Lock). lock.segment) locks) ≡ list_any (λ (lock : Lock). lock.segment == n) locks
member-any n [] = refl
member-any n (lock ∷ locks) = ap (λ b. (lock.segment == n) || b) (member-any n locks)

-- One record more, of each page that has come to its moment

pub played-locked : (segment first : ℕ) (rs : List Record) (start area : List ℕ) (pages number later i : ℕ) (now : List ℕ) → later ≡ number + 1 → first ≤ number
    → number ≡ number_after segment (take i rs) first → later ≡ number_after segment (take (i + 1) rs) first → now ≡ bytes_after segment (take (i + 1) rs) start
    → ((page : ℕ) → page < pages → (page_in area page).sequence ≤ number → IsPlayed segment first rs start page (page_in area page)) → AreMet area pages later now
    → (page : ℕ) → page < pages → (page_in area page).sequence ≤ later → IsPlayed segment first rs start page (page_in area page)
played-locked segment first rs start area pages number later i now next least was count is before met page less most = elim (split (page_in area page).sequence number later next most) [
  | inl old ↦ before page less old
  | inr same ↦ record {
    turns = i + 1;
    count = sym count ∙ greatest first number later (page_in area page).sequence next least same;
    fewest = λ fewer few. (let grows = number-grows segment rs first fewer i (omega (arith, few)) in omega (arith, grows, was, next, same));
    bytes = met page less same ∙ ap (part_at page) is;
  }
]
  where
    split : (seq number later : ℕ) → later ≡ number + 1 → seq ≤ later → (seq ≤ number) ⊎ (seq ≡ later)
    split seq number later next most = search (rules, arith)

    greatest : (first number later seq : ℕ) → later ≡ number + 1 → first ≤ number → seq ≡ later → later ≡ max first seq
    greatest first number later seq next least same = grind arith

pub met-none : (area : List ℕ) (pages number : ℕ) (due : Option ℕ) (now : List ℕ) → IsDue area pages number due → (due ≡ Some (number + 1) → ⊥) → AreMet area pages (number + 1) now
met-none area pages number None now are not = λ page less same. absurd (let most = are page less in omega (arith, most, same))
met-none area pages number (Some due) now are not = λ page less same.
    absurd (let above = are.0 in let its = are.2 page less (omega (arith, same)) in let is : due ≡ number + 1 = omega (arith, above, its, same) in not (ap Some is))

pub due-none : (area : List ℕ) (pages number : ℕ) (due : Option ℕ) → IsDue area pages number due → (due ≡ Some (number + 1) → ⊥) → IsDue area pages (number + 1) due
due-none area pages number None are not = λ page less. (let most = are page less in omega (arith, most))
due-none area pages number (Some due) are not =
    let above = are.0 in
    let differ : due ≢ number + 1 = λ is. not (ap Some is) in (
      omega (arith, above, differ),
      are.1,
      λ page less over. are.2 page less (omega (arith, over)),
    )

above-next : (segment number : ℕ) (rs : List Record) (bytes : List ℕ) (i : ℕ) (d : Record) → i < length rs
    → above_on segment number (slice_index_or rs i d) (bytes_above segment number (take i rs) bytes) ≡ bytes_above segment number (take (suc i) rs) bytes
above-next segment number [] bytes i d less = absurd (omega (arith, less))
above-next segment number (r ∷ rs) bytes zero d less = refl
above-next segment number (r ∷ rs) bytes (suc i) d less = above-next segment number rs (above_on segment number r bytes) i d (omega (arith, less))

pub above-more : (segment number : ℕ) (rs : List Record) (now bytes : List ℕ) (i : ℕ) (d : Record) → i < length rs → now ≡ bytes_above segment number (take i rs) bytes
    → above_on segment number (slice_index_or rs i d) now ≡ bytes_above segment number (take (i + 1) rs) bytes
above-more segment number rs now bytes i d less is = ap (above_on segment number (slice_index_or rs i d)) is ∙ above-next segment number rs bytes i d less ∙ ap (λ n. bytes_above segment number (take n rs) bytes) (sym (add-one i))
