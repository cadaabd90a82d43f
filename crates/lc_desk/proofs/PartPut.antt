-- The part of a record, put on the bytes of its segment.
use Rattle.std.proofs.Common.{◌≡◌, ℕ, zero, suc, ◌+◌, ◌-◌, ◌≤◌, true, ◌==◌, List, [], ◌∷◌, ◌++◌, length, filter, take, All, Option, Some, None, refl, sym, ap, subst, ◌∙◌, inl, inr, arith, append_assoc, eq-eqb, ne_eqb}
use Rattle.std.specs.Prelude.{slice_get, option_map, if◌then◌else◌}
use Rattle.std.specs.Option.{unwrap_or}
use Rattle.std.proofs.Math.Seq.{take-append_seam}
use Rattle.std.proofs.lemmas.Bool.{cases_eq, cases_Bool}
use Rattle.std.proofs.lemmas.List.{length-append}
use Rattle.std.proofs.lemmas.List.Elements.{filter-append}
use Rattle.lc_record.specs.Content.{Content, segment_of, put}
use Rattle.lc_record.specs.Part.{number_in, part_of}
use Rattle.lc_record.specs.Recorded.{counted, is_set, laid, locks_of, ranges_of, record_of, records_from}
use Rattle.lc_record.specs.Transaction.{Transaction, Marks, IsWellFormed, effect, effects}
use Rattle.lc_record.specs.declared.part.Part.{Part}
use Rattle.lc_record.specs.declared.record.RangeData.{RangeData}
use Rattle.lc_record.specs.declared.record.Record.{Record}
use Rattle.lc_record.proofs.SegmentLemmas.{segment_of-same, segment_of-other}
use Rattle.lc_record.proofs.ListLemmas.{All-append_left as All-left, All-append_right as All-right}
use Rattle.lc_token.specs.Clean.{all_of}
use Rattle.lc_tx.specs.Image.{laid_over}
use Rattle.lc_model.specs.History.{transactions}
use Rattle.lc_model.specs.Merging.{sets, counted_all}
use Rattle.lc_model.specs.Sound.{Sound}
use Rattle.lc_model.specs.State.{Setting, State}
use Rattle.lc_model.specs.Stored.{Disks, base}
use Rattle.lc_model.proofs.Keeps.{history-well}
use Rattle.lc_model.proofs.Law.{effects-append}
use Rattle.std.proofs.lemmas.List.Elements.{All-head}
use Rattle.std.proofs.lemmas.Option.{same_Some as same_some}
use Rattle.lc_model.proofs.Merging.{counted-length, of_a_segment}
use Rattle.lc_model.proofs.RecordBytes.{record-laid, record-number}
use Rattle.lc_desk.specs.Slots.{segment_to}

-- The ranges of one segment

abbrev on_it : ℕ → List RangeData → List RangeData
on_it segment ranges = filter (λ range. range.segment == segment) ranges

-- they are all that counts for its bytes
laid_segment : (segment : ℕ) (ranges : List RangeData) (content : Content) → segment_of segment (laid ranges content) ≡ laid_over (on_it segment ranges) (segment_of segment content)
laid_segment segment [] content = refl
laid_segment segment (r ∷ rs) content = elim (cases_eq r.segment segment) [
  | inl same ↦
      laid_segment segment rs (changed content)
      ∙ ap (laid_over (on_it segment rs)) (subst (λ (n : ℕ). segment_of n (changed content) ≡ put r.offset r.bytes (segment_of n content)) same (segment_of-same r.segment (put r.offset r.bytes) content refl))
      ∙ ap (λ b. laid_over (if b then r ∷ on_it segment rs else on_it segment rs) (segment_of segment content)) (sym (eq-eqb r.segment segment same))
  | inr differ ↦
      laid_segment segment rs (changed content)
      ∙ ap (laid_over (on_it segment rs)) (segment_of-other segment r.segment (put r.offset r.bytes) content (λ e. differ (sym e)))
      ∙ ap (λ b. laid_over (if b then r ∷ on_it segment rs else on_it segment rs) (segment_of segment content)) (sym (ne_eqb r.segment segment differ))
]
  where
    changed : Content → Content
    changed c = laid (r ∷ []) c

-- The record in a place

-- the transaction that it is of, with those before and those after it
record IsOf (numbers : ℕ → ℕ) (content : Content) (ts : List Transaction) (r : Record) : Type 0 where
  before : List Transaction
  own : Transaction
  behind : List Transaction
  parts : before ++ (own ∷ behind) ≡ ts
  record_is : record_of (counted_all numbers before) (effects before content) own ≡ r

is_of : (numbers : ℕ → ℕ) (content : Content) (ts : List Transaction) (place : ℕ) (r : Record) → slice_get (records_from numbers content ts) place ≡ Some r → IsOf numbers content ts r
is_of numbers content [] place r got = absurd cc
is_of numbers content (t ∷ ts) zero r got = record { before = []; own = t; behind = ts; parts = refl; record_is = same_some (record_of numbers content t) r got }
is_of numbers content (t ∷ ts) (suc place) r got =
    let rest = is_of (counted numbers t) (effect t content) ts place r got in
    record { before = t ∷ rest.before; own = rest.own; behind = rest.behind; parts = ap (λ us. t ∷ us) rest.parts; record_is = rest.record_is }

-- What a part is

pub record IsPart (segment : ℕ) (r : Record) (part : Part) : Type 0 where
  pub number : number_in segment r.locks ≡ Some part.seq
  pub ranges : part.ranges ≡ filter (λ range. range.segment == segment) r.ranges

pub is_part : (segment : ℕ) (r : Record) (part : Part) → part_of segment r ≡ Some part → IsPart segment r part
is_part segment r part is = by_number (number_in segment r.locks) refl is
  where
    by_number : (o : Option ℕ) → number_in segment r.locks ≡ o
        → option_map (λ (seq : ℕ). let p : Part = record { segment = segment; seq = seq; ranges = filter (λ range. range.segment == segment) r.ranges } in p) o ≡ Some part → IsPart segment r part
    by_number None same none = absurd cc
    by_number (Some seq) same some =
        let own = same_some (record { segment = segment; seq = seq; ranges = filter (λ range. range.segment == segment) r.ranges }) part some in
        record { number = same ∙ ap (λ (p : Part). Some p.seq) own; ranges = ap (λ (p : Part). p.ranges) (sym own) }

-- no record has the number 0
some_number : (numbers : ℕ → ℕ) (first segment number : ℕ) (marks : Marks) → number_in segment (locks_of numbers first marks) ≡ Some number → 1 ≤ number
some_number numbers first segment number [] is = absurd cc
some_number numbers first segment number (bits ∷ marks) is = elim (cases_Bool (is_set bits)) [
  | inl set ↦
      let led : number_in segment (record { segment = first; seq = numbers first + 1 } ∷ locks_of numbers (first + 1) marks) ≡ Some number =
      ap (λ b. number_in segment (if b then record { segment = first; seq = numbers first + 1 } ∷ locks_of numbers (first + 1) marks else locks_of numbers (first + 1) marks)) (sym set) ∙ is in
      elim (cases_Bool (first == segment)) [
        | inl same ↦
            let own : numbers first + 1 ≡ number = same_some (numbers first + 1) number (ap (λ b. if b then Some (numbers first + 1) else number_in segment (locks_of numbers (first + 1) marks)) (sym same) ∙ led) in
            omega (arith, own)
        | inr other ↦ some_number numbers (first + 1) segment number marks (ap (λ b. if b then Some (numbers first + 1) else number_in segment (locks_of numbers (first + 1) marks)) (sym other) ∙ led)
      ]
  | inr unset ↦ some_number numbers (first + 1) segment number marks
      (ap (λ b. number_in segment (if b then record { segment = first; seq = numbers first + 1 } ∷ locks_of numbers (first + 1) marks else locks_of numbers (first + 1) marks)) (sym unset) ∙ is)
]

-- the number of a record is the next of a segment that its transaction set
pub own_number : (numbers : ℕ → ℕ) (content : Content) (t : Transaction) (segment number : ℕ) → number_in segment (record_of numbers content t).locks ≡ Some number
    → (sets segment t ≡ true) × (number ≡ numbers segment + 1)
own_number numbers content t segment number is = elim (cases_Bool (sets segment t)) [
  | inl its ↦ (its, told ∙ ap (λ b. if b then numbers segment + 1 else 0) its)
  | inr unset ↦
      let none : number ≡ 0 = told ∙ ap (λ b. if b then numbers segment + 1 else 0) unset in
      let some : 1 ≤ number = some_number numbers 1 segment number t.marks is in
      absurd (omega (arith, none, some))
]
  where
    told : number ≡ (if sets segment t then numbers segment + 1 else 0)
    told = ap (λ o. unwrap_or o 0) (sym is) ∙ record-number numbers segment t

-- One part put on

module _ (numbers : ℕ → ℕ) (content : Content) (segment : ℕ) (before behind : List Transaction) (t : Transaction) (part : Part)
    (well : All IsWellFormed (before ++ (t ∷ behind))) (is : IsPart segment (record_of (counted_all numbers before) (effects before content) t) part) where
  abbrev set_it : List Transaction → List Transaction
  set_it ts = filter (sets segment) ts

  abbrev whole : List Transaction
  whole = before ++ (t ∷ behind)

  abbrev through : List Transaction
  through = before ++ (t ∷ [])

  abbrev was : Content
  was = effects before content

  own : (sets segment t ≡ true) × (part.seq ≡ counted_all numbers before segment + 1)
  own = own_number (counted_all numbers before) was t segment part.seq is.number

  seq_is : part.seq ≡ numbers segment + length (set_it before) + 1
  seq_is = own.1 ∙ ap (λ n. n + 1) (counted-length numbers before segment)

  rejoined : through ++ behind ≡ whole
  rejoined = append_assoc before (t ∷ []) behind

  well_before : All IsWellFormed before
  well_before = All-left IsWellFormed before (t ∷ behind) well

  well_through : All IsWellFormed through
  well_through = All-left IsWellFormed through behind (subst (λ ts. All IsWellFormed ts) (sym rejoined) well)

  first : take (part.seq - 1 - numbers segment) (set_it whole) ≡ set_it before
  first =
      let many : part.seq - 1 - numbers segment ≡ length (set_it before) = omega (arith, seq_is) in
      ap (λ n. take n (set_it whole)) many ∙ ap (take (length (set_it before))) (filter-append (sets segment) before (t ∷ behind)) ∙ take-append_seam (set_it before) (set_it (t ∷ behind))

  one_more : length (set_it through) ≡ length (set_it before) + 1
  one_more =
      ap length (filter-append (sets segment) before (t ∷ [])) ∙ length-append (set_it before) (set_it (t ∷ []))
      ∙ ap (λ b. length (set_it before) + length (if b then t ∷ [] else [])) own.0

  next : take (part.seq - numbers segment) (set_it whole) ≡ set_it through
  next =
      let many : part.seq - numbers segment ≡ length (set_it through) = omega (arith, seq_is, one_more) in
      ap (λ n. take n (set_it whole)) many ∙ ap (λ ts. take (length (set_it through)) (set_it ts)) (sym rejoined)
      ∙ ap (take (length (set_it through))) (filter-append (sets segment) through behind) ∙ take-append_seam (set_it through) (set_it behind)

  shown_before : segment_of segment (effects (take (part.seq - 1 - numbers segment) (set_it whole)) content) ≡ segment_of segment was
  shown_before = ap (λ ts. segment_of segment (effects ts content)) first ∙ sym (of_a_segment content before segment well_before)

  shown_after : segment_of segment (effects (take (part.seq - numbers segment) (set_it whole)) content) ≡ segment_of segment (effect t was)
  shown_after =
      ap (λ ts. segment_of segment (effects ts content)) next ∙ sym (of_a_segment content through segment well_through)
      ∙ ap (segment_of segment) (effects-append before (t ∷ []) content)

  put_one : laid_over part.ranges (segment_of segment (effects (take (part.seq - 1 - numbers segment) (set_it whole)) content))
      ≡ segment_of segment (effects (take (part.seq - numbers segment) (set_it whole)) content)
  put_one =
      ap (laid_over part.ranges) shown_before
      ∙ ap (λ rs. laid_over rs (segment_of segment was)) is.ranges
      ∙ sym (laid_segment segment (ranges_of 1 t.marks (effect t was)) was)
      ∙ ap (segment_of segment) (record-laid t was (All-head IsWellFormed t behind (All-right IsWellFormed before (t ∷ behind) well)))
      ∙ sym shown_after

-- the part of a record of the history, put on what its segment is before it, makes what the segment is with it
pub part_put : (m : Setting) (s : State) (d : Disks) (segment place : ℕ) (r : Record) (part : Part) → Sound m.geometry s
    → slice_get (all_of m s d) place ≡ Some r → part_of segment r ≡ Some part
    → laid_over part.ranges (segment_to m s d segment (part.seq - 1)) ≡ segment_to m s d segment part.seq
part_put m s d segment place r part sound found is =
    let at = is_of d.numbers (base m s) (transactions s.history) place r found in
    let its : IsPart segment (record_of (counted_all d.numbers at.before) (effects at.before (base m s)) at.own) part = subst (λ q. IsPart segment q part) (sym at.record_is) (is_part segment r part is) in
    subst (λ (ts : List Transaction). laid_over part.ranges (segment_of segment (effects (take (part.seq - 1 - d.numbers segment) (filter (sets segment) ts)) (base m s)))
    ≡ segment_of segment (effects (take (part.seq - d.numbers segment) (filter (sets segment) ts)) (base m s))) at.parts
    (put_one d.numbers (base m s) segment at.before at.behind at.own part (subst (λ ts. All IsWellFormed ts) (sym at.parts) (history-well m.geometry s sound)) its)
