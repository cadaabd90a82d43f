-- A draft answers as the machine's rows do.
use Rattle.std.proofs.Common.{◌≡◌, ℕ, ◌+◌, ◌<◌, ◌≤◌, Bool, true, false, ◌||◌, List, [], ◌∷◌, length, Option, Some, None, Result, Ok, Err, refl, sym, ◌∙◌, ap, subst, zero, suc, arith}
use Rattle.std.specs.Prelude.{◌↔◌, IfErr, IsTrue, slice_index_or}
use Rattle.std.specs.declared.alloc.AllocError.{AllocError}
use Rattle.std.proofs.lemmas.Bool.{false≢true}
use Rattle.lc_record.specs.Transaction.{Transaction, is_member, locks}
use Rattle.lc_record.specs.Geometry.{segment_len}
use Rattle.lc_record.specs.declared.geometry.Geometry.{Geometry}
use Rattle.lc_range.specs.RangeSet.{EndWithin, NeedsRunsAbove}
use Rattle.lc_range.specs.declared.range.Range.{Range}
use Rattle.lc_tx.specs.declared.tx_fault.TxFault.{TxFault}
use Rattle.lc_tx.specs.declared.tx_fault.TxFault.TheVariants as fault
use Rattle.lc_model.specs.Refusals.{read_refusal, set_range_refusal, write_refusal}
use Rattle.lc_model.specs.Sound.{IsProper}
use Rattle.lc_model.specs.declared.refusal.Refusal.{Refusal}
use Rattle.lc_model.specs.declared.refusal.Refusal.TheVariants.{NotLocked, ReadOnly}
use Rattle.lc_model.specs.declared.reply.Reply.{Reply}
use Rattle.lc_model.specs.declared.reply.Reply.TheVariants.{Ok as Accepted, Refused}
use Rattle.lc_changes.specs.Calls.{AreRangesOf, refused_or}
use Rattle.lc_changes.specs.Replies.{AnswersRange, RangeReplied, WriteReplied, change_refusal}
use Rattle.lc_changes.specs.Setting.{AreSet, is_of_set, is_of_write}
use Rattle.lc_changes.proofs.Answering.{empty-range, many-ranges, open-range, open-write, outside-range, outside-write, unset-write}

-- a range of a list that lies within a bound
pub one_within : (ranges : List Range) (bound at : ℕ) (other range : Range) → EndWithin ranges bound → at < length ranges → Some (slice_index_or ranges at other) ≡ Some range → range.offset + range.len ≤ bound
one_within [] bound at other range within less is = absurd (omega (arith, less))
one_within (first ∷ ranges) bound zero other range within less is = (let same : first ≡ range = cc in subst (λ (r : Range). r.offset + r.len ≤ bound) same within.0)
one_within (first ∷ ranges) bound (suc at) other range within less is = one_within ranges bound at other range within.1 (omega (arith, less)) is

-- a segment that may be changed is locked for writing
pub may_change : (writing reading : List ℕ) (segment : ℕ) → change_refusal writing reading segment ≡ None → is_member segment writing ≡ true
may_change writing reading segment none = elim (is_member segment writing) as (λ b. is_member segment writing ≡ b → b ≡ true) [
  | true ↦ λ e. refl
  | false ↦ λ e. elim (is_member segment reading) as (λ r. is_member segment reading ≡ r → false ≡ true) [
    | true ↦ λ f. absurd (let never : Some (ReadOnly segment) ≡ None = sym (rw e (rw f refl)) ∙ none in cc)
    | false ↦ λ f. absurd (let never : Some NotLocked ≡ None = sym (rw e (rw f refl)) ∙ none in cc)
  ] refl
] refl

module _ (g : Geometry) (t : Transaction) (set : List Range) (segment offset len image_len : ℕ) (proper : IsProper g t) (are : AreRangesOf t.marks set) (lock : locks t segment ≡ true) (long : image_len ≡ segment_len g) where
  pub range_answers : (done : Result (Unit {0}) TxFault) (said : Result Reply AllocError)
      → (done ≡ Err fault.EmptyRange) ↔ (len ≡ 0)
      → (done ≡ Err fault.OutOfSegment) ↔ ((0 < len) × (image_len < offset + len))
      → (done ≡ Err fault.TooManyRanges) ↔ ((0 < len) × (offset + len ≤ image_len) × NeedsRunsAbove 64 set segment offset len)
      → IfErr done (λ f. IsTrue (is_of_set f)) → RangeReplied done said → AnswersRange (set_range_refusal g t segment offset len) said
  range_answers done said empty outside many faults is =
      let outside' : (done ≡ Err fault.OutOfSegment) ↔ ((0 < len) × (segment_len g < offset + len)) = subst (λ (n : ℕ). (done ≡ Err fault.OutOfSegment) ↔ ((0 < len) × (n < offset + len))) long outside in
      let many' : (done ≡ Err fault.TooManyRanges) ↔ ((0 < len) × (offset + len ≤ segment_len g) × NeedsRunsAbove 64 set segment offset len) = subst (λ (n : ℕ). (done ≡ Err fault.TooManyRanges) ↔ ((0 < len) × (offset + len ≤ n) × NeedsRunsAbove 64 set segment offset len)) long many in
      each done said empty outside' many' faults is
    where
      none : (done : Result (Unit {0}) TxFault) → (done ≡ Err fault.EmptyRange) ↔ (len ≡ 0) → (done ≡ Err fault.OutOfSegment) ↔ ((0 < len) × (segment_len g < offset + len))
          → (done ≡ Err fault.TooManyRanges) ↔ ((0 < len) × (offset + len ≤ segment_len g) × NeedsRunsAbove 64 set segment offset len)
          → (done ≡ Err fault.EmptyRange → ⊥) → (done ≡ Err fault.OutOfSegment → ⊥) → (done ≡ Err fault.TooManyRanges → ⊥) → set_range_refusal g t segment offset len ≡ None
      none done empty outside many not_empty not_outside not_many =
          open-range g t segment offset len lock
          (λ e. not_empty (empty.1 ((empty-range g t segment offset len lock).0 e)))
          (λ e. not_outside (outside.1 ((outside-range g t segment offset len lock).0 e)))
          (λ e. not_many (many.1 ((many-ranges g t set segment offset len proper are lock).0 e)))

      each : (done : Result (Unit {0}) TxFault) (said : Result Reply AllocError) → (done ≡ Err fault.EmptyRange) ↔ (len ≡ 0) → (done ≡ Err fault.OutOfSegment) ↔ ((0 < len) × (segment_len g < offset + len))
          → (done ≡ Err fault.TooManyRanges) ↔ ((0 < len) × (offset + len ≤ segment_len g) × NeedsRunsAbove 64 set segment offset len)
          → IfErr done (λ f. IsTrue (is_of_set f)) → RangeReplied done said → AnswersRange (set_range_refusal g t segment offset len) said
      each (Ok its) said empty outside many faults is =
          subst (λ r. AnswersRange r said) (sym (none (Ok its) empty outside many (λ e. absurd cc) (λ e. absurd cc) (λ e. absurd cc)))
          (subst (λ s. AnswersRange None s) (sym is) refl)
      each (Err fault.NoMemory) said empty outside many faults is =
          subst (λ r. AnswersRange r said) (sym (none (Err fault.NoMemory) empty outside many (λ e. absurd cc) (λ e. absurd cc) (λ e. absurd cc)))
          (subst (λ s. AnswersRange None s) (sym is) tt)
      each (Err fault.EmptyRange) said empty outside many faults is = subst (λ r. AnswersRange r said) (sym ((empty-range g t segment offset len lock).1 (empty.0 refl))) is
      each (Err fault.OutOfSegment) said empty outside many faults is = subst (λ r. AnswersRange r said) (sym ((outside-range g t segment offset len lock).1 (outside.0 refl))) is
      each (Err fault.TooManyRanges) said empty outside many faults is =
          subst (λ r. AnswersRange r said) (sym ((many-ranges g t set segment offset len proper are lock).1 (many.0 refl))) is
      each (Err (fault.Busy s)) said empty outside many faults is = absurd (false≢true faults)
      each (Err (fault.NotHere s)) said empty outside many faults is = absurd (false≢true faults)
      each (Err fault.NoRange) said empty outside many faults is = absurd (false≢true faults)
      each (Err fault.NotLocked) said empty outside many faults is = absurd (false≢true faults)
      each (Err (fault.TooLong w)) said empty outside many faults is = absurd (false≢true faults)
      each (Err (fault.SequenceSpent s)) said empty outside many faults is = absurd (false≢true faults)
      each (Err (fault.ReadOnly s)) said empty outside many faults is = absurd (false≢true faults)

module _ (g : Geometry) (t : Transaction) (set : List Range) (segment offset : ℕ) (bytes : List ℕ) (image_len : ℕ) (are : AreRangesOf t.marks set) (lock : locks t segment ≡ true) (long : image_len ≡ segment_len g) where
  pub write_answers : (done : Result (Unit {0}) TxFault) (reply : Reply)
      → (done ≡ Err fault.OutOfSegment) ↔ (image_len < offset + length bytes)
      → (done ≡ Err fault.NoRange) ↔ ((offset + length bytes ≤ image_len) × (AreSet set segment offset (length bytes) → ⊥))
      → IfErr done (λ f. IsTrue (is_of_write f)) → WriteReplied done reply → reply ≡ refused_or (write_refusal g t segment offset bytes) Accepted
  write_answers done reply outside unset faults is =
      let outside' : (done ≡ Err fault.OutOfSegment) ↔ (segment_len g < offset + length bytes) = subst (λ (n : ℕ). (done ≡ Err fault.OutOfSegment) ↔ (n < offset + length bytes)) long outside in
      let unset' : (done ≡ Err fault.NoRange) ↔ ((offset + length bytes ≤ segment_len g) × (AreSet set segment offset (length bytes) → ⊥)) = subst (λ (n : ℕ). (done ≡ Err fault.NoRange) ↔ ((offset + length bytes ≤ n) × (AreSet set segment offset (length bytes) → ⊥))) long unset in
      each done reply outside' unset' faults is
    where
      each : (done : Result (Unit {0}) TxFault) (reply : Reply) → (done ≡ Err fault.OutOfSegment) ↔ (segment_len g < offset + length bytes)
          → (done ≡ Err fault.NoRange) ↔ ((offset + length bytes ≤ segment_len g) × (AreSet set segment offset (length bytes) → ⊥))
          → IfErr done (λ f. IsTrue (is_of_write f)) → WriteReplied done reply → reply ≡ refused_or (write_refusal g t segment offset bytes) Accepted
      each (Ok its) reply outside unset faults is =
          is ∙ ap (λ r. refused_or r Accepted) (sym (open-write g t segment offset bytes lock
          (λ e. let never : Ok its ≡ Err fault.OutOfSegment = outside.1 ((outside-write g t segment offset bytes lock).0 e) in absurd cc)
          (λ e. let never : Ok its ≡ Err fault.NoRange = unset.1 ((unset-write g t set segment offset bytes are lock).0 e) in absurd cc)))
      each (Err fault.OutOfSegment) reply outside unset faults is = is ∙ ap (λ r. refused_or r Accepted) (sym ((outside-write g t segment offset bytes lock).1 (outside.0 refl)))
      each (Err fault.NoRange) reply outside unset faults is = is ∙ ap (λ r. refused_or r Accepted) (sym ((unset-write g t set segment offset bytes are lock).1 (unset.0 refl)))
      each (Err fault.NoMemory) reply outside unset faults is = absurd (false≢true faults)
      each (Err fault.EmptyRange) reply outside unset faults is = absurd (false≢true faults)
      each (Err fault.TooManyRanges) reply outside unset faults is = absurd (false≢true faults)
      each (Err (fault.Busy s)) reply outside unset faults is = absurd (false≢true faults)
      each (Err (fault.NotHere s)) reply outside unset faults is = absurd (false≢true faults)
      each (Err fault.NotLocked) reply outside unset faults is = absurd (false≢true faults)
      each (Err (fault.TooLong w)) reply outside unset faults is = absurd (false≢true faults)
      each (Err (fault.SequenceSpent s)) reply outside unset faults is = absurd (false≢true faults)
      each (Err (fault.ReadOnly s)) reply outside unset faults is = absurd (false≢true faults)
