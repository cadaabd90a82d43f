-- What a work that puts bytes tells, from what the calls of a transaction tell.
use Rattle.std.proofs.Common.{◌≡◌, ℕ, ◌+◌, ◌-◌, ◌^◌, ◌<◌, ◌≤◌, false, List, [], ◌∷◌, length, refl, sym, ap, subst, ◌∙◌, inl, inr, arith}
use Rattle.std.specs.Prelude.{◌↔◌, IfErr, IsOk, IsTrue, OnOk, Result, Ok, Err, min}
use Rattle.std.proofs.lemmas.Bool.{cases_Bool, cases_lt, false_from_ne_true, false≢true, or_cases, or_left, true≢false}
use Rattle.lc_record.specs.Content.{put}
use Rattle.lc_record.specs.Transaction.{is_member}
use Rattle.lc_range.specs.RangeSet.{NeedsRunsAbove, MissesSome}
use Rattle.lc_tx.specs.declared.image.Image.{Image as Picture}
use Rattle.lc_tx.specs.declared.images.Images.{Ghosts}
use Rattle.lc_tx.specs.declared.tx.Tx.{Tx}
use Rattle.lc_tx.specs.declared.tx_fault.TxFault.{TxFault}
use Rattle.lc_tx.specs.declared.tx_fault.TxFault.TheVariants.{Busy, NotHere, NoRange, OutOfSegment, NotLocked, NoMemory, TooLong, SequenceSpent, EmptyRange, TooManyRanges, ReadOnly}
use Rattle.lc_tx.specs.Fault.{is_of_set_range}
use Rattle.lc_tx.specs.Images.{IsSame, IsWritten, bytes_of}
use Rattle.lc_tx.specs.Tx.{AreSet, Holds, Locked, Reads, RunsOn, SetsRange}
use Rattle.lc_tx.proofs.HoldsLemmas.{reads_not_locked}
use Rattle.lc_tx.proofs.MemberLemmas.{is_one}
use Rattle.lc_segments.specs.Put.{Fits, IsUnput, Puts}
use Rattle.lc_segments.specs.Ran.{AgreeOn}
use Rattle.lc_segments.specs.declared.put.Put.{Put}
use Rattle.lc_segments.proofs.WorkSteps.{image_same}

module _ {I : Type 0} (m : Ghosts I) (old : I) (tx : Tx) (on : RunsOn m old tx) where
  pub agree : (new : I) → IsSame m old new → AgreeOn tx.locked.items (bytes_of m new) (bytes_of m old)
  agree new same = λ s lock. ap (λ (p : Picture). p.bytes.items) (image_same m old new tx on same s lock)

  -- what holds no lock of it has not locked it for writing
  pub not_locked : (s : ℕ) → (Holds tx s → ⊥) → is_member s tx.locked.items ≡ false
  not_locked s none = false_from_ne_true (is_member s tx.locked.items) (λ is. none (or_left (is_member s tx.locked.items) (is_member s tx.reading.items) is))

  only_read : (s : ℕ) → Reads tx s → is_member s tx.locked.items ≡ false
  only_read s reads = false_from_ne_true (is_member s tx.locked.items) (reads_not_locked m old tx s on reads)

  -- The range is set, or not

  module _ (p : Put) (len : ℕ) (long : len ≡ length p.bytes.now) (r : Result (Unit {0}) TxFault)
      (unlocked : (r ≡ Err NotLocked) ↔ (Holds tx p.segment → ⊥))
      (read_only : (s : ℕ) → (r ≡ Err (ReadOnly s)) ↔ (Reads tx p.segment × (s ≡ p.segment)))
      (empty : (r ≡ Err EmptyRange) ↔ (Locked tx p.segment × (len ≡ 0)))
      (outside : (r ≡ Err OutOfSegment) ↔ (Locked tx p.segment × (0 < len) × (min (length (bytes_of m old p.segment)) (2 ^ 32 - 1) < p.offset + len))) where
    abbrev before : ℕ → List ℕ
    before = bytes_of m old

    module _ (too_many : (r ≡ Err TooManyRanges) ↔ (Locked tx p.segment × (0 < len) × (p.offset + len ≤ min (length (bytes_of m old p.segment)) (2 ^ 32 - 1)) × NeedsRunsAbove 64 tx.set p.segment p.offset len))
        (no_memory : r ≡ Err NoMemory → Locked tx p.segment × (0 < len) × (p.offset + len ≤ min (length (bytes_of m old p.segment)) (2 ^ 32 - 1)) × (NeedsRunsAbove 64 tx.set p.segment p.offset len → ⊥) × MissesSome tx.set p.segment p.offset len)
        (faults : IfErr r (λ fault. IsTrue (is_of_set_range fault))) where
      fits : Locked tx p.segment → 0 < len → p.offset + len ≤ min (length (before p.segment)) (2 ^ 32 - 1) → Fits p tx.locked.items before
      fits lock some within = (lock, subst (λ (n : ℕ). 0 < n) long some, subst (λ (n : ℕ). p.offset + n ≤ min (length (before p.segment)) (2 ^ 32 - 1)) long within)

      other : (f : TxFault) → r ≡ Err f → is_of_set_range f ≡ false → ⊥
      other f is not = false≢true (sym not ∙ subst (λ (x : Result (Unit {0}) TxFault). IfErr x (λ fault. IsTrue (is_of_set_range fault))) is faults)

      pub unput : (f : TxFault) → r ≡ Err f → IsUnput p tx.locked.items before f
      unput NotLocked is = inl (refl, not_locked p.segment (unlocked.0 is))
      unput (ReadOnly s) is = let why = (read_only s).0 is in inr (inl (ap (λ (n : ℕ). ReadOnly n) why.1, only_read p.segment why.0))
      unput EmptyRange is = let why = empty.0 is in inr (inr (inl (refl, why.0, sym long ∙ why.1)))
      unput OutOfSegment is = let why = outside.0 is in
          inr (inr (inr (inl (refl, inl why.0, subst (λ (n : ℕ). min (length (before p.segment)) (2 ^ 32 - 1) < p.offset + n) long why.2))))
      unput TooManyRanges is = let why = too_many.0 is in inr (inr (inr (inr (inl refl, fits why.0 why.1 why.2))))
      unput NoMemory is = let why = no_memory is in inr (inr (inr (inr (inr refl, fits why.0 why.1 why.2))))
      unput (Busy s) is = absurd (other (Busy s) is refl)
      unput (NotHere s) is = absurd (other (NotHere s) is refl)
      unput NoRange is = absurd (other NoRange is refl)
      unput (TooLong words) is = absurd (other (TooLong words) is refl)
      unput (SequenceSpent s) is = absurd (other (SequenceSpent s) is refl)

    ok_not : (f : TxFault) → r ≡ Ok tt → r ≡ Err f → ⊥
    ok_not f is not = absurd cc

    locked_once : r ≡ Ok tt → Locked tx p.segment
    locked_once is = elim (cases_Bool (is_member p.segment tx.locked.items)) [
      | inl lock ↦ lock
      | inr none ↦ elim (cases_Bool (is_member p.segment tx.reading.items)) [
        | inl reads ↦ absurd (ok_not (ReadOnly p.segment) is ((read_only p.segment).1 (reads, refl)))
        | inr unread ↦ absurd (ok_not NotLocked is (unlocked.1 (λ holds. elim (or_cases (is_member p.segment tx.locked.items) (is_member p.segment tx.reading.items) holds) [
          | inl lock ↦ true≢false (sym lock ∙ none)
          | inr reads ↦ true≢false (sym reads ∙ unread)
        ])))
      ]
    ]

    some_once : r ≡ Ok tt → 0 < len
    some_once is = elim (cases_lt 0 len) [
      | inl some ↦ some
      | inr none ↦ absurd (ok_not EmptyRange is (empty.1 (locked_once is, omega (arith, none))))
    ]

    within_once : r ≡ Ok tt → p.offset + len ≤ min (length (before p.segment)) (2 ^ 32 - 1)
    within_once is = elim (cases_lt (min (length (before p.segment)) (2 ^ 32 - 1)) (p.offset + len)) [
      | inl over ↦ absurd (ok_not OutOfSegment is (outside.1 (locked_once is, some_once is, over)))
      | inr within ↦ within
    ]

    pub fits_once : r ≡ Ok tt → Fits p tx.locked.items before
    fits_once is = (locked_once is, subst (λ (n : ℕ). 0 < n) long (some_once is), subst (λ (n : ℕ). p.offset + n ≤ min (length (before p.segment)) (2 ^ 32 - 1)) long (within_once is))

  -- The bytes are written

  module _ (p : Put) (mid new : I) (next : Tx) (fits : Fits p tx.locked.items (bytes_of m old)) (sets : SetsRange m old tx p.segment p.offset (length p.bytes.now) next) (same : IsSame m old mid) where
    is_same : bytes_of m mid p.segment ≡ bytes_of m old p.segment
    is_same = agree mid same p.segment fits.0

    -- all that a write wants is there
    all_there : Locked next p.segment × (p.offset + length p.bytes.now ≤ length (bytes_of m mid p.segment)) × AreSet next p.segment p.offset (length p.bytes.now)
    all_there = (
      ap (λ l. is_member p.segment l.items) sets.same_locks ∙ fits.0,
      (let within = fits.2 in subst (λ (l : List ℕ). p.offset + length p.bytes.now ≤ length l) (sym is_same) (omega arith)),
      λ k low high. (sets.adds p.segment k).1 (inr (refl, low, high)),
    )

    mid_here : (s : ℕ) → Locked tx s → m.image_of mid s ≡ m.image_of old s
    mid_here = image_same m old mid tx on same

    pub puts : (r : Result (Unit {0}) TxFault) → IsOk r ↔ (Locked next p.segment × (p.offset + length p.bytes.now ≤ length (bytes_of m mid p.segment)) × AreSet next p.segment p.offset (length p.bytes.now))
        → OnOk r (IsWritten m mid p.segment p.offset p.bytes.now new) → RunsOn m mid next → Puts p tx.locked.items (bytes_of m old) tx.set r (bytes_of m new) next.set
    puts (Ok v) ok wrote runs = (
      fits,
      sets.adds,
      wrote.bytes_are ∙ ap (put p.offset p.bytes.now) is_same,
      λ s lock apart. ap (λ (x : Picture). x.bytes.items)
          (wrote.same.others s (runs.here s (ap (λ l. is_member s l.items) sets.same_locks ∙ lock)) (false_from_ne_true (is_member s (p.segment ∷ [])) (λ is. apart (sym (is_one s p.segment is)))) ∙ mid_here s lock),
    )
    puts (Err f) ok wrote runs = absurd (true≢false (sym (ok.1 all_there)))
