-- What a work that changes bytes tells, from what the calls of a transaction tell.
use Rattle.std.proofs.Common.{◌≡◌, ◌≢◌, ℕ, ◌+◌, ◌-◌, ◌^◌, ◌<◌, ◌≤◌, false, List, [], ◌∷◌, length, refl, sym, ap, subst, ◌∙◌, inl, inr, arith, true≢false}
use Rattle.std.specs.Prelude.{◌↔◌, IfErr, IsOk, IsTrue, OnOk, Result, Ok, Err, min}
use Rattle.std.proofs.lemmas.Bool.{cases_Bool, cases_lt, false_from_ne_true, false≢true, or_cases}
use Rattle.lc_record.specs.Content.{put}
use Rattle.lc_record.specs.Transaction.{is_member}
use Rattle.lc_range.specs.RangeSet.{NeedsRunsAbove, MissesSome}
use Rattle.lc_tx.specs.declared.image.Image.{Image as Picture}
use Rattle.lc_tx.specs.declared.images.Images.{Ghosts}
use Rattle.lc_tx.specs.declared.tx.Tx.{Tx}
use Rattle.lc_tx.specs.declared.tx_fault.TxFault.{TxFault}
use Rattle.lc_tx.specs.declared.tx_fault.TxFault.TheVariants.{Busy, NotHere, NoRange, OutOfSegment, NotLocked, NoMemory, TooLong, SequenceSpent, EmptyRange, TooManyRanges, ReadOnly}
use Rattle.lc_tx.specs.Fault.{is_of_set_range}
use Rattle.lc_tx.specs.Images.{IsSame, IsWritten, bytes_of}
use Rattle.lc_tx.specs.Tx.{AreSet, Holds, Locked, Reads, RunsOn, SetsRange}
use Rattle.lc_tx.proofs.HoldsLemmas.{read_apart}
use Rattle.lc_tx.proofs.MemberLemmas.{is_one}
use Rattle.lc_segments.proofs.PutBytes.{agree, not_locked}
use Rattle.lc_committer.specs.Update.{Fits, IsUnchanged}
use Rattle.lc_committer.specs.declared.update.Update.{Update}

module _ {I C : Type 0} (m : Ghosts I) (old : I) (tx : Tx) (on : RunsOn m old tx) (u : Update C) where
  -- The range is set, or not

  module _ (mid : I) (same : IsSame m old mid) (on_mid : RunsOn m mid tx) (r : Result (Unit {0}) TxFault)
      (unlocked : (r ≡ Err NotLocked) ↔ (Holds tx u.segment → ⊥))
      (read_only : (s : ℕ) → (r ≡ Err (ReadOnly s)) ↔ (Reads tx u.segment × (s ≡ u.segment)))
      (empty : (r ≡ Err EmptyRange) ↔ (Locked tx u.segment × (u.len ≡ 0)))
      (outside : (r ≡ Err OutOfSegment) ↔ (Locked tx u.segment × (0 < u.len) × (min (length (bytes_of m mid u.segment)) (2 ^ 32 - 1) < u.offset + u.len))) where
    long : Locked tx u.segment → length (bytes_of m mid u.segment) ≡ length (bytes_of m old u.segment)
    long lock = ap (λ (l : List ℕ). length l) (agree m old tx on mid same u.segment lock)

    fits : Locked tx u.segment → 0 < u.len → u.offset + u.len ≤ min (length (bytes_of m mid u.segment)) (2 ^ 32 - 1) → Fits u tx.locked.items (bytes_of m old)
    fits lock some within = (lock, some, subst (λ (n : ℕ). u.offset + u.len ≤ min n (2 ^ 32 - 1)) (long lock) within)

    module _ (too_many : (r ≡ Err TooManyRanges) ↔ (Locked tx u.segment × (0 < u.len) × (u.offset + u.len ≤ min (length (bytes_of m mid u.segment)) (2 ^ 32 - 1)) × NeedsRunsAbove 64 tx.set u.segment u.offset u.len))
        (no_memory : r ≡ Err NoMemory → Locked tx u.segment × (0 < u.len) × (u.offset + u.len ≤ min (length (bytes_of m mid u.segment)) (2 ^ 32 - 1)) × (NeedsRunsAbove 64 tx.set u.segment u.offset u.len → ⊥) × MissesSome tx.set u.segment u.offset u.len)
        (faults : IfErr r (λ fault. IsTrue (is_of_set_range fault))) where
      other : (f : TxFault) → r ≡ Err f → is_of_set_range f ≡ false → ⊥
      other f is not = false≢true (sym not ∙ subst (λ (x : Result (Unit {0}) TxFault). IfErr x (λ fault. IsTrue (is_of_set_range fault))) is faults)

      pub unset : (f : TxFault) → r ≡ Err f → IsUnchanged u tx.locked.items (bytes_of m old) f
      unset NotLocked is = inl (refl, not_locked m old tx on u.segment (unlocked.0 is))
      unset (ReadOnly s) is = let why = (read_only s).0 is in inr (inl (ap (λ (n : ℕ). ReadOnly n) why.1, read_apart m old tx u.segment on why.0))
      unset EmptyRange is = let why = empty.0 is in inr (inr (inl (refl, why.0, why.1)))
      unset OutOfSegment is = let why = outside.0 is in
          inr (inr (inr (inl (refl, subst (λ (n : ℕ). min n (2 ^ 32 - 1) < u.offset + u.len) (long why.0) why.2))))
      unset TooManyRanges is = let why = too_many.0 is in inr (inr (inr (inr (inl (refl, fits why.0 why.1 why.2)))))
      unset NoMemory is = let why = no_memory is in let within = why.2 in let same_long = long why.0 in
          inr (inr (inr (inr (inr (refl, why.1, omega arith)))))
      unset (Busy s) is = absurd (other (Busy s) is refl)
      unset (NotHere s) is = absurd (other (NotHere s) is refl)
      unset NoRange is = absurd (other NoRange is refl)
      unset (TooLong words) is = absurd (other (TooLong words) is refl)
      unset (SequenceSpent s) is = absurd (other (SequenceSpent s) is refl)

    ok_not : (f : TxFault) → r ≡ Ok tt → r ≡ Err f → ⊥
    ok_not f is not = absurd cc

    locked_once : r ≡ Ok tt → Locked tx u.segment
    locked_once is = elim (cases_Bool (is_member u.segment tx.locked.items)) [
      | inl lock ↦ lock
      | inr none ↦ elim (cases_Bool (is_member u.segment tx.reading.items)) [
        | inl reads ↦ absurd (ok_not (ReadOnly u.segment) is ((read_only u.segment).1 (reads, refl)))
        | inr unread ↦ absurd (ok_not NotLocked is (unlocked.1 (λ holds. elim (or_cases (is_member u.segment tx.locked.items) (is_member u.segment tx.reading.items) holds) [
          | inl lock ↦ true≢false (sym lock ∙ none)
          | inr reads ↦ true≢false (sym reads ∙ unread)
        ])))
      ]
    ]

    some_once : r ≡ Ok tt → 0 < u.len
    some_once is = elim (cases_lt 0 u.len) [
      | inl some ↦ some
      | inr none ↦ absurd (ok_not EmptyRange is (empty.1 (locked_once is, omega (arith, none))))
    ]

    within_once : r ≡ Ok tt → u.offset + u.len ≤ min (length (bytes_of m mid u.segment)) (2 ^ 32 - 1)
    within_once is = elim (cases_lt (min (length (bytes_of m mid u.segment)) (2 ^ 32 - 1)) (u.offset + u.len)) [
      | inl over ↦ absurd (ok_not OutOfSegment is (outside.1 (locked_once is, some_once is, over)))
      | inr within ↦ within
    ]

    pub fits_once : r ≡ Ok tt → Fits u tx.locked.items (bytes_of m old)
    fits_once is = fits (locked_once is) (some_once is) (within_once is)

  -- The bytes are written

  module _ (mid late new : I) (next : Tx) (bytes : List ℕ) (is_long : length bytes ≡ u.len) (fits : Fits u tx.locked.items (bytes_of m old)) (sets : SetsRange m mid tx u.segment u.offset u.len next)
      (same : IsSame m old mid) (on_mid : RunsOn m mid tx) (set_same : IsSame m mid late) where
    late_is : (s : ℕ) → Locked tx s → bytes_of m late s ≡ bytes_of m old s
    late_is s lock = agree m mid tx on_mid late set_same s lock ∙ agree m old tx on mid same s lock

    still : (s : ℕ) → Locked tx s → Locked next s
    still s lock = ap (λ l. is_member s l.items) sets.same_locks ∙ lock

    -- all that a write wants is there
    all_there : Locked next u.segment × (u.offset + length bytes ≤ length (bytes_of m late u.segment)) × AreSet next u.segment u.offset (length bytes)
    all_there = (
      still u.segment fits.0,
      (let within = fits.2 in subst (λ (l : List ℕ). u.offset + length bytes ≤ length l) (sym (late_is u.segment fits.0)) (omega arith)),
      λ k low high. (sets.adds u.segment k).1 (inr (refl, low, omega (arith, high))),
    )

    -- what a write that is done leaves
    pub record Leaves (r : Result (Unit {0}) TxFault) : Type 0 where
      pub done : r ≡ Ok tt
      pub here : bytes_of m new u.segment ≡ put u.offset bytes (bytes_of m old u.segment)
      pub others : (s : ℕ) → IsTrue (is_member s tx.locked.items) → s ≢ u.segment → bytes_of m new s ≡ bytes_of m old s

    pub leaves : (r : Result (Unit {0}) TxFault) → IsOk r ↔ (Locked next u.segment × (u.offset + length bytes ≤ length (bytes_of m late u.segment)) × AreSet next u.segment u.offset (length bytes))
        → OnOk r (IsWritten m late u.segment u.offset bytes new) → RunsOn m late next → Leaves r
    leaves (Ok v) ok wrote runs = record {
      done = refl;
      here = wrote.bytes_are ∙ ap (put u.offset bytes) (late_is u.segment fits.0);
      others = λ s lock apart. ap (λ (x : Picture). x.bytes.items)
          (wrote.same.others s (runs.here s (still s lock)) (false_from_ne_true (is_member s (u.segment ∷ [])) (λ is. apart (sym (is_one s u.segment is))))) ∙ late_is s lock;
    }
    leaves (Err f) ok wrote runs = absurd (true≢false (sym (ok.1 all_there)))
