-- What a thread sets, and why it may not.
use Rattle.std.proofs.Common.{◌≡◌, ◌≢◌, ℕ, ◌+◌, ◌-◌, ◌^◌, ◌<◌, ◌≤◌, min, true, false, ◌==◌, ◌||◌, nat_le, List, length, Some, None, refl, sym, ap, subst, ◌∙◌, arith, le-leb, ne_eqb, eq-eqb, true≢false, inl, inr}
use Rattle.std.specs.Prelude.{Result, Ok, Err, OnOk, OnErr}
use Rattle.std.proofs.lemmas.Bool.{cases_lt, cases_Bool, false_from_ne_true, or_from, lt-leb as le-false}
use Rattle.std.proofs.lemmas.Option.{same_Some as same_some}
use Rattle.lc_record.specs.Transaction.{is_member, locks, holds}
use Rattle.lc_record.specs.Geometry.{segment_len}
use Rattle.lc_record.specs.Marks.{marked, ranges}
use Rattle.lc_model.specs.History.{value}
use Rattle.lc_model.specs.State.{Setting, State}
use Rattle.lc_model.specs.Machine.{Row, changed}
use Rattle.lc_model.specs.declared.event.Event.TheVariants.{SetRange}
use Rattle.lc_model.specs.declared.refusal.Refusal.{Refusal}
use Rattle.lc_model.specs.declared.refusal.Refusal.TheVariants.{NotLocked, ReadOnly, EmptyRange, OutOfSegment, TooManyRanges}
use Rattle.lc_model.specs.declared.reply.Reply.TheVariants.{Ok as Accepted, Refused}
use Rattle.lc_model.proofs.Rows.{set_range-not_locked, set_range-read_only, set_range-no_bytes, set_range-outside, set_range-too_many, set_range-done}
use Rattle.lc_tx.specs.Images.{bytes_of}
use Rattle.lc_tx.specs.Tx.{Locked, Reads, Holds, RunsOn, SetsRange}
use Rattle.lc_tx.specs.Fault.{is_of_set_range}
use Rattle.lc_tx.specs.declared.tx.Tx.{Tx}
use Rattle.lc_tx.specs.declared.tx_fault.TxFault.{TxFault}
use Rattle.lc_tx.specs.declared.tx_fault.TxFault.TheVariants.{Busy as IsBusy, NotHere as IsNotHere, NoRange as HasNoRange, OutOfSegment as IsOutside, NotLocked as IsNotLocked, NoMemory, TooLong as IsTooLong, SequenceSpent as IsSpent, EmptyRange as IsEmpty, TooManyRanges as AreTooMany, ReadOnly as IsReadOnly}
use Rattle.lc_tx.proofs.HoldsLemmas.{read_apart}
use Rattle.lc_tx.proofs.StandsLemmas.{more_runs}
use Rattle.lc_desk.specs.Refused.{refusal_of}
use Rattle.lc_desk.specs.Here.{the_images}
use Rattle.lc_desk.specs.declared.here.Here.{Here}
use Rattle.lc_desk.specs.Seat.{Seat}
use Rattle.lc_desk.specs.Desk.{IsOpen, FitsDesk}
use Rattle.lc_desk.specs.SeatCalls.{RangeAnswers}

-- The locks of an open transaction, and the length of what it locked

module _ (m : Setting) (node i : ℕ) (here : Here) (seats : List Seat) (s : State) (h : FitsDesk m node here seats s) (tx : Tx)
    (one : IsOpen here node i tx (value m.start s.earlier s.history) s) (runs : RunsOn the_images here tx) (n : ℕ) where
  pub lock_is : Locked tx n → locks one.transaction n ≡ true
  lock_is lock = ap (is_member n) one.stands.locked_are ∙ lock

  pub read_holds : Reads tx n → (holds one.transaction n ≡ true) × (locks one.transaction n ≡ false)
  read_holds read =
      let apart : locks one.transaction n ≡ false = ap (is_member n) one.stands.locked_are ∙ read_apart the_images here tx n runs read in
      (rw apart (ap (is_member n) one.stands.reading_are ∙ read), apart)

  pub none_holds : (Holds tx n → ⊥) → holds one.transaction n ≡ false
  none_holds none = false_from_ne_true (holds one.transaction n) (λ held. none (subst (λ b. b ≡ true) same held))
    where
      same : holds one.transaction n ≡ (is_member n tx.locked.items || is_member n tx.reading.items)
      same = ap (λ l. is_member n l || is_member n one.transaction.reading) one.stands.locked_are ∙ ap (λ l. is_member n tx.locked.items || is_member n l) one.stands.reading_are

  pub size_is : Locked tx n → length (bytes_of the_images here n) ≡ segment_len m.geometry
  size_is lock = h.sizes n (runs.here n lock)

  -- it is shorter than a range may reach
  pub all_reached : Locked tx n → min (length (bytes_of the_images here n)) (2 ^ 32 - 1) ≡ length (bytes_of the_images here n)
  all_reached lock = omega (arith, size_is lock, m.geometry.few_pages)

-- Whether a range is set or refused, the transaction is of its thread
pub same_thread : (images : Here) (old new : Tx) (n offset len : ℕ) (r : Result (Unit {0}) TxFault) → OnOk r (SetsRange the_images images old n offset len new) → OnErr r (new ≡ old) → new.thread ≡ old.thread
same_thread images old new n offset len (Ok v) sets same = sets.same_thread
same_thread images old new n offset len (Err fault) sets same = ap (λ (x : Tx). x.thread) same

-- What the call answers

module _ (m : Setting) (node i : ℕ) (here : Here) (seats : List Seat) (s : State) (h : FitsDesk m node here seats s) (tx : Tx)
    (one : IsOpen here node i tx (value m.start s.earlier s.history) s) (runs : RunsOn the_images here tx) (n offset len : ℕ) where
  abbrev bytes : List ℕ
  bytes = bytes_of the_images here n

  abbrev RefusedAs : Refusal → Type 0
  RefusedAs refusal = Row m s (SetRange node i n offset len) (Refused refusal) s

  some_bytes : 0 < len → (len == 0) ≡ false
  some_bytes some = (let differ : len ≢ 0 = omega (arith, some) in ne_eqb len 0 differ)

  within : Locked tx n → offset + len ≤ length bytes → nat_le (offset + len) (segment_len m.geometry) ≡ true
  within lock fits = le-leb (offset + len) (segment_len m.geometry) (omega (arith, fits, size_is m node i here seats s h tx one runs n lock))

  pub range_fault : (r : Result (Unit {0}) TxFault) (fault : TxFault) (refusal : Refusal) → RangeAnswers bytes tx n offset len r
      → is_of_set_range fault ≡ true → r ≡ Err fault → refusal_of fault ≡ Some refusal → RefusedAs refusal
  range_fault r IsNotLocked refusal answers may err same =
      subst (λ (f : Refusal). RefusedAs f) (same_some NotLocked refusal same)
      (set_range-not_locked m s node i n offset len one.transaction one.running (none_holds m node i here seats s h tx one runs n (answers.not_locked.0 err)))
  range_fault r (IsReadOnly x) refusal answers may err same =
      let why = (answers.read_only x).0 err in
      let held = read_holds m node i here seats s h tx one runs n why.0 in
      subst (λ (f : Refusal). RefusedAs f) (ap (λ (k : ℕ). ReadOnly k) (sym why.1) ∙ same_some (ReadOnly x) refusal same)
      (set_range-read_only m s node i n offset len one.transaction one.running held.0 held.1)
  range_fault r IsEmpty refusal answers may err same =
      let why = answers.empty.0 err in
      subst (λ (f : Refusal). RefusedAs f) (same_some EmptyRange refusal same)
      (set_range-no_bytes m s node i n offset len one.transaction one.running (lock_is m node i here seats s h tx one runs n why.0) (eq-eqb len 0 why.1))
  range_fault r IsOutside refusal answers may err same =
      let why = answers.outside.0 err in
      let reached = all_reached m node i here seats s h tx one runs n why.0 in
      subst (λ (f : Refusal). RefusedAs f) (same_some (OutOfSegment None) refusal same)
      (set_range-outside m s node i n offset len one.transaction one.running (lock_is m node i here seats s h tx one runs n why.0) (some_bytes why.1)
      (le-false (offset + len) (segment_len m.geometry) (omega (arith, why.2, reached, size_is m node i here seats s h tx one runs n why.0))))
  range_fault r AreTooMany refusal answers may err same =
      let why = answers.too_many.0 err in
      let reached = all_reached m node i here seats s h tx one runs n why.0 in
      let fits : offset + len ≤ length bytes = omega (arith, why.2, reached) in
      let many = (more_runs the_images here tx n offset len (value m.start s.earlier s.history) one.transaction one.stands why.0 fits).0 why.3 in
      subst (λ (f : Refusal). RefusedAs f) (same_some TooManyRanges refusal same)
      (set_range-too_many m s node i n offset len one.transaction one.running (lock_is m node i here seats s h tx one runs n why.0) (some_bytes why.1) (within why.0 fits)
      (le-false (ranges (marked one.transaction n offset len).marks) 64 many))
  range_fault r NoMemory refusal answers may err same = absurd (let none : None ≡ Some refusal = same in cc)
  range_fault r (IsBusy x) refusal answers may err same = absurd (true≢false (sym may))
  range_fault r (IsNotHere x) refusal answers may err same = absurd (true≢false (sym may))
  range_fault r HasNoRange refusal answers may err same = absurd (true≢false (sym may))
  range_fault r (IsTooLong x) refusal answers may err same = absurd (true≢false (sym may))
  range_fault r (IsSpent x) refusal answers may err same = absurd (true≢false (sym may))

  module _ (r : Result (Unit {0}) TxFault) (answers : RangeAnswers bytes tx n offset len r) (ok : r ≡ Ok tt) where
    not_err : (f : TxFault) → r ≡ Err f → ⊥
    not_err f err = let both : Ok tt ≡ Err f = sym ok ∙ err in cc

    pub range_lock : Locked tx n
    range_lock = elim (cases_Bool (is_member n tx.locked.items)) [
      | inl lock ↦ lock
      | inr other ↦ elim (cases_Bool (is_member n tx.reading.items)) [
        | inl read ↦ absurd (not_err (IsReadOnly n) ((answers.read_only n).1 (read, refl)))
        | inr none ↦ absurd (not_err IsNotLocked (answers.not_locked.1 (λ held. true≢false (sym held ∙ or_from (is_member n tx.locked.items) (is_member n tx.reading.items) other none))))
      ]
    ]

    above : 0 < len
    above = elim (cases_lt 0 len) [
      | inl more ↦ more
      | inr none ↦ absurd (not_err IsEmpty (answers.empty.1 (range_lock, omega (arith, none))))
    ]

    reached : min (length bytes) (2 ^ 32 - 1) ≡ length bytes
    reached = all_reached m node i here seats s h tx one runs n range_lock

    inside : offset + len ≤ length bytes
    inside = elim (cases_lt (length bytes) (offset + len)) [
      | inl past ↦ absurd (not_err IsOutside (answers.outside.1 (range_lock, above, omega (arith, past, reached))))
      | inr within_it ↦ within_it
    ]

    not_many : nat_le (ranges (marked one.transaction n offset len).marks) 64 ≡ true
    not_many = elim (cases_lt 64 (ranges (marked one.transaction n offset len).marks)) [
      | inl many ↦ absurd (not_err AreTooMany (answers.too_many.1 (
        range_lock,
        above,
        omega (arith, inside, reached),
        (more_runs the_images here tx n offset len (value m.start s.earlier s.history) one.transaction one.stands range_lock inside).1 many,
      )))
      | inr few ↦ le-leb (ranges (marked one.transaction n offset len).marks) 64 few
    ]

    pub range_done : Row m s (SetRange node i n offset len) Accepted (changed s (marked one.transaction n offset len))
    range_done = set_range-done m s node i n offset len one.transaction one.running (lock_is m node i here seats s h tx one runs n range_lock) (some_bytes above) (within range_lock inside) not_many
