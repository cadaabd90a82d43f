-- What a thread reads at a node, and why it may not.
use Rattle.std.proofs.Common.{◌≡◌, ℕ, ◌+◌, ◌<◌, ◌≤◌, Bool, true, false, List, length, take, drop, Some, None, sym, ap, subst, ◌∙◌, arith, le-leb, true≢false, inl, inr, ◌||◌}
use Rattle.std.specs.Prelude.{◌↔◌, Result, Ok, Err}
use Rattle.std.proofs.lemmas.Bool.{cases_lt, cases_Bool, false_from_ne_true, lt-leb as le-false}
use Rattle.lc_record.specs.Transaction.{is_member, holds}
use Rattle.lc_record.specs.Geometry.{segment_len}
use Rattle.lc_model.specs.History.{value}
use Rattle.lc_model.specs.State.{Setting, State}
use Rattle.lc_model.specs.Machine.{Row}
use Rattle.lc_model.specs.declared.event.Event.TheVariants.{Read}
use Rattle.lc_model.specs.declared.refusal.Refusal.{Refusal}
use Rattle.lc_model.specs.declared.refusal.Refusal.TheVariants.{NotLocked, OutOfSegment}
use Rattle.lc_model.specs.declared.reply.Reply.TheVariants.{Bytes, Refused}
use Rattle.lc_model.proofs.Rows.{read-not_locked, read-outside, read-done}
use Rattle.lc_tx.specs.Images.{IsHere, bytes_of}
use Rattle.lc_tx.specs.Tx.{Holds, RunsOn}
use Rattle.lc_tx.specs.Fault.{is_of_read}
use Rattle.lc_tx.specs.declared.tx.Tx.{Tx}
use Rattle.lc_tx.specs.declared.tx_fault.TxFault.{TxFault}
use Rattle.lc_tx.specs.declared.tx_fault.TxFault.TheVariants.{Busy as IsBusy, NotHere as IsNotHere, NoRange as HasNoRange, OutOfSegment as IsOutside, NotLocked as IsNotLocked, NoMemory, TooLong as IsTooLong, SequenceSpent as IsSpent, EmptyRange as IsEmpty, TooManyRanges as AreTooMany, ReadOnly as IsReadOnly}
use Rattle.lc_tx.proofs.HoldsLemmas.{held_cases}
use Rattle.lc_desk.specs.Refused.{refusal_of}
use Rattle.lc_desk.specs.Here.{the_images}
use Rattle.lc_desk.specs.declared.here.Here.{Here}
use Rattle.lc_desk.specs.Seat.{Seat}
use Rattle.lc_desk.specs.Desk.{IsOpen, FitsDesk}

pub record ReadAnswers {V : Type 0} (bytes : List ℕ) (tx : Tx) (n offset len : ℕ) (r : Result V TxFault) : Type 0 where
  pub not_locked : (r ≡ Err IsNotLocked) ↔ (Holds tx n → ⊥)
  pub outside : (r ≡ Err IsOutside) ↔ (Holds tx n × (length bytes < offset + len))

module _ (m : Setting) (node i : ℕ) (here : Here) (seats : List Seat) (s : State) (h : FitsDesk m node here seats s) (tx : Tx)
    (one : IsOpen here node i tx (value m.start s.earlier s.history) s) (runs : RunsOn the_images here tx) (n offset len : ℕ) where
  abbrev bytes : List ℕ
  bytes = bytes_of the_images here n

  held_is : (b : Bool) → (is_member n tx.locked.items || is_member n tx.reading.items) ≡ b → holds one.transaction n ≡ b
  held_is b is =
      ap (λ l. is_member n l || is_member n one.transaction.reading) one.stands.locked_are ∙ ap (λ l. is_member n tx.locked.items || is_member n l) one.stands.reading_are ∙ is

  held_here : Holds tx n → IsHere the_images here n
  held_here held = elim (held_cases tx n held) [ inl lock ↦ runs.here n lock | inr read ↦ runs.read_here n read ]

  size : Holds tx n → length bytes ≡ segment_len m.geometry
  size held = h.sizes n (held_here held)

  pub read_fault : {V : Type 0} (r : Result V TxFault) (fault : TxFault) (refusal : Refusal) → ReadAnswers bytes tx n offset len r
      → is_of_read fault ≡ true → r ≡ Err fault → refusal_of fault ≡ Some refusal → Row m s (Read node i n offset len) (Refused refusal) s
  read_fault r IsNotLocked refusal answers may err same =
      subst (λ (f : Refusal). Row m s (Read node i n offset len) (Refused f) s) (let e : NotLocked ≡ refusal = cc in e)
      (read-not_locked m s node i n offset len one.transaction one.running (held_is false (false_from_ne_true (is_member n tx.locked.items || is_member n tx.reading.items) (answers.not_locked.0 err))))
  read_fault r IsOutside refusal answers may err same =
      let why = answers.outside.0 err in
      subst (λ (f : Refusal). Row m s (Read node i n offset len) (Refused f) s) (let e : OutOfSegment None ≡ refusal = cc in e)
      (read-outside m s node i n offset len one.transaction one.running (held_is true why.0) (le-false (offset + len) (segment_len m.geometry) (omega (arith, why.1, size why.0))))
  read_fault r NoMemory refusal answers may err same = absurd (let none : None ≡ Some refusal = same in cc)
  read_fault r (IsBusy x) refusal answers may err same = absurd (true≢false (sym may))
  read_fault r (IsNotHere x) refusal answers may err same = absurd (true≢false (sym may))
  read_fault r HasNoRange refusal answers may err same = absurd (true≢false (sym may))
  read_fault r (IsTooLong x) refusal answers may err same = absurd (true≢false (sym may))
  read_fault r (IsSpent x) refusal answers may err same = absurd (true≢false (sym may))
  read_fault r IsEmpty refusal answers may err same = absurd (true≢false (sym may))
  read_fault r AreTooMany refusal answers may err same = absurd (true≢false (sym may))
  read_fault r (IsReadOnly x) refusal answers may err same = absurd (true≢false (sym may))

  pub read_done : {V : Type 0} (r : Result V TxFault) (v : V) (got : List ℕ) → ReadAnswers bytes tx n offset len r → r ≡ Ok v
      → got ≡ take len (drop offset bytes) → Row m s (Read node i n offset len) (Bytes got) s
  read_done {V} r v got answers ok are = elim (cases_Bool (is_member n tx.locked.items || is_member n tx.reading.items)) [
    | inl held ↦
        let fits : offset + len ≤ length bytes = elim (cases_lt (length bytes) (offset + len)) [
          | inl past ↦ absurd (not_err IsOutside (answers.outside.1 (held, past)))
          | inr fits ↦ fits
        ] in
        read-done m s node i n offset len one.transaction got one.running (held_is true held) (le-leb (offset + len) (segment_len m.geometry) (omega (arith, fits, size held)))
        (are ∙ ap (λ (l : List ℕ). take len (drop offset l)) (one.stands.shown n held))
    | inr other ↦ absurd (not_err IsNotLocked (answers.not_locked.1 (λ held. true≢false (sym held ∙ other))))
  ]
    where
      not_err : (f : TxFault) → r ≡ Err f → ⊥
      not_err f err = let both : Ok v ≡ Err f = sym ok ∙ err in cc
