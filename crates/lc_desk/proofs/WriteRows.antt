-- What a thread writes, and why it may not.
use Rattle.std.proofs.Common.{◌≡◌, ◌≢◌, ℕ, ◌+◌, ◌<◌, ◌≤◌, true, nat_le, List, length, Some, None, refl, sym, ap, subst, ◌∙◌, arith, le-leb, true≢false, inl, inr}
use Rattle.std.specs.Prelude.{◌↔◌, Result, Ok, Err, IsOk, OnOk, OnErr}
use Rattle.std.proofs.lemmas.Bool.{cases_lt, cases_Bool, false_from_ne_true, or_from, lt-leb as le-false}
use Rattle.std.proofs.lemmas.Option.{same_Some as same_some}
use Rattle.lc_record.specs.Content.{segment_of}
use Rattle.lc_record.specs.Transaction.{is_member, all_set}
use Rattle.lc_record.specs.Geometry.{segment_len}
use Rattle.lc_record.specs.Marks.{written}
use Rattle.lc_model.specs.History.{value}
use Rattle.lc_model.specs.State.{Setting, State}
use Rattle.lc_model.specs.Machine.{Row, changed}
use Rattle.lc_model.specs.declared.event.Event.TheVariants.{Write}
use Rattle.lc_model.specs.declared.refusal.Refusal.{Refusal}
use Rattle.lc_model.specs.declared.refusal.Refusal.TheVariants.{NotLocked, ReadOnly, OutOfSegment, NoRange}
use Rattle.lc_model.specs.declared.reply.Reply.TheVariants.{Ok as Accepted, Refused}
use Rattle.lc_model.proofs.Rows.{write-not_locked, write-read_only, write-outside, write-no_range, write-done}
use Rattle.lc_tx.specs.Images.{IsSame, IsWritten, bytes_of}
use Rattle.lc_tx.specs.Tx.{Locked, Reads, Holds, AreSet, RunsOn, KeepsLocked}
use Rattle.lc_tx.specs.declared.tx.Tx.{Tx}
use Rattle.lc_tx.specs.declared.tx_fault.TxFault.{TxFault}
use Rattle.lc_tx.specs.declared.tx_fault.TxFault.TheVariants.{NoRange as HasNoRange, OutOfSegment as IsOutside, NotLocked as IsNotLocked, ReadOnly as IsReadOnly}
use Rattle.lc_tx.proofs.BesideLemmas.{write_keeps}
use Rattle.lc_tx.proofs.StandsLemmas.{positions_set}
use Rattle.lc_desk.specs.Refused.{refusal_of}
use Rattle.lc_desk.specs.Here.{the_images}
use Rattle.lc_desk.specs.declared.here.Here.{Here}
use Rattle.lc_desk.specs.Seat.{Seat}
use Rattle.lc_desk.specs.Desk.{IsOpen, FitsDesk}
use Rattle.lc_desk.specs.Seats.{Runs}
use Rattle.lc_desk.proofs.Changing.{seen_keeps}
use Rattle.lc_desk.proofs.RangeRows.{lock_is, read_holds, none_holds, size_is}

-- Every other thread's transaction has what it stands on, whether the write is done or refused
pub write_leaves : (old new : Here) (tx : Tx) (i n offset : ℕ) (bytes : List ℕ) (r : Result (Unit {0}) TxFault) → Runs old i tx
    → OnOk r (IsWritten the_images old n offset bytes new) → OnErr r (IsSame the_images old new) → (IsOk r → Locked tx n)
    → (j : ℕ) (other : Tx) → j ≢ i → Runs old j other → KeepsLocked the_images old new other
write_leaves old new tx i n offset bytes (Ok v) own wrote same lock j other differ theirs =
    write_keeps the_images old new tx other theirs.runs own.runs (λ e. differ (sym theirs.own ∙ sym e ∙ own.own)) n offset bytes (lock refl) wrote
write_leaves old new tx i n offset bytes (Err fault) own wrote same lock j other differ theirs = seen_keeps old new i same j other differ theirs

-- What the call answers

pub record WriteAnswers (bytes : List ℕ) (tx : Tx) (n offset len : ℕ) (r : Result (Unit {0}) TxFault) : Type 0 where
  pub ok : IsOk r ↔ (Locked tx n × (offset + len ≤ length bytes) × AreSet tx n offset len)
  pub not_locked : (r ≡ Err IsNotLocked) ↔ (Holds tx n → ⊥)
  pub read_only : (x : ℕ) → (r ≡ Err (IsReadOnly x)) ↔ (Reads tx n × (x ≡ n))
  pub outside : (r ≡ Err IsOutside) ↔ (Locked tx n × (length bytes < offset + len))
  pub no_range : (r ≡ Err HasNoRange) ↔ (Locked tx n × (offset + len ≤ length bytes) × (AreSet tx n offset len → ⊥))

module _ (m : Setting) (node i : ℕ) (here : Here) (seats : List Seat) (s : State) (h : FitsDesk m node here seats s) (tx : Tx)
    (one : IsOpen here node i tx (value m.start s.earlier s.history) s) (runs : RunsOn the_images here tx) (n offset : ℕ) (bytes : List ℕ) where
  abbrev RefusedAs : Refusal → Type 0
  RefusedAs refusal = Row m s (Write node i n offset bytes) (Refused refusal) s

  within : Locked tx n → offset + length bytes ≤ length (bytes_of the_images here n) → nat_le (offset + length bytes) (segment_len m.geometry) ≡ true
  within lock fits = le-leb (offset + length bytes) (segment_len m.geometry) (omega (arith, fits, size_is m node i here seats s h tx one runs n lock))

  set_is : AreSet tx n offset (length bytes) ↔ (all_set offset (length bytes) (segment_of n one.transaction.marks) ≡ true)
  set_is = positions_set the_images here tx (value m.start s.earlier s.history) one.transaction n offset (length bytes) one.stands

  module _ (r : Result (Unit {0}) TxFault) (answers : WriteAnswers (bytes_of the_images here n) tx n offset (length bytes) r) where
    pub write_fault : (fault : TxFault) (refusal : Refusal) → r ≡ Err fault → refusal_of fault ≡ Some refusal → RefusedAs refusal
    write_fault fault refusal err same = elim (cases_Bool (is_member n tx.locked.items)) [
      | inl lock ↦ elim (cases_lt (length (bytes_of the_images here n)) (offset + length bytes)) [
        | inl past ↦ by_fault IsOutside (OutOfSegment None) refl (answers.outside.1 (lock, past))
            (write-outside m s node i n offset bytes one.transaction one.running (lock_is m node i here seats s h tx one runs n lock)
            (le-false (offset + length bytes) (segment_len m.geometry) (omega (arith, past, size_is m node i here seats s h tx one runs n lock))))
        | inr fits ↦
            let unset : AreSet tx n offset (length bytes) → ⊥ = λ set. not_ok (answers.ok.1 (lock, fits, set)) in
            by_fault HasNoRange NoRange refl (answers.no_range.1 (lock, fits, unset))
            (write-no_range m s node i n offset bytes one.transaction one.running (lock_is m node i here seats s h tx one runs n lock) (within lock fits)
            (false_from_ne_true (all_set offset (length bytes) (segment_of n one.transaction.marks)) (λ set. unset (set_is.1 set))))
      ]
      | inr other ↦ elim (cases_Bool (is_member n tx.reading.items)) [
        | inl read ↦
            let held = read_holds m node i here seats s h tx one runs n read in
            by_fault (IsReadOnly n) (ReadOnly n) refl ((answers.read_only n).1 (read, refl)) (write-read_only m s node i n offset bytes one.transaction one.running held.0 held.1)
        | inr none ↦
            let nothing : Holds tx n → ⊥ = λ held. true≢false (sym held ∙ or_from (is_member n tx.locked.items) (is_member n tx.reading.items) other none) in
            by_fault IsNotLocked NotLocked refl (answers.not_locked.1 nothing)
            (write-not_locked m s node i n offset bytes one.transaction one.running (none_holds m node i here seats s h tx one runs n nothing))
      ]
    ]
      where
        by_fault : (f : TxFault) (q : Refusal) → refusal_of f ≡ Some q → r ≡ Err f → RefusedAs q → RefusedAs refusal
        by_fault f q of_f is_err row =
            let faults : Err fault ≡ Err f = sym err ∙ is_err in
            let fault_is : fault ≡ f = cc in
            subst RefusedAs (same_some q refusal (sym of_f ∙ ap refusal_of (sym fault_is) ∙ same)) row

        err_not_ok : (x : Result (Unit {0}) TxFault) → x ≡ Err fault → IsOk x → ⊥
        err_not_ok (Ok v) e o = let both : Ok v ≡ Err fault = e in cc
        err_not_ok (Err f) e o = true≢false (sym o)

        not_ok : IsOk r → ⊥
        not_ok ok = err_not_ok r err ok

    pub write_lock : r ≡ Ok tt → Locked tx n × (offset + length bytes ≤ length (bytes_of the_images here n)) × AreSet tx n offset (length bytes)
    write_lock ok = answers.ok.0 (subst (λ (x : Result (Unit {0}) TxFault). IsOk x) (sym ok) refl)

    pub write_done : r ≡ Ok tt → Row m s (Write node i n offset bytes) Accepted (changed s (written one.transaction n offset bytes))
    write_done ok =
        let why = write_lock ok in
        write-done m s node i n offset bytes one.transaction one.running (lock_is m node i here seats s h tx one runs n why.0) (within why.0 why.1) (set_is.0 why.2)
