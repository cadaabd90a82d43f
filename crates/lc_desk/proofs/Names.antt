-- Of a desk: which replies an event may get at all, kind by kind.
use Rattle.std.proofs.Common.{◌≡◌, ℕ, ◌+◌, Bool, true, ◌||◌, List, length, Option, None, Some, refl, sym, ap, subst, ◌∙◌, true≢false, inl, inr}
use Rattle.std.specs.Prelude.{IfErr, IsOk, IsSome, IsTrue, Result, Ok, Err}
use Rattle.std.proofs.lemmas.Bool.{cases_Bool, cases_lt, or_from}
use Rattle.std.proofs.lemmas.Option.{same_Some as same_some}
use Rattle.lc_record.specs.Transaction.{is_member}
use Rattle.lc_token.specs.Standing.{Standing}
use Rattle.lc_token.specs.declared.fault.TokenFault.{TokenFault}
use Rattle.lc_token.specs.declared.fault.TokenFault.TheVariants.{NotHere as StandsElsewhere, Held as IsHeld, Writing as IsWriting, Unflushed as IsUnflushed}
use Rattle.lc_token.specs.declared.token.Token.{Token}
use Rattle.lc_tx.specs.Fault.{is_of_begin, is_of_needs, is_of_read, is_of_set_range}
use Rattle.lc_tx.specs.declared.tx.Tx.{Tx}
use Rattle.lc_tx.specs.declared.tx_fault.TxFault.{TxFault}
use Rattle.lc_tx.specs.declared.tx_fault.TxFault.TheVariants.{Busy as IsBusy, NotHere as IsNotHere, NoRange as HasNoRange, OutOfSegment as IsOutside, NotLocked as IsNotLocked, TooLong as IsTooLong, SequenceSpent as IsSpent, EmptyRange as IsEmpty, TooManyRanges as AreTooMany, ReadOnly as IsReadOnly}
use Rattle.lc_model.specs.Machine.{may_refuse_reserve}
use Rattle.lc_model.specs.declared.refusal.Refusal.{Refusal}
use Rattle.lc_model.specs.declared.refusal.Refusal.TheVariants.{Busy, EmptyRange, Held, NoRange, NotHere, NotLocked, OutOfSegment, ReadOnly, SequenceSpent, TooLong, TooManyRanges, Unflushed, Writing as HasWrite}
use Rattle.lc_desk.specs.MayReply.{is_turn, may_refuse_begin, may_refuse_leave, may_refuse_range, may_refuse_read, may_refuse_write}
use Rattle.lc_desk.specs.Refused.{refusal_of}
use Rattle.lc_desk.specs.TokenRefused.{token_refusal}
use Rattle.lc_desk.proofs.Left.{LeaveAnswers}
use Rattle.lc_desk.proofs.WriteRows.{WriteAnswers}

-- What a transaction's faults are refused as

pub refused_as : (may : Refusal → Bool) (its refusal : Refusal) → may its ≡ true → Some its ≡ Some refusal → may refusal ≡ true
refused_as may its refusal given is = sym (ap may (same_some its refusal is)) ∙ given

pub of_begin : (fault : TxFault) → IsTrue (is_of_begin fault) → (refusal : Refusal) → refusal_of fault ≡ Some refusal → may_refuse_begin refusal ≡ true
of_begin (IsBusy segment) of refusal is = refused_as may_refuse_begin (Busy segment) refusal refl is
of_begin (IsNotHere segment) of refusal is = refused_as may_refuse_begin (NotHere segment) refusal refl is
of_begin fault of refusal is = absurd cc

pub of_set_range : (fault : TxFault) → IsTrue (is_of_set_range fault) → (refusal : Refusal) → refusal_of fault ≡ Some refusal → may_refuse_range refusal ≡ true
of_set_range IsNotLocked of refusal is = refused_as may_refuse_range NotLocked refusal refl is
of_set_range (IsReadOnly segment) of refusal is = refused_as may_refuse_range (ReadOnly segment) refusal refl is
of_set_range IsEmpty of refusal is = refused_as may_refuse_range EmptyRange refusal refl is
of_set_range IsOutside of refusal is = refused_as may_refuse_range (OutOfSegment None) refusal refl is
of_set_range AreTooMany of refusal is = refused_as may_refuse_range TooManyRanges refusal refl is
of_set_range fault of refusal is = absurd cc

pub of_read : (fault : TxFault) → IsTrue (is_of_read fault) → (refusal : Refusal) → refusal_of fault ≡ Some refusal → may_refuse_read refusal ≡ true
of_read IsNotLocked of refusal is = refused_as may_refuse_read NotLocked refusal refl is
of_read IsOutside of refusal is = refused_as may_refuse_read (OutOfSegment None) refusal refl is
of_read fault of refusal is = absurd cc

pub of_needs : (fault : TxFault) → IsTrue (is_of_needs fault) → (refusal : Refusal) → refusal_of fault ≡ Some refusal → (is_turn refusal || may_refuse_reserve refusal) ≡ true
of_needs (IsSpent segment) of refusal is = refused_as (λ r. is_turn r || may_refuse_reserve r) (SequenceSpent segment) refusal refl is
of_needs (IsTooLong words) of refusal is = refused_as (λ r. is_turn r || may_refuse_reserve r) (TooLong words) refusal refl is
of_needs fault of refusal is = absurd cc

-- a call that is refused is not done
refused_ok : {A E : Type 0} (r : Result A E) (e : E) → r ≡ Err e → IsOk r → ⊥
refused_ok (Ok x) e is ok = (let both : Ok x ≡ Err e = is in absurd cc)
refused_ok (Err other) e is ok = true≢false (sym ok)

same_fault : {A E : Type 0} (r : Result A E) (x y : E) → r ≡ Err x → r ≡ Err y → x ≡ y
same_fault {A} {E} r x y is other = (let both : ◌≡◌ {A = Result A E} (Err x) (Err y) = sym is ∙ other in cc)

-- what holds of the error that it is
pub err_at : {A E : Type 0} (r : Result A E) (P : E → Type 0) → ((e : E) → r ≡ Err e → P e) → IfErr r P
err_at (Ok x) P each = tt
err_at (Err e) P each = each e refl

module _ (bytes : List ℕ) (tx : Tx) (n offset len : ℕ) (r : Result (Unit {0}) TxFault) (answers : WriteAnswers bytes tx n offset len r) where
  -- a write is refused so, and not otherwise
  other_write : (fault : TxFault) → r ≡ Err fault → (fault ≡ IsNotLocked → ⊥) → (fault ≡ IsReadOnly n → ⊥) → (fault ≡ IsOutside → ⊥) → (fault ≡ HasNoRange → ⊥) → ⊥
  other_write fault is locked shared outside range = elim (cases_Bool (is_member n tx.locked.items)) [
    | inl lock ↦ elim (cases_lt (length bytes) (offset + len)) [
      | inl past ↦ outside (same_fault r fault IsOutside is (answers.outside.1 (lock, past)))
      | inr fits ↦ range (same_fault r fault HasNoRange is (answers.no_range.1 (lock, fits, λ set. refused_ok r fault is (answers.ok.1 (lock, fits, set)))))
    ]
    | inr none ↦ elim (cases_Bool (is_member n tx.reading.items)) [
      | inl reads ↦ shared (same_fault r fault (IsReadOnly n) is ((answers.read_only n).1 (reads, refl)))
      | inr free ↦ locked (same_fault r fault IsNotLocked is (answers.not_locked.1 (λ held. true≢false (sym held ∙ or_from (is_member n tx.locked.items) (is_member n tx.reading.items) none free))))
    ]
  ]

  pub of_write : (fault : TxFault) → r ≡ Err fault → (refusal : Refusal) → refusal_of fault ≡ Some refusal → may_refuse_write refusal ≡ true
  of_write IsNotLocked err refusal is = refused_as may_refuse_write NotLocked refusal refl is
  of_write (IsReadOnly segment) err refusal is = refused_as may_refuse_write (ReadOnly segment) refusal refl is
  of_write IsOutside err refusal is = refused_as may_refuse_write (OutOfSegment None) refusal refl is
  of_write HasNoRange err refusal is = refused_as may_refuse_write NoRange refusal refl is
  of_write fault err refusal is = absurd (other_write fault err (λ e. absurd cc) (λ e. absurd cc) (λ e. absurd cc) (λ e. absurd cc))

-- What a token's faults are refused as

module _ (standing next : Standing) (holds writes : Bool) (count stable : ℕ) (result : Result Token TokenFault) (answers : LeaveAnswers standing next holds writes count stable result) where
  -- a token stays for one of these reasons
  other_leave : (fault : TokenFault) → result ≡ Err fault → (fault ≡ StandsElsewhere standing.segment → ⊥) → (fault ≡ IsHeld → ⊥) → (fault ≡ IsWriting → ⊥) → (fault ≡ IsUnflushed → ⊥) → ⊥
  other_leave fault is away held writing unflushed = elim standing.token as (λ (o : Option Token). standing.token ≡ o → ⊥) [
    | None ↦ λ none. away (same_fault result fault (StandsElsewhere standing.segment) is (answers.not_here.1 none))
    | Some token ↦ λ stands.
        (let some : IsSome standing.token = subst (λ (o : Option Token). IsSome o) (sym stands) refl in
        elim (cases_Bool holds) [
          | inl is_held ↦ held (same_fault result fault IsHeld is (answers.held.1 (some, is_held)))
          | inr free ↦ elim (cases_Bool writes) [
            | inl is_written ↦ writing (same_fault result fault IsWriting is (answers.writing.1 (some, free, is_written)))
            | inr rests ↦ elim (cases_lt stable count) [
              | inl behind ↦ unflushed (same_fault result fault IsUnflushed is (answers.unflushed.1 (some, free, rests, behind)))
              | inr flushed ↦ refused_ok result fault is (answers.done.1 (some, free, rests, flushed))
            ]
          ]
        ])
  ] refl

  pub of_leave : (fault : TokenFault) → result ≡ Err fault → (refusal : Refusal) → token_refusal fault ≡ Some refusal → may_refuse_leave refusal ≡ true
  of_leave (StandsElsewhere segment) err refusal is = refused_as may_refuse_leave (NotHere segment) refusal refl is
  of_leave IsHeld err refusal is = refused_as may_refuse_leave Held refusal refl is
  of_leave IsWriting err refusal is = refused_as may_refuse_leave HasWrite refusal refl is
  of_leave IsUnflushed err refusal is = refused_as may_refuse_leave Unflushed refusal refl is
  of_leave fault err refusal is = absurd (other_leave fault err (λ e. absurd cc) (λ e. absurd cc) (λ e. absurd cc) (λ e. absurd cc))
