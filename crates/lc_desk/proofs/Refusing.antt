-- Of a desk: the reply to what a transaction refused.
use Rattle.std.proofs.Common.{◌≡◌, Option, Some, None, refl, sym, subst, true≢false}
use Rattle.std.specs.Prelude.{Result, Ok, Err, IfOk, OnErr, IsErr, MatchOption}
use Rattle.std.specs.declared.alloc.AllocError.{AllocError}
use Rattle.lc_tx.specs.declared.tx_fault.TxFault.{TxFault}
use Rattle.lc_tx.specs.declared.tx_fault.TxFault.TheVariants.{Busy as IsBusy, NotHere as IsNotHere, NoRange as HasNoRange, OutOfSegment as IsOutside, NotLocked as IsNotLocked, NoMemory, TooLong as IsTooLong, SequenceSpent as IsSpent, EmptyRange as IsEmpty, TooManyRanges as AreTooMany, ReadOnly as IsReadOnly}
use Rattle.lc_record.proofs.ListLemmas.{OnErr_from as on_err}
use Rattle.lc_desk.specs.Refused.{refusal_of}
use Rattle.lc_model.specs.declared.refusal.Refusal.{Refusal}
use Rattle.lc_model.specs.declared.reply.Reply.{Reply}
use Rattle.lc_model.specs.declared.reply.Reply.TheVariants.{Refused}

-- the reply to a fault: what holds of each refusal holds of it, and it is no reply for want of memory
pub by_refusal : (o : Option Refusal) (res : Result Reply AllocError) (P : Reply → Type 0)
    → MatchOption o (IsErr res) (λ refusal. res ≡ Ok (Refused refusal)) → ((refusal : Refusal) → o ≡ Some refusal → P (Refused refusal)) → IfOk res P
by_refusal None (Ok reply) P none each = absurd (true≢false (sym none))
by_refusal None (Err error) P none each = tt
by_refusal (Some refusal) res P same each = subst (λ (x : Result Reply AllocError). IfOk x P) (sym same) (each refusal refl)

-- where there is no reply, the fault is want of memory
pub memory_wanted : (fault : TxFault) (res : Result Reply AllocError) (P : Type 0) → MatchOption (refusal_of fault) (IsErr res) (λ refusal. res ≡ Ok (Refused refusal)) → (fault ≡ NoMemory → P) → OnErr res P
memory_wanted NoMemory res P said wants = on_err res P (wants refl)
memory_wanted (IsBusy x) res P said wants = rw said tt
memory_wanted (IsNotHere x) res P said wants = rw said tt
memory_wanted HasNoRange res P said wants = rw said tt
memory_wanted IsOutside res P said wants = rw said tt
memory_wanted IsNotLocked res P said wants = rw said tt
memory_wanted (IsTooLong x) res P said wants = rw said tt
memory_wanted (IsSpent x) res P said wants = rw said tt
memory_wanted IsEmpty res P said wants = rw said tt
memory_wanted AreTooMany res P said wants = rw said tt
memory_wanted (IsReadOnly x) res P said wants = rw said tt
