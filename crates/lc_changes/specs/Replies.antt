-- What is answered of work on images, as the machine's rows answer.
use Rattle.std.specs.Prelude.{◌≡◌, ◌||◌, ℕ, not, List, Option, Some, None, Result, Ok, Err}
use Rattle.std.specs.declared.alloc.AllocError.{AllocError}
use Rattle.lc_record.specs.Transaction.{is_member}
use Rattle.lc_tx.specs.declared.tx_fault.TxFault.{TxFault}
use Rattle.lc_tx.specs.declared.tx_fault.TxFault.TheVariants as fault
use Rattle.lc_model.specs.Refusals.{refuse_if}
use Rattle.lc_model.specs.declared.refusal.Refusal.{Refusal}
use Rattle.lc_model.specs.declared.refusal.Refusal.TheVariants.{EmptyRange, NoRange, NotLocked, OutOfSegment, OutOfTurn, ReadOnly, TooManyRanges}
use Rattle.lc_model.specs.declared.reply.Reply.{Reply}
use Rattle.lc_model.specs.declared.reply.Reply.TheVariants.{Ok as Accepted, Refused}

-- why a segment may not be changed, if it may not
abbrev pub change_refusal : List ℕ → List ℕ → ℕ → Option Refusal
change_refusal writing reading segment =
    refuse_if (not (is_member segment writing || is_member segment reading)) NotLocked
    (refuse_if (not (is_member segment writing)) (ReadOnly segment)
    None)

-- what a range is answered: it is refused so, or it is set, or there is no memory
abbrev pub AnswersRange : Option Refusal → Result Reply AllocError → Type 0
AnswersRange (Some refusal) said = said ≡ Ok (Refused refusal)
AnswersRange None (Ok reply) = reply ≡ Accepted
AnswersRange None (Err error) = Unit {0}

-- the refusal for what is refused of images
abbrev pub refusal_to : TxFault → Refusal
refusal_to fault.EmptyRange = EmptyRange
refusal_to fault.OutOfSegment = OutOfSegment None
refusal_to fault.TooManyRanges = TooManyRanges
refusal_to fault.NoRange = NoRange
refusal_to _ = OutOfTurn

abbrev pub RangeReplied : Result (Unit {0}) TxFault → Result Reply AllocError → Type 0
RangeReplied (Ok its) said = said ≡ Ok Accepted
RangeReplied (Err fault.NoMemory) said = said ≡ Err (record {})
RangeReplied (Err other) said = said ≡ Ok (Refused (refusal_to other))

abbrev pub WriteReplied : Result (Unit {0}) TxFault → Reply → Type 0
WriteReplied (Ok its) reply = reply ≡ Accepted
WriteReplied (Err other) reply = reply ≡ Refused (refusal_to other)

-- it is done, unless it is refused
abbrev pub done_or : Option Refusal → Result (Unit {0}) Refusal
done_or None = Ok tt
done_or (Some refusal) = Err refusal
