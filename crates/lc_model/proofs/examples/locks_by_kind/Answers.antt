use Rattle.std.proofs.Common.{◌≡◌, refl}
use Rattle.lc_model.specs.declared.reply.Reply.TheVariants.{Ok as Accepted, Refused}
use Rattle.lc_model.specs.declared.refusal.Refusal.TheVariants.{Busy}
use Rattle.lc_model.proofs.examples.locks_by_kind.Goals as goal

pub returns-clause-not_busy : goal.returns-clause-not_busy
returns-clause-not_busy c = λ new step. absurd (let e : Refused (Busy 1) ≡ Accepted = step.0 in cc)

pub returns-clause-written : goal.returns-clause-written
returns-clause-written c = refl

pub returns-clause-beside : goal.returns-clause-beside
returns-clause-beside c = (refl, refl)

pub returns-clause-no_writer : goal.returns-clause-no_writer
returns-clause-no_writer c = (refl, refl)

pub returns-clause-no_writer_of_both : goal.returns-clause-no_writer_of_both
returns-clause-no_writer_of_both c = (refl, refl)

pub returns-clause-no_reader : goal.returns-clause-no_reader
returns-clause-no_reader c = (refl, refl)

pub returns-clause-read_only : goal.returns-clause-read_only
returns-clause-read_only c = (refl, refl)

pub returns-clause-read_only_first : goal.returns-clause-read_only_first
returns-clause-read_only_first c = (refl, refl)

pub returns-clause-no_write : goal.returns-clause-no_write
returns-clause-no_write c = (refl, refl)

pub returns-clause-not_locked : goal.returns-clause-not_locked
returns-clause-not_locked c = (refl, refl)

pub returns-clause-read : goal.returns-clause-read
returns-clause-read c = (refl, refl)

pub returns-clause-held : goal.returns-clause-held
returns-clause-held c = (refl, refl)
