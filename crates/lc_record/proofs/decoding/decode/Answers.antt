use Rattle.std.proofs.Common.{ℕ, sym, ◌∙◌, arith, rules}
use Rattle.lc_record.specs.Codec.{BeginsWith}
use Rattle.lc_record.specs.declared.record.Record.{Record}
use Rattle.lc_record.proofs.WordLemmas.{AreWords-from}
use Rattle.lc_record.proofs.RecordLemmas.{none_begins, both_read, not_none, len_takes}
use Rattle.lc_record.proofs.decoding.decode.Goals as goal

pub returns-in_default-clause-none : goal.returns-in_default-clause-none
returns-in_default-clause-none c = none_begins c.args.words.now c.in_default.ensures

pub returns-in_default-2-clause-none : goal.returns-in_default-2-clause-none
returns-in_default-2-clause-none c =
    absurd (not_none c.args.words.now c.in-Some.len (AreWords-from c.args.words.now (λ i. omega (arith, c.type_inv.words i))) c.in-Some.ensures (sym c.in_default-2.is ∙ c.in_ok-record.ensures))

pub returns-clause-found : goal.returns-clause-found
returns-clause-found c =
    both_read c.args.words.now _ c.in-Some.len (AreWords-from c.args.words.now (λ i. omega (arith, c.type_inv.words i))) c.in-Some.ensures (sym c.in-Some-2.is ∙ c.in_ok-record.ensures)

pub returns-in_err-record-clause-memory : goal.returns-in_err-record-clause-memory
returns-in_err-record-clause-memory c =
    let found = len_takes c.args.words.now c.in-Some.len (AreWords-from c.args.words.now (λ i. omega (arith, c.type_inv.words i))) c.in-Some.ensures in
    let begins : (r : Record) × (len : ℕ) × BeginsWith c.args.words.now r len = (found.its, c.in-Some.len, found.begins) in
    search rules
