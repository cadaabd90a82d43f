use Rattle.std.proofs.Common.{◌≡◌, List, [], ℕ, length, arith, ap}
use Rattle.lc_record.specs.declared.record.Record.{Record}
use Rattle.lc_recover.specs.Reading.{left_of}
use Rattle.lc_recover.proofs.Walks.{first, none}
use Rattle.lc_recover.proofs.record_cursor.RecordCursorIterator.next.Goals as goal

pub returns-in_err-record-clause-steps : goal.returns-in_err-record-clause-steps
returns-in_err-record-clause-steps c =
    let nothing : left_of c.args.self.now ≡ [] = none c.args.self.now.words c.args.self.now.place c.in_err-record.ensures.none in
    rw c.from_residual.ensures (nothing, nothing)

pub returns-clause-steps : goal.returns-clause-steps
returns-clause-steps c = first c.args.self.now.words c.args.self.now.place c.len.result c.in_ok-record.record c.in_ok-record.ensures.found c.len.ensures

pub returns-clause-goes : goal.returns-clause-goes
returns-clause-goes c =
    let begun = first c.args.self.now.words c.args.self.now.place c.len.result c.in_ok-record.record c.in_ok-record.ensures.found c.len.ensures in
    record { on = λ _. (tt, tt, omega (arith, ap (λ (l : List (ℕ × Record)). length l) begun)); keeps = tt; rests = λ _. tt }
