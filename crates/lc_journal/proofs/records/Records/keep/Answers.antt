use Rattle.std.proofs.Common.{ap, ◌∙◌}
use Rattle.lc_journal.specs.Records.{closed_at}
use Rattle.lc_journal.proofs.Pieces.{closed_last}
use Rattle.lc_journal.proofs.records.Records.keep.Goals as goal

pub returns-clause-kept : goal.returns-clause-kept
returns-clause-kept c =
    let number = c.in_ok-number.number in
    c.close.ensures ∙ ap (closed_at number) c.in_ok-number.ensures.added ∙ closed_last number c.args.self.now c.args.words.now c.in_ok-number.ensures.number
