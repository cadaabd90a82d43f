use Rattle.std.proofs.Common.{ap, ◌∙◌}
use Rattle.lc_journal.specs.Kept.{kept_behind}
use Rattle.lc_journal.specs.Records.{count_of}
use Rattle.lc_journal.proofs.KeptWords.{both_behind, count_behind}
use Rattle.lc_rest.proofs.SpelledWords.{all_text}
use Rattle.lc_journal.proofs.SpelledPieces.{piece_fits}
use Rattle.lc_journal.proofs.node_piece.NodePiece.new.Goals as goal

pub returns-clause-stable : goal.returns-clause-stable
returns-clause-stable g c = λ front text.
    c.count-count.ensures ∙ ap count_of (c.in_ok-keep_all.ensures.kept front text ∙ ap (kept_behind front) c.behind-records.ensures) ∙ count_behind c.args.dropped front

pub returns-clause-fits : goal.returns-clause-fits
returns-clause-fits g c = λ words front behind first last end room area rounds.
    let stable = all_text c.args.stable.now front first in
    let staged = all_text c.args.staged.now behind last in
    let kept = c.in_ok-keep_all.ensures.kept front stable ∙ ap (kept_behind front) c.behind-records.ensures in
    piece_fits g.D.Area _ words c.args.dropped c.args.stable.now c.args.staged.now front behind first last
    (c.in_ok-keep_all-2.ensures.kept behind staged ∙ ap (kept_behind behind) kept ∙ both_behind c.args.dropped front behind)
    (c.count-count.ensures ∙ ap count_of kept ∙ count_behind c.args.dropped front) end room area rounds
