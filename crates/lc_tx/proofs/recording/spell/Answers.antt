use Rattle.std.proofs.Common.{sym, ◌∙◌}
use Rattle.lc_tx.specs.Prepared.{runs_record}
use Rattle.lc_tx.proofs.RecordLemmas.{layout_is}
use Rattle.lc_tx.proofs.SpellLemmas.{room, last_room, spelled}
use Rattle.lc_tx.proofs.recording.spell.Goals as goal

pub add_ranges-requires-clause-room : goal.add_ranges-requires-clause-room
add_ranges-requires-clause-room g c =
    room (runs_record g.I.Images c.args.images.now c.args.runs.now c.args.node) c.args.layout.now
    (c.requires.laid ∙ sym (layout_is g.I.Images c.args.images.now c.args.runs.now c.args.node c.requires.inside))
    c.in_ok-spelling.spelling c.add_locks.new.spelling c.add_locks.new.spelling c.in_ok-spelling.ensures.begun c.add_locks.ensures

pub finish-requires : goal.finish-requires
finish-requires g c =
    last_room (runs_record g.I.Images c.args.images.now c.args.runs.now c.args.node) c.args.layout.now
    (c.requires.laid ∙ sym (layout_is g.I.Images c.args.images.now c.args.runs.now c.args.node c.requires.inside))
    c.in_ok-spelling.spelling c.add_locks.new.spelling c.add_ranges.new.spelling c.in_ok-spelling.ensures.begun c.add_locks.ensures c.add_ranges.ensures.spelled

pub returns-clause-words : goal.returns-clause-words
returns-clause-words g c =
    c.finish.ensures
    ∙ spelled (runs_record g.I.Images c.args.images.now c.args.runs.now c.args.node) c.args.layout.now
    (c.requires.laid ∙ sym (layout_is g.I.Images c.args.images.now c.args.runs.now c.args.node c.requires.inside))
    c.in_ok-spelling.spelling c.add_locks.new.spelling c.add_ranges.new.spelling c.in_ok-spelling.ensures.begun c.add_locks.ensures c.add_ranges.ensures.spelled
