use Rattle.std.proofs.Common.{◌*◌, ◌+◌, ◌-◌, ◌∙◌, get_or, refl, sym, ap, arith}
use Rattle.std.proofs.lemmas.List.{take_all}
use Rattle.lc_record.proofs.GroupLemmas.{filled, filled_next, filled_none}
use Rattle.lc_record.proofs.group.chunk_of.Goals as goal

pub loop-index-init : goal.loop-index-init
loop-index-init c = sym (filled_none c.args.words.now)

pub loop-index-preserved : goal.loop-index-preserved
loop-index-preserved c =
    let l = c.loop-index in
    let words = c.args.words.now in
    filled_next l.chunk words c.copy_from_slice.new.self l.index (8 * l.index + 8 - 8 * l.index) (get_or words l.index 0)
    c.loop-index-test.true (omega arith) refl (c.copy_from_slice.ensures.after ∙ c.to_le_bytes.ensures) l.invariant

pub returns : goal.returns
returns c = c.loop-index.invariant ∙ ap filled (take_all c.loop-index.index c.args.words.now (omega (arith, c.loop-index-test.false)))
