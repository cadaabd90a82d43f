use Rattle.std.proofs.Common.{rules, ◌≡◌, ◌∙◌, ◌<◌, false, length, slice_index_or, ap, arith}
use Rattle.lc_disk.specs.Stop.{chosen}
use Rattle.lc_disk.specs.declared.choice.Choice.{Choice}
use Rattle.lc_disk.specs.declared.choice.Choice.TheVariants.{Keep}
use Rattle.lc_disk.proofs.StopLemmas.{stopped_none, stopped_clean, stopped_dirty}
use Rattle.lc_disk.proofs.mem_area.choose.Goals as goal
use Rattle.lc_disk.proofs.mem_area.choose.Goals.{then-dirty-position, else-dirty-position}

pub loop-position-init : goal.loop-position-init
loop-position-init c =
    stopped_none c.args.bytes.now c.args.stable.now (λ i. slice_index_or c.args.dirty.now i false) c.args.choices.now c.args.span.now.start c.requires.spans.before (λ k. omega (arith, c.type_inv.bytes k))

pub loop-position-preserved : goal.loop-position-preserved
loop-position-preserved c =
    elim c.if-dirty-position.branch [
      | then-dirty-position w ↦
          let bytes = c.loop-position.bytes in
          let position = c.loop-position.position in
          let choice : w.unwrap_or-choice.result ≡ slice_index_or c.args.choices.now c.loop-position.next Keep = search rules in
          let inside : position < length bytes = omega (arith, c.loop-position.auto.bytes, c.requires.within, c.loop-position-test.true) in
          rw (w.bytes-is, w.next-is, w.min-next.ensures, c.saturating_sub-last.ensures)
          (stopped_dirty _ _ _ _ position c.loop-position.next bytes w.left_of.result w.if-dirty-position.true inside w.left_of.type_inv
          (w.left_of.ensures ∙ ap (λ (x : Choice). chosen x (slice_index_or bytes position 0) (slice_index_or c.args.stable.now position 0)) choice)
          c.loop-position.invariant)
      | else-dirty-position w ↦ rw (w.bytes-is, w.next-is) (stopped_clean _ _ _ _ c.loop-position.position c.loop-position.next c.loop-position.bytes w.if-dirty-position.false c.loop-position.invariant)
    ]
