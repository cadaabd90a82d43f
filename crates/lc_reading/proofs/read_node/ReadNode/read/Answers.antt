use Rattle.std.proofs.Common.{◌≡◌, ◌+◌, ◌≤◌, ℕ, List, ap, length, refl, sym, ◌∙◌, subst, arith}
use Rattle.lc_rest.specs.Parts.{AreSpelled}
use Rattle.lc_reading.proofs.NodeLogs.{read_part}
use Rattle.lc_rest.proofs.SpelledWords.{all_text}
use Rattle.lc_reading.proofs.read_node.ReadNode.read.Goals as goal

pub returns : goal.returns
returns g c = λ geometry k.
    (let stable : AreSpelled c.as_slice-stable.result.now k.stable = subst (λ (l : List ℕ). AreSpelled l k.stable) (sym c.as_slice-stable.ensures.value) k.stable_are in
    let staged : AreSpelled c.as_slice-staged.result.now k.staged = subst (λ (l : List ℕ). AreSpelled l k.staged) (sym c.as_slice-staged.ensures.value) k.staged_are in
    let ended : AreSpelled c.as_slice.result.now k.ended = subst (λ (l : List ℕ). AreSpelled l k.ended) (sym c.as_slice.ensures.value) k.ended_are in
    let end : c.args.part.log.end ≡ length c.as_slice-stable.result.now = k.end ∙ ap length (sym c.as_slice-stable.ensures.value) in
    let room : c.args.part.log.end + length c.as_slice-staged.result.now ≤ geometry.words = omega (arith, k.room, ap length c.as_slice-staged.ensures.value) in
    record {
      part_is = read_part g.D.Area geometry c.args.part k c.in_ok-piece.piece c.in_ok-records.field-0.records.items c.in_ok-records.field-0.dropped c.in_ok-records.field-0.stable
          (c.in_ok-records.ensures.records k.ended k.stable k.staged ended stable staged) (c.in_ok-records.ensures.dropped k.ended ended) (c.in_ok-records.ensures.stable k.ended k.stable ended stable)
          c.in_ok-piece.ensures.log c.in_ok-piece.ensures.round c.in_ok-piece.ensures.known
          (c.in_ok-piece.ensures.records k.stable k.staged (all_text c.as_slice-stable.result.now k.stable stable) (all_text c.as_slice-staged.result.now k.staged staged))
          (c.in_ok-piece.ensures.stable k.stable (all_text c.as_slice-stable.result.now k.stable stable))
          (c.in_ok-piece.ensures.fits geometry.words k.stable k.staged stable staged end room k.area k.few_rounds);
      images = refl;
    })
