use Rattle.std.proofs.Common.{◌≡◌, ℕ, ◌+◌, List, take, drop, get_or, sym, ap, ◌∙◌, arith}
use Rattle.std.proofs.lemmas.List.{at_drop_more, drop-drop}
use Rattle.lc_range.specs.RangeSet.{total_len}
use Rattle.lc_range.specs.declared.range.Range.{Range}
use Rattle.lc_record.specs.Content.{put}
use Rattle.lc_tx.specs.Image.{laid_over}
use Rattle.lc_applied.specs.AppliedPart.{ranges_of}
use Rattle.lc_applied.proofs.applied_part.lay_runs.Goals as goal

pub loop-run-preserved : goal.loop-run-preserved
loop-run-preserved c =
    let d : Range = record { segment = 0; offset = 0; len = 0 } in
    let i : ℕ = c.loop-run.run-index in
    let runs : List Range = c.args.runs.now in
    let run : Range = get_or runs i d in
    let later : List Range = drop (i + 1) runs in
    let rest : List ℕ = c.loop-run.rest.now in
    let image : List ℕ = c.loop-run.image.bytes.items in
    let total : total_len (drop i runs) ≡ run.len + total_len later = at_drop_more total_len runs i d c.loop-run-test.true in
    let laid : c.set.new.self.bytes.items ≡ put run.offset (take run.len rest) image = c.set.ensures.bytes ∙ ap (λ (l : List ℕ). put run.offset l image) c.split_at.ensures.front in
    record {
      image =
          ap (λ (l : List ℕ). laid_over (ranges_of later l) c.set.new.self.bytes.items) c.split_at.ensures.back
          ∙ ap (laid_over (ranges_of later (drop run.len rest))) laid
          ∙ sym (at_drop_more (λ (l : List Range). laid_over (ranges_of l rest) image) runs i d c.loop-run-test.true)
          ∙ c.loop-run.invariant.image;
      holders = c.set.ensures.holders ∙ c.loop-run.invariant.holders;
      enough = omega (arith, total, c.loop-run.invariant.enough, c.split_at.ensures.back_len);
      rest =
          ap (drop (total_len later)) c.split_at.ensures.back
          ∙ drop-drop (total_len later) run.len rest
          ∙ ap (λ (n : ℕ). drop n rest) (sym total)
          ∙ c.loop-run.invariant.rest;
    }
