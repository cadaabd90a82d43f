use Rattle.std.proofs.Common.{◌≡◌, ℕ, List, length, take, drop, ap, ◌∙◌, arith}
use Rattle.lc_record.specs.Layout.{data_len}
use Rattle.lc_record.specs.declared.record.RangeData.{RangeData}
use Rattle.lc_record.proofs.SpellingLemmas.{length-range}
use Rattle.lc_range.specs.declared.range.Range.{Range}
use Rattle.lc_tx.specs.declared.image.Image.{Image as Picture}
use Rattle.lc_tx.specs.Prepared.{run_data}
use Rattle.lc_tx.proofs.recording.add_run.Goals as goal

pub add_range-requires : goal.add_range-requires
add_range-requires g c =
    let run : Range = c.args.run.now in
    let it : RangeData = run_data g.I.Images c.args.images.now c.args.run.now in
    let bytes : data_len (length c.run_bytes-bytes.result.now) ≡ data_len (length it.bytes) =
    ap (λ (l : List ℕ). data_len (length l))
    (c.run_bytes-bytes.ensures.bytes ∙ ap (λ (l : List ℕ). take run.len (drop run.offset l)) (c.bytes.ensures ∙ ap (λ (p : Picture). p.bytes.items) c.image-image.ensures.value)) in
    omega (arith, c.requires.room, bytes, length-range c.args.spelling.now.version it)
