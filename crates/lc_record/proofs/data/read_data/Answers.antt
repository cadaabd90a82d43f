use Rattle.std.proofs.Common.{◌≡◌, ◌-◌, ℕ, List, ◌++◌, min, ◌∙◌, refl, ap, arith, length, get_or, take, length-take}
use Rattle.lc_record.proofs.data.read_data.Goals as goal
use Rattle.lc_record.proofs.DataLemmas.{take_word}

pub loop-word-preserved : goal.loop-word-preserved
loop-word-preserved c =
    let before = c.loop-word.bytes.items in
    let room : c.min.result ≡ min (c.args.len - length before) 8 = omega (arith, c.min.ensures, c.loop-word.bytes.ok.0) in
    record {
      items = c.in_ok-extend_from_slice.ensures.items
          ∙ ap (λ (l : List ℕ). before ++ take c.min.result l) c.to_le_bytes.ensures
          ∙ take_word c.args.len c.min.result c.args.words.now c.loop-word.word-index (get_or c.args.words.now c.loop-word.word-index 0) before c.loop-word-test.true refl c.loop-word.invariant.items room;
      count = omega (arith, c.in_ok-extend_from_slice.ensures.len, length-take c.min.result c.to_le_bytes.result, ap length c.to_le_bytes.ensures, c.loop-word.invariant.count);
    }
