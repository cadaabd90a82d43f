use Rattle.std.proofs.Common.{◌≡◌, ◌++◌, map, take}
use Rattle.std.specs.List.{flat_map, AllByRecursion}
use Rattle.lc_record.specs.Record.{range_words}
use Rattle.lc_record.specs.Words.{AreBytes}
use Rattle.lc_tx.specs.Images.{IsSame}
use Rattle.lc_tx.specs.Prepared.{run_data}
use Rattle.lc_tx.proofs.recording.add_ranges.Given as goal

abbrev pub invariant-loop-run : goal.invariant-loop-run
invariant-loop-run g l = record {
  spelled : l.spelling ≡ record l.fn.spelling {
    words = l.fn.spelling.words ++ flat_map (range_words l.fn.spelling.version) (map (run_data g.I.Images l.fn.images) (take l.run-index l.runs));
  };
  fit : AllByRecursion (λ it. AreBytes it.bytes) (map (run_data g.I.Images l.fn.images) (take l.run-index l.runs));
  same : IsSame g.I.Images l.fn.images l.images;
}
