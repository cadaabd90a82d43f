use Rattle.std.proofs.Common.{◌-◌, ℕ, List}
use Rattle.std.specs.Io.KnownBytes.{Appends}
use Rattle.lc_recover.specs.Forecast.{sequence_of}
use Rattle.lc_look.specs.Json.{SegmentsJson}
use Rattle.lc_look.proofs.json.write_segments.Given as goal

abbrev pub invariant-loop-segment : goal.invariant-loop-segment
invariant-loop-segment g l =
    (text : List ℕ) × SegmentsJson l.forecast.geometry l.forecast.store (sequence_of l.forecast) 1 (l.segment - 1) text
    × Appends (g.W.Write.contents l.fn.writer) (g.W.Write.contents l.writer) text
