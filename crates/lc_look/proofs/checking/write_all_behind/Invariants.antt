use Rattle.std.proofs.Common.{◌-◌, ℕ, List}
use Rattle.std.specs.Io.KnownBytes.{Appends}
use Rattle.lc_look.specs.Checks.{BehindTexts}
use Rattle.lc_look.proofs.checking.write_all_behind.Given as goal

abbrev pub invariant-loop-segment : goal.invariant-loop-segment
invariant-loop-segment g l =
    (text : List ℕ) × BehindTexts l.forecast.geometry l.forecast.store 1 (l.segment - 1) text
    × Appends (g.W.Write.contents l.fn.writer) (g.W.Write.contents l.writer) text
