use Rattle.std.proofs.Common.{◌≡◌, Some, map, take}
use Rattle.std.specs.Option.{ForSome}
use Rattle.lc_applied.specs.AppliedParts.{runs_of}
use Rattle.lc_segments.specs.Touched.{range_at, touched_pages}
use Rattle.lc_segments.proofs.touching.touch_runs.Given as goal

abbrev pub invariant-loop-run : goal.invariant-loop-run
invariant-loop-run l = ForSome l.fn.place.token (λ token. l.place ≡ record l.fn.place { token = Some (record token { pages = touched_pages (map range_at (runs_of l.segment (take l.run-index l.runs))) token.seq token.pages }) })
