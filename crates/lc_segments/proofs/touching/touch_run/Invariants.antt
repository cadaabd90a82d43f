use Rattle.std.specs.Option.{ForSome}
use Rattle.lc_segments.specs.Touched.{range_at}
use Rattle.lc_segments.proofs.TouchedPages.{Touching}
use Rattle.lc_segments.proofs.touching.touch_run.Given as goal

abbrev pub invariant-loop-page : goal.invariant-loop-page
invariant-loop-page l = ForSome l.fn.place.token (λ token. Touching (range_at l.run) l.page token l.fn.place l.place)
