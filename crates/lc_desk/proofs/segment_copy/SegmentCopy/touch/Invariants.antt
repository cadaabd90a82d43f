use Rattle.std.proofs.Common.{◌/◌, ◌+◌, ◌<◌, ◌≤◌}
use Rattle.std.specs.Int.{div_ceil}
use Rattle.std.specs.Option.{ForSome}
use Rattle.lc_desk.proofs.Touching.{Touching}
use Rattle.lc_desk.proofs.segment_copy.SegmentCopy.touch.Given as goal

abbrev pub invariant-loop-page : goal.invariant-loop-page
invariant-loop-page l =
    ForSome l.fn.self.token.token (λ token. Touching (l.offset / 256) l.page token l.fn.self l.self)
    × (l.offset / 256 < l.page → l.page ≤ div_ceil (l.offset + l.len) 256)
