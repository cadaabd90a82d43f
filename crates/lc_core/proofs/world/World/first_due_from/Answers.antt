use Rattle.std.proofs.Common.{◌+◌, None, arith}
use Rattle.lc_core.specs.Truncating.{WritesSegment}
use Rattle.lc_core.proofs.Truncations.{from_segment, none_left, one_goes_on, quiet}
use Rattle.lc_core.proofs.world.World.first_due_from.Goals as goal

pub returns-in-Some : goal.returns-in-Some
returns-in-Some g c =
    let a = g.D.Area in
    let w = c.args.self.now in
    let found = c.in-Some.ensures in (
      record { within = found.1; due = found.2 },
      omega (arith, c.requires.few_pages, c.loop-place.auto.place, c.loop-place-test.true),
      λ refused new writes. c.loop-place.invariant refused new
          (from_segment a c.args.node c.args.segments c.args.pages c.loop-place.place c.in-Some.page w c.loop-place-test.true found.3 refused new writes),
    )

pub loop-place-preserved : goal.loop-place-preserved
loop-place-preserved g c = λ refused new rest.
    let a = g.D.Area in
    let w = c.args.self.now in
    c.loop-place.invariant refused new
    (one_goes_on a (λ place. WritesSegment a c.args.node (place + 1) c.args.pages) c.args.segments c.loop-place.place w w c.loop-place-test.true
    (quiet a c.args.node (c.loop-place.place + 1) c.args.pages w c.in_default.ensures) refused new rest)

pub returns : goal.returns
returns g c =
    c.loop-place.invariant None c.args.self.now
    (none_left g.D.Area (λ place. WritesSegment g.D.Area c.args.node (place + 1) c.args.pages) c.args.segments c.loop-place.place c.args.self.now (omega (arith, c.loop-place-test.false)))
