use Rattle.std.proofs.Common.{ap, subst, ◌∙◌}
use Rattle.lc_range.specs.RangeSet.{IsCanonical}
use Rattle.lc_desk.specs.Seat.{set_of}
use Rattle.lc_desk.proofs.Seated.{set_kept}
use Rattle.lc_desk.proofs.seat.Seat.ranges.Goals as goal

pub returns : goal.returns
returns c =
    let same = set_kept c.self.inside.doing c.self.inside.tx c.self.invariant ∙ ap set_of c.self.view_is in
    record {
      ranges = c.ranges-2.ensures.ranges ∙ same;
      canonical = subst IsCanonical same c.ranges-2.ensures.canonical;
    }
