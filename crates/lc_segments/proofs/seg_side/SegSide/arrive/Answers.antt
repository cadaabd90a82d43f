use Rattle.std.proofs.Common.{rules, ◌≡◌, ℕ, ◌+◌, ◌*◌, List, length, ap, subst, arith}
use Rattle.lc_segments.specs.Arriving.{MayArrive}
use Rattle.lc_segments.specs.Journey.{Journey}
use Rattle.lc_segments.specs.Pages.{FitsToken}
use Rattle.lc_applied.specs.AppliedParts.{laid_parts}
use Rattle.lc_segments.specs.Travelling.{journey_of}
use Rattle.lc_segments.proofs.Arrived.{arrives_fitting}
use Rattle.lc_segments.proofs.Laying.{length-laid_parts}
use Rattle.lc_segments.proofs.seg_side.SegSide.arrive.Goals as goal

pub stay-requires-clause-fits : goal.stay-requires-clause-fits
stay-requires-clause-fits g c = let inside = c.self.inside in let its = c.journey.inside in
    let bytes : List ℕ = laid_parts inside.applied.parts inside.base.bytes.items in
    let may : MayArrive c.args.self.now c.args.journey = search rules in
    let same : journey_of its ≡ c.args.journey = c.journey.view_is in
    let pages : length its.token.pages ≡ length c.args.journey.token.pages = ap (λ (j : Journey g.row.D.Denot). length j.token.pages) same in
    let base : length inside.base.bytes.items ≡ length c.args.self.now.base = search rules in
    let long : length bytes ≡ length its.token.pages * 256 = (let all = may.3 in let laid = length-laid_parts inside.applied.parts inside.base.bytes.items in omega arith) in
    rw c.seq.ensures (subst (λ (j : Journey g.row.D.Denot). FitsToken g.D.Area (its.token.seq + 1) j.area j.token bytes) same (arrives_fitting g.D.Area its bytes c.journey.invariant long))
