use Rattle.std.proofs.Common.{◌≡◌, ℕ, suc, ◌+◌, ◌-◌, ◌++◌, subst, arith}
use Rattle.std.proofs.KnownBytes.{Appends-trans}
use Rattle.lc_record.specs.declared.geometry.Geometry.{Geometry}
use Rattle.lc_recover.specs.Forecast.{sequence_of}
use Rattle.lc_look.specs.Json.{IsSegmentJson, SegmentsJson}
use Rattle.lc_look.proofs.JsonShown.{segment_more}
use Rattle.lc_look.proofs.json.write_segments.Goals as goal

pub loop-segment-preserved : goal.loop-segment-preserved
loop-segment-preserved g c =
    let segment : ℕ = c.loop-segment.segment in
    let forecast = c.args.forecast.now in
    let numbers = sequence_of forecast in
    let front = c.loop-segment.invariant in
    let own = c.in_ok-write_segment.ensures in
    let here : segment ≡ 1 + (segment - 1) = omega arith in
    let count : suc (segment - 1) ≡ segment + 1 - 1 = omega arith in
    let is : IsSegmentJson forecast.geometry.pages forecast.store numbers (1 + (segment - 1)) own.0 =
    subst (λ (k : ℕ). IsSegmentJson forecast.geometry.pages forecast.store numbers k own.0) here
    (subst (λ (h : Geometry). IsSegmentJson h.pages forecast.store numbers segment own.0) c.geometry-geometry.ensures.geometry own.1) in (
      front.0 ++ own.0,
      subst (λ (n : ℕ). SegmentsJson forecast.geometry forecast.store numbers 1 n (front.0 ++ own.0)) count
          (segment_more forecast.geometry forecast.store numbers 1 (segment - 1) front.0 own.0 front.1 is),
      Appends-trans _ _ _ _ _ front.2 own.2,
    )
