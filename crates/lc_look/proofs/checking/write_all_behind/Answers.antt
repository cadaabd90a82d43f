use Rattle.std.proofs.Common.{◌≡◌, ℕ, suc, ◌+◌, ◌-◌, ◌++◌, subst, arith}
use Rattle.std.proofs.KnownBytes.{Appends-trans}
use Rattle.lc_record.specs.declared.geometry.Geometry.{Geometry}
use Rattle.lc_look.specs.Checks.{BehindTexts, IsBehindText}
use Rattle.lc_look.proofs.ChecksShown.{behind-more}
use Rattle.lc_look.proofs.checking.write_all_behind.Goals as goal

pub loop-segment-preserved : goal.loop-segment-preserved
loop-segment-preserved g c =
    let segment : ℕ = c.loop-segment.segment in
    let store = c.args.forecast.now.store in
    let front = c.loop-segment.invariant in
    let own = c.in_ok-write_behind.ensures in
    let here : segment ≡ 1 + (segment - 1) = omega arith in
    let count : suc (segment - 1) ≡ segment + 1 - 1 = omega arith in
    let is : IsBehindText c.args.forecast.now.geometry.pages store (1 + (segment - 1)) own.0 =
    subst (λ (k : ℕ). IsBehindText c.args.forecast.now.geometry.pages store k own.0) here
    (subst (λ (h : Geometry). IsBehindText h.pages store segment own.0) c.geometry-geometry.ensures.geometry own.1) in
    (front.0 ++ own.0, subst (λ (n : ℕ). BehindTexts c.args.forecast.now.geometry store 1 n (front.0 ++ own.0)) count (behind-more c.args.forecast.now.geometry store 1 (segment - 1) front.0 own.0 front.1 is), Appends-trans _ _ _ _ _ front.2 own.2)
