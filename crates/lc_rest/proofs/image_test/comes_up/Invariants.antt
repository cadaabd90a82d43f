use Rattle.std.proofs.Common.{◌≡◌, map, take}
use Rattle.lc_rest.specs.Replay.{bytes_above}
use Rattle.lc_rest.proofs.image_test.comes_up.Given as goal

abbrev pub invariant-loop-whole : goal.invariant-loop-whole
invariant-loop-whole l = l.image ≡ bytes_above l.segment l.applied (take l.whole-index (map (λ r. r.now) l.records)) l.initial.image
