use Rattle.std.proofs.Common.{◌≡◌, map, take}
use Rattle.lc_rest.specs.Stable.{bytes_up_to}
use Rattle.lc_rest.proofs.stable.replay_up_to.Given as goal

abbrev pub invariant-loop-whole : goal.invariant-loop-whole
invariant-loop-whole l = l.bytes ≡ bytes_up_to l.segment l.number (take l.whole-index (map (λ r. r.now) l.records)) l.initial.bytes
