use Rattle.std.proofs.Common.{◌≡◌, ◌+◌, drop}
use Rattle.lc_segments.specs.HeldImages.{place_of}
use Rattle.lc_segments.proofs.lent.HeldImages.place.Given as goal

abbrev pub invariant-loop-place : goal.invariant-loop-place
invariant-loop-place l = place_of l.self.slots.items l.segment ≡ l.place + place_of (drop l.place l.self.slots.items) l.segment
