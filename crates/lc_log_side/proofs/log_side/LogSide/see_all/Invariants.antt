use Rattle.std.proofs.Common.{◌≡◌, take}
use Rattle.lc_log_side.specs.Truncates.{SeesSides}
use Rattle.lc_log_side.proofs.log_side.LogSide.see_all.Given as goal

abbrev pub invariant-loop-held : goal.invariant-loop-held
invariant-loop-held g l = SeesSides l.initial.self.known (take l.held-index l.sides) l.self.known × (l.self ≡ record l.initial.self { known = l.self.known })
