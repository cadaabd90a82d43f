use Rattle.std.proofs.Common.{ap, length, arith}
use Rattle.std.proofs.lemmas.Bool.{lt-ltb}
use Rattle.lc_range.proofs.RoomLemmas.{length_placed}
use Rattle.lc_range.proofs.range_set.RangeSet.has_room.Goals as goal

pub returns-then-place : goal.returns-then-place
returns-then-place c =
    (λ e. omega (arith, length_placed c.args.self.now c.args.place.now c.requires, c.if-place.true, ap length c.self.view_is, c.self.invariant.few), λ few. lt-ltb c.args.place.now.start c.args.place.now.end c.if-place.true)
