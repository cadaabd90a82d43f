use Rattle.std.proofs.Common.{inr}
use Rattle.std.proofs.lemmas.Result.{IfErr-weaker as if_err, IfOk-weaker as if_ok}
use Rattle.lc_log_side.specs.Truncates.{IsUntruncated, IsUntruncatedInRoom, Truncates, TruncatesInRoom}
use Rattle.lc_log_side.proofs.log_side.LogSide.truncate.Goals as goal

pub returns-clause-truncated : goal.returns-clause-truncated
returns-clause-truncated g c =
    if_ok c.empty.result (λ round. Truncates g.D.Area c.args.stage.now.room c.make_room.new.self c.args.sides.now.items round c.empty.new.self c.empty.new.sides.items)
    (λ round. TruncatesInRoom g.D.Area c.args.stage.now.room c.args.self.now c.args.sides.now.items round c.empty.new.self c.empty.new.sides.items)
    (λ round truncates. (c.make_room.new.self, c.in-Ok.ensures.made, truncates)) c.empty.ensures.truncated

pub returns-clause-refused : goal.returns-clause-refused
returns-clause-refused g c =
    if_err c.empty.result (λ fault. IsUntruncated g.D.Area c.args.stage.now.room c.make_room.new.self c.args.sides.now.items fault c.empty.new.self c.empty.new.sides.items)
    (λ fault. IsUntruncatedInRoom g.D.Area c.args.stage.now.room c.args.self.now c.args.sides.now.items fault c.empty.new.self c.empty.new.sides.items)
    (λ fault why. inr (inr (c.make_room.new.self, c.in-Ok.ensures.made, why))) c.empty.ensures.refused

pub empty-requires-clause-ended : goal.empty-requires-clause-ended
empty-requires-clause-ended g c = c.in-Ok.ensures.made.0
