use Rattle.std.proofs.Common.{◌∙◌, sym}
use Rattle.lc_c.proofs.Asked.{starts_none}
use Rattle.lc_c.proofs.exports.started.Goals as goal

pub returns-then-not-is_held : goal.returns-then-not-is_held
returns-then-not-is_held c =
    let held = c.is_held.ensures in
    starts_none c.args.handle.now c.is_held.new.self held.1 (sym held.0 ∙ c.if-not-is_held.true) c.of_refusal.result c.of_refusal.ensures
