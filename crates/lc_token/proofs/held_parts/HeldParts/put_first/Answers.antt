use Rattle.std.proofs.Common.{sym, arith}
use Rattle.lc_token.proofs.KeptLemmas.{front_led, front_view}
use Rattle.lc_token.proofs.held_parts.HeldParts.put_first.Goals as goal

pub invariant_of-self : goal.invariant_of-self
invariant_of-self c =
    front_led c.args.part c.in-Some.first c.self.inside.first c.replace.new.dest c.self.inside.behind.entries c.insert.new.self.entries c.args.self.now (sym c.in-Some.ensures.value) c.replace.ensures.after c.self.view_is c.requires c.self.invariant c.in-Ok.ensures.entries
    (omega (arith, c.len.ensures.len, c.if-len-ge-MOST_BEHIND.false))

pub returns-in-Ok-clause-put : goal.returns-in-Ok-clause-put
returns-in-Ok-clause-put c =
    front_view c.args.part c.in-Some.first c.self.inside.first c.replace.new.dest c.self.inside.behind.entries c.insert.new.self.entries c.args.self.now (sym c.in-Some.ensures.value) c.replace.ensures.after c.self.view_is c.self.invariant c.in-Ok.ensures.entries
