use Rattle.std.proofs.Common.{arith}
use Rattle.lc_token.proofs.KeptLemmas.{behind_led, behind_view}
use Rattle.lc_token.proofs.held_parts.HeldParts.put_behind.Goals as goal

pub invariant_of-self-2 : goal.invariant_of-self-2
invariant_of-self-2 c =
    behind_led c.args.part c.self.inside.first c.self.inside.behind.entries c.insert.new.self.entries c.args.self.now c.self.view_is c.requires.behind c.requires.unknown c.self.invariant c.in_ok-insert.ensures.entries
    (omega (arith, c.len.ensures.len, c.if-len-ge-MOST_BEHIND.false))

pub returns-clause-put : goal.returns-clause-put
returns-clause-put c =
    behind_view c.args.part c.self.inside.first c.self.inside.behind.entries c.insert.new.self.entries c.args.self.now c.self.view_is c.requires.behind c.requires.unknown c.self.invariant c.in_ok-insert.ensures.entries
