use Rattle.lc_token.proofs.KeptLemmas.{without_led, without_view}
use Rattle.lc_token.proofs.held_parts.HeldParts.remove.Goals as goal

pub invariant_of-self : goal.invariant_of-self
invariant_of-self c = without_led c.args.seq c.self.inside.first c.self.inside.behind.entries c.remove.new.self.entries c.self.invariant c.remove.ensures.entries

pub returns : goal.returns
returns c =
    without_view c.args.seq c.in-Some.first c.self.inside.first c.self.inside.behind.entries c.remove.new.self.entries c.args.self.now c.in-Some.is c.if-first-seq.false c.self.view_is c.self.invariant c.remove.ensures.entries
