use Rattle.std.proofs.Common.{List, is_some, sym, ap, ◌∙◌}
use Rattle.std.specs.Map.{values_of}
use Rattle.lc_record.specs.declared.part.Part.{Part}
use Rattle.lc_token.specs.Backlog.{numbered}
use Rattle.lc_token.proofs.BacklogLemmas.{numbered_later}
use Rattle.lc_token.proofs.KeptLemmas.{led_first, lookup_numbered}
use Rattle.lc_token.proofs.held_parts.HeldParts.contains.Goals as goal

pub returns-else-first-seq : goal.returns-else-first-seq
returns-else-first-seq c =
    let behind : List Part = values_of c.self.inside.behind.entries in
    let view = led_first c.self.inside.first c.in-Some.first behind c.args.self.now c.in-Some.is c.self.view_is in
    c.contains_key.ensures
    ∙ (ap is_some (lookup_numbered c.args.seq c.self.inside.behind.entries c.self.invariant.numbers ∙ sym (numbered_later c.args.seq c.in-Some.first behind c.if-first-seq.false))
    ∙ ap (λ (ps : List Part). is_some (numbered c.args.seq ps)) (sym view))
