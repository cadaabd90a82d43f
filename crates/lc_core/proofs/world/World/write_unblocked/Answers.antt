use Rattle.std.proofs.Common.{◌∙◌, ◌+◌, ◌-◌, ◌*◌, inr, sym, subst, true≢false}
use Rattle.lc_core.specs.Truncating.{AsksFirst, EachFrom, WritesPages, WritesSegment}
use Rattle.lc_core.specs.Truncation.{ThenResets, WritesIf}
use Rattle.lc_core.proofs.Truncations.{from_first, if_next, leads_more}
use Rattle.lc_core.proofs.world.World.write_unblocked.Goals as goal

pub returns-clause-remains : goal.returns-clause-remains
returns-clause-remains g c =
    let a = g.D.Area in
    let w = c.args.self.now in
    let node = c.args.node in
    let segments = c.sizes-segments.result.0 in
    let pages = c.sizes-segments.result.1 in
    let next = c.first_due_from-next.result in
    leads_more a (ThenResets a node (WritesIf a node next)) (AsksFirst a node) w c.write_on.new.self c.write_on.result
    (λ reply new rest. inr (
      λ blocked. true≢false (sym (c.has_blocked_page.ensures.1 blocked) ∙ c.if-has_blocked_page.false),
      (
        rest.0,
        rest.1,
        subst (λ s. WritesPages a node s w rest.0 rest.1) c.sizes-segments.ensures.sizes
            (from_first a (λ place. WritesSegment a node (place + 1) pages) segments w rest.1 rest.0
            (if_next a node (EachFrom a (segments - 0) 0 (λ place. WritesSegment a node (place + 1) pages)) ((segments - 0) * 32768 + 27648) w next c.first_due_from-next.ensures rest.0 rest.1 rest.2)),
        rest.3,
      ),
    )) c.write_on.ensures.remains
