use Rattle.std.proofs.Common.{◌+◌, ◌-◌, ◌*◌, ◌≤◌, inl, inr, arith}
use Rattle.std.specs.Prelude.{◌⊎◌, None}
use Rattle.lc_core.specs.Truncating.{CallsDue, EachFrom, WritesSegment}
use Rattle.lc_core.specs.Truncation.{WritesAt, calls_left}
use Rattle.lc_core.proofs.Truncations.{from_page, from_round, next_more, next_on, past_segment}
use Rattle.lc_core.proofs.world.World.next_due.Goals.{then-round-lt-LAST_ROUND+in_default-first_due, else-round-lt-LAST_ROUND}
use Rattle.lc_core.proofs.world.World.next_due.Goals as goal

pub returns-in-Some : goal.returns-in-Some
returns-in-Some g c =
    let a = g.D.Area in
    let w = c.args.self.now in
    let at = c.args.cursor in
    let found = c.in-Some.ensures in
    next_on a c.args.node (WritesAt a c.args.node at) (calls_left at) w at c.on.result at.round c.in-Some.page c.on.ensures found.1 found.2 (omega (arith, found.0))
    (from_page a c.args.node at.segments at.pages at.place at.round at.page c.in-Some.page w found.3)

pub returns-in-Some-first_due : goal.returns-in-Some-first_due
returns-in-Some-first_due g c =
    let a = g.D.Area in
    let w = c.args.self.now in
    let at = c.args.cursor in
    let page = c.in-Some-first_due.page in
    let found = c.in-Some-first_due.ensures in
    next_on a c.args.node (WritesAt a c.args.node at) (calls_left at) w at c.on-in-Some-first_due.result (at.round + 1) page c.on-in-Some-first_due.ensures found.1 found.2
    (omega (arith, at.few_pages, c.if-round-lt-LAST_ROUND.true))
    (from_round a c.args.node at.segments at.pages at.place at.round at.page page w (omega (arith, c.if-round-lt-LAST_ROUND.true)) c.in_default.ensures found.3)

pub returns : goal.returns
returns g c =
    let a = g.D.Area in
    let w = c.args.self.now in
    let at = c.args.cursor in
    let node = c.args.node in
    let over : (13 ≤ at.round + 1) ⊎ EachFrom a (at.pages - 0) 0 (CallsDue a node (at.place + 1)) w None w = elim c.if-round-lt-LAST_ROUND.branch [
      | then-round-lt-LAST_ROUND+in_default-first_due z ↦ inr z.in_default-first_due.ensures
      | else-round-lt-LAST_ROUND z ↦ inl (omega (arith, z.if-round-lt-LAST_ROUND.false))
    ] in
    next_more a node (EachFrom a (at.segments - (at.place + 1)) (at.place + 1) (λ its. WritesSegment a node (its + 1) at.pages)) (WritesAt a node at)
    ((at.segments - (at.place + 1)) * 32768 + 27648) (calls_left at) w c.first_due_from.result
    (omega (arith, at.inside, at.turn)) (past_segment a node at.segments at.pages at.place at.round at.page w c.in_default.ensures over) c.first_due_from.ensures
