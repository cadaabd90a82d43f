use Rattle.std.proofs.Common.{leb-true, le-leb, arith}
use Rattle.lc_applied.proofs.PartsLemmas.{seen-of}
use Rattle.lc_applied.proofs.applied_parts.AppliedParts.has_room.Goals as goal

pub returns-then-len-capacity-clause-room : goal.returns-then-len-capacity-clause-room
returns-then-len-capacity-clause-room c = (
  λ no. absurd cc,
  λ is. (let seen = seen-of _ _ _ _ _ _ _ c.self.view_is in let len = c.self.inside.entries.ok in let less = is.part in absurd (omega (arith, seen, len, less))),
)

pub returns-then-size-runs_left-clause-room : goal.returns-then-size-runs_left-clause-room
returns-then-size-runs_left-clause-room c =
    let seen = seen-of _ _ _ _ _ _ _ c.self.view_is in
    let len = c.self.inside.entries.ok in (
      λ is. (let few = leb-true _ _ is in record { part = omega (arith, seen, len); few_runs = omega (arith, seen); few_bytes = omega (arith, seen, few) }),
      λ is. (let few = is.few_bytes in le-leb _ _ (omega (arith, seen, few))),
    )
