use Rattle.std.proofs.Common.{length, ap, arith}
use Rattle.lc_applied.specs.AppliedParts.{Applied}
use Rattle.lc_applied.proofs.PartsLemmas.{length-parts}
use Rattle.lc_applied.proofs.applied_parts.AppliedParts.len.Goals as goal

pub returns : goal.returns
returns c =
    let fields = c.self.inside in
    let count = length-parts fields.entries.items fields.runs.items fields.bytes.items in
    let seen = ap (λ (a : Applied). length a.parts) c.self.view_is in
    let len = fields.entries.ok in
    omega (arith, count, seen, len)
