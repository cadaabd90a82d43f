use Rattle.std.proofs.Common.{List, ap, sym, ◌∙◌, arith}
use Rattle.std.proofs.lemmas.Result.{on_err_weaker}
use Rattle.lc_record.proofs.ListLemmas.{OnOk_then}
use Rattle.lc_applied.specs.AppliedParts.{Applied}
use Rattle.lc_applied.specs.AppliedPart.{parts_of}
use Rattle.lc_applied.specs.declared.applied_part.AppliedPart.{AppliedPart}
use Rattle.lc_applied.proofs.PartsLemmas.{length-parts, same-applied, seen-of}
use Rattle.lc_applied.proofs.applied_parts.AppliedParts.reserve.Goals as goal

pub returns-then-more-capacity-clause-made : goal.returns-then-more-capacity-clause-made
returns-then-more-capacity-clause-made c = let seen = seen-of _ _ _ _ _ _ _ c.self.view_is in let len = c.self.inside.entries.ok in omega (arith, seen, len)

pub returns-clause-made : goal.returns-clause-made
returns-clause-made c =
    let count = length-parts c.reserve.new.self.items c.self.inside.runs.items c.self.inside.bytes.items in
    let len = c.reserve.new.self.ok in
    OnOk_then c.reserve.result c.reserve.ensures.ok (λ room. omega (arith, count, len, room))

pub returns-clause-there : goal.returns-clause-there
returns-clause-there c = λ there. let seen = seen-of _ _ _ _ _ _ _ c.self.view_is in let len = c.self.inside.entries.ok in absurd (omega (arith, seen, len, there))

pub returns-clause-refused : goal.returns-clause-refused
returns-clause-refused c =
    let seen = seen-of _ _ _ _ _ _ _ c.self.view_is in
    let len = c.self.inside.entries.ok in
    let items = ap (λ (l : List AppliedPart). parts_of l c.self.inside.runs.items c.self.inside.bytes.items) c.reserve.ensures.items in
    let parts = items ∙ ap (λ (a : Applied). a.parts) c.self.view_is in
    on_err_weaker c.reserve.result
    (λ same. let less = c.if-more-capacity.false in (omega (arith, seen, len, less), same-applied _ _ parts (same ∙ sym seen.room_is) (sym seen.runs_left_is) (sym seen.bytes_left_is)))
    c.reserve.ensures.err
