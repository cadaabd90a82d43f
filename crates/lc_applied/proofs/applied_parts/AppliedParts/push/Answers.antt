use Rattle.std.proofs.Common.{◌++◌, ◌∷◌, [], List, ap, sym, ◌∙◌, arith}
use Rattle.lc_applied.specs.AppliedParts.{Applied}
use Rattle.lc_applied.specs.AppliedPart.{parts_of, runs_in}
use Rattle.lc_applied.specs.declared.applied_part.AppliedPart.{AppliedPart}
use Rattle.lc_applied.specs.declared.applied_part.AppliedPart.TheVariants.{Given}
use Rattle.lc_applied.proofs.PartsLemmas.{parts-given, runs_in-push, same-applied, seen-of}
use Rattle.lc_applied.proofs.applied_parts.AppliedParts.push.Goals as goal

pub push_reserved-requires : goal.push_reserved-requires
push_reserved-requires c = let seen = seen-of _ _ _ _ _ _ _ c.self.view_is in let less = c.requires in let len = c.self.inside.entries.ok in omega (arith, seen, less, len)

pub invariant_of-self : goal.invariant_of-self
invariant_of-self c = record {
  runs_are =
      (let more = runs_in-push c.self.inside.entries.items (Given c.args.part) in
      let same = ap runs_in c.push_reserved.ensures.items in
      let all = c.self.invariant.runs_are in
      omega (arith, more, same, all));
  bytes_are = c.self.invariant.bytes_are;
}

pub returns : goal.returns
returns c =
    let fields = c.self.inside in
    let seen = seen-of _ _ _ _ _ _ _ c.self.view_is in
    let items = ap (λ (l : List AppliedPart). parts_of l fields.runs.items fields.bytes.items) c.push_reserved.ensures.items in
    let pushed = parts-given fields.entries.items c.args.part fields.runs.items fields.bytes.items c.self.invariant in
    let shown = ap (λ (a : Applied). a.parts ++ c.args.part ∷ []) c.self.view_is in
    same-applied _ _ (items ∙ pushed ∙ shown) (c.push_reserved.ensures.capacity ∙ sym seen.room_is) (sym seen.runs_left_is) (sym seen.bytes_left_is)
