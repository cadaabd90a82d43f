use Rattle.std.proofs.Common.{rules, List, [], ◌∷◌, length, sym, subst, ◌∙◌, arith}
use Rattle.std.proofs.lemmas.List.Sorted.{IsPartitionPoint-from_clause}
use Rattle.lc_range.specs.Walk.{is_before}
use Rattle.lc_range.specs.RangeSet.{IsCanonical}
use Rattle.lc_range.specs.declared.range.Range.{Range}
use Rattle.lc_range.proofs.PlaceLemmas.{partitioned, canonical_front, placed_behind, placed_at_last, merged_at}
use Rattle.lc_range.proofs.runs.count_before.Goals as goal

pub returns-clause-place : goal.returns-clause-place
returns-clause-place c =
    IsPartitionPoint-from_clause (λ run. is_before run c.args.range.now) c.args.runs.now c.partition_point.result c.partition_point.ensures.partitioned
    (partitioned c.args.runs.now c.args.range.now c.requires) (λ a r f called. search rules)

pub returns-clause-rest : goal.returns-clause-rest
returns-clause-rest c = merged_at c.args.runs.now c.args.range.now c.partition_point.result c.partition_point.ensures.bound (returns-clause-place c)

-- all lie before it

pub returns-then-is_before-clause-place : goal.returns-then-is_before-clause-place
returns-then-is_before-clause-place c =
    placed_behind c.args.runs.now c.in-Some.front.now c.in-Some.last.now c.args.range.now c.in-Some.ensures.cases.0 c.requires (sym c.is_before.ensures ∙ c.if-is_before.true)

pub returns-then-is_before-clause-rest : goal.returns-then-is_before-clause-rest
returns-then-is_before-clause-rest c = merged_at c.args.runs.now c.args.range.now (length c.args.runs.now) (omega arith) (returns-then-is_before-clause-place c)

-- all but the last

pub are_before-requires : goal.are_before-requires
are_before-requires c = canonical_front c.in-Some.front.now (c.in-Some.last.now ∷ []) (subst (λ (l : List Range). IsCanonical l) c.in-Some.ensures.cases.0 c.requires)

pub returns-then-are_before-clause-rest : goal.returns-then-are_before-clause-rest
returns-then-are_before-clause-rest c =
    merged_at c.args.runs.now c.args.range.now (length c.in-Some.front.now) (omega (arith, c.in-Some.ensures.cases.1))
    (placed_at_last c.args.runs.now c.in-Some.front.now c.in-Some.last.now c.args.range.now c.in-Some.ensures.cases.0 (sym c.is_before.ensures ∙ c.if-is_before.false)
    (c.are_before.ensures.0 c.if-are_before.true))
