use Rattle.std.proofs.Common.{◌++◌, ◌∷◌, [], ℕ, List, length, map, ap, ◌∙◌, arith, length-append}
use Rattle.std.proofs.lemmas.List.{take_all}
use Rattle.lc_range.specs.RangeSet.{total_len}
use Rattle.lc_range.specs.declared.range.Range.{Range}
use Rattle.lc_record.specs.declared.record.RangeData.{RangeData}
use Rattle.lc_applied.specs.AppliedParts.{Applied, range_of_run, runs_of}
use Rattle.lc_applied.specs.AppliedPart.{bytes_of, parts_of, ranges_of, runs_in}
use Rattle.lc_applied.specs.declared.applied_part.AppliedPart.{AppliedPart}
use Rattle.lc_applied.specs.declared.applied_part.AppliedPart.TheVariants.{Own}
use Rattle.lc_applied.proofs.PartsLemmas.{parts-push, runs_in-push, seen-of}
use Rattle.lc_applied.proofs.RunsLemmas.{length-bytes_of, ranges-of_image, total-append}
use Rattle.lc_applied.proofs.applied_parts.AppliedParts.push_runs.Goals as goal

pub push_reserved-requires : goal.push_reserved-requires
push_reserved-requires c = let seen = seen-of _ _ _ _ _ _ _ c.self.view_is in let less = c.requires.room.part in let len = c.self.inside.entries.ok in omega (arith, seen, less, len)

pub invariant_of-self : goal.invariant_of-self
invariant_of-self c =
    let own : List Range = runs_of c.args.segment c.args.runs.now in
    let fields = c.self.inside in
    record {
      runs_are =
          (let more = runs_in-push fields.entries.items (Own c.args.segment c.args.seq c.add_runs-count.result) in
          let same = ap runs_in c.push_reserved.ensures.items in
          let all = c.self.invariant.runs_are in
          let count = c.add_runs-count.ensures.count in
          let long = ap length c.add_runs-count.ensures.runs ∙ length-append fields.runs.items own in
          omega (arith, more, same, all, count, long));
      bytes_are =
          (let total = ap total_len c.add_runs-count.ensures.runs ∙ total-append fields.runs.items own in
          let all = c.self.invariant.bytes_are in
          let bytes = ap length c.add_runs-count.ensures.bytes ∙ length-append fields.bytes.items (bytes_of own c.args.image.now) in
          let long = length-bytes_of own c.args.image.now c.requires.within in
          omega (arith, total, all, bytes, long));
    }

pub returns-clause-parts : goal.returns-clause-parts
returns-clause-parts c =
    let own : List Range = runs_of c.args.segment c.args.runs.now in
    let bytes : List ℕ = bytes_of own c.args.image.now in
    let fields = c.self.inside in
    let count = c.add_runs-count.result in
    let entry : AppliedPart = Own c.args.segment c.args.seq count in
    let pushed = parts-push fields.entries.items entry fields.runs.items own fields.bytes.items bytes c.self.invariant (omega (arith, c.add_runs-count.ensures.count)) in
    let all = ap (λ (l : List Range). ranges_of l bytes) (take_all count own (omega (arith, c.add_runs-count.ensures.count))) ∙ ranges-of_image own c.args.image.now c.requires.within in
    ap (λ (l : List AppliedPart). parts_of l c.add_runs-count.new.kept.items c.add_runs-count.new.bytes.items) c.push_reserved.ensures.items
    ∙ ap (λ (l : List Range). parts_of (fields.entries.items ++ entry ∷ []) l c.add_runs-count.new.bytes.items) c.add_runs-count.ensures.runs
    ∙ ap (λ (l : List ℕ). parts_of (fields.entries.items ++ entry ∷ []) (fields.runs.items ++ own) l) c.add_runs-count.ensures.bytes
    ∙ pushed
    ∙ ap (λ (l : List RangeData). parts_of fields.entries.items fields.runs.items fields.bytes.items ++ record { segment = c.args.segment; seq = c.args.seq; ranges = l } ∷ []) all
    ∙ ap (λ (a : Applied). a.parts ++ record { segment = c.args.segment; seq = c.args.seq; ranges = map (range_of_run c.args.image.now) own } ∷ []) c.self.view_is

pub returns-clause-bytes_left : goal.returns-clause-bytes_left
returns-clause-bytes_left c =
    let own : List Range = runs_of c.args.segment c.args.runs.now in
    let seen = seen-of _ _ _ _ _ _ _ c.self.view_is in
    let long = length-bytes_of own c.args.image.now c.requires.within in
    let bytes = ap length c.add_runs-count.ensures.bytes ∙ length-append c.self.inside.bytes.items (bytes_of own c.args.image.now) in
    let before = c.self.inside.bytes.ok in
    let after = c.add_runs-count.new.bytes.ok in
    omega (arith, seen, long, bytes, before, after, c.add_runs-count.ensures.bytes_capacity)
