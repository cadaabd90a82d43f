use Rattle.std.proofs.Common.{rules, ◌≡◌, ◌∷◌, [], ◌++◌, List, length, sym, ap, ◌∙◌, arith}
use Rattle.std.proofs.lemmas.List.{length-append}
use Rattle.lc_record.specs.declared.part.Part.{Part}
use Rattle.lc_token.specs.Backlog.{parts_above}
use Rattle.lc_token.proofs.BacklogLemmas.{length_above}
use Rattle.lc_tx.specs.Image.{laid_over}
use Rattle.lc_applied.specs.AppliedParts.{laid_parts}
use Rattle.lc_segments.proofs.Laying.{laid_more}
use Rattle.lc_segments.proofs.seg_side.SegSide.apply.Goals as goal

pub catch_up-requires-clause-room : goal.catch_up-requires-clause-room
catch_up-requires-clause-room g c = let old = c.args.self.now in let part : Part = c.args.part in
    let applied : c.lay_part.new.self.applied ≡ old.applied ++ part ∷ [] = search rules in
    let kept : c.lay_part.new.self.backlog.kept ≡ parts_above part.seq old.backlog.kept = search rules in
    let room : c.lay_part.new.self.room ≡ old.room = search rules in
    let asked = c.requires.room in
    let one = ap length applied in let two = length-append old.applied (part ∷ []) in
    let three = ap length kept in let four = length_above part.seq old.backlog.kept in omega arith

pub catch_up-requires-clause-shows : goal.catch_up-requires-clause-shows
catch_up-requires-clause-shows g c = let old = c.args.self.now in let part : Part = c.args.part in
    let applied : c.lay_part.new.self.applied ≡ old.applied ++ part ∷ [] = search rules in
    let base : c.lay_part.new.self.base ≡ old.base = search rules in
    let shown : c.take_image-image.result.bytes.items ≡ laid_parts old.applied old.base = search rules in
    c.lay_part.ensures.bytes ∙ (ap (laid_over part.ranges) shown ∙ (sym (laid_more old.applied part old.base)
    ∙ (ap (λ (ps : List Part). laid_parts ps old.base) (sym applied) ∙ ap (laid_parts c.lay_part.new.self.applied) (sym base))))
