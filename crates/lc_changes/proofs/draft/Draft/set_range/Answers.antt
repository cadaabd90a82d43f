use Rattle.std.proofs.Common.{rules, ◌≡◌, ◌∙◌, None, ap, true}
use Rattle.lc_record.specs.Transaction.{is_member}
use Rattle.lc_changes.specs.Replies.{change_refusal}
use Rattle.lc_changes.specs.Draft.{reading_of, set_of, writing_of}
use Rattle.lc_changes.proofs.Drafting.{may_change, range_answers}
use Rattle.lc_changes.proofs.draft.Draft.set_range.Goals as goal

pub returns : goal.returns
returns c =
    let d = c.args.self.now in let does = c.set_range.ensures in
    let none : change_refusal (writing_of d) (reading_of d) c.args.segment ≡ None = search rules in record {
      no_image = search rules;
      answers = λ fits g t is.
          let lock : is_member c.args.segment t.locked ≡ true = ap (is_member c.args.segment) is.same_locked ∙ may_change (writing_of d) (reading_of d) c.args.segment none in
          range_answers g t (set_of d) c.args.segment c.args.offset c.args.len d.changes.image_len is.proper is.ranges lock is.long c.set_range.result c.range_reply.result does.empty does.outside does.too_many does.faults c.range_reply.ensures;
      sets = search rules;
      keeps = search rules;
      none = search rules;
      needs = search rules;
      locks = search rules;
      same_len = search rules;
      same_handed = search rules;
    }
