use Rattle.std.proofs.Common.{rules, ◌≡◌, ◌∙◌, None, ap, true}
use Rattle.lc_record.specs.Transaction.{is_member}
use Rattle.lc_changes.specs.Replies.{change_refusal}
use Rattle.lc_changes.specs.Draft.{reading_of, set_of, writing_of}
use Rattle.lc_changes.proofs.Drafting.{may_change, write_answers}
use Rattle.lc_changes.proofs.draft.Draft.write.Goals as goal

pub returns : goal.returns
returns c =
    let d = c.args.self.now in let does = c.write.ensures in
    let none : change_refusal (writing_of d) (reading_of d) c.args.segment ≡ None = search rules in record {
      no_image = search rules;
      answers = λ fits g t is.
          let lock : is_member c.args.segment t.locked ≡ true = ap (is_member c.args.segment) is.same_locked ∙ may_change (writing_of d) (reading_of d) c.args.segment none in
          write_answers g t (set_of d) c.args.segment c.args.offset c.args.bytes.now d.changes.image_len is.ranges lock is.long c.write.result c.write_reply.result does.outside does.no_range does.faults c.write_reply.ensures;
      written = search rules;
      none = search rules;
    }
