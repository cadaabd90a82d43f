use Rattle.std.proofs.Common.{rules, ◌≡◌, ◌++◌, ◌∷◌, [], None, Some, inr, subst, ◌∙◌}
use Rattle.lc_record.proofs.ListLemmas.{OnErr_from as on_err}
use Rattle.lc_cluster.specs.Pumping.{IsGoneOn}
use Rattle.lc_node.specs.Reached.{AnswersMessage}
use Rattle.lc_cluster.specs.Receiving.{taken_at}
use Rattle.lc_cluster.proofs.MessagesAnswered.{next_at, next_still}
use Rattle.lc_cluster.proofs.MessagesGone.{goes_on_if, kept_back, next_is, waits_on}
use Rattle.lc_cluster.proofs.pumping.RecvEnds+Travelling+D.pump.Goals as goal

pub returns-in-Some-back-clause-gone_on : goal.returns-in-Some-back-clause-gone_on
returns-in-Some-back-clause-gone_on g c = λ gone was.
    let taken : taken_at c.next_at.new.self.ends.items c.args.peer ≡ gone ++ c.in-Some.message ∷ [] = next_is c.args.self.now.ends.items c.next_at.new.self.ends.items c.args.peer c.next_at.result c.next_at.ensures.again c.next_at.ensures.taken gone c.in-Some.message was c.in-Some.is in
    waits_on c.receive-pumped.result.0 c.keep_at.new.self.ends.items c.args.peer gone (c.receive-pumped.ensures.waits (search rules))
    (kept_back c.keep_at.new.self.ends.items c.args.peer gone c.in-Some.message c.in-Some-back.message (c.receive-pumped.ensures.back c.in-Some-back.message c.in-Some-back.is) c.keep_at.ensures.kept (c.keep_at.ensures.taken ∙ taken))

pub returns-in-Some-back-clause-kept : goal.returns-in-Some-back-clause-kept
returns-in-Some-back-clause-kept g c = λ gone was.
    let taken : taken_at c.next_at.new.self.ends.items c.args.peer ≡ gone ++ c.in-Some.message ∷ [] = next_is c.args.self.now.ends.items c.next_at.new.self.ends.items c.args.peer c.next_at.result c.next_at.ensures.again c.next_at.ensures.taken gone c.in-Some.message was c.in-Some.is in
    on_err c.receive-pumped.result.0 (IsGoneOn c.keep_at.new.self.ends.items c.args.peer gone)
    (kept_back c.keep_at.new.self.ends.items c.args.peer gone c.in-Some.message c.in-Some-back.message (c.receive-pumped.ensures.back c.in-Some-back.message c.in-Some-back.is) c.keep_at.ensures.kept (c.keep_at.ensures.taken ∙ taken))

pub returns-in_default-back-clause-gone_on : goal.returns-in_default-back-clause-gone_on
returns-in_default-back-clause-gone_on g c = λ gone was.
    goes_on_if c.receive-pumped.result.0 c.in-Some.message gone c.next_at.new.self.ends.items c.args.peer c.receive-pumped.ensures.of_message c.next_at.ensures.none_kept
    (next_is c.args.self.now.ends.items c.next_at.new.self.ends.items c.args.peer c.next_at.result c.next_at.ensures.again c.next_at.ensures.taken gone c.in-Some.message was c.in-Some.is)

pub returns-in-Some-back-clause-pumps : goal.returns-in-Some-back-clause-pumps
returns-in-Some-back-clause-pumps g c =
    let old = c.args.self.now.ends.items in let mid = c.next_at.new.self.ends.items in let message = c.in-Some.message in
    inr (record {
      message = message;
      next = next_still old mid c.keep_at.new.self.ends.items c.args.peer message c.keep_at.ensures.taken (next_at old mid c.args.peer c.next_at.result c.next_at.ensures.again c.next_at.ensures.taken message c.in-Some.is);
      back = Some c.in-Some-back.message;
      answers = subst (AnswersMessage c.args.node.now message c.receive-pumped.result.0) c.in-Some-back.is c.receive-pumped.ensures.answer;
      kept = c.keep_at.ensures.kept;
    })

pub returns-in_default-back-clause-pumps : goal.returns-in_default-back-clause-pumps
returns-in_default-back-clause-pumps g c =
    let old = c.args.self.now.ends.items in let mid = c.next_at.new.self.ends.items in let message = c.in-Some.message in
    inr (record {
      message = message;
      next = next_at old mid c.args.peer c.next_at.result c.next_at.ensures.again c.next_at.ensures.taken message c.in-Some.is;
      back = None;
      answers = subst (AnswersMessage c.args.node.now message c.receive-pumped.result.0) c.in_default-back.is c.receive-pumped.ensures.answer;
      kept = c.next_at.ensures.none_kept;
    })
