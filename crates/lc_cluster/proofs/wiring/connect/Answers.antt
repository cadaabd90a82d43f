use Rattle.std.proofs.Common.{◌<◌, length, set, refl, sym, ap, ◌∙◌, arith}
use Rattle.std.proofs.lemmas.List.{length-set as length_set}
use Rattle.lc_line.specs.Ends.{sent_on, taken_from, line_to, line_from}
use Rattle.lc_record.proofs.ListLemmas.{slice_get-set_other as get_other}
use Rattle.lc_cluster.specs.declared.wiring.NodeEnds.{NodeEnds}
use Rattle.lc_log_side.proofs.Backwards.{got_at}
use Rattle.lc_cluster.proofs.Wired.{one_line_more}
use Rattle.lc_cluster.proofs.wiring.connect.Goals as goal

pub returns-clause-wired : goal.returns-clause-wired
returns-clause-wired g c = λ nodes wired.
    let all = c.args.all.now.items in let from = c.args.from in let to = c.args.to in
    let sender = c.index_mut-sender.result.now in let receiver = c.index_mut-receiver.result.now in
    let sender_new : NodeEnds g.row.P.Denot = record { to = record { ends = c.push.new.self }; from = sender.from } in
    let receiver_new : NodeEnds g.row.P.Denot = record { to = receiver.to; from = record receiver.from { ends = c.push-2.new.self } } in
    let within : to < length (set all from sender_new) = (let l = length_set all from sender_new in let t = c.requires.to in omega arith) in
    one_line_more from to all c.new.result c.new-2.result sender receiver sender_new receiver_new c.requires.differ
    (got_at all from sender c.index_mut-sender.ensures.value c.requires.from)
    (sym (get_other all from to sender_new (λ e. c.requires.differ (sym e))) ∙ got_at (set all from sender_new) to receiver c.index_mut-receiver.ensures.value within)
    c.in_ok-push.ensures.items refl c.in_ok-push-2.ensures.items refl refl refl nodes wired
    (ap (λ e. line_from e) c.new-2.ensures.end ∙ (c.in_ok-sending.ensures.line ∙ sym (ap (λ e. line_to e) c.new.ensures)))
    (ap (λ e. sent_on e) c.new.ensures ∙ c.in_ok-sending.ensures.sent)
    (ap (λ e. taken_from e) c.new-2.ensures.end ∙ c.in_ok-sending.ensures.taken, c.new-2.ensures.kept)
