use Rattle.std.proofs.Common.{◌≡◌, ◌<◌, ◌≤◌, length, get_or, Some, ap, subst, ◌∙◌, arith}
use Rattle.std.specs.Prelude.{slice_get}
use Rattle.lc_node.specs.declared.node.Node.{Node}
use Rattle.lc_node.specs.Forgetting.{HasApplied}
use Rattle.lc_cluster.specs.declared.member.Member.{Member}
use Rattle.lc_log_side.proofs.Backwards.{got_at}
use Rattle.lc_cluster.proofs.LeastApplied.{least_more, least_of_all}
use Rattle.lc_cluster.proofs.cluster.Cluster.least_applied.Goals as goal

pub loop-member-preserved : goal.loop-member-preserved
loop-member-preserved g c =
    let cluster = c.args.self.now in
    let n = c.loop-member.member-index in
    let member : Member g.row.D.Denot = c.member-item.result in
    let same = c.as_slice-member-items.ensures.value in
    let within : n < length cluster.members.items = (let less = c.loop-member-test.true in let long = ap (λ l. length l) same in omega (arith, less, long)) in
    let here : slice_get cluster.members.items n ≡ Some member = got_at cluster.members.items n member (c.member-item.is ∙ ap (λ l. get_or l n member) same) within in
    least_more cluster c.args.place n c.loop-member.least c.applied-applied.result c.min-least.result member c.loop-member.invariant here (subst (λ (node : Node g.row.D.Denot). HasApplied node c.args.place c.applied-applied.result) c.node.ensures c.applied-applied.ensures) c.applied-applied.type_inv c.min-least.ensures

pub returns : goal.returns
returns g c =
    let long = ap (λ l. length l) c.as_slice-member-items.ensures.value in
    let all : length c.args.self.now.members.items ≤ c.loop-member.member-index = (let end = c.loop-member-test.false in omega (arith, end, long)) in
    let some : 0 < c.loop-member.member-index = (let has = c.requires.some in omega (arith, has, all)) in
    least_of_all c.args.self.now c.args.place c.loop-member.member-index c.loop-member.least all some c.loop-member.invariant
