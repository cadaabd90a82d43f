use Rattle.std.proofs.Common.{◌≡◌, ◌+◌, ◌*◌, length, ap, ◌∙◌, arith}
use Rattle.lc_record.specs.GroupView.{GroupView}
use Rattle.lc_record.specs.Group.{group_words}
use Rattle.lc_record.proofs.GroupLemmas.{length-group}
use Rattle.lc_record.proofs.group.Group.len.Goals as goal

pub overflow_sub-result : goal.overflow_sub-result
overflow_sub-result c =
    let long : length c.self.inside.bytes.items ≡ 8 * length (group_words c.self.inside) + 8 = ap length c.self.invariant.text ∙ length-group (group_words c.self.inside) in
    omega (arith, c.len.ensures, long)

pub returns : goal.returns
returns c =
    let long : length c.self.inside.bytes.items ≡ 8 * length (group_words c.self.inside) + 8 = ap length c.self.invariant.text ∙ length-group (group_words c.self.inside) in
    let same : length (group_words c.self.inside) ≡ length c.args.self.now.words = ap (λ (v : GroupView). length v.words) c.self.view_is in
    omega (arith, c.len.ensures, long, same)
