use Rattle.std.proofs.Common.{◌≡◌, ◌+◌, ◌<◌, length, Some, sym, ap, ◌∙◌, arith, refl}
use Rattle.std.specs.Prelude.{slice_get}
use Rattle.lc_node.specs.FreshNode.{ComesUp}
use Rattle.lc_node.specs.declared.fresh_node.FreshNode.{FreshNode}
use Rattle.lc_node.specs.declared.opening.OpenedNode.{OpenedNode}
use Rattle.lc_node.proofs.EachPlace.{each_more, each_none, first_is, left_is}
use Rattle.lc_node.proofs.opening.up_all.Goals as goal

pub loop-init : goal.loop-init
loop-init g c = record {
  left = omega arith;
  up = omega (arith, ap length c.requires.empty, c.args.opened.ok.0);
  space = refl;
  rest = λ k f got. (let same : k ≡ 0 + k = omega arith in ap (slice_get c.args.fresh.items) (sym same) ∙ got);
  each = each_none (λ place (m : OpenedNode g.row.D.Denot). (f : FreshNode g.row.D.Denot) × (slice_get c.args.fresh.items place ≡ Some f) × ComesUp f m) c.args.opened.items c.requires.empty;
}

pub loop-preserved : goal.loop-preserved
loop-preserved g c =
    let inv = c.loop.invariant in
    let at = c.loop.counter in
    let some : 0 < length c.loop.fresh.items = omega (arith, inv.left, c.loop-test.true, c.len-end.ensures, c.loop.fresh.ok.0) in
    let same : at ≡ at + 0 = omega arith in
    let here = ap (slice_get c.args.fresh.items) same ∙ inv.rest 0 c.remove.result (first_is c.loop.fresh.items c.remove.result some c.remove.ensures.value) in
    record {
      left = omega (arith, c.remove.ensures.len, inv.left);
      up = omega (arith, c.push_reserved.ensures.len, inv.up);
      space = omega (arith, c.push_reserved.ensures.capacity, inv.space);
      rest = λ k f got.
          (let next : at + (1 + k) ≡ (at + 1) + k = omega arith in
          ap (slice_get c.args.fresh.items) (sym next) ∙ inv.rest (1 + k) f (left_is c.loop.fresh.items c.remove.new.self.items k f c.remove.ensures.items got));
      each = each_more (λ place (m : OpenedNode g.row.D.Denot). (f : FreshNode g.row.D.Denot) × (slice_get c.args.fresh.items place ≡ Some f) × ComesUp f m) c.push_reserved.new.self.items c.loop.opened.items c.come_up.result at
          c.push_reserved.ensures.items (omega (arith, inv.up, c.loop.opened.ok.0)) inv.each (c.remove.result, here, c.come_up.ensures);
    }
