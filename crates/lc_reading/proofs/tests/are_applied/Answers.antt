use Rattle.std.proofs.Common.{◌≡◌, ◌+◌, Some, true≢false, eqb-true, ap, refl, sym, ◌∙◌, arith}
use Rattle.std.specs.Prelude.{slice_get}
use Rattle.std.proofs.lemmas.Option.{slice_get-get_or, slice_get_within}
use Rattle.lc_rest.specs.Merge.{number_at}
use Rattle.lc_reading.specs.declared.node_images.NodeImages.{NodeImages}
use Rattle.lc_reading.proofs.PictureTests.{number_here, there_more, within_more}
use Rattle.lc_reading.proofs.tests.are_applied.Goals as goal

pub returns-then-not-is_applied : goal.returns-then-not-is_applied
returns-then-not-is_applied c = (
  λ is. absurd cc,
  λ are.
      (let node : NodeImages = c.index-nodes-n.result in
      let place = c.args.place in
      let seq = c.args.seq in
      let there : slice_get c.args.nodes.now c.loop-n.n ≡ Some node = slice_get-get_or c.args.nodes.now c.loop-n.n node c.loop-n-test.true ∙ ap (λ (x : NodeImages). Some x) (sym c.index-nodes-n.is) in
      let number : number_at node.applied.items (place + 1) ≡ c.index.result.now = number_here node.applied.items place c.index.result.now (c.requires c.loop-n.n node there) c.index.ensures in
      let most = are.within c.loop-n.n node there in
      absurd (true≢false (sym (c.is_applied.ensures.1 (omega (arith, number, most), λ same. sym number ∙ are.there node (sym (ap (slice_get c.args.nodes.now) (eqb-true c.loop-n.n c.args.here same)) ∙ there))) ∙ c.if-not-is_applied.true))),
)

pub loop-n-preserved : goal.loop-n-preserved
loop-n-preserved c =
    let node : NodeImages = c.index-nodes-n.result in
    let place = c.args.place in
    let seq = c.args.seq in
    let there : slice_get c.args.nodes.now c.loop-n.n ≡ Some node = slice_get-get_or c.args.nodes.now c.loop-n.n node c.loop-n-test.true ∙ ap (λ (x : NodeImages). Some x) (sym c.index-nodes-n.is) in
    let number : number_at node.applied.items (place + 1) ≡ c.index.result.now = number_here node.applied.items place c.index.result.now (c.requires c.loop-n.n node there) c.index.ensures in
    let is = c.is_applied.ensures.0 c.if-not-is_applied.false in
    let most = is.0 in
    record {
      within = within_more c.args.nodes.now place seq c.loop-n.n node there (omega (arith, number, most)) c.loop-n.invariant.within;
      there = there_more c.args.nodes.now place seq c.args.here c.loop-n.n node there (λ same. number ∙ is.1 same) c.loop-n.invariant.there;
    }

pub returns : goal.returns
returns c = (
  λ is. record {
    within = λ n node there. c.loop-n.invariant.within n node (let less = slice_get_within c.args.nodes.now n node there in omega (arith, less, c.loop-n-test.false)) there;
    there = λ node there. c.loop-n.invariant.there node (let less = slice_get_within c.args.nodes.now c.args.here node there in omega (arith, less, c.loop-n-test.false)) there;
  },
  λ are. refl,
)
