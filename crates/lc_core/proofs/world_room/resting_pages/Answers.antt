use Rattle.std.proofs.Common.{◌≡◌, ◌∷◌, ◌++◌, [], ap, ◌∙◌, arith}
use Rattle.std.specs.Prelude.{replicate}
use Rattle.std.specs.Global.{Vec}
use Rattle.lc_record.proofs.ListLemmas.{each_push as each_pushed}
use Rattle.lc_core.specs.PageState.{resting}
use Rattle.lc_desk.specs.declared.page_state.PageState.{PageState}
use Rattle.lc_desk.specs.declared.page_state.PageState.TheVariants.{AtRest}
use Rattle.lc_desk.proofs.Furnishing.{each_same}
use Rattle.lc_core.proofs.world_room.resting_pages.Goals as goal

pub loop-preserved : goal.loop-preserved
loop-preserved c =
    let geometry = c.args.geometry.now in
    let old = c.loop.segments.items in
    let new = c.loop-2.writes in
    let all : c.loop-2.counter ≡ geometry.pages = omega (arith, c.loop-2-test.false, c.loop-2.auto.counter-end) in
    record {
      count = omega (arith, c.in_ok-push-2.ensures.len, c.loop.invariant.count);
      rest = each_same (λ k (writes : Vec PageState). writes.items ≡ resting geometry) (old ++ new ∷ []) _ c.in_ok-push-2.ensures.items
          (each_pushed (λ k (writes : Vec PageState). writes.items ≡ resting geometry) old new c.loop.invariant.rest
          (c.loop-2.invariant ∙ ap (λ n. replicate n AtRest) all));
    }
