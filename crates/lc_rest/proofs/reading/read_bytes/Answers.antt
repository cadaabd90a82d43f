use Rattle.std.proofs.Common.{◌+◌, subst, sym, arith, ℕ, List}
use Rattle.lc_rest.specs.Replay.{AreBytes}
use Rattle.lc_rest.proofs.Played.{bytes-read}
use Rattle.lc_rest.proofs.reading.read_bytes.Goals as goal

pub loop-page-preserved : goal.loop-page-preserved
loop-page-preserved c = (
  omega (arith, c.loop-page-test.true),
  subst (λ (bs : List ℕ). AreBytes c.args.area.now (c.loop-page.page + 1) bs) (sym c.in_ok-extend_from_slice.ensures.items)
      (bytes-read c.args.area.now c.loop-page.page c.loop-page.bytes.items c.page_bytes.result.now c.loop-page.invariant.1 c.page_bytes.ensures.len c.page_bytes.ensures.bytes),
)

pub returns : goal.returns
returns c = subst (λ (n : ℕ). AreBytes c.args.area.now n c.loop-page.bytes.items) (omega (arith, c.loop-page.invariant.0, c.loop-page-test.false)) c.loop-page.invariant.1
