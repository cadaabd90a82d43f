use Rattle.std.proofs.Common.{◌≡◌, ◌+◌, take, ap, sym, subst, ◌∙◌, arith}
use Rattle.lc_token.specs.KnownClean.{known}
use Rattle.lc_token.specs.Reset.{IsAboveIn, IsLeastOf, above, lesser}
use Rattle.lc_token.proofs.ResetLemmas.{next_lock, all_locks, all_above}
use Rattle.lc_token.proofs.reset.least_in.Goals as goal

pub loop-index-preserved : goal.loop-index-preserved
loop-index-preserved c =
    let least_is : c.lesser-least.result ≡ lesser c.loop-index.least (above (known c.args.known.now) c.in-Some.lock) = c.lesser-least.ensures ∙ ap (lesser c.loop-index.least) c.above.ensures in
    subst (IsLeastOf (IsAboveIn (take (c.loop-index.index + 1) c.args.view.now.locks) (known c.args.known.now))) (sym least_is)
    (next_lock (known c.args.known.now) c.args.view.now.locks c.loop-index.index c.in-Some.lock c.loop-index.least (sym c.in-Some.ensures) c.loop-index.invariant)

pub returns-after-loop-index : goal.returns-after-loop-index
returns-after-loop-index c =
    all_above (known c.args.known.now) c.args.view.now.locks c.loop-index.index c.loop-index.least
    (omega (arith, c.loop-index-test.false, c.lock_count-index-end.ensures)) c.loop-index.invariant

pub returns-in_default : goal.returns-in_default
returns-in_default c =
    all_above (known c.args.known.now) c.args.view.now.locks c.loop-index.index c.loop-index.least
    (all_locks c.args.view.now.locks c.loop-index.index (sym c.in_default.ensures)) c.loop-index.invariant
