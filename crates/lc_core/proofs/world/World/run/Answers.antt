use Rattle.std.proofs.lemmas.Result.{IfOk-at_ok}
use Rattle.std.proofs.Common.{List, [], length, length-append, ap, arith, refl, rules, sym, subst}
use Rattle.lc_model.specs.declared.reply.Reply.{Reply}
use Rattle.lc_core.specs.Lives.{FollowsLives}
use Rattle.lc_core.specs.Runs.{FollowsRun}
use Rattle.lc_core.proofs.EachCall.{Chain, chain_all, chain_kept, chain_more, chain_start}
use Rattle.lc_core.proofs.Failures.{counts_more}
use Rattle.lc_core.proofs.Living.{lives_more, lives_start, lives_still}
use Rattle.lc_core.proofs.OneMore.{gives_up, run_start, run_more, run_still}
use Rattle.lc_core.proofs.world.World.run.Goals as goal

pub loop-event-init : goal.loop-event-init
loop-event-init g c = (
  ap length c.in-Ok.ensures.none,
  subst (λ (replies : List Reply). FollowsRun g.D.Area c.args.self.now [] replies c.args.self.now) (sym c.in-Ok.ensures.none) (run_start g.D.Area c.args.self.now),
  rw c.in-Ok.ensures.none refl,
  (search rules),
  subst (λ (replies : List Reply). Chain g.D.Area g.D.Stoppable.left [] replies c.args.self.now.phase c.args.self.now.phase) (sym c.in-Ok.ensures.none)
      (chain_start g.D.Area g.D.Stoppable.left c.args.self.now.phase),
  subst (λ (replies : List Reply). FollowsLives g.D.Area c.args.self.now.phase [] replies c.args.self.now.phase) (sym c.in-Ok.ensures.none) (lives_start g.D.Area c.args.self.now.phase),
)

pub returns-in-Err-clause-follows : goal.returns-in-Err-clause-follows
returns-in-Err-clause-follows g c = rw c.loop-event.invariant.0
    (run_still g.D.Area c.args.self.now c.loop-event.self c.step.new.self _ _ c.loop-event.invariant.1 c.in-Err.ensures.err)

pub returns-in-Err-clause-asks : goal.returns-in-Err-clause-asks
returns-in-Err-clause-asks g c = λ wants.
    gives_up g.D.Area c.args.self.now c.loop-event.self c.step.new.self c.args.events.now c.loop-event.replies.items c.event-item.result (omega (arith, c.loop-event.invariant.0, c.loop-event-test.true))
    (rw c.loop-event.invariant.0 c.event-item.is) (rw c.loop-event.invariant.0 c.loop-event.invariant.1) c.in-Err.ensures.memory c.in-Err.ensures.asks c.in-Err.ensures.err

pub loop-event-preserved : goal.loop-event-preserved
loop-event-preserved g c = (
  rw (c.push_reserved.ensures.items, length-append) (omega arith),
  rw c.push_reserved.ensures.items
      (run_more g.D.Area c.args.self.now c.loop-event.self c.step.new.self c.args.events.now c.loop-event.event-index c.event-item.result c.loop-event.replies.items c.in-Ok-step.reply c.loop-event-test.true c.event-item.is c.loop-event.invariant.1 c.in-Ok-step.ensures.follows),
  rw c.push_reserved.ensures.items
      (counts_more c.loop-event.replies.items _ _ _ c.in-Ok-step.reply c.loop-event.invariant.2 c.in-Ok-step.ensures.faults),
  (omega (arith, c.push_reserved.ensures.capacity, c.loop-event.invariant.3)),
  rw c.push_reserved.ensures.items
      (chain_more g.D.Area g.D.Stoppable.left c.args.self.now.phase c.loop-event.self.phase c.step.new.self.phase c.args.events.now c.loop-event.event-index c.event-item.result c.loop-event.replies.items c.in-Ok-step.reply
      c.loop-event-test.true c.event-item.is c.loop-event.invariant.4 record {
        calls = c.in-Ok-step.ensures.calls;
        stops = λ choices is. (IfOk-at_ok _ c.in-Ok-step.is (c.step.ensures.stops choices is)).1;
        chosen = c.step.ensures.chosen;
      }),
  rw c.push_reserved.ensures.items
      (lives_more g.D.Area c.args.self.now.phase c.loop-event.self.phase c.step.new.self.phase c.args.events.now c.loop-event.event-index c.event-item.result c.loop-event.replies.items c.in-Ok-step.reply
      c.loop-event-test.true c.event-item.is c.loop-event.invariant.5 record {
        anyhow = c.in-Ok-step.ensures.anyhow;
        at_once = c.in-Ok-step.ensures.at_once;
        stops = λ choices is. IfOk-at_ok _ c.in-Ok-step.is (c.step.ensures.stops choices is);
      }),
)

pub returns-clause-follows : goal.returns-clause-follows
returns-clause-follows g c = rw c.loop-event.invariant.0 c.loop-event.invariant.1

pub returns-clause-calls : goal.returns-clause-calls
returns-clause-calls g c = chain_all g.D.Area g.D.Stoppable.left c.args.self.now.phase c.loop-event.self.phase _ _ (rw c.loop-event.invariant.0 c.loop-event.invariant.4)

pub returns-in-Err-clause-calls : goal.returns-in-Err-clause-calls
returns-in-Err-clause-calls g c = chain_all g.D.Area g.D.Stoppable.left c.args.self.now.phase c.step.new.self.phase _ _
    (chain_kept g.D.Area g.D.Stoppable.left c.args.self.now.phase c.loop-event.self.phase c.step.new.self.phase _ _ (rw c.loop-event.invariant.0 c.loop-event.invariant.4) c.in-Err.ensures.kept)

pub returns-in_default-clause-calls : goal.returns-in_default-clause-calls
returns-in_default-clause-calls g c = rw c.new.ensures.items
    (chain_all g.D.Area g.D.Stoppable.left c.args.self.now.phase c.args.self.now.phase [] [] (chain_start g.D.Area g.D.Stoppable.left c.args.self.now.phase))

pub returns-clause-lives : goal.returns-clause-lives
returns-clause-lives g c = rw c.loop-event.invariant.0 c.loop-event.invariant.5

pub returns-in-Err-clause-lives : goal.returns-in-Err-clause-lives
returns-in-Err-clause-lives g c = rw c.loop-event.invariant.0
    (lives_still g.D.Area c.args.self.now.phase c.loop-event.self.phase c.step.new.self.phase _ _ c.loop-event.invariant.5 c.in-Err.ensures.still)

pub returns-in_default-clause-lives : goal.returns-in_default-clause-lives
returns-in_default-clause-lives g c = rw c.new.ensures.items (lives_start g.D.Area c.args.self.now.phase)
