use Rattle.std.proofs.Common.{◌∙◌, refl, subst, arith}
use Rattle.std.proofs.lemmas.Result.{on_err_weaker}
use Rattle.lc_model.specs.declared.event.Event.TheVariants.{RecoverStep}
use Rattle.lc_model.specs.declared.reply.Reply.{Reply}
use Rattle.lc_core.specs.Recovers.{RecoversDown, RefusesAtOnce}
use Rattle.lc_core.specs.World.{FollowsWorld}
use Rattle.lc_record.proofs.ListLemmas.{OnErr_from as on_err}
use Rattle.lc_tool.proofs.Again.{not_step}
use Rattle.lc_tool.proofs.Keeping.{step_keeps, steps_keep}
use Rattle.lc_tool.proofs.Beside.{told_all, told_by}
use Rattle.lc_tool.proofs.Recovering.{all_down, all_gone, all_refused, all_up, first_gone, gone_asks, gone_down, gone_follows, gone_refuses, gone_up, more_gone}
use Rattle.lc_tool.proofs.repeating.recover.Goals as goal

pub loop-init : goal.loop-init
loop-init g c = record { gone = first_gone g.D.Area c.args.world.now; geometry = refl }

pub returns-in_err-reply-clause-memory : goal.returns-in_err-reply-clause-memory
returns-in_err-reply-clause-memory g c = on_err c.from_residual.result _ (gone_asks g.D.Area c.args.world.now c.loop.world c.loop.counter c.loop.invariant.gone c.in_err-reply.ensures.memory)

pub returns-in_default : goal.returns-in_default
returns-in_default g c =
    let over = not_step c.in_ok-reply.reply c.in_default.not-Stepped in
    record {
      follows = gone_follows g.D.Area c.args.world.now c.loop.world c.step.new.self c.loop.counter c.in_ok-reply.reply c.loop.invariant.gone c.in_ok-reply.ensures.follows (c.in_ok-reply.ensures.recovers refl) over;
      refused = gone_refuses g.D.Area c.args.world.now c.loop.world c.step.new.self c.loop.counter c.in_ok-reply.reply c.loop.invariant.gone c.in_ok-reply.ensures.follows (c.in_ok-reply.ensures.recovers refl) over;
      anyhow = gone_up g.D.Area c.args.world.now c.loop.world c.step.new.self c.loop.counter c.in_ok-reply.reply c.loop.invariant.gone over (c.in_ok-reply.ensures.anyhow (λ choices is. absurd cc)).goes;
      down = gone_down g.D.Area c.args.world.now c.loop.world c.step.new.self c.loop.counter c.in_ok-reply.reply c.loop.invariant.gone over
          (told_by g.D.Area c.loop.world.phase c.step.new.self.phase RecoverStep c.in_ok-reply.reply (λ choices is. absurd cc) c.in_ok-reply.ensures.anyhow c.in_ok-reply.ensures.at_once);
      memory = tt;
      still = tt;
      keeps = λ h same. step_keeps g.D.Area c.loop.world.phase c.step.new.self.phase RecoverStep c.in_ok-reply.reply c.in_ok-reply.ensures.unknown c.in_ok-reply.ensures.at_once h (c.loop.invariant.geometry ∙ same);
    }

pub loop-preserved : goal.loop-preserved
loop-preserved g c =
    record {
      geometry = c.step.ensures.geometry ∙ c.loop.invariant.geometry;
      gone = more_gone g.D.Area c.args.world.now c.loop.world c.step.new.self c.loop.counter c.in-Stepped.steps c.loop.invariant.gone
          (subst (λ (r : Reply). FollowsWorld g.D.Area c.loop.world RecoverStep r c.step.new.self) c.in-Stepped.is c.in_ok-reply.ensures.follows)
          (subst (λ (r : Reply). RecoversDown g.D.Area c.loop.world.phase r c.step.new.self.phase) c.in-Stepped.is (c.in_ok-reply.ensures.recovers refl))
          (subst (λ (r : Reply). RefusesAtOnce g.D.Area c.loop.world.phase RecoverStep r c.step.new.self.phase) c.in-Stepped.is c.in_ok-reply.ensures.at_once);
    }

pub returns-clause-follows : goal.returns-clause-follows
returns-clause-follows g c =
    all_gone g.D.Area c.args.world.now c.loop.world c.step-2.new.self c.loop.counter c.step-2.result c.loop.invariant.gone (omega (arith, c.loop-test.false)) c.step-2.ensures.follows (c.step-2.ensures.recovers refl) c.step-2.ensures.at_once

pub returns-clause-refused : goal.returns-clause-refused
returns-clause-refused g c =
    all_refused g.D.Area c.args.world.now c.loop.world c.step-2.new.self c.loop.counter c.step-2.result c.loop.invariant.gone (omega (arith, c.loop-test.false)) c.step-2.ensures.follows (c.step-2.ensures.recovers refl) c.step-2.ensures.at_once

pub returns-clause-memory : goal.returns-clause-memory
returns-clause-memory g c = on_err_weaker c.step-2.result (λ asks. gone_asks g.D.Area c.args.world.now c.loop.world c.loop.counter c.loop.invariant.gone asks) c.step-2.ensures.memory

pub returns-in_err-reply-clause-still : goal.returns-in_err-reply-clause-still
returns-in_err-reply-clause-still g c = on_err c.from_residual.result _ (λ h at fits. c.in_err-reply.ensures.still h at (c.loop.invariant.gone.still h at fits))

pub returns-clause-still : goal.returns-clause-still
returns-clause-still g c = on_err_weaker c.step-2.result (λ still h at fits. still h at (c.loop.invariant.gone.still h at fits)) c.step-2.ensures.still

pub returns-clause-anyhow : goal.returns-clause-anyhow
returns-clause-anyhow g c =
    all_up g.D.Area c.args.world.now c.loop.world c.step-2.new.self c.loop.counter c.step-2.result c.loop.invariant.gone (omega (arith, c.loop-test.false))
    (told_all g.D.Area c.loop.world.phase c.step-2.new.self.phase RecoverStep c.step-2.result (λ choices is. absurd cc) c.step-2.ensures.anyhow c.step-2.ensures.at_once)

pub returns-clause-down : goal.returns-clause-down
returns-clause-down g c =
    all_down g.D.Area c.args.world.now c.loop.world c.step-2.new.self c.loop.counter c.step-2.result c.loop.invariant.gone (omega (arith, c.loop-test.false))
    (told_all g.D.Area c.loop.world.phase c.step-2.new.self.phase RecoverStep c.step-2.result (λ choices is. absurd cc) c.step-2.ensures.anyhow c.step-2.ensures.at_once)

pub returns-clause-keeps : goal.returns-clause-keeps
returns-clause-keeps g c = steps_keep g.D.Area c.loop.world.phase c.step-2.new.self.phase RecoverStep c.step-2.result c.step-2.ensures.unknown c.step-2.ensures.at_once c.args.world.now.phase c.loop.invariant.geometry
