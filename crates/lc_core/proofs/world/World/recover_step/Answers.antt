use Rattle.std.proofs.Common.{◌≡◌, Ok, Err, true, false, refl, ap, sym, ◌∙◌, inl, inr, subst}
use Rattle.std.proofs.lemmas.Result.{IfOk-at_ok, IfOk-weaker}
use Rattle.std.specs.Prelude.{Result, OnErr}
use Rattle.lc_record.specs.declared.geometry.Geometry.{Geometry}
use Rattle.lc_record.proofs.ListLemmas.{OnErr_from as on_err}
use Rattle.lc_recover.specs.Recovery.{Recovering, IsLast, TakesMemory, all_steps}
use Rattle.lc_core.specs.declared.world_phase.WorldPhase.TheVariants.{Down, Taken, Up}
use Rattle.lc_core.proofs.Living.{down_told, turn_told}
use Rattle.lc_events.proofs.Refusing.{if_ok_both}
use Rattle.lc_recover.specs.declared.fault.RecoverFault.{RecoverFault}
use Rattle.lc_journal.proofs.Logged.{err_then}
use Rattle.lc_core.specs.Recovering.{RepliesTo}
use Rattle.lc_core.specs.World.{AsksIn}
use Rattle.lc_core.specs.declared.world_phase.WorldPhase.{WorldPhase}
use Rattle.lc_model.specs.declared.event.Event.TheVariants.{RecoverStep}
use Rattle.lc_recover.specs.Recovery.{IsDone}
use Rattle.lc_recover.specs.declared.progress.Progress.{Progress}
use Rattle.lc_model.specs.declared.reply.Reply.TheVariants.{Recovered, Refused}
use Rattle.lc_model.specs.declared.refusal.Refusal.TheVariants.{OutOfTurn}
use Rattle.lc_core.specs.Faults.{CountsPhase}
use Rattle.lc_core.proofs.ComingUp.{replies_of, same_down}
use Rattle.lc_core.proofs.Failures.{StepCalls, down_failures, no_faults, phase_counts, risen_counts}
use Rattle.lc_core.proofs.Geometries.{down_geometry, replies_known, risen_geometry}
use Rattle.lc_core.proofs.OneArea.{calls_none, down_calls, down_keeps, risen_calls}
use Rattle.lc_core.proofs.Recoveries.{FollowsPhase, StepLeaves, begins_in, comes_up, down_same, not_recovered, not_down, down_follows, down_wants, same_still}
use Rattle.lc_core.specs.Recovers.{RecoversDown}
use Rattle.lc_events.proofs.Recovers.{IfOk-any}
use Rattle.lc_core.proofs.Recovers.{StepSays, last_apart, down_asks, down_recovers, risen_recovers, up_refuses}
use Rattle.lc_core.proofs.world.World.recover_step.Given.{Over}
use Rattle.lc_core.proofs.world.World.recover_step.Goals.{After-step-2}
use Rattle.lc_core.proofs.world.World.recover_step.Goals as goal

pub returns-in_default-clause-follows : goal.returns-in_default-clause-follows
returns-in_default-clause-follows g c = not_down g.D.Area c.args.self.now.phase c.in_default.not-Down

module _ (g : Over) (c : goal.After-reply_to g) where
  leaves : StepLeaves g.D.Area c.in-Down.recovery c.step.new.self c.step.result
  leaves = record {
    geometry = c.step.ensures.geometry;
    lengths = c.step.ensures.lengths;
    progress = c.step.ensures.progress;
    steps = c.step.ensures.steps;
    no_memory = c.step.ensures.no_memory;
    again = c.step.ensures.again;
    honest = c.step.ensures.honest;
    merges = c.step.ensures.merges;
    accepted = c.step.ensures.accepted;
  }

  calls : StepCalls g.D.Area c.in-Down.recovery c.step.new.self c.step.result
  calls = record {
    call = c.step.ensures.call;
    no_call = c.step.ensures.no_call;
    fault = c.step.ensures.fault;
    merge_fault = c.step.ensures.merge_fault;
  }

  wants : OnErr c.reply_to.result (TakesMemory c.in-Down.recovery × (c.step.new.self ≡ c.in-Down.recovery))
  wants = down_wants g.D.Area c.args.self.now.phase c.in-Down.recovery c.step.new.self c.in-Down.is c.step.result c.reply_to.result c.reply_to.ensures leaves

  going : (p : Progress) → c.step.result ≡ Ok p → IsDone c.step.new.self → ⊥
  going p is done =
      let last : c.is_last.result ≡ true = c.is_last.ensures.1 (IfOk-at_ok _ is c.step.ensures.last done) in
      let not : true ≡ false = sym last ∙ c.if-not-is_last.true in
      absurd cc

pub returns-then-not-is_last-clause-follows : goal.returns-then-not-is_last-clause-follows
returns-then-not-is_last-clause-follows g c =
    down_follows g.D.Area c.args.self.now.phase c.in-Down.recovery c.step.new.self c.in-Down.is c.step.result c.reply_to.result c.reply_to.ensures (leaves g c) (going g c)

pub returns-then-not-is_last-clause-memory : goal.returns-then-not-is_last-clause-memory
returns-then-not-is_last-clause-memory g c =
    err_then c.reply_to.result (wants g c) (λ asks. subst (λ (p : WorldPhase g.row.D.Denot g.D.Area). AsksIn g.D.Area p RecoverStep) (sym c.in-Down.is) (inl asks.0))

pub returns-then-not-is_last-clause-err : goal.returns-then-not-is_last-clause-err
returns-then-not-is_last-clause-err g c =
    err_then c.reply_to.result (wants g c) (λ asks. same_still g.D.Area c.args.self.now.phase c.in-Down.recovery c.step.new.self c.in-Down.is asks.1)

module _ (g : Over) (c : After-step-2 g) where
  leaves-last : StepLeaves g.D.Area c.in-Down.recovery c.step-2.new.self c.step-2.result
  leaves-last = record {
    geometry = c.step-2.ensures.geometry;
    lengths = c.step-2.ensures.lengths;
    progress = c.step-2.ensures.progress;
    steps = c.step-2.ensures.steps;
    no_memory = c.step-2.ensures.no_memory;
    again = c.step-2.ensures.again;
    honest = c.step-2.ensures.honest;
    merges = c.step-2.ensures.merges;
    accepted = c.step-2.ensures.accepted;
  }

  calls-last : StepCalls g.D.Area c.in-Down.recovery c.step-2.new.self c.step-2.result
  calls-last = record {
    call = c.step-2.ensures.call;
    no_call = c.step-2.ensures.no_call;
    fault = c.step-2.ensures.fault;
    merge_fault = c.step-2.ensures.merge_fault;
  }

module _ (g : Over) (c : goal.After-drop-room-in-Err-3 g) where
  replies-last : RepliesTo c.step-2.result c.fault_reply.result
  replies-last = subst (λ (r : Result Progress RecoverFault). RepliesTo r c.fault_reply.result) (sym c.in-Err.is) c.fault_reply.ensures

pub returns-in-Err-clause-follows : goal.returns-in-Err-clause-follows
returns-in-Err-clause-follows g c =
    down_follows g.D.Area c.args.self.now.phase c.in-Down.recovery c.step-2.new.self c.in-Down.is c.step-2.result c.fault_reply.result (replies-last g c) (leaves-last g (goal.at.returns-in-Err-clause-follows g c).After-step-2)
    (λ p is done. (let none : Ok p ≡ Err c.in-Err.fault = sym is ∙ c.in-Err.is in absurd cc))

pub returns-in-Err-clause-err : goal.returns-in-Err-clause-err
returns-in-Err-clause-err g c =
    err_then c.fault_reply.result (down_wants g.D.Area c.args.self.now.phase c.in-Down.recovery c.step-2.new.self c.in-Down.is c.step-2.result c.fault_reply.result (replies-last g c) (leaves-last g (goal.at.returns-in-Err-clause-err g c).After-step-2))
    (λ asks. same_still g.D.Area c.args.self.now.phase c.in-Down.recovery c.step-2.new.self c.in-Down.is asks.1)

pub returns-clause-follows : goal.returns-clause-follows
returns-clause-follows g c =
    let up = c.risen.ensures c.step-2.new.self c.replace.ensures.value in
    subst (λ (p : WorldPhase g.row.D.Denot g.D.Area). FollowsPhase g.D.Area c.args.self.now.phase RecoverStep Recovered p) (sym up.1)
    (comes_up g.D.Area c.args.self.now.phase c.in-Down.recovery c.step-2.new.self c.in-Down.is up.0 (leaves-last g (goal.at.returns-clause-follows g c).After-step-2) up.2)

pub risen-requires-clause-done : goal.risen-requires-clause-done
risen-requires-clause-done g c r is =
    let last : IsLast c.in-Down.recovery = c.is_last.ensures.0 c.if-not-is_last.false in
    let done : IsDone c.step-2.new.self = (
      last.0,
      c.in_default-step.ensures.pages last.0 last.1,
      c.in_default-step.ensures.steps ∙ last.2 ∙ ap (λ (v : Geometry). all_steps v last.0) (sym c.in_default-step.ensures.geometry),
    ) in
    subst (λ (v : Recovering g.row.D.Denot). IsDone v) (down_same g.D.Area c.step-2.new.self r (sym c.replace.ensures.value ∙ is)) done

pub invariant_of-self-2 : goal.invariant_of-self-2
invariant_of-self-2 g c = record {
  going = λ r is done.
      (let up = c.risen.ensures c.step-2.new.self c.replace.ensures.value in
      let same : Up up.0 ≡ Down r = sym up.1 ∙ is in
      absurd cc);
  there = λ taken.
      (let up = c.risen.ensures c.step-2.new.self c.replace.ensures.value in
      let same : Up up.0 ≡ Taken = sym up.1 ∙ taken in
      absurd cc);
}

pub returns-in-Err-clause-memory : goal.returns-in-Err-clause-memory
returns-in-Err-clause-memory g c =
    on_err c.fault_reply.result _ (subst (λ (p : WorldPhase g.row.D.Denot g.D.Area). AsksIn g.D.Area p RecoverStep) (sym c.in-Down.is) (inr (c.is_last.ensures.0 c.if-not-is_last.false)))

pub returns-in_default-clause-faults : goal.returns-in_default-clause-faults
returns-in_default-clause-faults g c = no_faults (Refused OutOfTurn) _ _ refl refl

pub returns-then-not-is_last-clause-faults : goal.returns-then-not-is_last-clause-faults
returns-then-not-is_last-clause-faults g c =
    phase_counts g.D.Area c.in-Down.recovery c.step.new.self c.args.self.now.phase c.in-Down.is c.step.result c.reply_to.result c.reply_to.ensures (calls g c)

pub returns-then-not-is_last-clause-no_fault : goal.returns-then-not-is_last-clause-no_fault
returns-then-not-is_last-clause-no_fault g c =
    err_then c.reply_to.result (wants g c) (λ asks. down_failures g.D.Area c.args.self.now.phase c.in-Down.recovery c.step.new.self c.in-Down.is asks.1)

pub returns-in-Err-clause-faults : goal.returns-in-Err-clause-faults
returns-in-Err-clause-faults g c =
    phase_counts g.D.Area c.in-Down.recovery c.step-2.new.self c.args.self.now.phase c.in-Down.is c.step-2.result c.fault_reply.result (replies-last g c) (calls-last g (goal.at.returns-in-Err-clause-faults g c).After-step-2)

pub returns-in-Err-clause-no_fault : goal.returns-in-Err-clause-no_fault
returns-in-Err-clause-no_fault g c =
    err_then c.fault_reply.result (down_wants g.D.Area c.args.self.now.phase c.in-Down.recovery c.step-2.new.self c.in-Down.is c.step-2.result c.fault_reply.result (replies-last g c) (leaves-last g (goal.at.returns-in-Err-clause-no_fault g c).After-step-2))
    (λ asks. down_failures g.D.Area c.args.self.now.phase c.in-Down.recovery c.step-2.new.self c.in-Down.is asks.1)

pub returns-clause-faults : goal.returns-clause-faults
returns-clause-faults g c =
    let up = c.risen.ensures c.step-2.new.self c.replace.ensures.value in
    subst (λ (p : WorldPhase g.row.D.Denot g.D.Area). CountsPhase g.D.Area c.args.self.now.phase Recovered p) (sym up.1)
    (risen_counts g.D.Area c.args.self.now.phase c.in-Down.recovery c.step-2.new.self c.in-Down.is c.step-2.result c.in_default-step.not-Err (calls-last g (goal.at.returns-clause-faults g c).After-step-2) up.0 up.2)

pub returns-in_default-clause-recovers : goal.returns-in_default-clause-recovers
returns-in_default-clause-recovers g c r is = absurd (c.in_default.not-Down r is)

module _ (g : Over) (c : goal.After-reply_to g) where
  says : StepSays g.D.Area c.in-Down.recovery c.step.new.self c.step.result
  says = record {
    geometry = c.step.ensures.geometry;
    progress = c.step.ensures.progress;
    steps = c.step.ensures.steps;
    again = c.step.ensures.again;
    no_call = c.step.ensures.no_call;
    fault = c.step.ensures.fault;
    merged = c.step.ensures.merged;
    refused = c.step.ensures.refused;
    bound = c.step.ensures.bound;
    honest = c.step.ensures.honest;
    reads = c.step.ensures.reads;
    pages = c.step.ensures.pages;
    lengths = c.step.ensures.lengths;
    clean = c.step.ensures.clean;
  }

pub returns-then-not-is_last-clause-recovers : goal.returns-then-not-is_last-clause-recovers
returns-then-not-is_last-clause-recovers g c =
    down_recovers g.D.Area c.in-Down.recovery c.step.new.self c.args.self.now.phase c.in-Down.is c.step.result c.reply_to.result c.reply_to.ensures (says g c) (going g c)

module _ (g : Over) (c : goal.After-drop-room-in-Err-3 g) where
  says-last : StepSays g.D.Area c.in-Down.recovery c.step-2.new.self c.step-2.result
  says-last = record {
    geometry = c.step-2.ensures.geometry;
    progress = c.step-2.ensures.progress;
    steps = c.step-2.ensures.steps;
    again = c.step-2.ensures.again;
    no_call = c.step-2.ensures.no_call;
    fault = c.step-2.ensures.fault;
    merged = c.step-2.ensures.merged;
    refused = c.step-2.ensures.refused;
    bound = c.step-2.ensures.bound;
    honest = c.step-2.ensures.honest;
    reads = c.step-2.ensures.reads;
    pages = c.step-2.ensures.pages;
    lengths = c.step-2.ensures.lengths;
    clean = c.step-2.ensures.clean;
  }

pub returns-in-Err-clause-recovers : goal.returns-in-Err-clause-recovers
returns-in-Err-clause-recovers g c =
    down_recovers g.D.Area c.in-Down.recovery c.step-2.new.self c.args.self.now.phase c.in-Down.is c.step-2.result c.fault_reply.result (replies-last g c) (says-last g c)
    (λ p is done. (let none : Ok p ≡ Err c.in-Err.fault = sym is ∙ c.in-Err.is in absurd cc))

pub returns-clause-recovers : goal.returns-clause-recovers
returns-clause-recovers g c =
    let up = c.risen.ensures c.step-2.new.self c.replace.ensures.value in
    let last : IsLast c.in-Down.recovery = c.is_last.ensures.0 c.if-not-is_last.false in
    subst (λ (p : WorldPhase g.row.D.Denot g.D.Area). RecoversDown g.D.Area c.args.self.now.phase Recovered p) (sym up.1)
    (risen_recovers g.D.Area c.args.self.now.phase c.in-Down.recovery c.in-Down.is last up.0)

pub returns-in_default-clause-at_once : goal.returns-in_default-clause-at_once
returns-in_default-clause-at_once g c = up_refuses g.D.Area c.args.self.now.phase c.in_default.not-Down

pub returns-then-not-is_last-clause-at_once : goal.returns-then-not-is_last-clause-at_once
returns-then-not-is_last-clause-at_once g c =
    IfOk-any c.reply_to.result (λ reply. down_asks g.D.Area c.args.self.now.phase c.in-Down.recovery c.in-Down.is reply (Down c.step.new.self))

pub returns-in-Err-clause-at_once : goal.returns-in-Err-clause-at_once
returns-in-Err-clause-at_once g c =
    IfOk-any c.fault_reply.result (λ reply. down_asks g.D.Area c.args.self.now.phase c.in-Down.recovery c.in-Down.is reply (Down c.step-2.new.self))

pub returns-clause-at_once : goal.returns-clause-at_once
returns-clause-at_once g c = down_asks g.D.Area c.args.self.now.phase c.in-Down.recovery c.in-Down.is Recovered _

pub returns-then-not-is_last-clause-geometry : goal.returns-then-not-is_last-clause-geometry
returns-then-not-is_last-clause-geometry g c = down_geometry g.D.Area c.args.self.now.phase c.in-Down.recovery c.step.new.self c.in-Down.is c.step.ensures.geometry

pub returns-then-not-is_last-clause-unknown : goal.returns-then-not-is_last-clause-unknown
returns-then-not-is_last-clause-unknown g c = replies_known c.step.result c.reply_to.result c.reply_to.ensures

pub returns-in-Err-clause-geometry : goal.returns-in-Err-clause-geometry
returns-in-Err-clause-geometry g c = down_geometry g.D.Area c.args.self.now.phase c.in-Down.recovery c.step-2.new.self c.in-Down.is c.step-2.ensures.geometry

pub returns-in-Err-clause-unknown : goal.returns-in-Err-clause-unknown
returns-in-Err-clause-unknown g c = replies_known c.step-2.result c.fault_reply.result (replies-last g c)

pub returns-clause-geometry : goal.returns-clause-geometry
returns-clause-geometry g c =
    let up = c.risen.ensures c.step-2.new.self c.replace.ensures.value in
    risen_geometry g.D.Area c.args.self.now.phase c.risen.result c.in-Down.recovery c.step-2.new.self up.0 c.in-Down.is c.step-2.ensures.geometry up.1 up.2

pub returns-in_default-clause-calls : goal.returns-in_default-clause-calls
returns-in_default-clause-calls g c = calls_none g.D.Area c.args.self.now.phase RecoverStep (Refused OutOfTurn) (λ h. refl)

pub returns-then-not-is_last-clause-calls : goal.returns-then-not-is_last-clause-calls
returns-then-not-is_last-clause-calls g c =
    down_calls g.D.Area c.in-Down.recovery c.step.new.self c.step.ensures.geometry c.args.self.now.phase c.in-Down.is c.step.result c.reply_to.result c.reply_to.ensures (calls g c) c.step.ensures.steps c.step.ensures.progress

pub returns-in-Err-clause-calls : goal.returns-in-Err-clause-calls
returns-in-Err-clause-calls g c =
    down_calls g.D.Area c.in-Down.recovery c.step-2.new.self c.step-2.ensures.geometry c.args.self.now.phase c.in-Down.is c.step-2.result c.fault_reply.result (replies-last g c)
    (calls-last g (goal.at.returns-in-Err-clause-calls g c).After-step-2) c.step-2.ensures.steps c.step-2.ensures.progress

pub returns-clause-calls : goal.returns-clause-calls
returns-clause-calls g c =
    let up = c.risen.ensures c.step-2.new.self c.replace.ensures.value in
    let last : IsLast c.in-Down.recovery = c.is_last.ensures.0 c.if-not-is_last.false in
    risen_calls g.D.Area c.in-Down.recovery c.step-2.new.self c.step-2.ensures.geometry c.args.self.now.phase c.risen.result c.in-Down.is c.step-2.result c.in_default-step.not-Err
    (calls-last g (goal.at.returns-clause-calls g c).After-step-2) (last_apart g.D.Area c.in-Down.recovery last) up.0 up.1 up.2

pub returns-then-not-is_last-clause-kept : goal.returns-then-not-is_last-clause-kept
returns-then-not-is_last-clause-kept g c =
    err_then c.reply_to.result (wants g c) (λ asks. down_keeps g.D.Area c.args.self.now.phase c.in-Down.recovery c.step.new.self c.in-Down.is asks.1)

pub returns-in_err-room-clause-kept : goal.returns-in_err-room-clause-kept
returns-in_err-room-clause-kept g c = on_err c.from_residual.result _ (down_keeps g.D.Area c.args.self.now.phase c.in-Down.recovery c.in-Down.recovery c.in-Down.is refl)

pub returns-in-Err-clause-kept : goal.returns-in-Err-clause-kept
returns-in-Err-clause-kept g c =
    err_then c.fault_reply.result (down_wants g.D.Area c.args.self.now.phase c.in-Down.recovery c.step-2.new.self c.in-Down.is c.step-2.result c.fault_reply.result (replies-last g c) (leaves-last g (goal.at.returns-in-Err-clause-kept g c).After-step-2))
    (λ asks. down_keeps g.D.Area c.args.self.now.phase c.in-Down.recovery c.step-2.new.self c.in-Down.is asks.1)

pub returns-in-Err-clause-names : goal.returns-in-Err-clause-names
returns-in-Err-clause-names g c = replies_of c.step-2.result c.fault_reply.result (replies-last g c)

pub returns-in-Err-clause-same : goal.returns-in-Err-clause-same
returns-in-Err-clause-same g c =
    err_then c.fault_reply.result (down_wants g.D.Area c.args.self.now.phase c.in-Down.recovery c.step-2.new.self c.in-Down.is c.step-2.result c.fault_reply.result (replies-last g c) (leaves-last g (goal.at.returns-in-Err-clause-same g c).After-step-2))
    (λ asks. same_down g.D.Area c.args.self.now.phase c.in-Down.recovery c.step-2.new.self c.in-Down.is asks.1)

pub returns-in_default-clause-anyhow : goal.returns-in_default-clause-anyhow
returns-in_default-clause-anyhow g c = turn_told g.D.Area c.args.self.now.phase c.in_default.not-Down

pub returns-then-not-is_last-clause-anyhow : goal.returns-then-not-is_last-clause-anyhow
returns-then-not-is_last-clause-anyhow g c = IfOk-weaker c.reply_to.result _ _
    (λ reply both. down_told g.D.Area c.args.self.now.phase c.in-Down.recovery reply (Down c.step.new.self) c.in-Down.is both.0 both.1
    (λ is. absurd (let last : c.is_last.result ≡ true = c.is_last.ensures.1 ((both.0 c.in-Down.recovery c.in-Down.is).recovered is).0 in
    let not : true ≡ false = sym last ∙ c.if-not-is_last.true in cc)))
    (if_ok_both c.reply_to.result _ _
    (down_recovers g.D.Area c.in-Down.recovery c.step.new.self c.args.self.now.phase c.in-Down.is c.step.result c.reply_to.result c.reply_to.ensures (says g c) (going g c))
    (replies_of c.step.result c.reply_to.result c.reply_to.ensures))

pub returns-in-Err-clause-anyhow : goal.returns-in-Err-clause-anyhow
returns-in-Err-clause-anyhow g c = IfOk-weaker c.fault_reply.result _ _
    (λ reply all. down_told g.D.Area c.args.self.now.phase c.in-Down.recovery reply (Down c.step-2.new.self) c.in-Down.is all.0 all.1.0 (λ is. absurd (all.1.1 is)))
    (if_ok_both c.fault_reply.result _ _
    (down_recovers g.D.Area c.in-Down.recovery c.step-2.new.self c.args.self.now.phase c.in-Down.is c.step-2.result c.fault_reply.result (replies-last g c) (says-last g c)
    (λ p is done. (let none : Ok p ≡ Err c.in-Err.fault = sym is ∙ c.in-Err.is in absurd cc)))
    (if_ok_both c.fault_reply.result _ _ (replies_of c.step-2.result c.fault_reply.result (replies-last g c)) (not_recovered ⊥ c.in-Err.fault c.fault_reply.result c.fault_reply.ensures)))

pub returns-clause-anyhow : goal.returns-clause-anyhow
returns-clause-anyhow g c =
    let up = c.risen.ensures c.step-2.new.self c.replace.ensures.value in
    let last : IsLast c.in-Down.recovery = c.is_last.ensures.0 c.if-not-is_last.false in
    down_told g.D.Area c.args.self.now.phase c.in-Down.recovery Recovered c.risen.result c.in-Down.is
    (subst (λ (p : WorldPhase g.row.D.Denot g.D.Area). RecoversDown g.D.Area c.args.self.now.phase Recovered p) (sym up.1)
    (risen_recovers g.D.Area c.args.self.now.phase c.in-Down.recovery c.in-Down.is last up.0))
    refl
    (λ is. begins_in g.D.Area c.args.self.now.phase c.in-Down.recovery c.step-2.new.self up.0 c.risen.result c.in-Down.is c.step-2.ensures.geometry up.1 up.2)
