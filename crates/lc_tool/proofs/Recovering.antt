-- A recovery, step by step, up to the step that does not say that more are to come.
use Rattle.std.proofs.Common.{◌≡◌, ◌∙◌, ℕ, ◌+◌, ◌*◌, ◌≤◌, refl, sym, ap, subst, arith}
use Rattle.std.specs.Prelude.{Some, None, Result, Ok, Err, IfOk}
use Rattle.std.proofs.lemmas.Result.{IfOk-weaker}
use Rattle.std.proofs.Math.Nat.{mul-le-mul_right}
use Rattle.lc_disk.specs.declared.area.Area.{Ghosts}
use Rattle.lc_record.specs.declared.geometry.Geometry.{Geometry}
use Rattle.lc_recover.specs.Recovery.{Recovering, all_steps}
use Rattle.lc_model.specs.Merge.{MergeFault}
use Rattle.lc_model.specs.Refusals.{is_up}
use Rattle.lc_model.specs.State.{Setting, State}
use Rattle.lc_model.specs.declared.event.Event.TheVariants.{RecoverStep}
use Rattle.lc_model.specs.declared.refusal.Refusal.TheVariants.{OutOfTurn}
use Rattle.lc_model.specs.declared.reply.Reply.{Reply}
use Rattle.lc_model.specs.declared.reply.Reply.TheVariants.{Stepped}
use Rattle.lc_core.specs.Lives.{FitsLife, Life, StillLives, Told}
use Rattle.lc_settled.specs.Numbers.{Numbers}
use Rattle.lc_core.specs.Recovers.{RecoversDown, RefusesAtOnce}
use Rattle.lc_core.specs.World.{AsksIn, FitsWorld, FollowsAnyhow, FollowsWorld}
use Rattle.lc_core.specs.declared.world_phase.WorldPhase.{WorldPhase}
use Rattle.lc_core.specs.declared.world_phase.WorldPhase.TheVariants.{Down, Up, Taken}
use Rattle.lc_core.specs.declared.world.World.{World}
use Rattle.lc_core.proofs.Asking.{asks_world}
use Rattle.lc_core.proofs.Living.{one_lives}
use Rattle.lc_tool.specs.Answers.{IsStepped}
use Rattle.lc_tool.specs.Fits.{AsksFor, FollowsAll, IsRefused, IsUpBeside, RefusesAll, RunsRecovery}
use Rattle.lc_text.specs.declared.command.Command.TheVariants.{Recover}
use Rattle.lc_tool.proofs.Again.{all_still, stepped_is}
use Rattle.lc_tool.proofs.Beside.{life_of, up_follows, up_of}
use Rattle.lc_tool.proofs.Fitting.{few_steps}
use Rattle.lc_tool.proofs.Opening.{IsBefore, ends_refused, first_before, next_before}
use Rattle.lc_tool.proofs.Performing.{ComesTo, comes_to_end, first_comes, more_comes}

-- no recovery has so many steps
few_in_all : (g : Geometry) → all_steps g (g.segments * g.pages) ≤ 1048576
few_in_all g =
    let few = mul-le-mul_right g.pages g.few_segments in
    omega (arith, few, g.few_pages, g.few_segments, g.few_nodes)

module _ {D : Type 0} (a : Ghosts D) where
  -- so many steps were made from a store on
  pub record HasGone (old now : World D a) (done : ℕ) : Type 0 where
    pub comes : (m : Setting) (s : State) (x : Numbers) → FitsWorld a m old s x → ComesTo a (FitsWorld a) old now RecoverStep m s x
    pub count : (r : Recovering D) → now.phase ≡ Down r → done ≤ r.steps
    pub before : (fault : MergeFault) (refused : IsRefused a old fault) → IsBefore a refused.geometry refused.areas fault now.phase
    pub still : StillLives a old.phase now.phase

  pub first_gone : (w : World D a) → HasGone w w 0
  first_gone w = record {
    comes = λ m s x fits. first_comes a (FitsWorld a) RecoverStep m s x w fits;
    count = λ r is. omega arith;
    before = λ fault refused. subst (λ (p : WorldPhase D a). IsBefore a refused.geometry refused.areas fault p) (sym refused.down) (first_before a refused.geometry refused.areas fault refused.honest);
    still = λ g at fits. fits;
  }

  -- what answers with a step is down
  down_there : (phase : WorldPhase D a) (steps : ℕ) (new : WorldPhase D a) → RefusesAtOnce a phase RecoverStep (Stepped steps) new → (r : Recovering D) × (phase ≡ Down r)
  down_there (Down r) steps new at_once = (r, refl)
  down_there (Up up) steps new at_once = let bad = (at_once OutOfTurn refl).0 in absurd cc
  down_there Taken steps new at_once = let bad = (at_once OutOfTurn refl).0 in absurd cc

  -- and stays so
  stays_down : (old new : WorldPhase D a) (steps : ℕ) (r : Recovering D) → old ≡ Down r → (later : Recovering D) × (new ≡ Down later) × (later.geometry ≡ r.geometry) × (later.steps ≡ steps) → StillLives a old new
  stays_down old new steps r is later g None fits =
      let same : r.geometry ≡ g = subst (λ (p : WorldPhase D a). FitsLife a g None p) is fits in
      subst (λ (p : WorldPhase D a). FitsLife a g None p) (sym later.1) (later.2 ∙ same)
  stays_down old new steps r is later g (Some life) fits = absurd (subst (λ (p : WorldPhase D a). FitsLife a g (Some life) p) is fits)

  pub more_gone : (old mid new : World D a) (done steps : ℕ) → HasGone old mid done → FollowsWorld a mid RecoverStep (Stepped steps) new → RecoversDown a mid.phase (Stepped steps) new.phase
      → RefusesAtOnce a mid.phase RecoverStep (Stepped steps) new.phase → HasGone old new (done + 1)
  more_gone old mid new done steps gone follows recovers at_once =
      let down = down_there mid.phase steps new.phase at_once in
      let stepped = (recovers down.0 down.1).stepped steps refl in
      let was = gone.count down.0 down.1 in
      record {
        comes = λ m s x fits. more_comes a (FitsWorld a) RecoverStep m s x old mid new steps (gone.comes m s x fits) follows;
        count = λ r is.
            let same : stepped.1.0 ≡ r = cc in
            omega (arith, was, stepped.0, stepped.1.3, ap (λ (q : Recovering D). q.steps) same);
        before = λ fault refused. next_before a refused.geometry refused.areas fault refused.refused mid.phase new.phase steps (gone.before fault refused) recovers;
        still = λ g at fits. stays_down mid.phase new.phase steps down.0 down.1 stepped.1 g at (gone.still g at fits);
      }

  -- after so many steps none says that more are to come
  never_stepped : (old mid new : World D a) (done : ℕ) (reply : Reply) → HasGone old mid done → 1048576 ≤ done → RecoversDown a mid.phase reply new.phase → RefusesAtOnce a mid.phase RecoverStep reply new.phase
      → IsStepped reply → ⊥
  never_stepped old mid new done reply gone all recovers at_once is =
      let steps = stepped_is reply is in
      let down = down_there mid.phase steps.0 new.phase (subst (λ (r : Reply). RefusesAtOnce a mid.phase RecoverStep r new.phase) steps.1 at_once) in
      let answers = recovers down.0 down.1 in
      let few = few_steps a down.0 reply new.phase steps.0 answers steps.1 in
      let count = (answers.stepped steps.0 steps.1).0 in
      omega (arith, all, few, count, gone.count down.0 down.1, few_in_all down.0.geometry)

  module _ (old mid new : World D a) (done : ℕ) (reply : Reply) (gone : HasGone old mid done) (follows : FollowsWorld a mid RecoverStep reply new) (recovers : RecoversDown a mid.phase reply new.phase) where
    pub gone_follows : (IsStepped reply → ⊥) → FollowsAll a (FitsWorld a) old RecoverStep reply new
    gone_follows over m s x fits = comes_to_end a (FitsWorld a) RecoverStep m s x old mid new reply (gone.comes m s x fits) follows over

    pub gone_refuses : (IsStepped reply → ⊥) → RefusesAll a old reply
    gone_refuses over fault refused = ends_refused a refused.geometry refused.areas fault refused.refused mid.phase new.phase reply (gone.before fault refused) recovers over

  -- Whatever the areas are
  module _ (old mid new : World D a) (done : ℕ) (reply : Reply) (gone : HasGone old mid done) (over : IsStepped reply → ⊥) where
    -- one that is up is out of turn at once
    pub gone_up : FollowsAnyhow a mid.phase RecoverStep reply new.phase → FollowsAll a (IsUpBeside a) old RecoverStep reply new
    gone_up goes m s x beside =
        let life : Life = record { setting = m; state = s; numbers = x } in
        let there = up_of a m.geometry life mid (gone.still m.geometry (Some life) (life_of a m.geometry life old beside refl)) in
        comes_to_end a (IsUpBeside a) RecoverStep m s x mid mid new reply (first_comes a (IsUpBeside a) RecoverStep m s x mid there.0) (up_follows a mid new RecoverStep reply goes) over

    -- and one that is down comes to the end of its recovery
    pub gone_down : Told a mid.phase RecoverStep reply new.phase → RunsRecovery a old reply new
    gone_down told g fits =
        let come = one_lives a g None mid.phase RecoverStep reply new.phase (gone.still g None fits) told in
        (come.0, come.2, come.1, over)

  -- want of memory is that of a store that is down
  pub gone_asks : (old mid : World D a) (done : ℕ) → HasGone old mid done → AsksIn a mid.phase RecoverStep → AsksFor a old Recover
  gone_asks old mid done gone wants m s x fits =
      let come = gone.comes m s x fits in
      sym (ap (λ (z : State). is_up z.phase) (all_still m s x come.steps come.after come.next come.goes)) ∙ (asks_world a mid RecoverStep wants m come.after come.next come.fits).1.0

  -- the last step, after all of them
  pub all_gone : {E : Type 0} (old mid new : World D a) (done : ℕ) (result : Result Reply E) → HasGone old mid done → 1048576 ≤ done → IfOk result (λ reply. FollowsWorld a mid RecoverStep reply new)
      → IfOk result (λ reply. RecoversDown a mid.phase reply new.phase) → IfOk result (λ reply. RefusesAtOnce a mid.phase RecoverStep reply new.phase) → IfOk result (λ reply. FollowsAll a (FitsWorld a) old RecoverStep reply new)
  all_gone old mid new done (Err e) gone all follows recovers at_once = tt
  all_gone old mid new done (Ok reply) gone all follows recovers at_once =
      gone_follows old mid new done reply gone follows recovers (never_stepped old mid new done reply gone all recovers at_once)

  pub all_refused : {E : Type 0} (old mid new : World D a) (done : ℕ) (result : Result Reply E) → HasGone old mid done → 1048576 ≤ done → IfOk result (λ reply. FollowsWorld a mid RecoverStep reply new)
      → IfOk result (λ reply. RecoversDown a mid.phase reply new.phase) → IfOk result (λ reply. RefusesAtOnce a mid.phase RecoverStep reply new.phase) → IfOk result (λ reply. RefusesAll a old reply)
  all_refused old mid new done (Err e) gone all follows recovers at_once = tt
  all_refused old mid new done (Ok reply) gone all follows recovers at_once =
      gone_refuses old mid new done reply gone follows recovers (never_stepped old mid new done reply gone all recovers at_once)

  module _ {E : Type 0} (old mid new : World D a) (done : ℕ) (result : Result Reply E) (gone : HasGone old mid done) (all : 1048576 ≤ done) where
    last_over : (reply : Reply) → Told a mid.phase RecoverStep reply new.phase → IsStepped reply → ⊥
    last_over reply told = never_stepped old mid new done reply gone all ((told.anyhow (λ choices stop. absurd cc)).recovers refl) told.at_once

    pub all_up : IfOk result (λ reply. Told a mid.phase RecoverStep reply new.phase) → IfOk result (λ reply. FollowsAll a (IsUpBeside a) old RecoverStep reply new)
    all_up told = IfOk-weaker result _ _ (λ reply its. gone_up old mid new done reply gone (last_over reply its) (its.anyhow (λ choices stop. absurd cc)).goes) told

    pub all_down : IfOk result (λ reply. Told a mid.phase RecoverStep reply new.phase) → IfOk result (λ reply. RunsRecovery a old reply new)
    all_down told = IfOk-weaker result _ _ (λ reply its. gone_down old mid new done reply gone (last_over reply its) its) told
