-- The steps of a recovery by one call, and what comes of them.
use Rattle.std.proofs.Common.{◌≡◌, ◌∙◌, ℕ, ◌+◌, ◌-◌, ◌*◌, ◌≤◌, zero, suc, true, false, refl, sym, ap, subst, arith, true≢false}
use Rattle.std.specs.Prelude.{Option, Some, None, Result, Ok, Err, IfOk}
use Rattle.std.proofs.lemmas.Result.{IfOk-from_err}
use Rattle.lc_disk.specs.declared.area.Area.{Ghosts}
use Rattle.lc_record.specs.declared.geometry.Geometry.{Geometry}
use Rattle.lc_model.specs.declared.event.Event.TheVariants.{RecoverStep}
use Rattle.lc_model.specs.declared.refusal.Refusal.{Refusal}
use Rattle.lc_model.specs.declared.refusal.Refusal.TheVariants.{OutOfTurn}
use Rattle.lc_model.specs.declared.reply.Reply.{Reply}
use Rattle.lc_model.specs.declared.reply.Reply.TheVariants.{Stepped, Recovered, Refused}
use Rattle.lc_recover.specs.Recovery.{Recovering, all_steps}
use Rattle.lc_recover.specs.declared.fault.RecoverFault.{RecoverFault}
use Rattle.lc_recover.specs.declared.fault.RecoverFault.TheVariants.{BadGeometry, Gap, Twice, OutOfSegment, DeviceFault as Failed, NoMemory as WantsRoom}
use Rattle.lc_recover.specs.declared.progress.Progress.{Progress}
use Rattle.lc_recover.specs.declared.progress.Progress.TheVariants.{Stepped as HasMoved, Recovered as HasRecovered}
use Rattle.lc_core.specs.Calls.{CallsArea, KeepsAreas}
use Rattle.lc_core.specs.ComingUp.{ComesUpBy, RecoversIn, RecoversTo, WantsToRecover, last_reply, steps_left}
use Rattle.lc_journal.specs.FaultReplies.{is_unknown}
use Rattle.lc_core.specs.Faults.{CountsPhase, phase_failures}
use Rattle.lc_core.specs.Geometries.{phase_geometry}
use Rattle.lc_core.specs.Lives.{Anyhow, FitsLife, IsBorn, IsNewborn}
use Rattle.lc_core.specs.Observed.{stands_up}
use Rattle.lc_events.specs.MayReply.{may_recover}
use Rattle.lc_core.specs.Recovering.{RepliesTo}
use Rattle.lc_core.specs.Recovers.{RecoversDown, RefusesAtOnce}
use Rattle.lc_core.specs.World.{AsksIn, BeginsAnew, FollowsWorld, StillFitsWorld}
use Rattle.lc_events.specs.declared.call_fault.CallFault.{CallFault}
use Rattle.lc_events.specs.declared.call_fault.CallFault.TheVariants.{NoMemory, Refused as IsRefused}
use Rattle.lc_core.specs.declared.world_phase.WorldPhase.{WorldPhase}
use Rattle.lc_core.specs.declared.world_phase.WorldPhase.TheVariants.{Down, Up, Taken}
use Rattle.lc_core.specs.declared.up.Up.{Up as Rising}
use Rattle.lc_core.specs.declared.world.World.{World}
use Rattle.lc_core.proofs.Asking.{asks_world}
use Rattle.lc_core.proofs.Geometries.{recovers_outside}
use Rattle.lc_core.proofs.Living.{born}
use Rattle.lc_events.proofs.Names.{answers_may}
use Rattle.lc_core.proofs.Recoveries.{if_ok_at}

-- a step of a recovery answers nothing else
pub replies_of : {E : Type 0} (result : Result Progress RecoverFault) (answer : Result Reply E) → RepliesTo result answer → IfOk answer (λ reply. may_recover reply ≡ true)
replies_of (Ok (HasMoved steps)) answer replies = if_ok_at answer _ _ replies refl
replies_of (Ok HasRecovered) answer replies = if_ok_at answer _ _ replies refl
replies_of (Err (BadGeometry area)) answer replies = if_ok_at answer _ _ replies refl
replies_of (Err (Gap segment seq)) answer replies = if_ok_at answer _ _ replies refl
replies_of (Err (Twice segment seq)) answer replies = if_ok_at answer _ _ replies refl
replies_of (Err (OutOfSegment area)) answer replies = if_ok_at answer _ _ replies refl
replies_of (Err Failed) answer replies = if_ok_at answer _ _ replies refl
replies_of (Err WantsRoom) answer replies = IfOk-from_err answer _ replies

module _ {D : Type 0} (a : Ghosts D) where
  pub same_down : (phase : WorldPhase D a) (r new : Recovering D) → phase ≡ Down r → new ≡ r → Down new ≡ phase
  same_down phase r new is same = ap (λ (v : Recovering D). Down v) same ∙ sym is

  -- One step

  pub one_step : (old new : World D a) (reply : Reply) → FollowsWorld a old RecoverStep reply new → RefusesAtOnce a old.phase RecoverStep reply new.phase → CountsPhase a old.phase reply new.phase
      → phase_geometry a new.phase ≡ phase_geometry a old.phase → is_unknown reply ≡ false → CallsArea a old.phase RecoverStep reply new.phase → RecoversDown a old.phase reply new.phase → Anyhow a old.phase RecoverStep reply new.phase → may_recover reply ≡ true
      → RecoversTo a old reply new
  one_step old new reply follows at_once faults geometry known calls recovers anyhow names = record {
    steps = record {
      follows = follows;
      anyhow = anyhow;
      at_once = at_once;
      faults = faults;
      geometry = geometry;
      unknown = recovers_outside a old.phase RecoverStep reply refl known;
      calls = calls;
      names = answers_may RecoverStep reply names;
    };
    recovers = recovers;
  }

  pub no_step : (old new : World D a) → AsksIn a old.phase RecoverStep → StillFitsWorld a old new → phase_failures a new.phase ≡ phase_failures a old.phase
      → phase_geometry a new.phase ≡ phase_geometry a old.phase → KeepsAreas a old.phase new.phase → new.phase ≡ old.phase → WantsToRecover a old new
  no_step old new asks still failures geometry kept same = record {
    wants = record {
      asks = asks_world a old RecoverStep asks;
      at_all = asks;
      still = still;
      lives = λ g at fits. subst (λ (p : WorldPhase D a). FitsLife a g at p) (sym same) fits;
      failures = failures;
      geometry = geometry;
      kept = kept;
    };
    same = same;
  }

  -- what answers otherwise than that it is not its turn was down
  was_down : (phase : WorldPhase D a) (reply : Reply) (new : WorldPhase D a) → RefusesAtOnce a phase RecoverStep reply new → (reply ≡ Refused OutOfTurn → ⊥) → (r : Recovering D) × (phase ≡ Down r)
  was_down (Down r) reply new at_once turn = (r, refl)
  was_down (Up up) reply new at_once turn = absurd (turn (at_once OutOfTurn refl).0)
  was_down Taken reply new at_once turn = absurd (turn (at_once OutOfTurn refl).0)

  -- a step that says that more are to come leaves one less, in a store that is still down
  record Goes (old new : WorldPhase D a) : Type 0 where
    less : steps_left a new + 1 ≤ steps_left a old
    down : stands_up a old ≡ false
    still : stands_up a new ≡ false

  goes_on : (old new : WorldPhase D a) (steps : ℕ) → RefusesAtOnce a old RecoverStep (Stepped steps) new → RecoversDown a old (Stepped steps) new → Goes old new
  goes_on old new steps at_once recovers =
      let there = was_down old (Stepped steps) new at_once (λ is. absurd cc) in
      let answers = recovers there.0 there.1 in
      let stepped = answers.stepped steps refl in
      let later = stepped.1.0 in
      let all = all_steps there.0.geometry (there.0.geometry.segments * there.0.geometry.pages) in
      let few : steps ≤ all = answers.few steps refl in
      let was : steps_left a old ≡ all - there.0.steps = ap (steps_left a) there.1 in
      let same : all_steps later.geometry (later.geometry.segments * later.geometry.pages) ≡ all = ap (λ (g : Geometry). all_steps g (g.segments * g.pages)) stepped.1.2 in
      let is : steps_left a new ≡ all_steps later.geometry (later.geometry.segments * later.geometry.pages) - later.steps = ap (steps_left a) stepped.1.1 in
      record {
        less = omega (arith, few, was, same, is, stepped.0, stepped.1.3);
        down = ap (stands_up a) there.1;
        still = ap (stands_up a) stepped.1.1;
      }

  pub less_left : (old new : World D a) (steps : ℕ) → RecoversTo a old (Stepped steps) new → steps_left a new.phase + 1 ≤ steps_left a old.phase
  less_left old new steps to = (goes_on old.phase new.phase steps to.steps.at_once to.recovers).less

  -- All steps

  few_steps : (more : ℕ) (old : World D a) (last : Option Reply) (new : World D a) → RecoversIn a more old last new → more ≤ steps_left a old.phase
  few_steps zero old last new steps = omega arith
  few_steps (suc more) old last new steps =
      let less = less_left old steps.1 steps.0 steps.2 in
      let rest = few_steps more steps.1 last new steps.3 in
      omega (arith, less, rest)

  geometry_stays : (more : ℕ) (old : World D a) (last : Option Reply) (new : World D a) → RecoversIn a more old last new → phase_geometry a new.phase ≡ phase_geometry a old.phase
  geometry_stays zero old None new steps = steps.wants.geometry
  geometry_stays zero old (Some reply) new steps = steps.steps.geometry
  geometry_stays (suc more) old last new steps = geometry_stays more steps.1 last new steps.3 ∙ steps.2.steps.geometry

  comes_up : (more : ℕ) (old new : World D a) → RecoversIn a more old (Some Recovered) new → stands_up a new.phase ≡ true
  comes_up zero old new steps =
      let there = was_down old.phase Recovered new.phase steps.steps.at_once (λ is. absurd cc) in
      let up = (steps.recovers there.0 there.1).recovered refl in
      ap (stands_up a) up.1.1
  comes_up (suc more) old new steps = comes_up more steps.1 new steps.3

  refused_stays : (old new : WorldPhase D a) (refusal : Refusal) → RefusesAtOnce a old RecoverStep (Refused refusal) new → RecoversDown a old (Refused refusal) new → stands_up a new ≡ stands_up a old
  refused_stays (Down r) new refusal at_once recovers = ap (stands_up a) ((recovers r refl).refused refusal refl).1
  refused_stays (Up up) new refusal at_once recovers = ap (stands_up a) (at_once OutOfTurn refl).1
  refused_stays Taken new refusal at_once recovers = ap (stands_up a) (at_once OutOfTurn refl).1

  up_as_before : (more : ℕ) (old : World D a) (fault : CallFault) (new : World D a) → RecoversIn a more old (last_reply (Err fault)) new → stands_up a new.phase ≡ stands_up a old.phase
  up_as_before zero old NoMemory new steps = ap (stands_up a) steps.same
  up_as_before zero old (IsRefused refusal) new steps = refused_stays old.phase new.phase refusal steps.steps.at_once steps.recovers
  up_as_before (suc more) old fault new steps =
      let goes = goes_on old.phase steps.1.phase steps.0 steps.2.steps.at_once steps.2.recovers in
      up_as_before more steps.1 fault new steps.3 ∙ goes.still ∙ sym goes.down

  -- a store that is up answers at once
  turn_of : (phase : WorldPhase D a) (reply : Reply) (new : WorldPhase D a) → stands_up a phase ≡ true → RefusesAtOnce a phase RecoverStep reply new → (reply ≡ Refused OutOfTurn) × (new ≡ phase)
  turn_of (Up up) reply new is at_once = at_once OutOfTurn refl
  turn_of (Down r) reply new is at_once = absurd cc
  turn_of Taken reply new is at_once = absurd cc

  never_wants : (phase : WorldPhase D a) → stands_up a phase ≡ true → AsksIn a phase RecoverStep → ⊥
  never_wants (Up up) is asks = asks.1
  never_wants (Down r) is asks = absurd cc
  never_wants Taken is asks = asks

  turn_is : (result : Result (Unit {0}) CallFault) (reply : Reply) → last_reply result ≡ Some reply → reply ≡ Refused OutOfTurn → result ≡ Err (IsRefused OutOfTurn)
  turn_is (Ok its) reply is turn = absurd cc
  turn_is (Err NoMemory) reply is turn = absurd cc
  turn_is (Err (IsRefused refusal)) reply is turn = let same : Some (Refused refusal) ≡ Some (Refused OutOfTurn) = is ∙ ap Some turn in cc

  at_once_turn : (more : ℕ) (old : World D a) (result : Result (Unit {0}) CallFault) (new : World D a) → RecoversIn a more old (last_reply result) new → stands_up a old.phase ≡ true
      → (result ≡ Err (IsRefused OutOfTurn)) × (new.phase ≡ old.phase)
  at_once_turn zero old (Ok its) new steps is = (let turn = (turn_of old.phase Recovered new.phase is steps.steps.at_once).0 in absurd cc)
  at_once_turn zero old (Err NoMemory) new steps is = absurd (never_wants old.phase is steps.wants.at_all)
  at_once_turn zero old (Err (IsRefused refusal)) new steps is =
      let turn = turn_of old.phase (Refused refusal) new.phase is steps.steps.at_once in
      (turn_is (Err (IsRefused refusal)) (Refused refusal) refl turn.0, turn.1)
  at_once_turn (suc more) old result new steps is = (let goes = goes_on old.phase steps.1.phase steps.0 steps.2.steps.at_once steps.2.recovers in absurd (true≢false (sym is ∙ goes.down)))

  born_up : (g : Geometry) (up : Rising D a) (phase : WorldPhase D a) → phase ≡ Up up → BeginsAnew a g up → IsNewborn a phase
  born_up g up phase is begins =
      let its = born a g up begins in
      (its.0, subst (λ (h : Geometry). IsBorn h its.0) (sym its.3) its.1, subst (λ (p : WorldPhase D a). FitsLife a its.0.setting.geometry (Some its.0) p) (sym is) (its.2, refl))

  -- what comes up is born
  pub newborn : (old new : World D a) → RecoversTo a old Recovered new → IsNewborn a new.phase
  newborn old new to =
      let there = was_down old.phase Recovered new.phase to.steps.at_once (λ is. absurd cc) in
      let up = to.steps.anyhow.begins refl refl there.0 there.1 in
      born_up there.0.geometry up.0 new.phase up.1 up.2

  -- What came of the call

  pub record Came (old : World D a) (result : Result (Unit {0}) CallFault) (new : World D a) : Type 0 where
    pub steps : ComesUpBy a old result new
    pub geometry : phase_geometry a new.phase ≡ phase_geometry a old.phase
    pub at_once : stands_up a old.phase ≡ true → (result ≡ Err (IsRefused OutOfTurn)) × (new.phase ≡ old.phase)

  -- so many steps were made from a store on, whatever comes of the next ones
  abbrev pub HasStepped : World D a → World D a → Type 0
  HasStepped old now = (more : ℕ) (last : Option Reply) (new : World D a) → RecoversIn a more now last new → (all : ℕ) × RecoversIn a all old last new

  pub one_more : (old now mid : World D a) (steps : ℕ) → HasStepped old now → RecoversTo a now (Stepped steps) mid → HasStepped old mid
  one_more old now mid steps stepped to more last new rest = stepped (suc more) last new (steps, mid, to, rest)

  came : (old : World D a) (result : Result (Unit {0}) CallFault) (new : World D a) (all : (more : ℕ) × RecoversIn a more old (last_reply result) new) → Came old result new
  came old result new all = record {
    steps = record { more = all.0; few = few_steps all.0 old (last_reply result) new all.1; steps = all.1 };
    geometry = geometry_stays all.0 old (last_reply result) new all.1;
    at_once = at_once_turn all.0 old result new all.1;
  }

  module _ (old now new : World D a) (stepped : HasStepped old now) where
    pub came_up : RecoversTo a now Recovered new → Came old (Ok tt) new × (stands_up a new.phase ≡ true)
    came_up to = let all = stepped zero (Some Recovered) new to in (came old (Ok tt) new all, comes_up all.0 old new all.1)

    pub was_refused : (refusal : Refusal) → RecoversTo a now (Refused refusal) new → Came old (Err (IsRefused refusal)) new × (stands_up a new.phase ≡ stands_up a old.phase)
    was_refused refusal to = let all = stepped zero (Some (Refused refusal)) new to in (came old (Err (IsRefused refusal)) new all, up_as_before all.0 old (IsRefused refusal) new all.1)

    pub wanted : WantsToRecover a now new → Came old (Err NoMemory) new × (stands_up a new.phase ≡ stands_up a old.phase)
    wanted wants = let all = stepped zero None new wants in (came old (Err NoMemory) new all, up_as_before all.0 old NoMemory new all.1)
