-- Of the store: a step of a recovery answers by what it has made, whatever the areas hold.
use Rattle.std.proofs.Common.{◌≡◌, ◌⊎◌, ℕ, ◌+◌, ◌*◌, ◌<◌, ◌≤◌, Bool, true, false, List, map, Option, None, Some, refl, sym, ap, subst, ◌∙◌, inl, inr, arith}
use Rattle.std.specs.Prelude.{if◌then◌else◌, slice_get, Result, Ok, Err, IfOk, IfErr, OnOk}
use Rattle.std.proofs.lemmas.Result.{IfOk-from_err, IfOk-weaker}
use Rattle.std.proofs.lemmas.Option.{same_Some as same_some}
use Rattle.lc_disk.specs.declared.area.Area.{Ghosts}
use Rattle.lc_record.specs.declared.geometry.Geometry.{Geometry}
use Rattle.lc_model.specs.Merge.{StoreText, MergesTo}
use Rattle.lc_disk.specs.declared.choice.Choice.{Choice}
use Rattle.lc_core.specs.Stepping.{works_up}
use Rattle.lc_model.specs.declared.event.Event.{Event}
use Rattle.lc_model.specs.declared.event.Event.TheVariants.{Begin, SetRange, Write, Read, Abort, Reserve, Close, FlushStep, Leave, Arrive, Deliver, Trim, PageStep, ResetStep, Stop, RecoverStep}
use Rattle.lc_model.specs.declared.refusal.Refusal.{Refusal}
use Rattle.lc_model.specs.declared.refusal.Refusal.TheVariants.{DeviceFault, Down as IsDown, OutOfTurn}
use Rattle.lc_model.specs.declared.reply.Reply.{Reply}
use Rattle.lc_model.specs.declared.reply.Reply.TheVariants.{Stepped, Recovered, Refused}
use Rattle.lc_recover.specs.Fault.{IsRefusal}
use Rattle.lc_recover.specs.Reads.{AreHonest, HaveLengths, area_count, store_of}
use Rattle.lc_recover.specs.Recovery.{Recovering, begun, IsDone, IsLast, IsMerged, IsMergeNext, Tells, all_steps}
use Rattle.lc_recover.specs.Steps.{first_steps}
use Rattle.lc_recover.specs.declared.fault.RecoverFault.{RecoverFault}
use Rattle.lc_recover.specs.declared.fault.RecoverFault.TheVariants.{BadGeometry, Gap, Twice, OutOfSegment, DeviceFault as Failed, NoMemory}
use Rattle.lc_recover.specs.declared.progress.Progress.{Progress}
use Rattle.lc_recover.specs.declared.progress.Progress.TheVariants.{Stepped as HasStepped, Recovered as HasRecovered}
use Rattle.lc_core.specs.Anew.{StartsAnew}
use Rattle.lc_recover.specs.Fault.{refusal_to}
use Rattle.lc_core.specs.Recovering.{RepliesTo}
use Rattle.lc_core.specs.Recovers.{AnswersRecovery, RecoversDown, RefusesAtOnce, at_once, is_recovery}
use Rattle.lc_core.specs.declared.world_phase.WorldPhase.{WorldPhase}
use Rattle.lc_core.specs.declared.world_phase.WorldPhase.TheVariants.{Down, Up, Taken}
use Rattle.lc_core.specs.declared.up.Up.{Up as Rising}
use Rattle.lc_core.proofs.Anew.{starts_anew}
use Rattle.lc_core.proofs.Recoveries.{down_same, if_ok_at, stepped_same}

pub no_recovery : (event : Event) → (event ≡ RecoverStep → ⊥) → is_recovery event ≡ false
no_recovery (Begin node thread segments reading) other = refl
no_recovery (SetRange node thread segment offset len) other = refl
no_recovery (Write node thread segment offset bytes) other = refl
no_recovery (Read node thread segment offset len) other = refl
no_recovery (Abort node thread) other = refl
no_recovery (Reserve node thread) other = refl
no_recovery (Close node thread) other = refl
no_recovery (FlushStep node) other = refl
no_recovery (Leave node segment) other = refl
no_recovery (Arrive node segment) other = refl
no_recovery (Deliver sender number segment to) other = refl
no_recovery (Trim node) other = refl
no_recovery (PageStep node segment page) other = refl
no_recovery (ResetStep node) other = refl
no_recovery (Stop choices) other = refl
no_recovery RecoverStep other = absurd (other refl)

module _ {D : Type 0} (a : Ghosts D) where
  -- what a step of a recovery says of itself
  pub record StepSays (r new : Recovering D) (result : Result Progress RecoverFault) : Type 0 where
    pub geometry : new.geometry ≡ r.geometry
    pub progress : IfOk result (λ progress. Tells progress new)
    pub steps : OnOk result (new.steps ≡ r.steps + 1)
    pub again : IfErr result (λ fault. (fault ≡ NoMemory → ⊥) → new ≡ begun r.geometry new.areas)
    pub no_call : IsMergeNext r → new.areas ≡ r.areas
    pub fault : IfErr result (λ fault. (IsMergeNext r → ⊥) → (fault ≡ NoMemory) ⊎ (fault ≡ Failed))
    pub merged : OnOk result (IsMergeNext r → AreHonest a r.areas → IsMerged a new)
    pub refused : IfErr result (λ fault. IsMergeNext r → AreHonest a r.areas → IsRefusal (store_of r.geometry (map a.now r.areas)) fault)
    pub bound : new.steps ≤ all_steps new.geometry (new.geometry.segments * new.geometry.pages)
    pub honest : AreHonest a r.areas → AreHonest a new.areas
    pub reads : r.steps + 1 < first_steps r.geometry → AreHonest a r.areas → map a.now new.areas ≡ map a.now r.areas
    pub pages : OnOk result ((pages : ℕ) → r.pages ≡ Some pages → new.pages ≡ Some pages)
    pub lengths : HaveLengths a new.geometry new.areas
    pub clean : AreHonest a new.areas → area_count new.geometry ≤ new.steps → new.steps ≤ first_steps new.geometry
        → (k : ℕ) (area : D) → slice_get new.areas k ≡ Some area → (at : ℕ) → a.dirty area at ≡ false

  -- the last step is none of the merge
  pub last_apart : (r : Recovering D) → IsLast r → IsMergeNext r → ⊥
  last_apart r last next = (let some = r.geometry.some_nodes in absurd (omega (arith, last.2, next, some)))

  module _ (r new : Recovering D) where
    -- the merge changes no area
    same_store : new.geometry ≡ r.geometry → new.areas ≡ r.areas → store_of new.geometry (map a.now new.areas) ≡ store_of r.geometry (map a.now r.areas)
    same_store geometry areas = ap (λ (g : Geometry). store_of g (map a.now new.areas)) geometry ∙ ap (λ (l : List D). store_of r.geometry (map a.now l)) areas

    -- the merge leaves areas that read as what they hold
    begins_anew : {steps : ℕ} → StepSays r new (Ok (HasStepped steps)) → IsMergeNext r → AreHonest a r.areas → StartsAnew a new.geometry new.steps (Down new)
    begins_anew says next honest =
        let nodes = ap (λ (g : Geometry). g.nodes) says.geometry in
        let segments = ap (λ (g : Geometry). g.segments) says.geometry in
        let now : AreHonest a new.areas = says.honest honest in
        starts_anew a new now says.lengths (says.merged next honest)
        (says.clean now (omega (arith, says.steps, next, nodes, segments)) (omega (arith, says.steps, next, nodes, segments)))

    step_answers : (steps : ℕ) → StepSays r new (Ok (HasStepped steps)) → AnswersRecovery a r (Stepped steps) (Down new)
    step_answers steps says = record {
      stepped = λ other same. (
        sym (stepped_same steps other same) ∙ says.progress.0 ∙ says.steps,
        (new, refl, says.geometry, sym says.progress.0 ∙ stepped_same steps other same),
      );
      recovered = λ same. absurd cc;
      refused = λ refusal same. absurd cc;
      merged = λ next honest. (let merged = says.merged next honest in
          inl (
            merged.content,
            merged.numbers,
            subst (λ (store : StoreText). MergesTo store merged.content merged.numbers) (same_store says.geometry (says.no_call next)) merged.merges,
            (steps, refl),
          ));
      called = λ other. inl (steps, refl);
      few = λ other same. subst (λ (k : ℕ). k ≤ all_steps r.geometry (r.geometry.segments * r.geometry.pages)) (sym says.progress.0 ∙ stepped_same steps other same)
          (subst (λ (g : Geometry). new.steps ≤ all_steps g (g.segments * g.pages)) says.geometry says.bound);
      reads = λ later is early honest other same. subst (λ (v : Recovering D). AreHonest a v.areas × (map a.now v.areas ≡ map a.now r.areas)) (down_same a new later is)
          (says.honest honest, says.reads early honest);
      pages = λ later is other same pages was. subst (λ (v : Recovering D). v.pages ≡ Some pages) (down_same a new later is) (says.pages pages was);
      ends = λ last. absurd (says.progress.1 (last.0, says.pages last.0 last.1, says.steps ∙ last.2 ∙ ap (λ (v : Geometry). all_steps v last.0) (sym says.geometry)));
      found = λ next honest later is other same. subst (λ (v : Recovering D). IsMerged a v) (down_same a new later is) (says.merged next honest);
      anew = λ next honest other same. subst (λ (k : ℕ). StartsAnew a r.geometry k (Down new)) (sym says.progress.0 ∙ stepped_same steps other same)
          (subst (λ (g : Geometry). StartsAnew a g new.steps (Down new)) says.geometry (begins_anew says next honest));
    }

    fault_answers : (fault : RecoverFault) (refusal : Refusal) → refusal_to fault ≡ Some refusal → (fault ≡ NoMemory → ⊥) → StepSays r new (Err fault) → AnswersRecovery a r (Refused refusal) (Down new)
    fault_answers fault refusal is some says = record {
      stepped = λ steps same. absurd cc;
      recovered = λ same. absurd cc;
      refused = λ other same. (new.areas, ap (λ (v : Recovering D). Down v) (says.again some));
      merged = λ next honest. inr (fault, refusal, says.refused next honest, is, refl);
      called = λ other. elim (says.fault other) [
        | inl none ↦ absurd (some none)
        | inr failed ↦ inr (inr (ap (λ (v : Refusal). Refused v) (same_some refusal DeviceFault (sym is ∙ ap refusal_to failed))))
      ];
      few = λ steps same. absurd cc;
      reads = λ later is early honest steps same. absurd cc;
      pages = λ later is steps same. absurd cc;
      ends = λ last. elim (says.fault (last_apart r last)) [
        | inl none ↦ absurd (some none)
        | inr failed ↦ inr (ap (λ (v : Refusal). Refused v) (same_some refusal DeviceFault (sym is ∙ ap refusal_to failed)))
      ];
      found = λ next honest later is steps same. absurd cc;
      anew = λ next honest steps same. absurd cc;
    }

    refusal_answers : {E : Type 0} (fault : RecoverFault) (answer : Result Reply E) → RepliesTo (Err fault) answer → StepSays r new (Err fault) → IfOk answer (λ reply. AnswersRecovery a r reply (Down new))
    refusal_answers (BadGeometry area) answer replies says = if_ok_at answer _ _ replies (fault_answers (BadGeometry area) _ refl (λ e. absurd cc) says)
    refusal_answers (Gap segment seq) answer replies says = if_ok_at answer _ _ replies (fault_answers (Gap segment seq) _ refl (λ e. absurd cc) says)
    refusal_answers (Twice segment seq) answer replies says = if_ok_at answer _ _ replies (fault_answers (Twice segment seq) _ refl (λ e. absurd cc) says)
    refusal_answers (OutOfSegment area) answer replies says = if_ok_at answer _ _ replies (fault_answers (OutOfSegment area) _ refl (λ e. absurd cc) says)
    refusal_answers Failed answer replies says = if_ok_at answer _ _ replies (fault_answers Failed _ refl (λ e. absurd cc) says)
    refusal_answers NoMemory answer replies says = IfOk-from_err answer _ replies

    down_answers : {E : Type 0} (result : Result Progress RecoverFault) (answer : Result Reply E) → RepliesTo result answer → StepSays r new result → ((p : Progress) → result ≡ Ok p → IsDone new → ⊥)
        → IfOk answer (λ reply. AnswersRecovery a r reply (Down new))
    down_answers (Ok (HasStepped steps)) answer replies says going = if_ok_at answer _ _ replies (step_answers steps says)
    down_answers (Ok HasRecovered) answer replies says going = absurd (going HasRecovered refl says.progress)
    down_answers (Err fault) answer replies says going = refusal_answers fault answer replies says

    pub down_recovers : {E : Type 0} (old : WorldPhase D a) → old ≡ Down r → (result : Result Progress RecoverFault) (answer : Result Reply E) → RepliesTo result answer → StepSays r new result
        → ((p : Progress) → result ≡ Ok p → IsDone new → ⊥) → IfOk answer (λ reply. RecoversDown a old reply (Down new))
    down_recovers old is result answer replies says going = IfOk-weaker answer _ _
        (λ reply answers other same. subst (λ (v : Recovering D). AnswersRecovery a v reply (Down new)) (down_same a r other (sym is ∙ same)) answers)
        (down_answers result answer replies says going)

  pub risen_recovers : (old : WorldPhase D a) (r : Recovering D) → old ≡ Down r → IsLast r → (up : Rising D a) → RecoversDown a old Recovered (Up up)
  risen_recovers old r is last up other same = subst (λ (v : Recovering D). AnswersRecovery a v Recovered (Up up)) (down_same a r other (sym is ∙ same)) (record {
    stepped = λ steps same. absurd cc;
    recovered = λ _. (last, (up, refl));
    refused = λ refusal same. absurd cc;
    merged = λ next honest. absurd (last_apart r last next);
    called = λ apart. inr (inl refl);
    few = λ steps same. absurd cc;
    reads = λ later is early honest steps same. absurd cc;
    pages = λ later is steps same. absurd cc;
    ends = λ its. inl refl;
    found = λ next honest later is steps same. absurd cc;
    anew = λ next honest steps same. absurd cc;
  })

  -- What is refused at once

  pub up_refuses : (phase : WorldPhase D a) → ((r : Recovering D) → phase ≡ Down r → ⊥) → RefusesAtOnce a phase RecoverStep (Refused OutOfTurn) phase
  up_refuses (Down r) not_down refusal is = absurd (not_down r refl)
  up_refuses (Up up) not_down refusal is = (ap (λ (v : Refusal). Refused v) (same_some OutOfTurn refusal is), refl)
  up_refuses Taken not_down refusal is = (ap (λ (v : Refusal). Refused v) (same_some OutOfTurn refusal is), refl)

  pub down_refuses : (phase : WorldPhase D a) (event : Event) → ((up : Rising D a) → phase ≡ Up up → ⊥) → works_up event ≡ true → RefusesAtOnce a phase event (Refused IsDown) phase
  down_refuses phase event not_up works refusal is = one phase not_up is
    where
      down_is : (rest : Option Refusal) → (if works_up event then Some IsDown else rest) ≡ Some refusal → Refused IsDown ≡ Refused refusal
      down_is rest is = ap (λ (v : Refusal). Refused v) (same_some IsDown refusal (sym (ap (λ (b : Bool). if b then Some IsDown else rest) works) ∙ is))

      one : (p : WorldPhase D a) → ((up : Rising D a) → p ≡ Up up → ⊥) → at_once a p event ≡ Some refusal → (Refused IsDown ≡ Refused refusal) × (phase ≡ phase)
      one (Down r) not_up is = (down_is None is, refl)
      one (Up up) not_up is = absurd (not_up up refl)
      one Taken not_up is = (down_is _ is, refl)

  -- a store that is down recovers, and one that is up does all else
  pub down_asks : (phase : WorldPhase D a) (r : Recovering D) → phase ≡ Down r → (reply : Reply) (new : WorldPhase D a) → RefusesAtOnce a phase RecoverStep reply new
  down_asks phase r is reply new refusal refused = absurd (let no : None ≡ Some refusal = ap (λ p. at_once a p RecoverStep) (sym is) ∙ refused in cc)

  pub up_asks : (phase : WorldPhase D a) (up : Rising D a) → phase ≡ Up up → (event : Event) → (event ≡ RecoverStep → ⊥) → (reply : Reply) (new : WorldPhase D a) → RefusesAtOnce a phase event reply new
  up_asks phase up is event other reply new refusal refused =
      absurd (let no : None ≡ Some refusal = sym (ap (λ (b : Bool). if b then Some OutOfTurn else None) (no_recovery event other)) ∙ ap (λ p. at_once a p event) (sym is) ∙ refused in cc)

  -- any store takes a stop
  pub stop_asks : (phase : WorldPhase D a) (event : Event) (choices : List (List Choice)) → event ≡ Stop choices → (reply : Reply) (new : WorldPhase D a) → RefusesAtOnce a phase event reply new
  stop_asks phase event choices is reply new refusal refused =
      absurd (let no : None ≡ Some refusal = sym (none phase) ∙ ap (at_once a phase) (sym is) ∙ refused in cc)
    where
      none : (p : WorldPhase D a) → at_once a p (Stop choices) ≡ None
      none (Down r) = refl
      none (Up up) = refl
      none Taken = refl
