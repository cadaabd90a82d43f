-- What a step of a recovery, what comes up after it, and a run count of failures.
use Rattle.std.proofs.Common.{◌≡◌, ◌⊎◌, ℕ, zero, suc, ◌+◌, ◌≤◌, true, false, List, [], ◌∷◌, ◌++◌, length, take, drop, Option, Some, slice_get, slice_set, refl, sym, ap, subst, ◌∙◌, inl, inr, arith, true≢false}
use Rattle.std.specs.Prelude.{Result, Ok, Err, IfOk, IfErr, option_map, is_ok}
use Rattle.std.proofs.lemmas.Bool.{cases_eq}
use Rattle.std.proofs.lemmas.List.{map-set, map-append, take-append-drop}
use Rattle.std.proofs.lemmas.Option.{slice_get-map}
use Rattle.std.proofs.lemmas.Result.{IfOk-from_err}
use Rattle.lc_disk.specs.declared.area.Area.{Ghosts}
use Rattle.lc_model.specs.declared.event.Event.{Event}
use Rattle.lc_model.specs.declared.reply.Reply.{Reply}
use Rattle.lc_model.specs.declared.reply.Reply.TheVariants.{Stepped, Recovered}
use Rattle.lc_record.specs.declared.geometry.Geometry.{Geometry}
use Rattle.lc_recover.specs.Reads.{area_count}
use Rattle.lc_recover.specs.Recovery.{Recovering, IsMergeNext, MakesItsCall}
use Rattle.lc_recover.specs.RecoveryPhase.{OneCall}
use Rattle.lc_recover.specs.Steps.{first_steps}
use Rattle.lc_recover.specs.declared.fault.RecoverFault.{RecoverFault}
use Rattle.lc_recover.specs.declared.fault.RecoverFault.TheVariants.{BadGeometry, Gap, Twice, OutOfSegment, DeviceFault as Failed, NoMemory}
use Rattle.lc_recover.specs.declared.progress.Progress.{Progress}
use Rattle.lc_recover.specs.declared.progress.Progress.TheVariants.{Stepped as HasStepped, Recovered as HasRecovered}
use Rattle.lc_recover.proofs.Images.{count-areas}
use Rattle.lc_events.specs.FaultReplies.{CountsFaults, FailsOnce}
use Rattle.lc_journal.specs.FaultReplies.{is_fault}
use Rattle.lc_core.specs.Faults.{CountsAll, CountsPhase, area_failures, phase_failures}
use Rattle.lc_events.specs.Faults.{CountsLogs, SameLogs, log_failures, logs_of}
use Rattle.lc_journal.specs.Log.{area_of}
use Rattle.lc_core.specs.Pages.{areas_of}
use Rattle.lc_desk.specs.Places.{same_map_set}
use Rattle.lc_core.specs.Recovering.{ComesUp, RepliesTo}
use Rattle.lc_journal.specs.declared.log.Log.{Log}
use Rattle.lc_events.specs.declared.node_state.NodeState.{NodeState}
use Rattle.lc_desk.specs.declared.pages.Pages.{Pages}
use Rattle.lc_core.specs.declared.world_phase.WorldPhase.{WorldPhase}
use Rattle.lc_core.specs.declared.world_phase.WorldPhase.TheVariants.{Down, Up}
use Rattle.lc_events.specs.declared.running.Running.{Running}
use Rattle.lc_core.specs.declared.up.Up.{Up as Rising}
use Rattle.lc_core.proofs.Recoveries.{if_ok_at}

-- Replies, one after another

pub no_faults : (reply : Reply) (olds news : List (Option ℕ)) → is_fault reply ≡ false → news ≡ olds → CountsFaults reply olds news
no_faults reply olds news plain same = record { fault = λ is. absurd (true≢false (sym is ∙ plain)); none = λ _. same }

pub one_fault : (reply : Reply) (olds news : List (Option ℕ)) → is_fault reply ≡ true → FailsOnce olds news → CountsFaults reply olds news
one_fault reply olds news told once = record { fault = λ _. once; none = λ is. absurd (true≢false (sym told ∙ is)) }

pub counts_more : (replies : List Reply) (olds mids news : List (Option ℕ)) (reply : Reply) → CountsAll replies olds mids → CountsFaults reply mids news → CountsAll (replies ++ reply ∷ []) olds news
counts_more [] olds mids news reply all one = (news, subst (λ (counts : List (Option ℕ)). CountsFaults reply counts news) all one, refl)
counts_more (first ∷ replies) olds mids news reply all one = (all.0, all.1, counts_more replies all.0 mids news reply all.2 one)

module _ {D : Type 0} (a : Ghosts D) where
  abbrev failures_at : D → Option ℕ
  failures_at area = Some (a.failures area)

  -- A call of an area

  call_made : (at : ℕ) (olds news : List D) → OneCall a at olds news true → area_failures a news ≡ area_failures a olds
  call_made at olds news call = ap (area_failures a) call.is ∙ same_map_set failures_at olds at call.old call.new call.was (ap (λ (n : ℕ). Some n) call.counted)

  call_failed : (at : ℕ) (olds news : List D) → OneCall a at olds news false → FailsOnce (area_failures a olds) (area_failures a news)
  call_failed at olds news call = record {
    at = at;
    count = a.failures call.old;
    was = slice_get-map failures_at olds at ∙ ap (option_map failures_at) call.was;
    is = ap (area_failures a) call.is ∙ map-set failures_at olds at call.new ∙ ap (λ (n : ℕ). slice_set (area_failures a olds) at (Some n)) call.counted;
  }

  -- what a step of a recovery calls
  pub record StepCalls (r new : Recovering D) (result : Result Progress RecoverFault) : Type 0 where
    pub call : (IsMergeNext r → ⊥) → (result ≡ Err NoMemory → ⊥) → MakesItsCall a r new.areas (is_ok result)
    pub no_call : IsMergeNext r → new.areas ≡ r.areas
    pub fault : IfErr result (λ fault. (IsMergeNext r → ⊥) → (fault ≡ NoMemory) ⊎ (fault ≡ Failed))
    pub merge_fault : IfErr result (λ fault. IsMergeNext r → fault ≡ Failed → ⊥)

  module _ (r new : Recovering D) where
    pub step_made : (p : Progress) → StepCalls r new (Ok p) → area_failures a new.areas ≡ area_failures a r.areas
    step_made p calls = elim (cases_eq (r.steps + 1) (first_steps r.geometry)) [
      | inl merges ↦ ap (area_failures a) (calls.no_call merges)
      | inr other ↦ (let call = calls.call other (λ e. absurd cc) in call_made call.0 r.areas new.areas call.2)
    ]

    -- a fault of the merge
    merge_same : (fault : RecoverFault) → (fault ≡ NoMemory → ⊥) → (fault ≡ Failed → ⊥) → StepCalls r new (Err fault) → area_failures a new.areas ≡ area_failures a r.areas
    merge_same fault some none calls = elim (cases_eq (r.steps + 1) (first_steps r.geometry)) [
      | inl merges ↦ ap (area_failures a) (calls.no_call merges)
      | inr other ↦ (elim (calls.fault other) [ inl e ↦ absurd (some e) | inr e ↦ absurd (none e) ])
    ]

    device_once : StepCalls r new (Err Failed) → FailsOnce (area_failures a r.areas) (area_failures a new.areas)
    device_once calls = elim (cases_eq (r.steps + 1) (first_steps r.geometry)) [
      | inl merges ↦ absurd (calls.merge_fault merges refl)
      | inr other ↦ (let call = calls.call other (λ e. absurd cc) in call_failed call.0 r.areas new.areas call.2)
    ]

    fault_counts : {E : Type 0} (fault : RecoverFault) (answer : Result Reply E) → RepliesTo (Err fault) answer → StepCalls r new (Err fault)
        → IfOk answer (λ reply. CountsFaults reply (area_failures a r.areas) (area_failures a new.areas))
    fault_counts (BadGeometry area) answer replies calls = if_ok_at answer _ _ replies (no_faults _ _ _ refl (merge_same (BadGeometry area) (λ e. absurd cc) (λ e. absurd cc) calls))
    fault_counts (Gap segment seq) answer replies calls = if_ok_at answer _ _ replies (no_faults _ _ _ refl (merge_same (Gap segment seq) (λ e. absurd cc) (λ e. absurd cc) calls))
    fault_counts (Twice segment seq) answer replies calls = if_ok_at answer _ _ replies (no_faults _ _ _ refl (merge_same (Twice segment seq) (λ e. absurd cc) (λ e. absurd cc) calls))
    fault_counts (OutOfSegment area) answer replies calls = if_ok_at answer _ _ replies (no_faults _ _ _ refl (merge_same (OutOfSegment area) (λ e. absurd cc) (λ e. absurd cc) calls))
    fault_counts Failed answer replies calls = if_ok_at answer _ _ replies (one_fault _ _ _ refl (device_once calls))
    fault_counts NoMemory answer replies calls = IfOk-from_err answer _ replies

    down_counts : {E : Type 0} (result : Result Progress RecoverFault) (answer : Result Reply E) → RepliesTo result answer → StepCalls r new result
        → IfOk answer (λ reply. CountsFaults reply (area_failures a r.areas) (area_failures a new.areas))
    down_counts (Ok (HasStepped steps)) answer replies calls = if_ok_at answer _ _ replies (no_faults (Stepped steps) _ _ refl (step_made (HasStepped steps) calls))
    down_counts (Ok HasRecovered) answer replies calls = if_ok_at answer _ _ replies (no_faults Recovered _ _ refl (step_made HasRecovered calls))
    down_counts (Err fault) answer replies calls = fault_counts fault answer replies calls

    pub phase_counts : {E : Type 0} (old : WorldPhase D a) → old ≡ Down r → (result : Result Progress RecoverFault) (answer : Result Reply E) → RepliesTo result answer → StepCalls r new result
        → IfOk answer (λ reply. CountsPhase a old reply (Down new))
    phase_counts old is result answer replies calls =
        subst (λ (p : WorldPhase D a). IfOk answer (λ reply. CountsPhase a p reply (Down new))) (sym is) (down_counts result answer replies calls)

  -- want of memory
  pub down_failures : (old : WorldPhase D a) (r new : Recovering D) → old ≡ Down r → new ≡ r → phase_failures a (Down new) ≡ phase_failures a old
  down_failures old r new is same = ap (λ (v : Recovering D). area_failures a v.areas) same ∙ ap (phase_failures a) (sym is)

  -- What has come up

  fronts : (nodes : List (NodeState D a)) (areas : List D) → ((n : ℕ) (node : NodeState D a) → slice_get nodes n ≡ Some node → area_of a node.journal.log ≡ slice_get areas n)
      → length nodes ≤ length areas → log_failures a (logs_of a nodes) ≡ area_failures a (take (length nodes) areas)
  fronts [] areas each few = refl
  fronts (node ∷ nodes) [] each few = absurd (omega (arith, few))
  fronts (node ∷ nodes) (area ∷ areas) each few =
      ap (λ (o : Option ℕ). o ∷ log_failures a (logs_of a nodes)) (ap (option_map a.failures) (each zero node refl))
      ∙ ap (λ (os : List (Option ℕ)). failures_at area ∷ os) (fronts nodes areas (λ n other got. each (suc n) other got) (omega (arith, few)))

  -- those of the logs and those of the segments after them are those of all areas
  pub beside_segments : (nodes : List (NodeState D a)) (segments : List (Pages D a)) (areas : List D) (n : ℕ)
      → ((k : ℕ) (node : NodeState D a) → slice_get nodes k ≡ Some node → area_of a node.journal.log ≡ slice_get areas k) → areas_of a segments ≡ drop n areas → length nodes ≡ n → n ≤ length areas
      → log_failures a (logs_of a nodes) ++ area_failures a (areas_of a segments) ≡ area_failures a areas
  beside_segments nodes segments areas n each are number few =
      ap (λ (os : List (Option ℕ)). os ++ area_failures a (areas_of a segments))
      (fronts nodes areas each (omega (arith, few, number)) ∙ ap (λ (k : ℕ). area_failures a (take k areas)) number)
      ∙ ap (λ (behind : List D). area_failures a (take n areas) ++ area_failures a behind) are
      ∙ sym (map-append failures_at (take n areas) (drop n areas))
      ∙ ap (area_failures a) (take-append-drop n areas)

  pub up_failures : (r : Recovering D) (up : Rising D a) → ComesUp a r up → phase_failures a (Up up) ≡ area_failures a r.areas
  up_failures r up came =
      let counted : length r.areas ≡ area_count r.geometry = count-areas a r.geometry r.areas came.lengths in
      beside_segments up.running.nodes.items up.segments.items r.areas r.geometry.nodes came.log_areas came.segments
      (sym up.running.nodes.ok.0 ∙ up.running.all_nodes ∙ ap (λ (g : Geometry). g.nodes) came.same_geometry) (omega (arith, counted))

  pub risen_counts : (old : WorldPhase D a) (r new : Recovering D) → old ≡ Down r → (result : Result Progress RecoverFault) → ((fault : RecoverFault) → result ≡ Err fault → ⊥) → StepCalls r new result
      → (up : Rising D a) → ComesUp a new up → CountsPhase a old Recovered (Up up)
  risen_counts old r new is (Ok p) well calls up came =
      subst (λ (q : WorldPhase D a). CountsPhase a q Recovered (Up up)) (sym is) (no_faults Recovered _ _ refl (up_failures new up came ∙ step_made r new p calls))
  risen_counts old r new is (Err fault) well calls up came = absurd (well fault refl)

  -- A step of a store that is up

  pub up_counts : (up : Rising D a) (event : Event) (reply : Reply) (new : Running D a) → CountsLogs a up.running event reply new
      → CountsFaults reply (phase_failures a (Up up)) (log_failures a (logs_of a new.nodes.items) ++ area_failures a (areas_of a up.segments.items))
  up_counts up event reply new counts = beside counts.counts
    where
      rest : List (Option ℕ)
      rest = area_failures a (areas_of a up.segments.items)

      get_front : (xs ys : List (Option ℕ)) (k : ℕ) (x : Option ℕ) → slice_get xs k ≡ Some x → slice_get (xs ++ ys) k ≡ Some x
      get_front [] ys k x got = absurd cc
      get_front (y ∷ xs) ys zero x got = got
      get_front (y ∷ xs) ys (suc k) x got = get_front xs ys k x got

      set_front : (xs ys : List (Option ℕ)) (k : ℕ) (x y : Option ℕ) → slice_get xs k ≡ Some x → slice_set xs k y ++ ys ≡ slice_set (xs ++ ys) k y
      set_front [] ys k x y got = absurd cc
      set_front (z ∷ xs) ys zero x y got = refl
      set_front (z ∷ xs) ys (suc k) x y got = ap (λ (os : List (Option ℕ)). z ∷ os) (set_front xs ys k x y got)

      beside : {olds news : List (Option ℕ)} → CountsFaults reply olds news → CountsFaults reply (olds ++ rest) (news ++ rest)
      beside {olds} {news} counts = record {
        fault = λ is. (let once = counts.fault is in record {
          at = once.at;
          count = once.count;
          was = get_front olds rest once.at (Some once.count) once.was;
          is = ap (λ (os : List (Option ℕ)). os ++ rest) once.is ∙ set_front olds rest once.at (Some once.count) (Some (once.count + 1)) once.was;
        });
        none = λ is. ap (λ (os : List (Option ℕ)). os ++ rest) (counts.none is);
      }

  pub up_still_failed : (up : Rising D a) (new : Running D a) → SameLogs a up.running new
      → log_failures a (logs_of a new.nodes.items) ++ area_failures a (areas_of a up.segments.items) ≡ phase_failures a (Up up)
  up_still_failed up new same = ap (λ (logs : List (Log D a)). log_failures a logs ++ area_failures a (areas_of a up.segments.items)) same.logs
