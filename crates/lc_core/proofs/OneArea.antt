-- An event makes one call of an area just where its reply tells of one.
use Rattle.std.proofs.Common.{◌≡◌, ℕ, zero, suc, ◌+◌, ◌-◌, ◌*◌, ◌<◌, ◌≤◌, Bool, true, false, List, [], ◌∷◌, drop, length, map, Option, Some, None, slice_get, slice_set, refl, sym, ap, subst, ◌∙◌, inl, inr, arith}
use Rattle.std.specs.Prelude.{Result, Ok, Err, IfOk, OnErr, OnOk, is_ok, not, option_map}
use Rattle.std.proofs.lemmas.Bool.{cases_eq}
use Rattle.std.proofs.lemmas.List.{length-map, length-set, map-set, drop-set-lt}
use Rattle.std.proofs.lemmas.Option.{slice_get-map, slice_get_within, same_Some as same_some}
use Rattle.std.proofs.lemmas.Result.{IfOk-from_err, IfOk-weaker}
use Rattle.lc_disk.specs.declared.area.Area.{Ghosts}
use Rattle.lc_record.specs.declared.geometry.Geometry.{Geometry}
use Rattle.lc_record.proofs.ListLemmas.{slice_get-map_some as get-map, slice_get-drop as get-drop}
use Rattle.lc_log.specs.OneCall.{IsOneCall}
use Rattle.lc_model.specs.declared.event.Event.{Event}
use Rattle.lc_model.specs.declared.event.Event.TheVariants.{PageStep, RecoverStep}
use Rattle.lc_model.specs.declared.reply.Reply.{Reply}
use Rattle.lc_model.specs.declared.reply.Reply.TheVariants.{Stepped, Recovered}
use Rattle.lc_recover.specs.Reads.{area_count}
use Rattle.lc_recover.specs.Recovery.{Recovering, IsDone, IsMergeNext, Tells, all_steps}
use Rattle.lc_recover.specs.RecoveryPhase.{OneCall}
use Rattle.lc_recover.specs.Steps.{first_steps}
use Rattle.lc_recover.specs.declared.fault.RecoverFault.{RecoverFault}
use Rattle.lc_recover.specs.declared.fault.RecoverFault.TheVariants.{BadGeometry, Gap, Twice, OutOfSegment, DeviceFault as Failed, NoMemory}
use Rattle.lc_recover.specs.declared.progress.Progress.{Progress}
use Rattle.lc_recover.specs.declared.progress.Progress.TheVariants.{Stepped as HasStepped, Recovered as HasRecovered}
use Rattle.lc_recover.proofs.Images.{count-areas}
use Rattle.lc_core.specs.Areas.{AreOf}
use Rattle.lc_events.specs.CallReplies.{CalledAs, CalledIf, calls_log}
use Rattle.lc_core.specs.CallReplies.{calls_area}
use Rattle.lc_journal.specs.CallReplies.{tells_call}
use Rattle.lc_core.specs.Calls.{CallsArea, CallsOne, CallsTold, CallsWhere, KeepsAreas}
use Rattle.lc_events.specs.FaultReplies.{CallsOneOf}
use Rattle.lc_journal.specs.FaultReplies.{is_fault}
use Rattle.lc_events.specs.Faults.{CallsLog, CountsLogs, SameLogAreas, SameLogs, areas_in, logs_of}
use Rattle.lc_journal.specs.Log.{area_of}
use Rattle.lc_core.specs.Pages.{areas_of}
use Rattle.lc_desk.specs.Places.{get_set_other, get_set_same}
use Rattle.lc_core.specs.Recovering.{ComesUp, RepliesTo}
use Rattle.lc_events.specs.Stepping.{is_plain}
use Rattle.lc_core.specs.Stops.{HasAreas}
use Rattle.lc_events.specs.declared.node_state.NodeState.{NodeState}
use Rattle.lc_desk.specs.declared.pages.Pages.{Pages}
use Rattle.lc_core.specs.declared.world_phase.WorldPhase.{WorldPhase}
use Rattle.lc_core.specs.declared.world_phase.WorldPhase.TheVariants.{Down, Up}
use Rattle.lc_core.specs.declared.up.Up.{Up as Rising}
use Rattle.lc_core.proofs.CallsTold.{log_called_by, plain_calls, step_free, step_other}
use Rattle.lc_core.proofs.Failures.{StepCalls}
use Rattle.lc_core.proofs.Recoveries.{if_ok_at}
use Rattle.lc_desk.proofs.Seating.{set_same}

set_drop : {A : Type 0} (xs : List A) (n k : ℕ) (y : A) → slice_set (drop n xs) k y ≡ drop n (slice_set xs (n + k) y)
set_drop xs zero k y = (let same : k ≡ 0 + k = omega arith in ap (λ (i : ℕ). slice_set xs i y) same)
set_drop [] (suc n) k y = refl
set_drop (x ∷ xs) (suc n) k y =
    let next : suc (n + k) ≡ suc n + k = omega arith in
    set_drop xs n k y ∙ ap (λ (i : ℕ). drop (suc n) (slice_set (x ∷ xs) i y)) next

module _ {D : Type 0} (a : Ghosts D) where
  pub calls_none : (phase : WorldPhase D a) (event : Event) (reply : Reply) → ((g : Geometry) → calls_area g event reply ≡ false) → CallsArea a phase event reply phase
  calls_none phase event reply none g areas has = (areas, has, subst (λ (b : Bool). CallsWhere a b g event areas areas) (sym (none g)) refl)

  -- at their places, as far as there are logs
  abbrev LogsAre : List (Option D) → List D → Type 0
  LogsAre logs areas = (n : ℕ) (o : Option D) → slice_get logs n ≡ Some o → o ≡ slice_get areas n

  got_log : (nodes : List (NodeState D a)) (n : ℕ) (node : NodeState D a) → slice_get nodes n ≡ Some node → slice_get (areas_in a nodes) n ≡ Some (area_of a node.journal.log)
  got_log nodes n node at =
      slice_get-map (area_of a) (logs_of a nodes) n
      ∙ ap (option_map (area_of a)) (slice_get-map (λ (its : NodeState D a). its.journal.log) nodes n ∙ ap (option_map (λ (its : NodeState D a). its.journal.log)) at)

  logs_at : (nodes : List (NodeState D a)) (areas : List D) → ((n : ℕ) (node : NodeState D a) → slice_get nodes n ≡ Some node → area_of a node.journal.log ≡ slice_get areas n) → LogsAre (areas_in a nodes) areas
  logs_at nodes areas each n o got = elim (slice_get nodes n) as (λ (v : Option (NodeState D a)). slice_get nodes n ≡ v → o ≡ slice_get areas n) [
    | None ↦ λ none.
        absurd (let no : None ≡ Some o =
        ap (λ (v : Option (NodeState D a)). option_map (area_of a) (option_map (λ (its : NodeState D a). its.journal.log) v)) (sym none)
        ∙ ap (option_map (area_of a)) (sym (slice_get-map (λ (its : NodeState D a). its.journal.log) nodes n)) ∙ sym (slice_get-map (area_of a) (logs_of a nodes) n) ∙ got in cc)
    | Some node ↦ λ there. same_some o (area_of a node.journal.log) (sym got ∙ got_log nodes n node there) ∙ each n node there
  ] refl

  count_in : (nodes : List (NodeState D a)) → length (areas_in a nodes) ≡ length nodes
  count_in nodes = length-map (logs_of a nodes) (area_of a) ∙ length-map nodes (λ (its : NodeState D a). its.journal.log)

  set_logs : (logs : List (Option D)) (areas : List D) (at : ℕ) (old new : D) → LogsAre logs areas → slice_get logs at ≡ Some (Some old) → LogsAre (slice_set logs at (Some new)) (slice_set areas at new)
  set_logs logs areas at old new are was n o got = elim (cases_eq n at) [
    | inl same ↦
        let here : slice_get (slice_set logs at (Some new)) at ≡ Some o = subst (λ (i : ℕ). slice_get (slice_set logs at (Some new)) i ≡ Some o) same got in
        same_some o (Some new) (sym here ∙ get_set_same logs at (Some old) (Some new) was)
        ∙ sym (get_set_same areas at old new (sym (are at (Some old) was))) ∙ ap (slice_get (slice_set areas at new)) (sym same)
    | inr differ ↦ are n o (sym (get_set_other logs at n (Some new) differ) ∙ got) ∙ sym (get_set_other areas at n new differ)
  ]

  -- A store that is up

  module _ (up later : Rising D a) (geometry : later.running.geometry ≡ up.running.geometry) (areas : List D) (are : AreOf a up areas) where
    nodes_count : length up.running.nodes.items ≡ up.running.geometry.nodes
    nodes_count = sym up.running.nodes.ok.0 ∙ up.running.all_nodes

    behind : (areas_of a later.segments.items ≡ areas_of a up.segments.items) → areas_of a later.segments.items ≡ drop later.running.geometry.nodes areas
    behind segments = segments ∙ are.segments ∙ ap (λ (g : Geometry). drop g.nodes areas) (sym geometry)

    all_same : areas_in a later.running.nodes.items ≡ areas_in a up.running.nodes.items → areas_of a later.segments.items ≡ areas_of a up.segments.items → AreOf a later areas
    all_same logs segments = record {
      count = are.count ∙ ap area_count (sym geometry);
      logs = λ n node at. logs_at up.running.nodes.items areas are.logs n (area_of a node.journal.log) (ap (λ (l : List (Option D)). slice_get l n) (sym logs) ∙ got_log later.running.nodes.items n node at);
      segments = behind segments;
    }

    one_log : (calls : CallsOneOf a (areas_in a up.running.nodes.items) (areas_in a later.running.nodes.items)) → areas_of a later.segments.items ≡ areas_of a up.segments.items
        → AreOf a later (slice_set areas calls.at calls.new)
    one_log calls segments =
        let within : calls.at < up.running.geometry.nodes =
        omega (arith, slice_get_within (areas_in a up.running.nodes.items) calls.at (Some calls.old) calls.was, count_in up.running.nodes.items, nodes_count) in
        record {
          count = length-set areas calls.at calls.new ∙ are.count ∙ ap area_count (sym geometry);
          logs = λ n node at. set_logs (areas_in a up.running.nodes.items) areas calls.at calls.old calls.new (logs_at up.running.nodes.items areas are.logs) calls.was n (area_of a node.journal.log)
              (ap (λ (l : List (Option D)). slice_get l n) (sym calls.is) ∙ got_log later.running.nodes.items n node at);
          segments = behind segments ∙ ap (λ (g : Geometry). drop g.nodes areas) geometry ∙ sym (drop-set-lt up.running.geometry.nodes areas calls.at calls.new within)
              ∙ ap (λ (g : Geometry). drop g.nodes (slice_set areas calls.at calls.new)) (sym geometry);
        }

    log_called : (calls : CallsOneOf a (areas_in a up.running.nodes.items) (areas_in a later.running.nodes.items)) → CallsOne a areas (slice_set areas calls.at calls.new)
    log_called calls = record {
      at = calls.at;
      old = calls.old;
      new = calls.new;
      ok = calls.ok;
      was = sym (logs_at up.running.nodes.items areas are.logs calls.at (Some calls.old) calls.was);
      is = refl;
      call = calls.call;
    }

    -- of one segment
    module _ (k : ℕ) (old new : Pages D a) (at : slice_get up.segments.items k ≡ Some old) (set : later.segments.items ≡ slice_set up.segments.items k new) where
      one_segment : areas_in a later.running.nodes.items ≡ areas_in a up.running.nodes.items → AreOf a later (slice_set areas (up.running.geometry.nodes + k) new.area)
      one_segment logs = record {
        count = length-set areas (up.running.geometry.nodes + k) new.area ∙ are.count ∙ ap area_count (sym geometry);
        logs = λ n node there.
            let was : slice_get (areas_in a up.running.nodes.items) n ≡ Some (area_of a node.journal.log) = ap (λ (l : List (Option D)). slice_get l n) (sym logs) ∙ got_log later.running.nodes.items n node there in
            let within = slice_get_within (areas_in a up.running.nodes.items) n (area_of a node.journal.log) was in
            logs_at up.running.nodes.items areas are.logs n (area_of a node.journal.log) was
            ∙ sym (get_set_other areas (up.running.geometry.nodes + k) n new.area (λ same. absurd (omega (arith, same, within, count_in up.running.nodes.items, nodes_count))));
        segments = ap (areas_of a) set ∙ map-set (λ (p : Pages D a). p.area) up.segments.items k new ∙ ap (λ (l : List D). slice_set l k new.area) are.segments
            ∙ set_drop areas up.running.geometry.nodes k new.area ∙ ap (λ (g : Geometry). drop g.nodes (slice_set areas (up.running.geometry.nodes + k) new.area)) (sym geometry);
      }

      segment_called : (ok : Bool) → IsOneCall a ok old.area new.area → CallsOne a areas (slice_set areas (up.running.geometry.nodes + k) new.area)
      segment_called ok call = record {
        at = up.running.geometry.nodes + k;
        old = old.area;
        new = new.area;
        ok = ok;
        was = sym (get-drop up.running.geometry.nodes k areas) ∙ ap (λ (l : List D). slice_get l k) (sym are.segments) ∙ get-map (λ (p : Pages D a). p.area) up.segments.items k old at;
        is = refl;
        call = call;
      }

  module _ (up later : Rising D a) where
    logs_call : later.running.geometry ≡ up.running.geometry → areas_of a later.segments.items ≡ areas_of a up.segments.items → (event : Event) (b : Bool)
        → CallsLog a event b (areas_in a up.running.nodes.items) (areas_in a later.running.nodes.items) → (g : Geometry) (areas : List D) → HasAreas a (Up up) g areas
        → (after : List D) × HasAreas a (Up later) g after × CallsWhere a b g event areas after
    unfolding log_called
    logs_call geometry segments event false same g areas has = (areas, (has.0 ∙ sym geometry, all_same up later geometry areas has.1 same segments), refl)
    logs_call geometry segments event true (calls, of) g areas has = (
      slice_set areas calls.at calls.new,
      (has.0 ∙ sym geometry, one_log up later geometry areas has.1 calls segments),
      (log_called up later geometry areas has.1 calls, log_called_by g event calls.at of),
    )

    -- whatever a step answers
    pub step_calls : (event : Event) → is_plain event ≡ true → {E : Type 0} (result : Result Reply E) → areas_of a later.segments.items ≡ areas_of a up.segments.items
        → IfOk result (λ reply. CountsLogs a up.running event reply later.running) → OnErr result (SameLogs a up.running later.running) → IfOk result (λ reply. CallsArea a (Up up) event reply (Up later))
    step_calls event plain (Ok reply) segments counts same = λ g areas has.
        subst (λ (b : Bool). (after : List D) × HasAreas a (Up later) g after × CallsWhere a b g event areas after) (plain_calls g event reply plain)
        (logs_call counts.devices.geometry segments event (calls_log event reply) counts.calls g areas has)
    step_calls event plain (Err e) segments counts same = counts

    -- without memory, none
    pub step_keeps : {E : Type 0} (result : Result Reply E) → areas_of a later.segments.items ≡ areas_of a up.segments.items → OnErr result (SameLogs a up.running later.running)
        → OnErr result (KeepsAreas a (Up up) (Up later))
    step_keeps (Ok reply) segments same = same
    step_keeps (Err e) segments same = λ g areas has. (has.0 ∙ sym same.geometry, all_same up later same.geometry areas has.1 (ap (map (area_of a)) same.logs) segments)

    -- of a page write
    module _ (node segment page : ℕ) (old new : Pages D a) (at : slice_get up.segments.items (segment - 1) ≡ Some old) (set : later.segments.items ≡ slice_set up.segments.items (segment - 1) new)
        (same : SameLogAreas a up.running later.running) (g : Geometry) (areas : List D) (has : HasAreas a (Up up) g areas) where
      their : List D
      their = slice_set areas (up.running.geometry.nodes + (segment - 1)) new.area

      there : HasAreas a (Up later) g their
      unfolding their
      there = (has.0 ∙ sym same.geometry, one_segment up later same.geometry areas has.1 (segment - 1) old new at set same.areas)

      its : (b ok : Bool) → CalledIf a b ok old.area new.area → CallsWhere a b g (PageStep node segment page) areas their
      unfolding their segment_called
      its true ok call = (
        segment_called up later same.geometry areas has.1 (segment - 1) old new at set ok call,
        ap (λ (v : Geometry). v.nodes + (segment - 1)) (sym has.0),
      )
      its false ok none =
          let was : slice_get areas (up.running.geometry.nodes + (segment - 1)) ≡ Some old.area =
          sym (get-drop up.running.geometry.nodes (segment - 1) areas) ∙ ap (λ (l : List D). slice_get l (segment - 1)) (sym has.1.segments)
          ∙ get-map (λ (p : Pages D a). p.area) up.segments.items (segment - 1) old at in
          ap (slice_set areas (up.running.geometry.nodes + (segment - 1))) none ∙ set_same areas (up.running.geometry.nodes + (segment - 1)) old.area was

    pub page_calls : (node segment page : ℕ) (old new : Pages D a) (reply : Reply) → slice_get up.segments.items (segment - 1) ≡ Some old → later.segments.items ≡ slice_set up.segments.items (segment - 1) new
        → SameLogAreas a up.running later.running → CalledAs a reply old.area new.area → CallsArea a (Up up) (PageStep node segment page) reply (Up later)
    page_calls node segment page old new reply at set same called g areas has = (
      their node segment page old new at set same g areas has,
      there node segment page old new at set same g areas has,
      its node segment page old new at set same g areas has (tells_call reply) (not (is_fault reply)) called,
    )

  pub up_keeps : (phase : WorldPhase D a) (up later : Rising D a) → phase ≡ Up up → KeepsAreas a (Up up) (Up later) → KeepsAreas a phase (Up later)
  up_keeps phase up later is keeps = subst (λ (p : WorldPhase D a). KeepsAreas a p (Up later)) (sym is) keeps

  -- of a recovery that is as it was
  pub down_keeps : (phase : WorldPhase D a) (r new : Recovering D) → phase ≡ Down r → new ≡ r → KeepsAreas a phase (Down new)
  down_keeps phase r new is same = subst (λ (p : WorldPhase D a). KeepsAreas a p (Down new)) (sym is) (subst (λ (v : Recovering D). KeepsAreas a (Down r) (Down v)) (sym same) (λ g areas has. has))

  pub up_calls : (phase : WorldPhase D a) (up later : Rising D a) (event : Event) (reply : Reply) → phase ≡ Up up → CallsArea a (Up up) event reply (Up later) → CallsArea a phase event reply (Up later)
  up_calls phase up later event reply is calls = subst (λ (p : WorldPhase D a). CallsArea a p event reply (Up later)) (sym is) calls

  -- A recovery

  of_one : (at : ℕ) (olds news : List D) (ok : Bool) → OneCall a at olds news ok → CallsOne a olds news
  of_one at olds news ok call = record { at = at; old = call.old; new = call.new; ok = ok; was = call.was; is = call.is; call = call.call }

  module _ (r new : Recovering D) (geometry : new.geometry ≡ r.geometry) where
    -- the area that is next
    made : (result : Result Progress RecoverFault) → StepCalls a r new result → (IsMergeNext r → ⊥) → (result ≡ Err NoMemory → ⊥) → CallsWhere a true r.geometry RecoverStep r.areas new.areas
    made result calls other wants = (let call = calls.call other wants in (of_one call.0 r.areas new.areas (is_ok result) call.2, tt))

    -- a fault that is none of a device comes with the merge
    merge_refused : (fault : RecoverFault) → (fault ≡ NoMemory → ⊥) → (fault ≡ Failed → ⊥) → StepCalls a r new (Err fault) → new.areas ≡ r.areas
    merge_refused fault some none calls = elim (cases_eq (r.steps + 1) (first_steps r.geometry)) [
      | inl merges ↦ calls.no_call merges
      | inr other ↦ (elim (calls.fault other) [ inl e ↦ absurd (some e) | inr e ↦ absurd (none e) ])
    ]

    fault_called : {E : Type 0} (fault : RecoverFault) (answer : Result Reply E) → RepliesTo (Err fault) answer → StepCalls a r new (Err fault)
        → IfOk answer (λ reply. CallsTold a r.geometry RecoverStep reply r.areas new.areas)
    fault_called (BadGeometry area) answer replies calls = if_ok_at answer _ _ replies (merge_refused (BadGeometry area) (λ e. absurd cc) (λ e. absurd cc) calls)
    fault_called (Gap segment seq) answer replies calls = if_ok_at answer _ _ replies (merge_refused (Gap segment seq) (λ e. absurd cc) (λ e. absurd cc) calls)
    fault_called (Twice segment seq) answer replies calls = if_ok_at answer _ _ replies (merge_refused (Twice segment seq) (λ e. absurd cc) (λ e. absurd cc) calls)
    fault_called (OutOfSegment area) answer replies calls = if_ok_at answer _ _ replies (merge_refused (OutOfSegment area) (λ e. absurd cc) (λ e. absurd cc) calls)
    fault_called Failed answer replies calls = if_ok_at answer _ _ replies (made (Err Failed) calls (λ merges. calls.merge_fault merges refl) (λ e. absurd cc))
    fault_called NoMemory answer replies calls = IfOk-from_err answer _ replies

    stepped_called : (steps : ℕ) → StepCalls a r new (Ok (HasStepped steps)) → steps ≡ r.steps + 1 → CallsTold a r.geometry RecoverStep (Stepped steps) r.areas new.areas
    stepped_called steps calls is = elim (cases_eq (r.steps + 1) (first_steps r.geometry)) [
      | inl merges ↦ subst (λ (b : Bool). CallsWhere a b r.geometry RecoverStep r.areas new.areas) (sym (step_free (first_steps r.geometry) steps (is ∙ merges))) (calls.no_call merges)
      | inr other ↦ subst (λ (b : Bool). CallsWhere a b r.geometry RecoverStep r.areas new.areas) (sym (step_other (first_steps r.geometry) steps (λ same. other (sym is ∙ same))))
          (made (Ok (HasStepped steps)) calls other (λ e. absurd cc))
    ]

    -- the last step is none of the merge
    done_apart : IsDone new → new.steps ≡ r.steps + 1 → IsMergeNext r → ⊥
    done_apart done steps merges =
        let some = new.geometry.some_nodes in
        let all : new.steps ≡ first_steps r.geometry + 6 * done.0 + 2 * r.geometry.nodes = done.2 ∙ ap (λ (g : Geometry). all_steps g done.0) geometry in
        let nodes : 1 ≤ r.geometry.nodes = subst (λ (g : Geometry). 1 ≤ g.nodes) geometry some in
        absurd (omega (arith, all, steps, merges, nodes))

    recovery_called : {E : Type 0} (result : Result Progress RecoverFault) (answer : Result Reply E) → RepliesTo result answer → StepCalls a r new result → OnOk result (new.steps ≡ r.steps + 1)
        → IfOk result (λ progress. Tells progress new) → IfOk answer (λ reply. CallsTold a r.geometry RecoverStep reply r.areas new.areas)
    recovery_called (Ok (HasStepped steps)) answer replies calls counted tells = if_ok_at answer _ _ replies (stepped_called steps calls (tells.0 ∙ counted))
    recovery_called (Ok HasRecovered) answer replies calls counted tells = if_ok_at answer _ _ replies (made (Ok HasRecovered) calls (done_apart tells counted) (λ e. absurd cc))
    recovery_called (Err fault) answer replies calls counted tells = fault_called fault answer replies calls

    pub down_calls : (phase : WorldPhase D a) → phase ≡ Down r → {E : Type 0} (result : Result Progress RecoverFault) (answer : Result Reply E) → RepliesTo result answer → StepCalls a r new result
        → OnOk result (new.steps ≡ r.steps + 1) → IfOk result (λ progress. Tells progress new) → IfOk answer (λ reply. CallsArea a phase RecoverStep reply (Down new))
    down_calls phase is result answer replies calls counted tells = IfOk-weaker answer _ _
        (λ reply told. subst (λ (p : WorldPhase D a). CallsArea a p RecoverStep reply (Down new)) (sym is) (λ g areas has. (
          new.areas,
          (has.0 ∙ sym geometry, refl),
          subst (λ (l : List D). CallsTold a g RecoverStep reply l new.areas) (sym has.1) (subst (λ (v : Geometry). CallsTold a v RecoverStep reply r.areas new.areas) (sym has.0) told),
        )))
        (recovery_called result answer replies calls counted tells)

    pub risen_calls : (phase risen : WorldPhase D a) → phase ≡ Down r → (result : Result Progress RecoverFault) → ((fault : RecoverFault) → result ≡ Err fault → ⊥) → StepCalls a r new result → (IsMergeNext r → ⊥) → (up : Rising D a) → risen ≡ Up up → ComesUp a new up
        → CallsArea a phase RecoverStep Recovered risen
    risen_calls phase risen is result well calls other up rises came = subst (λ (p : WorldPhase D a). CallsArea a p RecoverStep Recovered risen) (sym is)
        (subst (λ (p : WorldPhase D a). CallsArea a (Down r) RecoverStep Recovered p) (sym rises) (λ g areas has. (
          new.areas,
          (
            has.0 ∙ sym (came.same_geometry ∙ geometry),
            record {
              count = count-areas a new.geometry new.areas came.lengths ∙ ap area_count (sym came.same_geometry);
              logs = came.log_areas;
              segments = came.segments ∙ ap (λ (v : Geometry). drop v.nodes new.areas) (sym came.same_geometry);
            },
          ),
          subst (λ (l : List D). CallsWhere a true g RecoverStep l new.areas) (sym has.1)
              (subst (λ (v : Geometry). CallsWhere a true v RecoverStep r.areas new.areas) (sym has.0) (made result calls other (well NoMemory))),
        )))
