-- The areas of a store that is up, and that a call leaves them as honest as they were.
use Rattle.std.proofs.Common.{◌≡◌, ◌+◌, ◌*◌, ℕ, zero, suc, Bool, true, false, List, [], ◌∷◌, ◌++◌, length, Some, refl, sym, ap, subst, ◌∙◌, inl, inr, arith}
use Rattle.std.specs.Prelude.{slice_get, slice_set}
use Rattle.std.proofs.lemmas.Bool.{cases_eq}
use Rattle.std.proofs.lemmas.Option.{slice_get_within, same_Some as same_some}
use Rattle.lc_disk.specs.declared.area.Area.{Ghosts}
use Rattle.lc_recover.specs.Reads.{AreHonest}
use Rattle.lc_core.specs.Areas.{AreOf}
use Rattle.lc_record.specs.declared.geometry.Geometry.{Geometry}
use Rattle.lc_model.specs.declared.event.Event.{Event}
use Rattle.lc_model.specs.declared.reply.Reply.{Reply}
use Rattle.lc_core.specs.CallReplies.{calls_area}
use Rattle.lc_core.specs.Calls.{CallsArea, CallsWhere, KeepsAreas}
use Rattle.lc_core.specs.HonestAreas.{HonestUp}
use Rattle.lc_journal.specs.Log.{area_of}
use Rattle.lc_core.specs.Pages.{areas_of}
use Rattle.lc_desk.specs.Places.{get_set_other, get_set_same}
use Rattle.lc_events.specs.declared.node_state.NodeState.{NodeState}
use Rattle.lc_core.specs.declared.world_phase.WorldPhase.TheVariants.{Up}
use Rattle.lc_core.specs.declared.up.Up.{Up as Rising}
use Rattle.lc_core.proofs.Devices.{log_area_of}
use Rattle.lc_core.proofs.Stopped.{are_of, segment_at, their_honesty}

module _ {D : Type 0} (a : Ghosts D) where
  -- The areas of a store that fits

  pub record Gathered (nodes : List (NodeState D a)) : Type 0 where
    pub logs : List D
    pub count : length logs ≡ length nodes
    pub each : (n : ℕ) (node : NodeState D a) → slice_get nodes n ≡ Some node → area_of a node.journal.log ≡ slice_get logs n

  pub gathered : (nodes : List (NodeState D a)) → ((n : ℕ) (node : NodeState D a) → slice_get nodes n ≡ Some node → (area : D) × (area_of a node.journal.log ≡ Some area)) → Gathered nodes
  gathered [] have = record { logs = []; count = refl; each = λ n node at. absurd (none_there n node at) }
    where
      none_there : (n : ℕ) (node : NodeState D a) → slice_get [] n ≡ Some node → ⊥
      none_there n node at = absurd (let within = slice_get_within [] n node at in omega (arith, within))
  gathered (node ∷ nodes) have =
      let first = have 0 node refl in
      let others = gathered nodes (λ n later at. have (suc n) later at) in
      record {
        logs = first.0 ∷ others.logs;
        count = ap suc others.count;
        each = λ n. elim n as (λ (n : ℕ). (its : NodeState D a) → slice_get (node ∷ nodes) n ≡ Some its → area_of a its.journal.log ≡ slice_get (first.0 ∷ others.logs) n) [
          | zero ↦ λ its at. ap (λ (o : NodeState D a). area_of a o.journal.log) (sym (same_some node its at)) ∙ first.1
          | suc n ↦ λ its at. others.each n its at
        ];
      }

  pub all_areas : (up : Rising D a) → (areas : List D) × AreOf a up areas
  all_areas up =
      let logs = gathered up.running.nodes.items (λ n node at. (let area = log_area_of a (8 * (up.running.geometry.words + 1)) up.running.nodes.items up.logs n node at in (area.0, area.1))) in
      let all = logs.logs ++ areas_of a up.segments.items in
      (all, are_of a up logs.logs all logs.each (logs.count ∙ sym up.running.nodes.ok.0) refl)

  -- a call or none
  still_honest : (b : Bool) (g : Geometry) (event : Event) (olds news : List D) → CallsWhere a b g event olds news → AreHonest a olds → AreHonest a news
  still_honest false g event olds news same honest = subst (λ (l : List D). AreHonest a l) (sym same) honest
  still_honest true g event olds news (one, by) honest = λ k device at.
      let there : slice_get (slice_set olds one.at one.new) k ≡ Some device = ap (λ (l : List D). slice_get l k) (sym one.is) ∙ at in
      elim (cases_eq k one.at) [
        | inl here ↦
            let own : slice_get (slice_set olds one.at one.new) one.at ≡ Some device = subst (λ (i : ℕ). slice_get (slice_set olds one.at one.new) i ≡ Some device) here there in
            subst (λ (d : D). a.honest d ≡ true) (same_some one.new device (sym (get_set_same olds one.at one.old one.new one.was) ∙ own)) (one.call.honest ∙ honest one.at one.old one.was)
        | inr differ ↦ honest k device (sym (get_set_other olds one.at k one.new differ) ∙ there)
      ]

  -- a store whose areas are honest
  up_honest : (up : Rising D a) (areas : List D) → AreOf a up areas → AreHonest a areas → HonestUp a up
  up_honest up areas are honest = record {
    logs = λ n node area at there. honest n area (sym (are.logs n node at) ∙ there);
    segments = λ k pages at. honest (up.running.geometry.nodes + k) pages.area (segment_at a up areas are k pages at);
  }

  pub stays_honest : (up new : Rising D a) (event : Event) (reply : Reply) → CallsArea a (Up up) event reply (Up new) → HonestUp a up → HonestUp a new
  stays_honest up new event reply calls honest =
      let all = all_areas up in
      let later = calls up.running.geometry all.0 (refl, all.1) in
      up_honest new later.0 later.1.1 (still_honest (calls_area up.running.geometry event reply) up.running.geometry event all.0 later.0 later.2 (their_honesty a up all.0 all.1 honest))

  -- where none was called
  pub keeps_honest : (up new : Rising D a) → KeepsAreas a (Up up) (Up new) → HonestUp a up → HonestUp a new
  keeps_honest up new keeps honest =
      let all = all_areas up in
      let later = keeps up.running.geometry all.0 (refl, all.1) in
      up_honest new all.0 later.1 (their_honesty a up all.0 all.1 honest)
