-- What a store prints keeps to its geometry.
use Rattle.std.proofs.Common.{◌≡◌, ◌≢◌, ◌⊎◌, ◌∙◌, ℕ, Bool, true, false, List, Option, Some, None, refl, sym, ap, subst, inl, inr, true≢false}
use Rattle.std.specs.Option.{ForSome}
use Rattle.std.specs.Prelude.{Result, Ok, Err, IfOk, MatchBool, is_some, if◌then◌else◌}
use Rattle.std.proofs.lemmas.Option.{same_Some as same_some}
use Rattle.lc_disk.specs.declared.area.Area.{Ghosts}
use Rattle.lc_record.specs.declared.geometry.Geometry.{Geometry}
use Rattle.lc_record.proofs.ListLemmas.{none_from_is_some as none_some, some_from_is_some as some_some}
use Rattle.lc_model.specs.Refusals.{Named, are_known, is_node, named}
use Rattle.lc_model.specs.declared.event.Event.{Event}
use Rattle.lc_model.specs.declared.refusal.Refusal.{Refusal}
use Rattle.lc_model.specs.declared.refusal.Refusal.TheVariants.{DeviceFault, Down as IsDown, Unknown}
use Rattle.lc_model.specs.declared.reply.Reply.{Reply}
use Rattle.lc_core.specs.Geometries.{RefusesOutside, phase_geometry}
use Rattle.lc_core.specs.Lives.{StillLives}
use Rattle.lc_core.specs.LogWords.{ReadsLog, ReadsNone, log_area}
use Rattle.lc_core.specs.Recovers.{RefusesAtOnce}
use Rattle.lc_core.specs.declared.world_phase.WorldPhase.{WorldPhase}
use Rattle.lc_core.specs.declared.world_phase.WorldPhase.TheVariants.{Down, Up, Taken}
use Rattle.lc_journal.specs.declared.show_fault.ShowFault.{ShowFault}
use Rattle.lc_journal.specs.declared.show_fault.ShowFault.TheVariants.{Unknown as IsUnknown, DeviceFault as HasFailed, NoMemory}
use Rattle.lc_text.specs.Text.{refusal_text}
use Rattle.lc_tool.specs.Shown.{refusal_to}
use Rattle.lc_tool.specs.Tells.{KeepsTo, TellsLog, TellsRefusal, TellsShown}
use Rattle.lc_tool.specs.Verdict.{verdict_on}
use Rattle.lc_tool.specs.declared.verdict.Verdict.{Verdict}
use Rattle.lc_tool.specs.declared.verdict.Verdict.TheVariants.{Done}

-- what names something is for a store that is up
outside_names : (g : Geometry) (o : Option Named) → are_known g o ≡ false → is_some o ≡ true
outside_names g None out = absurd (true≢false out)
outside_names g (Some n) out = refl

module _ {D : Type 0} (a : Ghosts D) where
  -- a step of a store of this geometry
  pub step_keeps : (old new : WorldPhase D a) (event : Event) (reply : Reply) → RefusesOutside a old event reply → RefusesAtOnce a old event reply new → (g : Geometry) → phase_geometry a old ≡ Some g
      → KeepsTo g event reply
  step_keeps (Up up) new event reply outside at_once g is = subst (λ (h : Geometry). KeepsTo h event reply) (same_some up.running.geometry g is)
      (record { outside = λ out. inl (outside.outside out); inside = outside.inside })
  step_keeps (Down r) new event reply outside at_once g is = record {
    outside = λ out. inr (at_once IsDown (ap (λ (b : Bool). if b then Some IsDown else None) (outside_names g (named event) out))).0;
    inside = λ within other. outside;
  }
  step_keeps Taken new event reply outside at_once g is = absurd cc

  pub steps_keep : {E : Type 0} (old new : WorldPhase D a) (event : Event) (result : Result Reply E) → IfOk result (λ reply. RefusesOutside a old event reply)
      → IfOk result (λ reply. RefusesAtOnce a old event reply new) → (first : WorldPhase D a) → phase_geometry a old ≡ phase_geometry a first
      → IfOk result (λ reply. ForSome (phase_geometry a first) (λ g. KeepsTo g event reply))
  steps_keep old new event (Ok reply) outside at_once first same = λ g is. step_keeps old new event reply outside at_once g (same ∙ is)
  steps_keep old new event (Err e) outside at_once first same = tt

  -- The log of a node

  -- be it read or not, the store lives on
  pub log_lives : {X Y : Type 0} (node : ℕ) (old new : WorldPhase D a) (failed : Bool) → (log_area a old node ≡ None → X × ReadsNone a node old new)
      → ((area : D) → log_area a old node ≡ Some area → Y × ReadsLog a node area old new failed) → StillLives a old new
  log_lives node old new failed none some = elim (log_area a old node) as (λ (o : Option D). log_area a old node ≡ o → StillLives a old new) [
    | None ↦ λ is. (none is).1.same.lives
    | Some area ↦ λ is. (some area is).1.same.lives
  ] refl

  module _ {A : Type 0} (phase : WorldPhase D a) (node : ℕ) (text_of : A → List ℕ) (g : Geometry) (nodes : is_some (log_area a phase node) ≡ is_node g node) where
    abbrev TellsAs : Bool → List ℕ → Verdict → Type 0
    TellsAs known text verdict = MatchBool known (TellsShown text_of text verdict ⊎ TellsRefusal DeviceFault text verdict) (TellsRefusal Unknown text verdict)

    -- what was read
    pub log_shown : {W E : Type 0} (result : Result W E) (fault : E) → (log_area a phase node ≡ None → result ≡ Err fault) → (words : W) → result ≡ Ok words → (shown : A) → TellsLog g node text_of (text_of shown) Done
    log_shown result fault unknown words ok shown = elim (is_node g node) as (λ (b : Bool). is_node g node ≡ b → TellsAs b (text_of shown) Done) [
      | true ↦ λ is. inl (shown, refl, refl)
      | false ↦ λ out. absurd (let no : Ok words ≡ Err fault = sym ok ∙ unknown (none_some (log_area a phase node) (nodes ∙ out)) in cc)
    ] refl

    -- why it was not
    read_fault : (fault : ShowFault) → (fault ≡ IsUnknown → ⊥) → (refusal : Refusal) → refusal_to fault ≡ Some refusal → (verdict : Verdict) → verdict ≡ verdict_on refusal
        → TellsRefusal DeviceFault (refusal_text refusal) verdict
    read_fault IsUnknown other refusal so verdict by = absurd (other refl)
    read_fault HasFailed other refusal so verdict by = (let same : DeviceFault ≡ refusal = same_some DeviceFault refusal so in (ap refusal_text (sym same), by ∙ ap verdict_on (sym same)))
    read_fault NoMemory other refusal so verdict by = absurd cc

    pub log_refused : {W : Type 0} (result : Result W ShowFault) (fault : ShowFault) → (log_area a phase node ≡ None → result ≡ Err IsUnknown) → ((area : D) → log_area a phase node ≡ Some area → result ≢ Err IsUnknown)
        → result ≡ Err fault → (refusal : Refusal) → refusal_to fault ≡ Some refusal → (verdict : Verdict) → verdict ≡ verdict_on refusal → TellsLog g node text_of (refusal_text refusal) verdict
    log_refused result fault unknown known err refusal is verdict by = elim (is_node g node) as (λ (b : Bool). is_node g node ≡ b → TellsAs b (refusal_text refusal) verdict) [
      | true ↦ λ inside.
          let area = some_some (log_area a phase node) (nodes ∙ inside) in
          inr (read_fault fault (λ bad. known area.0 area.1 (err ∙ ap (λ (f : ShowFault). Err f) bad)) refusal is verdict by)
      | false ↦ λ out.
          let both : Err fault ≡ Err IsUnknown = sym err ∙ unknown (none_some (log_area a phase node) (nodes ∙ out)) in
          let none : fault ≡ IsUnknown = cc in
          let so : Unknown ≡ refusal = same_some Unknown refusal (sym (ap refusal_to none) ∙ is) in
          (ap refusal_text (sym so), by ∙ ap verdict_on (sym so))
    ] refl
