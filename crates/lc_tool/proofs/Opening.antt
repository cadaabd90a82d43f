-- The recovery that comes before a script: where the store's areas read as one whose merge is refused, that refusal ends it.
use Rattle.std.proofs.Common.{◌≡◌, ◌∙◌, ◌⊎◌, ℕ, ◌+◌, ◌≤◌, ◌<◌, List, map, refl, sym, ap, ap₂, subst, arith, inl, inr, ltb-true, ltb-false, nat_lt, Bool, true, false}
use Rattle.std.proofs.lemmas.Bool.{cases_eq as same_or_not}
use Rattle.lc_disk.specs.declared.area.Area.{Ghosts}
use Rattle.lc_record.specs.declared.geometry.Geometry.{Geometry}
use Rattle.lc_model.specs.Merge.{MergeFault, Refuses, StoreText}
use Rattle.lc_model.specs.declared.refusal.Refusal.TheVariants.{DeviceFault}
use Rattle.lc_model.specs.declared.reply.Reply.{Reply}
use Rattle.lc_model.specs.declared.reply.Reply.TheVariants.{Stepped, Refused}
use Rattle.lc_recover.specs.Reads.{AreHonest, ReadsRefused, store_of}
use Rattle.lc_recover.specs.Recovery.{Recovering, begun, IsMergeNext}
use Rattle.lc_recover.specs.Steps.{first_steps}
use Rattle.lc_core.specs.Recovers.{AnswersMerge, AnswersRecovery, RecoversDown}
use Rattle.lc_core.specs.declared.world_phase.WorldPhase.{WorldPhase}
use Rattle.lc_core.specs.declared.world_phase.WorldPhase.TheVariants.{Down}
use Rattle.lc_tool.specs.Answers.{IsStepped}
use Rattle.lc_look.specs.Refused.{merge_refusal}
use Rattle.lc_tool.proofs.Fitting.{reads_same}
use Rattle.lc_look.proofs.Refusals.{not_refused, same_refusal}

less_or_same : (k n : ℕ) → k ≤ n → (k ≡ n → ⊥) → k < n
less_or_same k n within other = go (nat_lt k n) refl
  where
    go : (b : Bool) → nat_lt k n ≡ b → k < n
    go true e = ltb-true k n e
    go false e = absurd (other (omega (arith, within, ltb-false k n e)))

module _ {D : Type 0} (a : Ghosts D) (g : Geometry) (areas : List D) (fault : MergeFault) where
  -- the store is down, its merge is still to come, and its areas read as they did
  pub record IsBefore (phase : WorldPhase D a) : Type 0 where
    pub r : Recovering D
    pub down : phase ≡ Down r
    pub geometry : r.geometry ≡ g
    pub honest : AreHonest a r.areas
    pub same : map a.now r.areas ≡ map a.now areas
    pub before : r.steps + 1 ≤ first_steps g

  pub first_before : AreHonest a areas → IsBefore (Down (begun g areas))
  first_before honest = record { r = begun g areas; down = refl; geometry = refl; honest = honest; same = refl; before = omega arith }

  module _ (refused : ReadsRefused a g areas fault) where
    -- the store that is merged is refused so
    refused_there : (r : Recovering D) → r.geometry ≡ g → map a.now r.areas ≡ map a.now areas → Refuses (store_of r.geometry (map a.now r.areas)) fault
    refused_there r same_geometry same =
        subst (λ (s : StoreText). Refuses s fault) (ap₂ (λ (h : Geometry) (l : List (List ℕ)). store_of h l) (sym same_geometry) (sym same)) refused

    -- the merge is no step
    merge_refuses : (r : Recovering D) (reply : Reply) → r.geometry ≡ g → map a.now r.areas ≡ map a.now areas → AnswersMerge (store_of r.geometry (map a.now r.areas)) reply
        → reply ≡ Refused (merge_refusal fault)
    merge_refuses r reply same_geometry same answer =
        let there = refused_there r same_geometry same in
        elim answer [
          | inl merged ↦ absurd (not_refused _ merged.0 merged.1 fault merged.2 there)
          | inr found ↦ found.4 ∙ ap (λ refusal. Refused refusal) (same_refusal _ fault found.0 found.1 there found.2 found.3)
        ]

    is_merge : (r : Recovering D) → (IsMergeNext r) ⊎ (IsMergeNext r → ⊥)
    is_merge r = same_or_not (r.steps + 1) (first_steps r.geometry)

    -- so it is at the merge, and before it a device may fail
    refuses_at : (r : Recovering D) (reply : Reply) (new : WorldPhase D a) → r.geometry ≡ g → AreHonest a r.areas → map a.now r.areas ≡ map a.now areas → r.steps + 1 ≤ first_steps g
        → AnswersRecovery a r reply new → (IsStepped reply → ⊥) → (reply ≡ Refused (merge_refusal fault)) ⊎ (reply ≡ Refused DeviceFault)
    refuses_at r reply new same_geometry honest same before answers over =
        let within : r.steps + 1 ≤ first_steps r.geometry = subst (λ (h : Geometry). r.steps + 1 ≤ first_steps h) (sym same_geometry) before in
        elim (is_merge r) [
          | inl merge ↦ inl (merge_refuses r reply same_geometry same (answers.merged merge honest))
          | inr call ↦ elim (answers.called call) [
            | inl stepped ↦ absurd (over (subst IsStepped (sym stepped.1) tt))
            | inr other ↦ elim other [
              | inl up ↦ let last = (answers.recovered up).0 in absurd (call (omega (arith, within, last.2)))
              | inr failed ↦ inr failed
            ]
          ]
        ]

    pub ends_refused : (old new : WorldPhase D a) (reply : Reply) → IsBefore old → RecoversDown a old reply new → (IsStepped reply → ⊥)
        → (reply ≡ Refused (merge_refusal fault)) ⊎ (reply ≡ Refused DeviceFault)
    ends_refused old new reply at recovers over =
        refuses_at at.r reply new at.geometry at.honest at.same at.before (recovers at.r at.down) over

    pub next_before : (old new : WorldPhase D a) (steps : ℕ) → IsBefore old → RecoversDown a old (Stepped steps) new → IsBefore new
    next_before old new steps at recovers =
        let r = at.r in
        let answers = recovers r at.down in
        let stepped = answers.stepped steps refl in
        let within : r.steps + 1 ≤ first_steps r.geometry = subst (λ (h : Geometry). r.steps + 1 ≤ first_steps h) (sym at.geometry) at.before in
        let earlier : r.steps + 1 < first_steps r.geometry = elim (is_merge r) [
          | inl merge ↦ let bad = merge_refuses r (Stepped steps) at.geometry at.same (answers.merged merge at.honest) in absurd cc
          | inr call ↦ less_or_same (r.steps + 1) (first_steps r.geometry) within call
        ] in
        let reads = reads_same a r stepped.1.0 (Stepped steps) new steps answers stepped.1.1 earlier at.honest refl in
        record {
          r = stepped.1.0;
          down = stepped.1.1;
          geometry = stepped.1.2 ∙ at.geometry;
          honest = reads.0;
          same = reads.1 ∙ at.same;
          before = subst (λ (h : Geometry). stepped.1.0.steps + 1 ≤ first_steps h) at.geometry (omega (arith, stepped.1.3, stepped.0, earlier));
        }
