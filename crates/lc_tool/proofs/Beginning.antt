-- What a script prints after the recovery that comes first, and where that does not come to its end.
use Rattle.std.proofs.Common.{◌≡◌, ◌∙◌, ◌⊎◌, ℕ, List, Option, Some, None, IfSome, refl, sym, ap, subst, inl, inr}
use Rattle.std.specs.Io.KnownBytes.{Appends, Keeps}
use Rattle.lc_disk.specs.declared.area.Area.{Ghosts}
use Rattle.lc_record.specs.declared.geometry.Geometry.{Geometry}
use Rattle.lc_model.specs.Merge.{MergeFault, BadGeometry, OutOfSegment, Twice, Gap}
use Rattle.lc_model.specs.State.{Setting, State, first_state}
use Rattle.lc_model.specs.declared.refusal.Refusal.{Refusal}
use Rattle.lc_model.specs.declared.refusal.Refusal.TheVariants.{BadGeometry as WrongArea, DeviceFault}
use Rattle.lc_model.specs.declared.reply.Reply.{Reply}
use Rattle.lc_model.specs.declared.reply.Reply.TheVariants.{Recovered, Refused as IsRefusal, Stepped}
use Rattle.lc_core.specs.Lives.{AnswersDown, FitsLife, IsBorn, Life, StillLives}
use Rattle.lc_settled.specs.Numbers.{Numbers}
use Rattle.lc_core.specs.World.{FitsWorld}
use Rattle.lc_core.specs.declared.world.World.{World}
use Rattle.lc_look.specs.Printed.{NoMemory, Adds}
use Rattle.lc_look.specs.Recovers.{TellsRecovery}
use Rattle.lc_recover.specs.declared.fault.RecoverFault.TheVariants.{BadGeometry as NoArea, DeviceFault as NoDevice, NoMemory as RecoverMemory}
use Rattle.lc_tool.specs.Files.{NotOpened}
use Rattle.lc_tool.specs.Answers.{IsStepped}
use Rattle.lc_tool.specs.Fits.{FollowsAll, IsRefused, RefusesAll, RunsRecovery}
use Rattle.lc_tool.specs.Outcome.{EndsWith, IsGivenUp, IsRecovered, OpensStore, RefusesFirst, RunsRecovered}
use Rattle.lc_tool.specs.Script.{Given, Opens, RunsRead, RunsScript}
use Rattle.lc_recover.specs.Reads.{AllMergeTo, AreHonest, HaveLengths}
use Rattle.lc_recover.specs.Recovery.{begun}
use Rattle.lc_core.specs.declared.world_phase.WorldPhase.{WorldPhase}
use Rattle.lc_core.specs.declared.world_phase.WorldPhase.TheVariants.{Down}
use Rattle.lc_tool.specs.Store.{AreKnown, RunsStore}
use Rattle.lc_look.specs.Refused.{AreRefused, RefusesLengths, RefusesMerge, merge_refusal}
use Rattle.lc_tool.proofs.ScriptLemmas.{keeps_then}
use Rattle.lc_tool.specs.Tells.{TellsOpening, TellsRecovered, TellsScript, TellsStop}
use Rattle.lc_text.specs.Text.{no_memory_text, refusal_text, reply_text}
use Rattle.lc_tool.specs.Verdict.{verdict_of, verdict_on}
use Rattle.lc_tool.specs.declared.verdict.Verdict.{Verdict}
use Rattle.lc_tool.specs.declared.verdict.Verdict.TheVariants.{Done, Refused, Faulted}
use Rattle.lc_model.specs.declared.event.Event.TheVariants.{RecoverStep}

module _ (m : Setting) (s : State) (x : Numbers) (script : Given) where
  ends_so : (after : State) (next : Numbers) (reply : Reply) (verdict : Verdict) (text : List ℕ) (status : ℕ) → EndsWith verdict reply text status → Opens m after next reply verdict script text status
  ends_so after next reply Done text status ends = absurd ends
  ends_so after next reply Refused text status ends = ends
  ends_so after next reply Faulted text status ends = ends

  pub given_up : (text : List ℕ) (status : ℕ) → IsGivenUp m s x text status → RunsScript m s x script text status
  given_up text status (inl none) = inl none
  given_up text status (inr ends) = inr (ends.0, ends.1, ends.2, ends.3, ends_so ends.1 ends.2 ends.0 (verdict_of ends.0) text status ends.4)

  pub recovered : (after : State) (next : Numbers) (text : List ℕ) (status : ℕ) → IsRecovered m s x after next → NoMemory text status ⊎ RunsRead m after next script text status → RunsScript m s x script text status
  recovered after next text status up (inl none) = inl none
  recovered after next text status up (inr run) = inr (up.0, after, next, up.1, rw up.2 run)

-- the refusal of a merge is no device fault
merge_verdict : (fault : MergeFault) → verdict_of (IsRefusal (merge_refusal fault)) ≡ Refused
merge_verdict (BadGeometry area) = refl
merge_verdict (OutOfSegment area) = refl
merge_verdict (Twice segment seq) = refl
merge_verdict (Gap segment seq) = refl

module _ {D : Type 0} (a : Ghosts D) (old new : World D a) (held holds : Option (List ℕ)) where
  module _ (reply : Reply) (follows : FollowsAll a (FitsWorld a) old RecoverStep reply new) (refuses : RefusesAll a old reply) where
    pub done_first : Done ≡ verdict_of reply → RefusesFirst a old held holds None
    done_first is fault refused =
        elim (refuses fault refused) [
          | inl merge ↦ let bad : Done ≡ Refused = is ∙ ap verdict_of merge ∙ merge_verdict fault in absurd cc
          | inr device ↦ let bad : Done ≡ Faulted = is ∙ ap verdict_of device in absurd cc
        ]

-- The recovery of any areas

not_done : (refusal : Refusal) → Done ≡ verdict_on refusal → ⊥
not_done DeviceFault is = absurd cc
not_done refusal is = absurd cc

-- what says nothing has come up
born_there : (g : Geometry) (reply : Reply) (after : Option Life) → AnswersDown g RecoverStep reply after → (IsStepped reply → ⊥) → Done ≡ verdict_of reply
    → (life : Life) × (after ≡ Some life) × IsBorn g life
born_there g Recovered after answers over is = answers
born_there g (Stepped steps) after answers over is = absurd (over tt)
born_there g (IsRefusal refusal) after answers over is = absurd (not_done refusal is)
born_there g reply after answers over is = (let told = answers.0 in absurd cc)

-- what a writer holds it keeps
pub keeps_all : (held : Option (List ℕ)) → Keeps held held
keeps_all None = tt
keeps_all (Some xs) = refl

-- a store of these areas is down at first
pub down_at : {D : Type 0} (a : Ghosts D) (g : Geometry) (phase : WorldPhase D a) (areas : List D) → phase ≡ Down (begun g areas) → FitsLife a g None phase
down_at {D} a g phase areas is = subst (λ (p : WorldPhase D a). FitsLife a g None p) (sym is) refl

module _ {D : Type 0} (a : Ghosts D) (old new : World D a) (held holds : Option (List ℕ)) where
  abbrev pub Tells : Option ℕ → Type 0
  Tells status = (g : Geometry) → FitsLife a g None old.phase → (after : Option Life) × FitsLife a g after new.phase × TellsOpening g held holds status after

  pub no_memory_tells : (status : ℕ) → status ≡ 1 → Appends held holds no_memory_text → StillLives a old.phase new.phase → Tells (Some status)
  no_memory_tells status is shown still g fits = (None, still g None fits, (no_memory_text, inl (refl, is), shown))

  module _ (reply : Reply) (recovers : RunsRecovery a old reply new) where
    pub done_tells : Done ≡ verdict_of reply → Keeps held holds → Tells None
    done_tells is keeps g fits =
        let run = recovers g fits in
        let its = born_there g reply run.0 run.2 run.3 is in
        (run.0, run.1, (its.0, its.1, its.2, keeps))

    -- or this is the status
    ended_tells : (status : ℕ) → EndsWith (verdict_of reply) reply (reply_text reply) status → Appends held holds (reply_text reply) → Tells (Some status)
    ended_tells status ends shown g fits = (let run = recovers g fits in (run.0, run.1, (reply_text reply, inr (reply, ends), shown)))

    pub refused_tells : (status : ℕ) → Refused ≡ verdict_of reply → status ≡ 1 → Appends held holds (reply_text reply) → Tells (Some status)
    refused_tells status is by shown = ended_tells status (rw (← is) (refl, by)) shown

    pub faulted_tells : (status : ℕ) → Faulted ≡ verdict_of reply → status ≡ 3 → Appends held holds (reply_text reply) → Tells (Some status)
    faulted_tells status is by shown = ended_tells status (rw (← is) (refl, by)) shown

-- The whole script

pub some_all : {A : Type 0} (o : Option A) (P : A → Type 0) → ((x : A) → P x) → IfSome o P
some_all None P all = tt
some_all (Some x) P all = all x

module _ {D : Type 0} (a : Ghosts D) (g : Geometry) (areas : List D) (world : World D a) (held holds : Option (List ℕ)) (status : ℕ) where
  -- a store of these areas fits the first state
  abbrev pub FitsFirst : Type 0
  FitsFirst = (m : Setting) (x : Numbers) → m.geometry ≡ g → AreHonest a areas → AllMergeTo a g areas m.start x.disks.numbers → x.steps ≡ 0 → FitsWorld a m world (first_state g) x

  start_fits : FitsFirst → (m : Setting) (x : Numbers) → m.geometry ≡ g → AreKnown a m areas x → FitsWorld a m world (first_state g) x
  start_fits fits m x same known = fits m x same known.honest (subst (λ (h : Geometry). AllMergeTo a h areas m.start x.disks.numbers) same known.merges) known.first

  -- the recovery did not come to its end
  pub stopped_runs : (new : World D a) (script : Given) → FitsFirst → OpensStore a world held holds (Some status) new → RunsStore a g areas script held holds status
  stopped_runs new script fits opens m x same known =
      let ends = opens m (first_state g) x (start_fits fits m x same known) in
      (ends.0, given_up m (first_state g) x script ends.0 status ends.1, ends.2)

  its_refusal : world.phase ≡ Down (begun g areas) → (fault : MergeFault) → AreRefused a g areas fault → IsRefused a world fault
  its_refusal down fault refused = record { geometry = g; areas = areas; down = down; honest = refused.honest; refused = refused.refused }

  pub stopped_refuses : world.phase ≡ Down (begun g areas) → RefusesFirst a world held holds (Some status) → RefusesMerge a g areas held holds status
  stopped_refuses down first fault refused = first fault (its_refusal down fault refused)

  -- or it did
  pub never_refuses : (mid : Option (List ℕ)) → world.phase ≡ Down (begun g areas) → RefusesFirst a world held mid None → RefusesMerge a g areas held holds status
  never_refuses mid down first fault refused = absurd (first fault (its_refusal down fault refused))

  -- its areas are those of the geometry
  pub never_wrong : HaveLengths a g areas → RefusesLengths a g areas held holds status
  never_wrong right area wrong = absurd (wrong.is (right area))

  pub recovered_runs : (mid : Option (List ℕ)) (new : World D a) (script : Given) → FitsFirst → OpensStore a world held mid None new → RunsRecovered a new script mid holds status
      → RunsStore a g areas script held holds status
  recovered_runs mid new script fits opens runs m x same known =
      let up = opens.0 m (first_state g) x (start_fits fits m x same known) in
      let run = runs m up.0 up.1 up.3 in
      (run.0, recovered m (first_state g) x script up.0 up.1 run.0 status up.2 run.1, keeps_then held mid holds run.0 opens.1 run.2)

-- a recovery of files that could not be opened
module _ (g : Geometry) (held holds : Option (List ℕ)) (status : ℕ) where
  pub not_opened_recovers : Adds NotOpened held holds status → Adds (TellsRecovery g) held holds status
  not_opened_recovers stop =
      elim stop.1 [
        | inl stops ↦ elim stops [
          | inl device ↦ (stop.0, inr (NoDevice, device.0, device.1), stop.2)
          | inr memory ↦ (stop.0, inr (RecoverMemory, memory.0, memory.1), stop.2)
        ]
        | inr other ↦ (stop.0, inr (NoArea other.0, other.1, other.2), stop.2)
      ]

-- The same of any areas
module _ (g : Geometry) (held holds : Option (List ℕ)) (status : ℕ) (script : Given) where
  pub stopped_tells : Adds TellsStop held holds status → Adds (TellsScript g script) held holds status
  stopped_tells stop = (stop.0, inl stop.1, stop.2)

  -- files that could not be opened
  pub not_opened_tells : Adds NotOpened held holds status → Adds (TellsScript g script) held holds status
  not_opened_tells stop =
      elim stop.1 [
        | inl stops ↦ elim stops [
          | inl device ↦ (stop.0, inl (inr (IsRefusal DeviceFault, device)), stop.2)
          | inr memory ↦ (stop.0, inl (inl memory), stop.2)
        ]
        | inr other ↦ (stop.0, inl (inr (IsRefusal (WrongArea other.0), (other.1, other.2))), stop.2)
      ]

  pub wrong_tells : (area : ℕ) → status ≡ 1 → Appends held holds (refusal_text (WrongArea area)) → Adds (TellsScript g script) held holds status
  wrong_tells area is shown = (refusal_text (WrongArea area), inl (inr (IsRefusal (WrongArea area), (refl, is))), shown)

  pub recovered_tells : (mid : Option (List ℕ)) (life : Life) → IsBorn g life → Keeps held mid → Adds (TellsRecovered g (Some life) script) mid holds status → Adds (TellsScript g script) held holds status
  recovered_tells mid life born keeps tells =
      elim tells.1 [
        | inl none ↦ (tells.0, inl (inl none), keeps_then held mid holds tells.0 keeps tells.2)
        | inr read ↦ (tells.0, inr (life, born, read), keeps_then held mid holds tells.0 keeps tells.2)
      ]
