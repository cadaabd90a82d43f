-- What a store answers, whatever its areas are.
use Rattle.std.proofs.Common.{◌≡◌, ℕ, ◌+◌, ◌<◌, true, List, [], ◌∷◌, ◌++◌, length, get_or, take, Option, Some, None, refl, sym, ap, subst, ◌∙◌}
use Rattle.std.proofs.lemmas.List.{take_more}
use Rattle.lc_disk.specs.declared.area.Area.{Ghosts}
use Rattle.lc_record.specs.declared.geometry.Geometry.{Geometry}
use Rattle.lc_recover.specs.Recovery.{Recovering}
use Rattle.lc_model.specs.State.{Up as IsUpNow, fresh}
use Rattle.lc_model.specs.declared.event.Event.{Event}
use Rattle.lc_model.specs.declared.event.Event.TheVariants.{Stop, RecoverStep}
use Rattle.lc_model.specs.declared.refusal.Refusal.TheVariants.{Down as IsDown, OutOfTurn}
use Rattle.lc_model.specs.declared.reply.Reply.{Reply}
use Rattle.lc_model.specs.declared.reply.Reply.TheVariants.{Stepped, Recovered, Refused}
use Rattle.lc_core.specs.Lives.{AnswersOne, Anyhow, FitsLife, FollowsLives, IsBorn, Life, Lives, LivesOn, StillLives, Told}
use Rattle.lc_settled.specs.Numbers.{recovered_numbers}
use Rattle.lc_events.specs.MayReply.{may_recover}
use Rattle.lc_core.specs.Recovers.{AnswersRecovery, RecoversDown}
use Rattle.lc_core.specs.Stops.{StopsAll}
use Rattle.lc_core.specs.World.{Begins, BeginsAnew, FitsUp, FollowsAnyhow, FollowsUp, StillFitsUp}
use Rattle.lc_core.specs.declared.world_phase.WorldPhase.{WorldPhase}
use Rattle.lc_core.specs.declared.world_phase.WorldPhase.TheVariants.{Down, Up, Taken}
use Rattle.lc_core.specs.declared.up.Up.{Up as Rising}
use Rattle.lc_core.proofs.Recoveries.{down_anyhow, not_down_anyhow, others_anyhow, up_anyhow}

-- one event more
lives_on_more : (g : Geometry) (at : Option Life) (events : List Event) (replies : List Reply) (mid : Option Life) (event : Event) (reply : Reply) (after : Option Life) → Lives g at events replies mid
    → AnswersOne g mid event reply after → Lives g at (events ++ event ∷ []) (replies ++ reply ∷ []) after
lives_on_more g at [] [] mid event reply after run one = (after, subst (λ (v : Option Life). AnswersOne g v event reply after) run one, refl)
lives_on_more g at [] (r ∷ replies) mid event reply after run one = absurd run
lives_on_more g at (e ∷ events) [] mid event reply after run one = absurd run
lives_on_more g at (e ∷ events) (r ∷ replies) mid event reply after run one = (run.0, run.1, lives_on_more g run.0 events replies mid event reply after run.2 one)

module _ {D : Type 0} (a : Ghosts D) where
  -- what came of an event, and what the store is beside then
  abbrev Comes : Geometry → Option Life → Event → Reply → WorldPhase D a → Type 0
  Comes g at event reply new = (after : Option Life) × AnswersOne g at event reply after × FitsLife a g after new

  is_down : (g : Geometry) (r : Recovering D) (new : WorldPhase D a) → new ≡ Down r → r.geometry ≡ g → FitsLife a g None new
  is_down g r new is same = subst (λ (p : WorldPhase D a). FitsLife a g None p) (sym is) same

  -- A store that is down

  pub born : (g : Geometry) (up : Rising D a) → BeginsAnew a g up → (life : Life) × IsBorn g life × FitsUp a life.setting up life.state life.numbers × (life.setting.geometry ≡ g)
  born g up begins =
      let life : Life = record {
        setting = record { geometry = g; start = begins.content };
        state = fresh g [] IsUpNow;
        numbers = recovered_numbers g begins.numbers begins.pages begins.texts;
      } in (
        life,
        record { store = begins.store; content = begins.content; counted = begins.numbers; pages = begins.pages; texts = begins.texts; readable = begins.readable; merges = begins.merges; renewed = begins.renewed; life_is = refl },
        begins.fits,
        refl,
      )

  recovers_lives : (g : Geometry) (r : Recovering D) (reply : Reply) (new : WorldPhase D a) → r.geometry ≡ g → may_recover reply ≡ true → AnswersRecovery a r reply new
      → (reply ≡ Recovered → (up : Rising D a) × (new ≡ Up up) × BeginsAnew a r.geometry up) → Comes g None RecoverStep reply new
  recovers_lives g r Recovered new same told answers begins =
      let up = begins refl in
      let its = born g up.0 (subst (λ (h : Geometry). BeginsAnew a h up.0) same up.2) in
      (Some its.0, (its.0, refl, its.1), subst (λ (p : WorldPhase D a). FitsLife a g (Some its.0) p) (sym up.1) (its.2, its.3))
  recovers_lives g r (Stepped steps) new same told answers begins = (let later = (answers.stepped steps refl).1 in (None, (refl, refl), is_down g later.0 new later.1 (later.2 ∙ same)))
  recovers_lives g r (Refused refusal) new same told answers begins = (let areas = answers.refused refusal refl in (None, (told, refl), is_down g _ new areas.1 same))
  recovers_lives g r reply new same told answers begins = absurd cc

  stops_lives : (g : Geometry) (at : Option Life) (old new : WorldPhase D a) → FitsLife a g at old → StopsAll a old new → FitsLife a g None new
  stops_lives g None (Down r) new fits stops = is_down g _ new stops.recovers (stops.were.0 ∙ fits)
  stops_lives g None (Up up) new fits stops = absurd fits
  stops_lives g None Taken new fits stops = absurd fits
  stops_lives g (Some life) (Down r) new fits stops = absurd fits
  stops_lives g (Some life) (Up up) new fits stops = is_down g _ new stops.recovers (stops.were.0 ∙ sym fits.0.running.geometry_is ∙ fits.1)
  stops_lives g (Some life) Taken new fits stops = absurd fits

  refused_lives : (g : Geometry) (r : Recovering D) (event : Event) (reply : Reply) (new : WorldPhase D a) → r.geometry ≡ g → (reply ≡ Refused IsDown) × (new ≡ Down r) → (reply ≡ Refused IsDown) × FitsLife a g None new
  refused_lives g r event reply new same its = (its.0, is_down g r new its.1 same)

  down_lives : (g : Geometry) (r : Recovering D) (event : Event) (reply : Reply) (new : WorldPhase D a) → r.geometry ≡ g → Told a (Down r) event reply new → Comes g None event reply new
  down_lives g r RecoverStep reply new same told =
      let anyhow = told.anyhow (λ choices is. absurd cc) in
      recovers_lives g r reply new same (anyhow.answers refl) (anyhow.recovers refl r refl) (λ is. anyhow.begins refl is r refl)
  down_lives g r (Stop choices) reply new same told = (let stops = told.stops choices refl in (None, (stops.0, refl), stops_lives g None (Down r) new same stops.1))
  down_lives g r event reply new same told = (let its = refused_lives g r event reply new same (told.at_once IsDown refl) in (None, (its.0, refl), its.1))

  -- One that is up

  goes : (g : Geometry) (life : Life) (up : Rising D a) (event : Event) (reply : Reply) (new : WorldPhase D a) → FitsUp a life.setting up life.state life.numbers → life.setting.geometry ≡ g
      → FollowsAnyhow a (Up up) event reply new → (next : Life) × LivesOn life event reply next × FitsLife a g (Some next) new
  goes g life up event reply new fits same anyhow =
      let on = anyhow up refl in
      let leads = on.2 life.setting life.state life.numbers fits in
      let next : Life = record { setting = life.setting; state = leads.after; numbers = leads.next } in (
        next,
        record { setting = refl; step = leads.step; settled = leads.settled; turns = leads.turns },
        subst (λ (p : WorldPhase D a). FitsLife a g (Some next) p) (sym on.1) (leads.fits, same),
      )

  up_lives : (g : Geometry) (life : Life) (up : Rising D a) (event : Event) (reply : Reply) (new : WorldPhase D a) → FitsUp a life.setting up life.state life.numbers → life.setting.geometry ≡ g
      → Told a (Up up) event reply new → Comes g (Some life) event reply new
  up_lives g life up (Stop choices) reply new fits same told = (let stops = told.stops choices refl in (None, (stops.0, refl), stops_lives g (Some life) (Up up) new (fits, same) stops.1))
  up_lives g life up event reply new fits same told =
      let next = goes g life up event reply new fits same (told.anyhow (λ choices is. absurd cc)).goes in
      (Some next.0, (next.0, refl, next.1), next.2)

  -- Any store

  pub one_lives : (g : Geometry) (at : Option Life) (old : WorldPhase D a) (event : Event) (reply : Reply) (new : WorldPhase D a) → FitsLife a g at old → Told a old event reply new → Comes g at event reply new
  one_lives g None (Down r) event reply new fits told = down_lives g r event reply new fits told
  one_lives g None (Up up) event reply new fits told = absurd fits
  one_lives g None Taken event reply new fits told = absurd fits
  one_lives g (Some life) (Down r) event reply new fits told = absurd fits
  one_lives g (Some life) (Up up) event reply new fits told = up_lives g life up event reply new fits.0 fits.1 told
  one_lives g (Some life) Taken event reply new fits told = absurd fits

  -- A run

  pub lives_start : (old : WorldPhase D a) → FollowsLives a old [] [] old
  lives_start old g at fits = (at, refl, fits)

  pub lives_more : (old mid new : WorldPhase D a) (events : List Event) (count : ℕ) (event : Event) (replies : List Reply) (reply : Reply) → count < length events → event ≡ get_or events count event
      → FollowsLives a old (take count events) replies mid → Told a mid event reply new → FollowsLives a old (take (count + 1) events) (replies ++ reply ∷ []) new
  lives_more old mid new events count event replies reply below is run told =
      subst (λ (es : List Event). FollowsLives a old es (replies ++ reply ∷ []) new)
      (sym (take_more events count event below ∙ ap (λ e. take count events ++ e ∷ []) (sym is)))
      (λ g at fits.
      (let so_far = run g at fits in
      let one = one_lives g so_far.0 mid event reply new so_far.2 told in
      (one.0, lives_on_more g at (take count events) replies so_far.0 event reply one.0 so_far.1 one.1, one.2)))

  pub lives_still : (old mid new : WorldPhase D a) (events : List Event) (replies : List Reply) → FollowsLives a old events replies mid → StillLives a mid new → FollowsLives a old events replies new
  lives_still old mid new events replies run still g at fits = (let so_far = run g at fits in (so_far.0, so_far.1, still g so_far.0 so_far.2))

  -- Want of memory

  pub same_still_lives : (old new : WorldPhase D a) → new ≡ old → StillLives a old new
  same_still_lives old new same g at fits = subst (λ (p : WorldPhase D a). FitsLife a g at p) (sym same) fits

  pub up_still_lives : (old : WorldPhase D a) (up new : Rising D a) → old ≡ Up up → StillFitsUp a up new → StillLives a old (Up new)
  up_still_lives old up new is still g None fits = absurd (subst (λ (p : WorldPhase D a). FitsLife a g None p) is fits)
  up_still_lives old up new is still g (Some life) fits =
      let its : FitsUp a life.setting up life.state life.numbers × (life.setting.geometry ≡ g) = subst (λ (p : WorldPhase D a). FitsLife a g (Some life) p) is fits in
      (still life.setting life.state life.numbers its.0, its.1)

  -- What an event does, whatever the areas are

  pub up_told : (old : WorldPhase D a) (up new : Rising D a) (event : Event) (reply : Reply) → old ≡ Up up → (event ≡ RecoverStep → ⊥) → FollowsUp a up event reply new → Anyhow a old event reply (Up new)
  up_told old up new event reply is other follows = record {
    goes = up_anyhow a old up new event reply is follows;
    begins = λ recovers. absurd (other recovers);
    answers = λ recovers. absurd (other recovers);
    recovers = λ recovers. absurd (other recovers);
  }

  pub others_told : (old : WorldPhase D a) (event : Event) (reply : Reply) (new : WorldPhase D a) → ((up : Rising D a) → old ≡ Up up → ⊥) → (event ≡ RecoverStep → ⊥) → Anyhow a old event reply new
  others_told old event reply new not other = record {
    goes = others_anyhow a old event reply new not;
    begins = λ recovers. absurd (other recovers);
    answers = λ recovers. absurd (other recovers);
    recovers = λ recovers. absurd (other recovers);
  }

  pub turn_told : (old : WorldPhase D a) → ((r : Recovering D) → old ≡ Down r → ⊥) → Anyhow a old RecoverStep (Refused OutOfTurn) old
  turn_told old not = record {
    goes = not_down_anyhow a old;
    begins = λ is recovered. absurd cc;
    answers = λ is. refl;
    recovers = λ is r down. absurd (not r down);
  }

  pub down_told : (old : WorldPhase D a) (r : Recovering D) (reply : Reply) (new : WorldPhase D a) → old ≡ Down r → RecoversDown a old reply new → may_recover reply ≡ true → (reply ≡ Recovered → Begins a old new)
      → Anyhow a old RecoverStep reply new
  down_told old r reply new is recovers answers begins = record {
    goes = down_anyhow a old r RecoverStep reply new is;
    begins = λ same recovered. begins recovered;
    answers = λ same. answers;
    recovers = λ same. recovers;
  }
