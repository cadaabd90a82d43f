-- What a store answers to a list of events, whatever its areas are: while it is down it recovers, stops, or refuses; what comes
-- up has the content of a store that was read, and up to the next stop each reply is one of the machine of that content.
use Rattle.std.specs.Prelude.{◌≡◌, ℕ, true, List, [], ◌∷◌, Option, None, Some}
use Rattle.lc_disk.specs.declared.area.Area.{Ghosts}
use Rattle.lc_disk.specs.declared.choice.Choice.{Choice}
use Rattle.lc_page.specs.declared.page_text.PageText.{PageText}
use Rattle.lc_record.specs.Content.{Content}
use Rattle.lc_record.specs.declared.geometry.Geometry.{Geometry}
use Rattle.lc_model.specs.Machine.{Step}
use Rattle.lc_model.specs.Merge.{MergesTo, Page, StoreText}
use Rattle.lc_model.specs.Recovered.{AreRenewed, IsReadable}
use Rattle.lc_model.specs.State.{Setting, State, Up as IsUpNow, fresh}
use Rattle.lc_model.specs.declared.event.Event.{Event}
use Rattle.lc_model.specs.declared.event.Event.TheVariants.{RecoverStep, Stop}
use Rattle.lc_model.specs.declared.refusal.Refusal.TheVariants.{Down as IsDown}
use Rattle.lc_model.specs.declared.reply.Reply.{Reply}
use Rattle.lc_model.specs.declared.reply.Reply.TheVariants.{Down as HasStopped, Recovered, Refused}
use Rattle.lc_events.specs.MayReply.{may_recover}
use Rattle.lc_settled.specs.Numbers.{Numbers, recovered_numbers}
use Rattle.lc_settled.specs.Settled.{Settled}
use Rattle.lc_settled.specs.Turns.{Turns}
use Rattle.lc_core.specs.Recovers.{RecoversDown, RefusesAtOnce}
use Rattle.lc_core.specs.Showing.{image_of}
use Rattle.lc_desk.specs.Showing.{page_of}
use Rattle.lc_core.specs.Stops.{StopsAll}
use Rattle.lc_core.specs.World.{Begins, FitsUp, FollowsAnyhow}
use Rattle.lc_core.specs.declared.world_phase.WorldPhase.{WorldPhase}
use Rattle.lc_core.specs.declared.world_phase.WorldPhase.TheVariants.{Down, Up, Taken}

-- a store that is up, beside the machine
pub record Life : Type 0 where
  pub setting : Setting
  pub state : State
  pub numbers : Numbers

-- it has just come up, with the content of a store that merges to it; its pages are those of that store
pub record IsBorn (g : Geometry) (life : Life) : Type 0 where
  pub store : StoreText
  pub content : Content
  pub counted : ℕ → ℕ
  pub pages : ℕ → ℕ → Page
  pub texts : ℕ → ℕ → PageText
  pub readable : IsReadable g store
  pub merges : MergesTo store content counted
  pub renewed : AreRenewed store content counted pages
  pub life_is : life ≡ record {
    setting = record { geometry = g; start = content };
    state = fresh g [] IsUpNow;
    numbers = recovered_numbers g counted pages texts;
  }

-- the reply is settled, and one of the machine's
pub record LivesOn (life : Life) (event : Event) (reply : Reply) (next : Life) : Type 0 where
  pub setting : next.setting ≡ life.setting
  pub step : Step life.setting life.state event reply next.state
  pub settled : Settled life.setting life.state life.numbers event reply
  pub turns : Turns life.setting life.state life.numbers event reply next.numbers

-- of a store that is down
abbrev pub AnswersDown : Geometry → Event → Reply → Option Life → Type 0
AnswersDown g RecoverStep Recovered after = (life : Life) × (after ≡ Some life) × IsBorn g life
AnswersDown g RecoverStep reply after = (may_recover reply ≡ true) × (after ≡ None)
AnswersDown g (Stop choices) reply after = (reply ≡ HasStopped) × (after ≡ None)
AnswersDown g event reply after = (reply ≡ Refused IsDown) × (after ≡ None)

-- of one that is up
abbrev pub AnswersUp : Life → Event → Reply → Option Life → Type 0
AnswersUp life (Stop choices) reply after = (reply ≡ HasStopped) × (after ≡ None)
AnswersUp life event reply after = (next : Life) × (after ≡ Some next) × LivesOn life event reply next

abbrev pub AnswersOne : Geometry → Option Life → Event → Reply → Option Life → Type 0
AnswersOne g None event reply after = AnswersDown g event reply after
AnswersOne g (Some life) event reply after = AnswersUp life event reply after

-- one event after another
abbrev pub Lives : Geometry → Option Life → List Event → List Reply → Option Life → Type 0
Lives g at [] [] after = after ≡ at
Lives g at (event ∷ events) (reply ∷ replies) after = (mid : Option Life) × AnswersOne g at event reply mid × Lives g mid events replies after
Lives g at [] (reply ∷ replies) after = ⊥
Lives g at (event ∷ events) [] after = ⊥

module _ {D : Type 0} (a : Ghosts D) where
  -- the store is down, or up beside this
  abbrev pub FitsLife : Geometry → Option Life → WorldPhase D a → Type 0
  FitsLife g None (Down r) = r.geometry ≡ g
  FitsLife g (Some life) (Up up) = FitsUp a life.setting up life.state life.numbers × (life.setting.geometry ≡ g)
  FitsLife g None (Up up) = ⊥
  FitsLife g (Some life) (Down r) = ⊥
  FitsLife g at Taken = ⊥

  -- it has just come up, beside a life that is born
  abbrev pub IsNewborn : WorldPhase D a → Type 0
  IsNewborn phase = (life : Life) × IsBorn life.setting.geometry life × FitsLife life.setting.geometry (Some life) phase

  -- whatever it stood beside, it still stands beside
  abbrev pub StillLives : WorldPhase D a → WorldPhase D a → Type 0
  StillLives old new = (g : Geometry) (at : Option Life) → FitsLife g at old → FitsLife g at new

  -- a page that it shows while it is up is the machine's
  abbrev pub ShowsLife : WorldPhase D a → ℕ → ℕ → ℕ → List ℕ → Type 0
  ShowsLife phase node segment page bytes =
      (g : Geometry) (life : Life) → FitsLife g (Some life) phase → bytes ≡ page_of (image_of life.setting life.state life.numbers node segment) page

  -- over a list of events
  abbrev pub FollowsLives : WorldPhase D a → List Event → List Reply → WorldPhase D a → Type 0
  FollowsLives old events replies new = (g : Geometry) (at : Option Life) → FitsLife g at old → (after : Option Life) × Lives g at events replies after × FitsLife g after new

  -- what an event that is no stop does, whatever the areas are
  pub record Anyhow (old : WorldPhase D a) (event : Event) (reply : Reply) (new : WorldPhase D a) : Type 0 where
    -- one that is up follows the machine
    pub goes : FollowsAnyhow a old event reply new
    -- what comes up is a store of what was read
    pub begins : event ≡ RecoverStep → reply ≡ Recovered → Begins a old new
    pub answers : event ≡ RecoverStep → may_recover reply ≡ true
    pub recovers : event ≡ RecoverStep → RecoversDown a old reply new

  -- any event
  pub record Told (old : WorldPhase D a) (event : Event) (reply : Reply) (new : WorldPhase D a) : Type 0 where
    pub anyhow : ((choices : List (List Choice)) → event ≡ Stop choices → ⊥) → Anyhow old event reply new
    pub at_once : RefusesAtOnce a old event reply new
    pub stops : (choices : List (List Choice)) → event ≡ Stop choices → (reply ≡ HasStopped) × StopsAll a old new
