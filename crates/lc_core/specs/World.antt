-- A store that is down or up, against the machine and the numbers.
use Rattle.std.specs.Prelude.{◌≡◌, ◌⊎◌, ◌++◌, ℕ, []}
use Rattle.lc_disk.specs.declared.area.Area.{Ghosts}
use Rattle.lc_page.specs.declared.page_text.PageText.{PageText}
use Rattle.lc_record.specs.Content.{Content}
use Rattle.lc_record.specs.declared.geometry.Geometry.{Geometry}
use Rattle.lc_record.specs.Transaction.{effects}
use Rattle.lc_recover.specs.Reads.{AreHonest, AllMergeTo, HaveLengths}
use Rattle.lc_recover.specs.Recovery.{Recovering, IsLast, TakesMemory}
use Rattle.lc_model.specs.History.{Cut, kept}
use Rattle.lc_model.specs.Machine.{Step}
use Rattle.lc_model.specs.Merge.{MergesTo, Page, StoreText}
use Rattle.lc_model.specs.Recovered.{AreRenewed, IsReadable}
use Rattle.lc_model.specs.Sound.{Sound}
use Rattle.lc_model.specs.State.{DownAt, Up as IsUpNow, Setting, State, fresh}
use Rattle.lc_model.specs.declared.event.Event.{Event}
use Rattle.lc_model.specs.declared.event.Event.TheVariants.{RecoverStep}
use Rattle.lc_model.specs.declared.reply.Reply.{Reply}
use Rattle.lc_core.specs.Asks.{EventAsks}
use Rattle.lc_core.specs.HonestAreas.{HonestUp}
use Rattle.lc_settled.specs.Numbers.{Numbers, recovered_numbers}
use Rattle.lc_desk.specs.Pages.{FitsPages}
use Rattle.lc_core.specs.Paging.{HaltAll}
use Rattle.lc_events.specs.Running.{FitsRunning}
use Rattle.lc_settled.specs.Settled.{Settled}
use Rattle.lc_events.specs.Stepping.{AsksMemory}
use Rattle.lc_settled.specs.Turns.{Turns, kept_numbers}
use Rattle.lc_core.specs.declared.world_phase.WorldPhase.{WorldPhase}
use Rattle.lc_core.specs.declared.world_phase.WorldPhase.TheVariants.{Down, Up, Taken}
use Rattle.lc_core.specs.declared.world.World.{World}
use Rattle.lc_core.specs.declared.up.Up.{Up as UpStore}

-- a step of the machine under this reply, which is settled, and the numbers after it; there this fits
pub record LeadsTo (m : Setting) (event : Event) (s : State) (x : Numbers) (reply : Reply) (Fits : State → Numbers → Type 0) : Type 0 where
  pub after : State
  pub next : Numbers
  pub step : Step m s event reply after
  pub settled : Settled m s x event reply
  pub turns : Turns m s x event reply next
  pub fits : Fits after next

module _ {D : Type 0} (a : Ghosts D) where
  -- whatever a stop leaves of the areas merges to what the cut keeps, also while their recovery goes on
  pub record FitsDown (m : Setting) (r : Recovering D) (s : State) (x : Numbers) : Type 0 where
    pub geometry_is : r.geometry ≡ m.geometry
    pub cut : Cut
    pub down : s.phase ≡ DownAt cut
    pub sound : Sound m.geometry s
    pub lengths : HaveLengths a r.geometry r.areas
    pub honest : AreHonest a r.areas
    pub merges : AllMergeTo a m.geometry r.areas (effects (s.earlier ++ kept s.history cut) m.start) (kept_numbers (DownAt cut) s x)
    pub steps_are : x.steps ≡ r.steps

  -- the nodes and the pages of a store that is up, whatever its areas are
  pub record FitsUp (m : Setting) (up : UpStore D a) (s : State) (x : Numbers) : Type 0 where
    pub running : FitsRunning a m up.running s x
    pub pages : FitsPages a m up.segments.items x
    pub failed : HaltAll a s up.segments.items

  -- of a store whose areas keep to the model of a disk
  abbrev pub FitsPhase : Setting → WorldPhase D a → State → Numbers → Type 0
  FitsPhase m (Down recovery) s x = FitsDown m recovery s x
  FitsPhase m (Up up) s x = FitsUp m up s x × HonestUp a up
  FitsPhase m Taken s x = ⊥

  abbrev pub FitsWorld : Setting → World D a → State → Numbers → Type 0
  FitsWorld m w s x = FitsPhase m w.phase s x

  abbrev pub Leads : Setting → Event → State → Numbers → Reply → WorldPhase D a → Type 0
  Leads m event s x reply new = LeadsTo m event s x reply (FitsPhase m new)

  -- whatever state and numbers it fits
  abbrev pub FollowsWorld : World D a → Event → Reply → World D a → Type 0
  FollowsWorld old event reply new = (m : Setting) (s : State) (x : Numbers) → FitsWorld m old s x → Leads m event s x reply new.phase

  -- so it is for a store that is up, whatever its areas are
  abbrev pub FollowsUp : UpStore D a → Event → Reply → UpStore D a → Type 0
  FollowsUp old event reply new = (m : Setting) (s : State) (x : Numbers) → FitsUp m old s x → LeadsTo m event s x reply (FitsUp m new)

  -- what has come up fits the machine's fresh state, with the content of a store that merges to it: the pages that are up are its own
  pub record BeginsAnew (g : Geometry) (up : UpStore D a) : Type 0 where
    pub store : StoreText
    pub content : Content
    pub numbers : ℕ → ℕ
    pub pages : ℕ → ℕ → Page
    pub texts : ℕ → ℕ → PageText
    pub readable : IsReadable g store
    pub merges : MergesTo store content numbers
    pub renewed : AreRenewed store content numbers pages
    pub fits : FitsUp (record { geometry = g; start = content }) up (fresh g [] IsUpNow) (recovered_numbers g numbers pages texts)

  -- what an event of a store that is up leads to, whatever its areas are
  abbrev pub FollowsAnyhow : WorldPhase D a → Event → Reply → WorldPhase D a → Type 0
  FollowsAnyhow old event reply new = (up : UpStore D a) → old ≡ Up up → (later : UpStore D a) × (new ≡ Up later) × FollowsUp up event reply later

  -- and the last step of a recovery
  abbrev pub Begins : WorldPhase D a → WorldPhase D a → Type 0
  Begins old new = (r : Recovering D) → old ≡ Down r → (up : UpStore D a) × (new ≡ Up up) × BeginsAnew r.geometry up

  abbrev pub StillFitsUp : UpStore D a → UpStore D a → Type 0
  StillFitsUp old new = (m : Setting) (s : State) (x : Numbers) → FitsUp m old s x → FitsUp m new s x

  -- whatever it fitted, it still fits
  abbrev pub StillFitsWorld : World D a → World D a → Type 0
  StillFitsWorld old new = (m : Setting) (s : State) (x : Numbers) → FitsWorld m old s x → FitsWorld m new s x

  -- in whatever state and with the numbers that it fits, the event asks for memory
  abbrev pub AsksWorld : World D a → Event → Type 0
  AsksWorld old event = (m : Setting) (s : State) (x : Numbers) → FitsWorld m old s x → EventAsks m s x event

  -- a step of a recovery may want memory, and the last of them that of all that comes up
  abbrev pub AsksAtAll : Recovering D → Event → Type 0
  AsksAtAll recovery RecoverStep = TakesMemory recovery ⊎ IsLast recovery
  AsksAtAll recovery event = ⊥

  abbrev pub AsksIn : WorldPhase D a → Event → Type 0
  AsksIn (Down recovery) event = AsksAtAll recovery event
  AsksIn (Up up) event = AsksMemory a up.running event
  AsksIn Taken event = ⊥
