-- An event makes one call of an area where its reply tells of one, and else none.
use Rattle.std.specs.Prelude.{◌≡◌, ℕ, Bool, true, false, List, [], ◌∷◌, Some, slice_get, slice_set}
use Rattle.lc_disk.specs.declared.area.Area.{Ghosts}
use Rattle.lc_disk.specs.declared.choice.Choice.{Choice}
use Rattle.lc_record.specs.declared.geometry.Geometry.{Geometry}
use Rattle.lc_log.specs.OneCall.{IsOneCall}
use Rattle.lc_model.specs.declared.event.Event.{Event}
use Rattle.lc_model.specs.declared.event.Event.TheVariants.{Stop}
use Rattle.lc_model.specs.declared.reply.Reply.{Reply}
use Rattle.lc_core.specs.Areas.{AreStopped}
use Rattle.lc_core.specs.CallReplies.{IsCalledBy, calls_area}
use Rattle.lc_core.specs.Stops.{AreLeftBy, HasAreas}
use Rattle.lc_core.specs.declared.world_phase.WorldPhase.{WorldPhase}

module _ {D : Type 0} (a : Ghosts D) where
  -- one of these areas is as one call of its device leaves it, and the others are as they were
  pub record CallsOne (olds news : List D) : Type 0 where
    pub at : ℕ
    pub old : D
    pub new : D
    pub ok : Bool
    pub was : slice_get olds at ≡ Some old
    pub is : news ≡ slice_set olds at new
    pub call : IsOneCall a ok old new

  -- where there is to be a call, that is so of an area that the event calls; else all are as they were
  abbrev pub CallsWhere : Bool → Geometry → Event → List D → List D → Type 0
  CallsWhere true g event olds news = (calls : CallsOne olds news) × IsCalledBy g event calls.at
  CallsWhere false g event olds news = news ≡ olds

  abbrev pub CallsTold : Geometry → Event → Reply → List D → List D → Type 0
  CallsTold g event reply olds news = CallsWhere (calls_area g event reply) g event olds news

  -- a store of areas has areas then that were called so
  abbrev pub CallsArea : WorldPhase D a → Event → Reply → WorldPhase D a → Type 0
  CallsArea old event reply new = (g : Geometry) (areas : List D) → HasAreas a old g areas → (later : List D) × HasAreas a new g later × CallsTold g event reply areas later

  -- a store has the same areas then
  abbrev pub KeepsAreas : WorldPhase D a → WorldPhase D a → Type 0
  KeepsAreas old new = (g : Geometry) (areas : List D) → HasAreas a old g areas → HasAreas a new g areas

  -- what an event makes of areas: a stop stops each by the choices at its place; any other event calls what its reply tells
  abbrev pub CallsBy : (D → List Choice → ℕ → ℕ) → Geometry → Event → Reply → List D → List D → Type 0
  CallsBy left g (Stop choices) reply olds news = AreStopped a olds news × AreLeftBy a left choices olds news
  CallsBy left g event reply olds news = CallsTold g event reply olds news

  -- one event after another
  abbrev pub CallsEach : (D → List Choice → ℕ → ℕ) → Geometry → List Event → List Reply → List D → List D → Type 0
  CallsEach left g [] [] olds news = news ≡ olds
  CallsEach left g (event ∷ events) (reply ∷ replies) olds news =
      (mids : List D) × CallsBy left g event reply olds mids × CallsEach left g events replies mids news
  CallsEach left g [] (reply ∷ replies) olds news = ⊥
  CallsEach left g (event ∷ events) [] olds news = ⊥

  -- so it is of the areas of a store, before and after these events
  abbrev pub CallsAll : (D → List Choice → ℕ → ℕ) → List Event → List Reply → WorldPhase D a → WorldPhase D a → Type 0
  CallsAll left events replies old new = (g h : Geometry) (olds news : List D) → HasAreas a old g olds → HasAreas a new h news
      → CallsEach left g events replies olds news
