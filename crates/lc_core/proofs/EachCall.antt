-- The calls of a run, event by event.
use Rattle.std.proofs.Common.{◌≡◌, ℕ, ◌+◌, ◌<◌, List, [], ◌∷◌, ◌++◌, get_or, length, take, refl, sym, ap, subst, ◌∙◌}
use Rattle.std.proofs.lemmas.List.{take_more}
use Rattle.lc_disk.specs.declared.area.Area.{Ghosts}
use Rattle.lc_disk.specs.declared.choice.Choice.{Choice}
use Rattle.lc_record.specs.declared.geometry.Geometry.{Geometry}
use Rattle.lc_model.specs.declared.event.Event.{Event}
use Rattle.lc_model.specs.declared.event.Event.TheVariants.{Stop}
use Rattle.lc_model.specs.declared.reply.Reply.{Reply}
use Rattle.lc_core.specs.Areas.{AreStopped}
use Rattle.lc_core.specs.Calls.{CallsAll, CallsArea, CallsBy, CallsEach, KeepsAreas}
use Rattle.lc_core.specs.Stops.{HasAreas, IsLeftBy, StopsAll}
use Rattle.lc_core.specs.declared.world_phase.WorldPhase.{WorldPhase}
use Rattle.lc_core.specs.declared.world_phase.WorldPhase.TheVariants.{Down, Up, Taken}
use Rattle.lc_core.proofs.Stopped.{one_list}

module _ {D : Type 0} (a : Ghosts D) (left : D → List Choice → ℕ → ℕ) where
  each_more : (g : Geometry) (events : List Event) (replies : List Reply) (olds mids news : List D) (event : Event) (reply : Reply) → CallsEach a left g events replies olds mids → CallsBy a left g event reply mids news
      → CallsEach a left g (events ++ event ∷ []) (replies ++ reply ∷ []) olds news
  each_more g [] [] olds mids news event reply same one = (news, subst (λ (l : List D). CallsBy a left g event reply l news) same one, refl)
  each_more g (first ∷ events) (told ∷ replies) olds mids news event reply all one = (all.0, all.1, each_more g events replies all.0 mids news event reply all.2 one)
  each_more g [] (told ∷ replies) olds mids news event reply all one = absurd all
  each_more g (first ∷ events) [] olds mids news event reply all one = absurd all

  -- a stop stops the areas that a store has
  stop_areas : (old new : WorldPhase D a) → StopsAll a old new → (g : Geometry) (areas : List D) → HasAreas a old g areas → (later : List D) × HasAreas a new g later × AreStopped a areas later
  stop_areas (Down r) new stops g areas has = (
    stops.news,
    subst (λ (p : WorldPhase D a). HasAreas a p g stops.news) (sym stops.recovers) (has.0 ∙ sym stops.were.0, refl),
    subst (λ (l : List D). AreStopped a l stops.news) (one_list a (Down r) stops.geometry g stops.olds areas stops.were has) stops.stopped,
  )
  stop_areas (Up up) new stops g areas has = (
    stops.news,
    subst (λ (p : WorldPhase D a). HasAreas a p g stops.news) (sym stops.recovers) (has.0 ∙ sym stops.were.0, refl),
    subst (λ (l : List D). AreStopped a l stops.news) (one_list a (Up up) stops.geometry g stops.olds areas stops.were has) stops.stopped,
  )
  stop_areas Taken new stops g areas has = absurd has

  -- what a step does with the areas
  pub record Does (event : Event) (reply : Reply) (old new : WorldPhase D a) : Type 0 where
    pub calls : ((choices : List (List Choice)) → event ≡ Stop choices → ⊥) → CallsArea a old event reply new
    pub stops : (choices : List (List Choice)) → event ≡ Stop choices → StopsAll a old new
    pub chosen : (choices : List (List Choice)) → event ≡ Stop choices → IsLeftBy a left choices old new

  -- its areas then
  abbrev DoesOn : Event → Reply → WorldPhase D a → WorldPhase D a → Type 0
  DoesOn event reply old new = (g : Geometry) (areas : List D) → HasAreas a old g areas → (later : List D) × HasAreas a new g later × CallsBy a left g event reply areas later

  by_event : (event : Event) (reply : Reply) (old new : WorldPhase D a) → Does event reply old new → DoesOn event reply old new
  by_event event reply old new = elim event as (λ (e : Event). Does e reply old new → DoesOn e reply old new) [
    | Stop choices ↦ λ does g areas has.
        (let stopped = stop_areas old new (does.stops choices refl) g areas has in
        (stopped.0, stopped.1, (stopped.2, does.chosen choices refl g g areas stopped.0 has stopped.1)))
    | _ ↦ λ does g areas has. does.calls (λ choices is. absurd cc) g areas has
  ]

  -- the areas after these events, of a store that has some before
  abbrev pub Chain : List Event → List Reply → WorldPhase D a → WorldPhase D a → Type 0
  Chain events replies old new = (g : Geometry) (olds : List D) → HasAreas a old g olds → (news : List D) × HasAreas a new g news × CallsEach a left g events replies olds news

  pub chain_start : (old : WorldPhase D a) → Chain [] [] old old
  chain_start old g olds has = (olds, has, refl)

  pub chain_more : (old mid new : WorldPhase D a) (events : List Event) (count : ℕ) (event : Event) (replies : List Reply) (reply : Reply) → count < length events → event ≡ get_or events count event
      → Chain (take count events) replies old mid → Does event reply mid new → Chain (take (count + 1) events) (replies ++ reply ∷ []) old new
  chain_more old mid new events count event replies reply below is so_far does = subst (λ (es : List Event). Chain es (replies ++ reply ∷ []) old new)
      (sym (take_more events count event below ∙ ap (λ e. take count events ++ e ∷ []) (sym is)))
      (λ g olds has.
      (let mids = so_far g olds has in
      let news = by_event event reply mid new does g mids.0 mids.1 in
      (news.0, news.1, each_more g (take count events) replies olds mids.0 news.0 event reply mids.2 news.2)))

  pub chain_kept : (old mid new : WorldPhase D a) (events : List Event) (replies : List Reply) → Chain events replies old mid → KeepsAreas a mid new → Chain events replies old new
  chain_kept old mid new events replies so_far kept g olds has = (let mids = so_far g olds has in (mids.0, kept g mids.0 mids.1, mids.2))

  -- and there is one such list
  pub chain_all : (old new : WorldPhase D a) (events : List Event) (replies : List Reply) → Chain events replies old new → CallsAll a left events replies old new
  chain_all old new events replies chain g h olds news before after =
      let its = chain g olds before in
      subst (λ (l : List D). CallsEach a left g events replies olds l) (one_list a new g h its.0 news its.1 after) its.2
