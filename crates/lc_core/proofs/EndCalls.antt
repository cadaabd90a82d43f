-- Of the store: a transaction gets its place, and its record is closed there, from the nodes up to the store.
use Rattle.std.proofs.Common.{◌≡◌, ℕ, refl, ◌∙◌, inl, inr}
use Rattle.std.specs.Prelude.{Result, Ok, Err}
use Rattle.std.specs.declared.alloc.AllocError.{AllocError}
use Rattle.lc_disk.specs.declared.area.Area.{Ghosts}
use Rattle.lc_model.specs.declared.event.Event.{Event}
use Rattle.lc_model.specs.declared.event.Event.TheVariants.{Close, Reserve}
use Rattle.lc_model.specs.declared.reply.Reply.{Reply}
use Rattle.lc_model.specs.declared.reply.Reply.TheVariants.{Reserved as HasPlace}
use Rattle.lc_core.specs.Answered.{ClosesBehind, ComesTo, Ends, Tries}
use Rattle.lc_events.specs.Answered.{done, place_taken}
use Rattle.lc_events.specs.EndCalls.{EndsRunning, HasNone, tried}
use Rattle.lc_core.specs.EndCalls.{EndsUp}
use Rattle.lc_events.specs.Faults.{SameDevices}
use Rattle.lc_events.specs.declared.call_fault.CallFault.{CallFault}
use Rattle.lc_events.specs.declared.call_fault.CallFault.TheVariants.{NoMemory, Refused as IsRefused}
use Rattle.lc_core.specs.declared.world_phase.WorldPhase.TheVariants.{Up}
use Rattle.lc_events.specs.declared.placement.Placement.{Placement}
use Rattle.lc_events.specs.declared.placement.Placement.TheVariants.{Empty as IsEmpty, Record as HasRecord}
use Rattle.lc_events.specs.declared.running.Running.{Running}
use Rattle.lc_core.specs.declared.up.Up.{Up as Rising}
use Rattle.lc_core.specs.declared.world.World.{World}
use Rattle.lc_core.proofs.Devices.{up_whole}
use Rattle.lc_core.proofs.Layering.{steps_up, tries_devices, tries_up, up_steps, up_tries}
use Rattle.lc_events.proofs.EndCalls.{closes, places}

module _ {D : Type 0} (a : Ghosts D) where
  -- the devices stay
  pub end_devices : (n thread : ℕ) (old : Running D a) (result : Result Placement CallFault) (new : Running D a) → EndsRunning a n thread old result new → SameDevices a old new
  end_devices n thread old result new (inl there) = tries_devices a old new (Reserve n thread) (tried result) there.places
  end_devices n thread old result new (inr it) =
      let first = tries_devices a old it.mid (Reserve n thread) (Ok (HasPlace it.place it.words)) it.places in
      let second = it.closes.counts.devices in
      record { geometry = second.geometry ∙ first.geometry; kinds = second.kinds ∙ first.kinds }

  abbrev with_nodes : (up : Rising D a) (mid : Running D a) → SameDevices a up.running mid → Rising D a
  with_nodes up mid same =
      let w = up_whole a up mid same in
      record {
        running = mid;
        segments = up.segments;
        spare = up.spare;
        all_segments = w.all_segments;
        logs = w.logs;
        lengths = w.lengths;
        pages = w.pages;
        none = w.none;
        room = w.room;
      }

  pub up_ends : (n thread : ℕ) (up later : Rising D a) (result : Result Placement CallFault) → later.segments ≡ up.segments → EndsRunning a n thread up.running result later.running → EndsUp a n thread up result later
  up_ends n thread up later result segments (inl there) = inl (record { none = there.none; places = up_tries a up later (Reserve n thread) (tried result) refl (λ m x. tt) segments there.places })
  up_ends n thread up later result segments (inr it) =
      let r : Result Reply AllocError = Ok (HasPlace it.place it.words) in
      let mid = with_nodes up it.mid (tries_devices a up.running it.mid (Reserve n thread) r it.places) in
      inr (record {
        place = it.place;
        words = it.words;
        mid = mid;
        closed = it.closed;
        places = up_tries a up mid (Reserve n thread) r refl (λ m x. tt) refl it.places;
        closes = up_steps a mid later (Close n thread) (done it.closed) refl (λ m x. tt) segments it.closes;
        is = it.is;
      })

  -- A store

  comes_of : (old new : World D a) (event : Event) (result : Result Placement CallFault) → Tries a old event (tried result) new → ComesTo a old event (place_taken result) new
  comes_of old new event (Ok (HasRecord place words)) tries = tries
  comes_of old new event (Ok IsEmpty) tries = tries
  comes_of old new event (Err (IsRefused refusal)) tries = tries
  comes_of old new event (Err NoMemory) tries = tries

  none_behind : (n thread : ℕ) (new : World D a) (result : Result Placement CallFault) → HasNone result → ClosesBehind a n thread result new result new
  none_behind n thread new (Ok (HasRecord place words)) none = absurd none
  none_behind n thread new (Ok IsEmpty) none = (refl, refl)
  none_behind n thread new (Err fault) none = (refl, refl)

  up_world : Rising D a → World D a
  up_world up = record { phase = Up up; going = λ r is done. absurd cc; there = λ is. absurd cc }

  pub world_ends : (n thread : ℕ) (old new : World D a) (up later : Rising D a) (result : Result Placement CallFault) → old.phase ≡ Up up → new.phase ≡ Up later → EndsUp a n thread up result later
      → Ends a n thread old result new
  unfolding up_world
  world_ends n thread old new up later result was is (inl there) = (
    result,
    new,
    comes_of old new (Reserve n thread) result (tries_up a old new up later (Reserve n thread) (tried result) was is (λ e. absurd cc) there.places),
    none_behind n thread new result there.none,
  )
  world_ends n thread old new up later result was is (inr it) =
      let r : Result Reply AllocError = Ok (HasPlace it.place it.words) in
      let mid = up_world it.mid in (
        Ok (HasRecord it.place it.words),
        mid,
        tries_up a old mid up it.mid (Reserve n thread) r was refl (λ e. absurd cc) it.places,
        (it.closed, steps_up a mid new it.mid later (Close n thread) (done it.closed) refl is (λ e. absurd cc) it.closes, it.is),
      )
