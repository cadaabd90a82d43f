-- An end of a store, by its one call, is one of the machine and the numbers; one that is down refuses it.
use Rattle.std.proofs.Common.{◌≡◌, ℕ, Some, None, refl, sym, ap, subst, ◌∙◌}
use Rattle.std.specs.Prelude.{Result, Ok, Err}
use Rattle.std.proofs.lemmas.Option.{same_Some as same_some}
use Rattle.lc_disk.specs.declared.area.Area.{Ghosts}
use Rattle.lc_model.specs.State.{Setting, State}
use Rattle.lc_model.specs.declared.event.Event.TheVariants.{Close, Reserve}
use Rattle.lc_model.specs.declared.refusal.Refusal.{Refusal}
use Rattle.lc_model.specs.declared.reply.Reply.{Reply}
use Rattle.lc_model.specs.declared.reply.Reply.TheVariants.{Ok as Accepted, Ended, Refused, Reserved}
use Rattle.lc_core.specs.Answered.{ClosesBehind, ComesTo, Ends, WantsMemory}
use Rattle.lc_events.specs.Answered.{closed_at, done, place_taken}
use Rattle.lc_settled.specs.Numbers.{Numbers}
use Rattle.lc_core.specs.Truncating.{StepsTo}
use Rattle.lc_core.specs.World.{FitsWorld}
use Rattle.lc_events.specs.declared.call_fault.CallFault.{CallFault}
use Rattle.lc_events.specs.declared.call_fault.CallFault.TheVariants.{NoMemory, Refused as IsRefused}
use Rattle.lc_events.specs.declared.placement.Placement.{Placement}
use Rattle.lc_events.specs.declared.placement.Placement.TheVariants.{Record as HasRecord, Empty as IsEmpty}
use Rattle.lc_core.specs.declared.world.World.{World}
use Rattle.lc_tool.specs.Fits.{FollowsEnd, IsUpBeside, RefusesDown}
use Rattle.lc_tool.proofs.Beside.{not_down, refuses_down}
use Rattle.lc_tool.proofs.Performing.{IsOther, never_refused, not_reserved, reserved_closed}
use Rattle.lc_tool.proofs.Truncations.{IsFollowed, up_followed, world_followed}

module _ {D : Type 0} (a : Ghosts D) where
  module _ (node thread : ℕ) (old new : World D a) (reply : Reply) where
    module _ (Fits : Setting → World D a → State → Numbers → Type 0) (followed : IsFollowed a Fits) where
      -- what was reserved is closed, and the close is never refused
      closes_by : (mid : World D a) (place words : ℕ) (closed : Result (Unit {0}) Refusal) → StepsTo a old (Reserve node thread) (Reserved place words) mid
          → StepsTo a mid (Close node thread) (done closed) new → place_taken (closed_at closed (HasRecord place words)) ≡ Some reply → FollowsEnd a Fits old node thread reply new
      closes_by mid place words (Ok its) reserves closes is =
          subst (λ (r : Reply). FollowsEnd a Fits old node thread r new) (same_some (Reserved place words) reply is)
          (reserved_closed a Fits old mid new node thread place words (followed.goes old mid (Reserve node thread) (Reserved place words) reserves) (followed.goes mid new (Close node thread) Accepted closes))
      closes_by mid place words (Err refusal) reserves closes is =
          subst (λ (r : Reply). FollowsEnd a Fits old node thread r new) (same_some (Refused refusal) reply is)
          (never_refused a Fits old mid new node thread place words (Refused refusal) (followed.goes old mid (Reserve node thread) (Reserved place words) reserves)
          (followed.goes mid new (Close node thread) (Refused refusal) closes) (λ bad. cc))

      ends_there : (mid : World D a) (first : Reply) → StepsTo a old (Reserve node thread) first mid → IsOther first → new ≡ mid → Some first ≡ Some reply → FollowsEnd a Fits old node thread reply new
      ends_there mid first reserves other same is =
          subst (λ (w : World D a). FollowsEnd a Fits old node thread reply w) (sym same)
          (subst (λ (r : Reply). FollowsEnd a Fits old node thread r mid) (same_some first reply is)
          (not_reserved a Fits old mid node thread first (followed.goes old mid (Reserve node thread) first reserves) other))

      ends_by : (result first : Result Placement CallFault) (mid : World D a) → ComesTo a old (Reserve node thread) (place_taken first) mid → ClosesBehind a node thread first mid result new
          → place_taken result ≡ Some reply → FollowsEnd a Fits old node thread reply new
      ends_by result (Ok (HasRecord place words)) mid reserves closes is = closes_by mid place words closes.0 reserves closes.1 (sym (ap place_taken closes.2) ∙ is)
      ends_by result (Ok IsEmpty) mid reserves same is = ends_there mid Ended reserves (λ place words bad. cc) same.1 (sym (ap place_taken same.0) ∙ is)
      ends_by result (Err (IsRefused refusal)) mid reserves same is = ends_there mid (Refused refusal) reserves (λ place words bad. cc) same.1 (sym (ap place_taken same.0) ∙ is)
      ends_by result (Err NoMemory) mid wants same is = let none : None ≡ Some reply = sym (ap place_taken same.0) ∙ is in absurd cc

    -- of a store that is down the reservation is refused
    refused_there : (mid : World D a) (first : Reply) → StepsTo a old (Reserve node thread) first mid → new ≡ mid → Some first ≡ Some reply → RefusesDown a old reply new
    refused_there mid first reserves same is =
        subst (λ (w : World D a). RefusesDown a old reply w) (sym same)
        (subst (λ (r : Reply). RefusesDown a old r mid) (same_some first reply is) (refuses_down a old mid (Reserve node thread) first refl reserves.at_once))

    down_by : (result first : Result Placement CallFault) (mid : World D a) → ComesTo a old (Reserve node thread) (place_taken first) mid → ClosesBehind a node thread first mid result new
        → place_taken result ≡ Some reply → RefusesDown a old reply new
    down_by result (Ok (HasRecord place words)) mid reserves closes is = not_down a old mid new (Reserve node thread) (Reserved place words) reply refl reserves.at_once (λ bad. cc)
    down_by result (Ok IsEmpty) mid reserves same is = refused_there mid Ended reserves same.1 (sym (ap place_taken same.0) ∙ is)
    down_by result (Err (IsRefused refusal)) mid reserves same is = refused_there mid (Refused refusal) reserves same.1 (sym (ap place_taken same.0) ∙ is)
    down_by result (Err NoMemory) mid wants same is = let none : None ≡ Some reply = sym (ap place_taken same.0) ∙ is in absurd cc

    module _ (result : Result Placement CallFault) (to : Ends a node thread old result new) (is : place_taken result ≡ Some reply) where
      pub end_follows : FollowsEnd a (FitsWorld a) old node thread reply new
      end_follows = ends_by (FitsWorld a) (world_followed a) result to.0 to.1 to.2 to.3 is

      pub end_anyhow : FollowsEnd a (IsUpBeside a) old node thread reply new
      end_anyhow = ends_by (IsUpBeside a) (up_followed a) result to.0 to.1 to.2 to.3 is

      pub end_down : RefusesDown a old reply new
      end_down = down_by result to.0 to.1 to.2 to.3 is

  -- only the reservation wants memory
  module _ (node thread : ℕ) (old new : World D a) where
    wants_at_close : (mid : World D a) (place words : ℕ) (closed : Result (Unit {0}) Refusal) → Err NoMemory ≡ closed_at closed (HasRecord place words) → WantsMemory a old (Reserve node thread) new
    wants_at_close mid place words (Ok its) is = absurd cc
    wants_at_close mid place words (Err refusal) is = absurd cc

    wants_by : (first : Result Placement CallFault) (mid : World D a) → ComesTo a old (Reserve node thread) (place_taken first) mid → ClosesBehind a node thread first mid (Err NoMemory) new
        → WantsMemory a old (Reserve node thread) new
    wants_by (Ok (HasRecord place words)) mid reserves closes = wants_at_close mid place words closes.0 closes.2
    wants_by (Ok IsEmpty) mid reserves same = absurd (let bad = same.0 in cc)
    wants_by (Err (IsRefused refusal)) mid reserves same = absurd (let bad = same.0 in cc)
    wants_by (Err NoMemory) mid wants same = subst (λ (w : World D a). WantsMemory a old (Reserve node thread) w) (sym same.1) wants

    pub end_wants : (result : Result Placement CallFault) → Ends a node thread old result new → result ≡ Err NoMemory → WantsMemory a old (Reserve node thread) new
    end_wants result to is =
        let none = subst (λ (r : Result Placement CallFault). ClosesBehind a node thread to.0 to.1 r new) is to.3 in
        wants_by to.0 to.1 to.2 none
