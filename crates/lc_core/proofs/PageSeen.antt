-- Why a store shows no page, in the words of what is seen, as its phase says it.
use Rattle.std.proofs.Common.{◌≡◌, ℕ, Bool, true, false, Option, None, Some, refl, sym, ap, subst, ◌∙◌, true≢false}
use Rattle.std.specs.Prelude.{if◌then◌else◌}
use Rattle.lc_disk.specs.declared.area.Area.{Ghosts}
use Rattle.lc_model.specs.declared.refusal.Refusal.{Refusal}
use Rattle.lc_model.specs.declared.refusal.Refusal.TheVariants.{Down as IsDown, Unknown}
use Rattle.lc_core.specs.Observed.{RefusesAt, ShowsAt, has_page, observed, stands_up}
use Rattle.lc_core.specs.Stops.{HasAreas}
use Rattle.lc_core.specs.declared.world_phase.WorldPhase.{WorldPhase}
use Rattle.lc_core.specs.declared.world_phase.WorldPhase.TheVariants.{Down, Up, Taken}
use Rattle.lc_core.specs.declared.world.World.{World}
use Rattle.lc_core.proofs.StaysHonest.{all_areas}

none_or : (b : Bool) → b ≡ true → (if b then None else Some Unknown) ≡ None
none_or true is = refl
none_or false is = absurd (true≢false (sym is))

some_or : (b : Bool) → b ≡ false → (if b then None else Some Unknown) ≡ Some Unknown
some_or true is = absurd (true≢false is)
some_or false is = refl

module _ {D : Type 0} (a : Ghosts D) where
  abbrev pub page_refusal : WorldPhase D a → ℕ → ℕ → ℕ → Option Refusal
  page_refusal (Down recovery) node segment page = Some IsDown
  page_refusal (Up up) node segment page = if has_page up.running.geometry node segment page then None else Some Unknown
  page_refusal Taken node segment page = Some IsDown

  shown_in : (phase : WorldPhase D a) (w : World D a) → w.phase ≡ phase → (node segment page : ℕ) → ShowsAt (observed a w) node segment page → page_refusal phase node segment page ≡ None
  shown_in (Up up) w is node segment page shows =
      let all = all_areas a up in
      none_or (has_page up.running.geometry node segment page) (shows.1 up.running.geometry all.0 (subst (λ (p : WorldPhase D a). HasAreas a p up.running.geometry all.0) (sym is) (refl, all.1)))
  shown_in (Down recovery) w is node segment page shows = absurd (true≢false (sym shows.0 ∙ ap (stands_up a) is))
  shown_in Taken w is node segment page shows = absurd (true≢false (sym shows.0 ∙ ap (stands_up a) is))

  pub page_shown_at : (w : World D a) (node segment page : ℕ) → ShowsAt (observed a w) node segment page → page_refusal w.phase node segment page ≡ None
  page_shown_at w node segment page shows = shown_in w.phase w refl node segment page shows

  refused_in : (phase : WorldPhase D a) (w : World D a) → w.phase ≡ phase → (node segment page : ℕ) (refusal : Refusal) → RefusesAt (observed a w) node segment page refusal
      → page_refusal phase node segment page ≡ Some refusal
  refused_in (Up up) w is node segment page IsDown refuses = absurd (true≢false (sym (ap (stands_up a) is) ∙ refuses))
  refused_in (Up up) w is node segment page Unknown refuses =
      let all = all_areas a up in
      some_or (has_page up.running.geometry node segment page) (refuses.1 up.running.geometry all.0 (subst (λ (p : WorldPhase D a). HasAreas a p up.running.geometry all.0) (sym is) (refl, all.1)))
  refused_in (Down recovery) w is node segment page IsDown refuses = refl
  refused_in (Down recovery) w is node segment page Unknown refuses = absurd (true≢false (sym refuses.0 ∙ ap (stands_up a) is))
  refused_in Taken w is node segment page IsDown refuses = refl
  refused_in Taken w is node segment page Unknown refuses = absurd (true≢false (sym refuses.0 ∙ ap (stands_up a) is))
  refused_in phase w is node segment page refusal refuses = absurd refuses

  pub page_refused_at : (w : World D a) (node segment page : ℕ) (refusal : Refusal) → RefusesAt (observed a w) node segment page refusal → page_refusal w.phase node segment page ≡ Some refusal
  page_refused_at w node segment page refusal refuses = refused_in w.phase w refl node segment page refusal refuses
