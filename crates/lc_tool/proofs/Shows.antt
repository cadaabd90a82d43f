-- The page that a store shows, and why it shows none.
use Rattle.std.proofs.Common.{◌≡◌, ◌∙◌, ℕ, List, Bool, true, false, not, ◌&&◌, Option, Some, None, refl, sym, ap}
use Rattle.std.specs.Prelude.{if◌then◌else◌}
use Rattle.lc_disk.specs.declared.area.Area.{Ghosts}
use Rattle.lc_record.specs.declared.geometry.Geometry.{Geometry}
use Rattle.lc_model.specs.Refusals.{is_node, is_page, is_segment, is_up, refuse_if}
use Rattle.lc_model.specs.State.{Setting, State}
use Rattle.lc_model.specs.declared.refusal.Refusal.{Refusal}
use Rattle.lc_model.specs.declared.refusal.Refusal.TheVariants.{Down as IsDown, Unknown}
use Rattle.lc_settled.specs.Numbers.{Numbers}
use Rattle.lc_core.specs.Lives.{FitsLife, Life, ShowsLife}
use Rattle.lc_core.specs.Observed.{has_page}
use Rattle.lc_core.specs.Showing.{ShowsPage, image_of}
use Rattle.lc_desk.specs.Showing.{page_of}
use Rattle.lc_core.proofs.PageSeen.{page_refusal as refusal_in}
use Rattle.lc_core.specs.World.{FitsPhase, FitsUp, FitsWorld}
use Rattle.lc_core.specs.declared.world_phase.WorldPhase.{WorldPhase}
use Rattle.lc_core.specs.declared.world_phase.WorldPhase.TheVariants.{Down, Up, Taken}
use Rattle.lc_core.specs.declared.up.Up.{Up as Rising}
use Rattle.lc_core.specs.declared.world.World.{World}
use Rattle.lc_tool.specs.Fits.{IsUpBeside, Performs}
use Rattle.lc_tool.specs.Shown.{page_refusal}
use Rattle.lc_text.specs.Text.{page_text, refusal_text}
use Rattle.lc_tool.specs.Tells.{TellsCommand, TellsRefusal}
use Rattle.lc_tool.specs.Verdict.{verdict_on}
use Rattle.lc_text.specs.declared.command.Command.TheVariants.{Show}
use Rattle.lc_tool.specs.declared.verdict.Verdict.{Verdict}
use Rattle.lc_tool.specs.declared.verdict.Verdict.TheVariants.{Done, Refused}
use Rattle.std.specs.Io.KnownBytes.{Appends}
use Rattle.std.proofs.lemmas.Option.{same_Some as same_some}
use Rattle.lc_tool.proofs.Beside.{Tells, either_tells, life_of}
use Rattle.lc_core.proofs.Asking.{down_fits}

known_or : (b : Bool) → (if b then None else Some Unknown) ≡ refuse_if (not b) Unknown None
known_or true = refl
known_or false = refl

no_fault : (down known : Bool) (refusal : Refusal) → refuse_if (not down) IsDown (refuse_if (not known) Unknown None) ≡ Some refusal → verdict_on refusal ≡ Refused
no_fault true true refusal is = absurd cc
no_fault true false refusal is = let same : Unknown ≡ refusal = cc in rw (← same) refl
no_fault false known refusal is = let same : IsDown ≡ refusal = cc in rw (← same) refl

module _ {D : Type 0} (a : Ghosts D) where
  -- the store refuses as the machine says
  up_refuses : (up : Rising D a) (m : Setting) (s : State) (x : Numbers) (node segment page : ℕ) → FitsUp a m up s x → refusal_in a (Up up) node segment page ≡ page_refusal m s node segment page
  up_refuses up m s x node segment page fits =
      rw (ap is_up fits.running.up)
      (ap (λ (g : Geometry). if has_page g node segment page then None else Some Unknown) (sym fits.running.geometry_is)
      ∙ known_or (is_node m.geometry node && is_segment m.geometry segment && is_page m.geometry page))

  pub refuses_page : (phase : WorldPhase D a) (m : Setting) (s : State) (x : Numbers) (node segment page : ℕ) → FitsPhase a m phase s x
      → refusal_in a phase node segment page ≡ page_refusal m s node segment page
  refuses_page (Down r) m s x node segment page fits = rw (down_fits a r m s x fits) refl
  refuses_page (Up up) m s x node segment page fits = up_refuses up m s x node segment page fits.0
  refuses_page Taken m s x node segment page fits = absurd fits

  beside_refuses : (w : World D a) (m : Setting) (s : State) (x : Numbers) (node segment page : ℕ) → IsUpBeside a m w s x → refusal_in a w.phase node segment page ≡ page_refusal m s node segment page
  beside_refuses w m s x node segment page beside = ap (λ (p : WorldPhase D a). refusal_in a p node segment page) beside.1 ∙ up_refuses beside.0 m s x node segment page beside.2

  module _ (w : World D a) (node segment page : ℕ) (held holds : Option (List ℕ)) (verdict : Verdict) where
    -- a refusal
    refused_by : (Fits : Setting → World D a → State → Numbers → Type 0) → ((m : Setting) (s : State) (x : Numbers) → Fits m w s x → refusal_in a w.phase node segment page ≡ page_refusal m s node segment page)
        → (refusal : Refusal) → refusal_in a w.phase node segment page ≡ Some refusal → verdict ≡ verdict_on refusal → Appends held holds (refusal_text refusal)
        → Performs a Fits w (Show node segment page) held holds verdict w
    refused_by Fits refuses refusal is by shown m s x fits =
        let names : page_refusal m s node segment page ≡ Some refusal = sym (refuses m s x fits) ∙ is in
        let refused = no_fault (is_up s.phase) (is_node m.geometry node && is_segment m.geometry segment && is_page m.geometry page) refusal names in
        (s, x, (refusal_text refusal, (rw names (refl, by ∙ refused), refl, refl), shown), fits)

    module _ (refusal : Refusal) (is : refusal_in a w.phase node segment page ≡ Some refusal) (by : verdict ≡ verdict_on refusal) (shown : Appends held holds (refusal_text refusal)) where
      pub page_refused : Performs a (FitsWorld a) w (Show node segment page) held holds verdict w
      page_refused = refused_by (FitsWorld a) (λ m s x fits. refuses_page w.phase m s x node segment page fits) refusal is by shown

      down_refused : (g : Geometry) (phase : WorldPhase D a) → FitsLife a g None phase → refusal_in a phase node segment page ≡ Some refusal → TellsRefusal IsDown (refusal_text refusal) verdict
      down_refused g (Down r) fits some = (let same : IsDown ≡ refusal = same_some IsDown refusal some in (ap refusal_text (sym same), by ∙ ap verdict_on (sym same)))
      down_refused g (Up up) fits some = absurd fits
      down_refused g Taken fits some = absurd fits

      pub refused_tells : Tells a w w held holds verdict (λ g at text end after. TellsCommand g at (Show node segment page) text end after)
      refused_tells = either_tells a w w held holds verdict (Show node segment page)
          (refused_by (IsUpBeside a) (λ m s x beside. beside_refuses w m s x node segment page beside) refusal is by shown)
          (λ g fits. (None, fits, (refusal_text refusal, (down_refused g w.phase fits is, refl), shown)))

  -- a page that is shown
  module _ (w : World D a) (node segment page : ℕ) (bytes : List ℕ) (none : refusal_in a w.phase node segment page ≡ None) (held holds : Option (List ℕ)) (shown : Appends held holds (page_text bytes)) where
    shown_by : (Fits : Setting → World D a → State → Numbers → Type 0) → ((m : Setting) (s : State) (x : Numbers) → Fits m w s x → refusal_in a w.phase node segment page ≡ page_refusal m s node segment page)
        → ((m : Setting) (s : State) (x : Numbers) → Fits m w s x → bytes ≡ page_of (image_of m s x node segment) page) → Performs a Fits w (Show node segment page) held holds Done w
    shown_by Fits refuses is m s x fits =
        let names : page_refusal m s node segment page ≡ None = sym (refuses m s x fits) ∙ none in
        (s, x, (page_text bytes, (rw names (ap page_text (is m s x fits), refl), refl, refl), shown), fits)

    pub page_shows : ShowsPage a w node segment page bytes → Performs a (FitsWorld a) w (Show node segment page) held holds Done w
    page_shows shows = shown_by (FitsWorld a) (λ m s x fits. refuses_page w.phase m s x node segment page fits) shows

    not_down : (g : Geometry) (phase : WorldPhase D a) → FitsLife a g None phase → refusal_in a phase node segment page ≡ None → ⊥
    not_down g (Down r) fits is = absurd cc
    not_down g (Up up) fits is = fits
    not_down g Taken fits is = fits

    pub page_tells : ShowsLife a w.phase node segment page bytes → Tells a w w held holds Done (λ g at text end after. TellsCommand g at (Show node segment page) text end after)
    page_tells lives = either_tells a w w held holds Done (Show node segment page)
        (shown_by (IsUpBeside a) (λ m s x beside. beside_refuses w m s x node segment page beside)
        (λ m s x beside. let life : Life = record { setting = m; state = s; numbers = x } in lives m.geometry life (life_of a m.geometry life w beside refl)))
        (λ g fits. absurd (not_down g w.phase fits none))
