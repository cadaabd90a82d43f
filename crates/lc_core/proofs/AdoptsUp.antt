-- A store that is up, built of a consistent cluster at rest, fits.
use Rattle.std.proofs.Common.{◌≡◌, ℕ, ◌+◌, ◌<◌, List, length, Some, refl, sym, ap, subst, ◌∙◌, arith}
use Rattle.std.specs.Prelude.{slice_get}
use Rattle.std.proofs.lemmas.List.{length-replicate}
use Rattle.std.proofs.lemmas.Option.{slice_get_within}
use Rattle.lc_disk.specs.declared.area.Area.{Ghosts}
use Rattle.lc_core.specs.HonestAreas.{HonestUp}
use Rattle.lc_desk.specs.Pages.{FitsArea, IsPageAt}
use Rattle.lc_core.specs.World.{FitsUp}
use Rattle.lc_desk.specs.declared.page_state.PageState.{PageState}
use Rattle.lc_desk.specs.declared.page_state.PageState.TheVariants.{AtRest, Failed}
use Rattle.lc_desk.specs.declared.pages.Pages.{Pages}
use Rattle.lc_core.specs.declared.up.Up.{Up as UpStore}
use Rattle.lc_core.proofs.Rising.{get-replicate}
use Rattle.lc_rest.specs.Found.{Found, IsConsistent, machine_setting, machine_state}
use Rattle.lc_core.specs.Adopting.{numbers_of, IsAdoptedArea, IsAdoptedUp}
use Rattle.lc_core.proofs.Adopts.{adopted-fits}

module _ {D : Type 0} (a : Ghosts D) (f : Found) where
  at-rest : (pages : Pages D a) (segment page : ℕ) (here : PageState) → IsAdoptedArea a f segment pages → slice_get pages.writes.items page ≡ Some here → AtRest ≡ here
  at-rest pages segment page here new at = get-replicate f.geometry.pages page AtRest here (ap (λ (ws : List PageState). slice_get ws page) (sym new.rest) ∙ at)

  area-fits : (segment : ℕ) (pages : Pages D a) → IsAdoptedArea a f segment pages → FitsArea a f.geometry segment pages (numbers_of f)
  area-fits segment pages new = record {
    bytes = λ honest. new.bytes;
    count = ap (λ (ws : List PageState). length ws) new.rest ∙ length-replicate f.geometry.pages AtRest;
    each = λ page here at.
        (let within = slice_get_within pages.writes.items page here at in
        let count = ap (λ (ws : List PageState). length ws) new.rest ∙ length-replicate f.geometry.pages AtRest in
        let known : page < f.geometry.pages = omega (arith, within, count) in
        subst (λ (w : PageState). IsPageAt a pages.area segment page w (numbers_of f)) (at-rest pages segment page here new at)
        (record { no_calls = refl; settled = new.settled page known; reads = λ honest. new.reads page known }));
  }

  pub up-fits : (up : UpStore D a) → IsConsistent f → IsAdoptedUp a f up → FitsUp a (machine_setting f) up (machine_state f) (numbers_of f)
  up-fits up is new = record {
    running = adopted-fits a f up.running is new.running;
    pages = record { all_segments = new.count; each = λ k pages at. area-fits (k + 1) pages (new.areas k pages at) };
    failed = λ k pages at page failed. absurd (let no : AtRest ≡ Failed = at-rest pages (k + 1) page Failed (new.areas k pages at) failed in cc);
  }

  pub up-honest : (up : UpStore D a) → IsAdoptedUp a f up → HonestUp a up
  up-honest up new = record { logs = new.honest; segments = λ k pages at. (new.areas k pages at).honest }
