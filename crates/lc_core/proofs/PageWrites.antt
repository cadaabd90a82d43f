-- Of the store: how the pages of the areas stand, where nothing changes them, and what is done beside them.
use Rattle.std.proofs.Common.{◌≡◌, ◌+◌, List, map, sym, ap, ◌∙◌}
use Rattle.std.specs.Prelude.{slice_get}
use Rattle.std.specs.Global.{Vec}
use Rattle.lc_disk.specs.declared.area.Area.{Ghosts}
use Rattle.lc_record.specs.declared.geometry.Geometry.{Geometry}
use Rattle.lc_record.proofs.ListLemmas.{slice_get-map_some as get-map}
use Rattle.lc_model.specs.State.{Setting}
use Rattle.lc_settled.specs.Numbers.{Numbers}
use Rattle.lc_core.proofs.Rising.{get-replicate}
use Rattle.lc_core.specs.PageState.{AreAtRest, resting}
use Rattle.lc_desk.specs.PageState.{AreNamed}
use Rattle.lc_core.specs.Pages.{RestsAll}
use Rattle.lc_desk.specs.Pages.{FitsPages}
use Rattle.lc_desk.specs.declared.page_state.PageState.{PageState}
use Rattle.lc_desk.specs.declared.page_state.PageState.TheVariants.{AtRest, UnderWay}
use Rattle.lc_desk.specs.declared.pages.Pages.{Pages}
use Rattle.lc_desk.proofs.PageWrites.{area_same}
use Rattle.lc_events.proofs.PageWrites.{of_pages, same_at}

-- where no page is being written
pub named_rest : (g : Geometry) (writes : List PageState) → writes ≡ resting g → AreNamed writes
named_rest g writes are page write got = absurd (other (get-replicate g.pages page AtRest (UnderWay write) (ap (λ (ws : List PageState). slice_get ws page) (sym are) ∙ got)))
  where
    other : AtRest ≡ UnderWay write → ⊥
    other same = absurd cc

-- areas that get pages at rest
pub rests_all : {D : Type 0} (a : Ghosts D) (g : Geometry) (segments : List (Pages D a)) (writes : List (Vec PageState)) → map (λ (pages : Pages D a). pages.writes) segments ≡ writes → AreAtRest g writes → RestsAll a g segments
rests_all {D} a g segments writes same rest k pages got =
    rest k pages.writes (ap (λ (ws : List (Vec PageState)). slice_get ws k) (sym same) ∙ get-map (λ (p : Pages D a). p.writes) segments k pages got)

module _ {D : Type 0} (a : Ghosts D) where
  -- nothing else of the numbers matters to the pages
  pub pages_same : (m : Setting) (segments : List (Pages D a)) (x y : Numbers) → of_pages y ≡ of_pages x → FitsPages a m segments x → FitsPages a m segments y
  pages_same m segments x y same h = record {
    all_segments = h.all_segments;
    each = λ k pages got. (area_same a) m.geometry (k + 1) pages x y (λ page. same_at (k + 1) page x y same) (h.each k pages got);
  }
