-- Of a desk: how the pages of the areas stand, where nothing changes them, and what is done beside them.
use Rattle.std.proofs.Common.{◌≡◌, ℕ, sym, ap, subst, ◌∙◌}
use Rattle.lc_disk.specs.declared.area.Area.{Ghosts}
use Rattle.lc_record.specs.declared.geometry.Geometry.{Geometry}
use Rattle.lc_page.specs.Page.{Page}
use Rattle.lc_page.specs.PageWrite.{SettledIn, HasPage, IsEither, drafted}
use Rattle.lc_page.specs.Writing.{IsUnderWay, calls_of, draft_of}
use Rattle.lc_page.specs.declared.page_text.PageText.{PageText}
use Rattle.lc_model.specs.Merge.{Page as StorePage}
use Rattle.lc_settled.specs.Numbers.{Numbers}
use Rattle.lc_desk.specs.Pages.{FitsArea, HasBegun, IsPageAt}
use Rattle.lc_rest.specs.Pages.{as_read}
use Rattle.lc_desk.specs.declared.page_state.PageState.{PageState}
use Rattle.lc_desk.specs.declared.page_state.PageState.TheVariants.{AtRest, UnderWay, Failed}
use Rattle.lc_desk.specs.declared.pages.Pages.{Pages}

-- the numbers say the same of a page
pub record SameAt (segment page : ℕ) (x y : Numbers) : Type 0 where
  pub calls : y.calls segment page ≡ x.calls segment page
  pub texts : y.texts segment page ≡ x.texts segment page
  pub present : y.disks.page segment page ≡ x.disks.page segment page
  pub begun : y.disks.begun segment page ≡ x.disks.begun segment page
  pub opened : y.disks.opened segment page ≡ x.disks.opened segment page

begun_same : (segment page calls : ℕ) (new : Page) (x y : Numbers) → SameAt segment page x y → HasBegun segment page calls new x → HasBegun segment page calls new y
begun_same segment page calls new x y same h = record {
  calls_are = same.calls ∙ h.calls_are;
  text = h.text;
  begun = same.begun ∙ h.begun;
  text_is = h.text_is;
  opened = λ late. same.opened ∙ h.opened late;
}

module _ {D : Type 0} (a : Ghosts D) where
  pub state_same : (area : D) (segment page : ℕ) (state : PageState) (x y : Numbers) → SameAt segment page x y → IsPageAt a area segment page state x → IsPageAt a area segment page state y
  state_same area segment page AtRest x y same h = record {
    no_calls = same.calls ∙ h.no_calls;
    settled = subst (λ (t : PageText). SettledIn a area page t) (sym same.texts) h.settled;
    reads = λ honest. h.reads honest ∙ ap as_read (sym same.present);
  }
  state_same area segment page (UnderWay write) x y same h = record {
    page_is = h.page_is;
    begun = begun_same segment page (calls_of write) (drafted (draft_of write)) x y same h.begun;
    under_way = subst (λ (t : PageText). IsUnderWay a area write t (as_read (y.disks.page segment page))) (sym same.texts)
        (subst (λ (p : StorePage). IsUnderWay a area write (x.texts segment page) (as_read p)) (sym same.present) h.under_way);
  }
  state_same area segment page Failed x y same h = record {
    calls = h.calls;
    some = h.some;
    most = h.most;
    new = h.new;
    begun = begun_same segment page h.calls h.new x y same h.begun;
    old = λ few. subst (λ (p : StorePage). HasPage a area page (λ (it : Page). it ≡ as_read p)) (sym same.present) (h.old few);
    either = subst (λ (p : StorePage). HasPage a area page (IsEither (as_read p) h.new)) (sym same.present) h.either;
  }

  pub area_same : (g : Geometry) (segment : ℕ) (pages : Pages D a) (x y : Numbers) → ((page : ℕ) → SameAt segment page x y) → FitsArea a g segment pages x → FitsArea a g segment pages y
  area_same g segment pages x y same h = record {
    bytes = h.bytes;
    count = h.count;
    each = λ page state got. state_same pages.area segment page state x y (same page) (h.each page state got);
  }
