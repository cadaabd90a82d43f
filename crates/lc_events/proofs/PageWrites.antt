-- Of nodes that run: how the pages of the areas stand, where nothing changes them, and what is done beside them.
use Rattle.std.proofs.Common.{Option, ◌≡◌, ℕ, ap}
use Rattle.lc_page.specs.declared.page_text.PageText.{PageText}
use Rattle.lc_model.specs.Merge.{Page as StorePage}
use Rattle.lc_settled.specs.Numbers.{Numbers}
use Rattle.lc_desk.proofs.PageWrites.{SameAt}

-- what the numbers say of all pages
pub record OfPages : Type 0 where
  pub present : ℕ → ℕ → StorePage
  pub begun : ℕ → ℕ → Option StorePage
  pub opened : ℕ → ℕ → Option StorePage
  pub calls : ℕ → ℕ → ℕ
  pub texts : ℕ → ℕ → PageText

abbrev pub of_pages : Numbers → OfPages
of_pages x = record { present = x.disks.page; begun = x.disks.begun; opened = x.disks.opened; calls = x.calls; texts = x.texts }

pub same_at : (segment page : ℕ) (x y : Numbers) → of_pages y ≡ of_pages x → SameAt segment page x y
same_at segment page x y same = record {
  calls = ap (λ (v : OfPages). v.calls segment page) same;
  texts = ap (λ (v : OfPages). v.texts segment page) same;
  present = ap (λ (v : OfPages). v.present segment page) same;
  begun = ap (λ (v : OfPages). v.begun segment page) same;
  opened = ap (λ (v : OfPages). v.opened segment page) same;
}
