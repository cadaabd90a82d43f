use Rattle.std.proofs.Common.{◌≡◌, ◌≤◌, ◌<◌, ◌-◌, ℕ, List, Some, ap, subst, sym, ◌∙◌, arith}
use Rattle.std.specs.Prelude.{slice_get}
use Rattle.std.proofs.lemmas.Option.{slice_get-get_or}
use Rattle.lc_model.specs.Stored.{page_bytes}
use Rattle.lc_model.specs.Merge.{MergesTo}
use Rattle.lc_recover.specs.Forecast.{Foretold}
use Rattle.lc_recover.specs.StoreContents.{AreAscending}
use Rattle.lc_recover.specs.Page.{AreAt, AreOfPage}
use Rattle.lc_recover.specs.declared.redo_range.RedoRange.{RedoRange}
use Rattle.lc_recover.proofs.Foretelling.{bytes-are, one-content}
use Rattle.lc_recover.proofs.forecast.Forecast.page.Goals as goal

module _ (c : goal.After-bytes-4-1) where
  last : c.args.segment ≤ c.self.inside.geometry.segments
  last = omega (arith, c.requires.last, ap (λ (f : Foretold). f.geometry.segments) c.self.view_is)

  within : c.args.page < c.self.inside.geometry.pages
  within = omega (arith, c.requires.page, ap (λ (f : Foretold). f.geometry.pages) c.self.view_is)

  kept : slice_get c.self.inside.writes.kept.segments.items (c.args.segment - 1) ≡ Some c.index-pages.result.now
  kept =
      slice_get-get_or c.self.inside.writes.kept.segments.items (c.args.segment - 1) _ (omega (arith, c.requires.first, last, c.self.invariant.sound.pages.count)) ∙ ap Some (sym c.index-pages.ensures)

  of : AreOfPage c.self.inside.writes.merged.changes.items c.args.segment c.args.page c.changes_of-changes.result.now
  of = subst (λ (l : List RedoRange). AreAscending l → AreOfPage l c.args.segment c.args.page c.changes_of-changes.result.now) c.deref.ensures.value c.changes_of-changes.ensures
      c.self.invariant.sound.merging.index.ascending

  is_foretold : c.put_changes.new.bytes ≡ page_bytes c.args.segment c.args.page c.self.invariant.sound.content
  is_foretold =
      bytes-are c.self.inside.geometry c.self.inside.writes c.self.invariant c.args.segment c.args.page c.changes_of-changes.result.now of c.requires.first last within c.index-pages.result.now kept
      c.put_changes.new.bytes c.copy_from_slice.new.self c.put_changes.ensures.len (c.copy_from_slice.ensures.after ∙ c.page.ensures.bytes)
      (λ ranges segment page at. c.put_changes.ensures.put ranges segment page
      (subst (λ (l : List (List ℕ)). AreAt l c.changes_of-changes.result.now ranges) (sym c.deref-2.ensures.value) at))

pub returns : goal.returns
returns c = record {
  bytes = λ content numbers merges.
      is_foretold c ∙ ap (page_bytes c.args.segment c.args.page)
      (one-content c.self.inside.geometry c.self.inside.writes c.self.invariant content numbers (subst (λ (f : Foretold). MergesTo f.store content numbers) (sym c.self.view_is) merges));
}
