use Rattle.std.proofs.Common.{◌↔◌, ◌≤◌, Bool, not, IsTrue, List, length, subst, sym}
use Rattle.lc_recover.specs.Forecast.{Foretold, IsPageBehind}
use Rattle.lc_recover.specs.StoreContents.{AreAscending}
use Rattle.lc_recover.specs.Page.{AreOfPage}
use Rattle.lc_recover.specs.declared.redo_range.RedoRange.{RedoRange}
use Rattle.lc_recover.proofs.Foretelling.{behind-where, some-where}
use Rattle.lc_recover.proofs.forecast.Forecast.is_behind.Goals as goal

pub returns : goal.returns
returns c =
    let changes : List RedoRange = c.self.inside.writes.merged.changes.items in
    let of : AreOfPage changes c.args.segment c.args.page c.changes_of.result.now =
    subst (λ (l : List RedoRange). AreAscending l → AreOfPage l c.args.segment c.args.page c.changes_of.result.now) c.deref.ensures.value c.changes_of.ensures c.self.invariant.sound.merging.index.ascending in
    let where_behind = behind-where c.self.inside.geometry c.self.inside.writes c.self.invariant c.args.segment c.args.page c.changes_of.result.now of in
    let some : IsTrue (not c.is_empty.result) ↔ (1 ≤ length c.changes_of.result.now) = subst (λ (b : Bool). IsTrue (not b) ↔ (1 ≤ length c.changes_of.result.now)) (sym c.is_empty.ensures) (some-where (length c.changes_of.result.now)) in
    subst (λ (f : Foretold). IsTrue (not c.is_empty.result) ↔ IsPageBehind f.store c.args.segment c.args.page) c.self.view_is
    (λ is. where_behind.0 (some.0 is), λ behind. some.1 (where_behind.1 behind))
