use Rattle.std.proofs.Common.{◌≤◌, ◌<◌, ℕ, length, Contains}
use Rattle.lc_page.specs.PageVector.{entry_at}
use Rattle.lc_recover.specs.Changes.{Adds, IsOnRange, on_page}
use Rattle.lc_recover.proofs.index.add_range.Given as goal

abbrev pub invariant-loop-page : goal.invariant-loop-page
invariant-loop-page l = record {
  adds : Adds (IsOnRange l.change l.fn.span l.texts) l.initial.changes.items l.changes.items;
  covers : (q : ℕ) → l.initial.page ≤ q → q < l.page → q < length l.texts → (entry_at l.texts q).stable < l.change.seq → Contains l.changes.items (on_page l.change q);
}
