use Rattle.std.proofs.Common.{◌≡◌, ◌<◌, ◌≤◌, ℕ, true, false, None}
use Rattle.lc_folder.specs.Making.{IsOther, new_name_at}
use Rattle.lc_folder.specs.declared.store_name.StoreName.{StoreName}
use Rattle.lc_folder.proofs.making.taken_away.Given as goal

abbrev pub invariant-loop-left : goal.invariant-loop-left
invariant-loop-left g l = record {
  few : l.left ≤ l.fn.count;
  honest : g.F.Folder.honest l.folder ≡ g.F.Folder.honest l.fn.folder;
  others : g.F.Folder.honest l.fn.folder ≡ true → (other : StoreName) → IsOther l.geometry l.fn.count other → g.F.Folder.files l.folder other ≡ g.F.Folder.files l.fn.folder other;
  gone : g.F.Folder.honest l.fn.folder ≡ true → l.is_left ≡ false → (place : ℕ) → l.left ≤ place → place < l.fn.count → g.F.Folder.files l.folder (new_name_at l.geometry place) ≡ None;
}

abbrev pub decreases-loop-left : goal.decreases-loop-left
decreases-loop-left g l = l.left
