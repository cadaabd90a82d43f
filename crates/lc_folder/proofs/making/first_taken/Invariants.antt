use Rattle.std.proofs.Common.{◌≡◌, ◌<◌, ◌≤◌, ◌-◌, ℕ, true, None}
use Rattle.lc_folder.specs.Files.{store_name_at}
use Rattle.lc_folder.proofs.making.first_taken.Given as goal

abbrev pub invariant-loop-name : goal.invariant-loop-name
invariant-loop-name g l = record {
  few : l.place ≤ 50;
  honest : g.F.Folder.honest l.folder ≡ g.F.Folder.honest l.fn.folder;
  same : g.F.Folder.honest l.fn.folder ≡ true → g.F.Folder.files l.folder ≡ g.F.Folder.files l.fn.folder;
  none : g.F.Folder.honest l.fn.folder ≡ true → (place : ℕ) → place < l.place → g.F.Folder.files l.fn.folder (store_name_at place) ≡ None;
}

abbrev pub decreases-loop-name : goal.decreases-loop-name
decreases-loop-name g l = 50 - l.place
