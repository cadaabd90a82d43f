use Rattle.std.proofs.Common.{◌≡◌, ◌≤◌, ◌-◌, true}
use Rattle.lc_recover.specs.Reads.{area_count}
use Rattle.lc_folder.specs.Renewing.{KeepsFiles}
use Rattle.lc_folder.proofs.renewing.renew_store.Given as goal

abbrev pub invariant-loop-file : goal.invariant-loop-file
invariant-loop-file g l = record {
  few : l.area ≤ area_count l.geometry;
  honest : g.F.Folder.honest l.folder ≡ g.F.Folder.honest l.fn.folder;
  keeps : g.F.Folder.honest l.fn.folder ≡ true → KeepsFiles (g.F.Folder.files l.fn.folder) (g.F.Folder.files l.folder);
}

abbrev pub decreases-loop-file : goal.decreases-loop-file
decreases-loop-file g l = area_count l.geometry - l.area
