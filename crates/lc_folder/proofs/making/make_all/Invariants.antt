use Rattle.std.proofs.Common.{◌≡◌, ◌≤◌, ◌-◌, true}
use Rattle.lc_folder.specs.Making.{MadeFirst, new_count}
use Rattle.lc_folder.proofs.making.make_all.Given as goal

abbrev pub invariant-loop-file : goal.invariant-loop-file
invariant-loop-file g l = record {
  few : l.place ≤ new_count l.geometry;
  honest : g.F.Folder.honest l.folder ≡ g.F.Folder.honest l.fn.folder;
  made : g.F.Folder.honest l.fn.folder ≡ true → MadeFirst l.geometry l.place (g.F.Folder.files l.fn.folder) (g.F.Folder.files l.folder);
}

abbrev pub decreases-loop-file : goal.decreases-loop-file
decreases-loop-file g l = new_count l.geometry - l.place
