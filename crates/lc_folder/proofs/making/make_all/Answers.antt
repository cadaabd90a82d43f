use Rattle.std.proofs.Common.{◌≡◌, ◌∙◌, arith, ap, true, ◌+◌, ◌≤◌}
use Rattle.std.specs.Prelude.{Err}
use Rattle.lc_folder.specs.Making.{new_count, new_name}
use Rattle.lc_folder.proofs.Makes.{begun_others, not_there_yet, stopped_making}
use Rattle.lc_folder.proofs.making.make_all.Goals as goal

pub returns-in-Err-Exists : goal.returns-in-Err-Exists
returns-in-Err-Exists g c = record {
  inits = λ honest none.
      let held : g.F.Folder.honest c.loop-file.folder ≡ true = c.loop-file.invariant.honest ∙ honest in
      let named = ap new_name c.in-Some.ensures.file.1 in
      absurd ((c.in-Err-Exists.ensures.exists (ap Err c.in-Err-Exists.field-0-is) held).1
      (ap (g.F.Folder.files c.loop-file.folder) named
      ∙ not_there_yet c.args.geometry.now (g.F.Folder.files c.args.folder.now) none c.loop-file.place (g.F.Folder.files c.loop-file.folder) c.in-Some.ensures.file.0 (c.loop-file.invariant.made honest)));
}

pub returns-in-Err-Begun : goal.returns-in-Err-Begun
returns-in-Err-Begun g c = record {
  inits = λ honest none.
      let held : g.F.Folder.honest c.loop-file.folder ≡ true = c.loop-file.invariant.honest ∙ honest in
      let still : g.F.Folder.honest c.make.new.self ≡ true = c.make.ensures.honest ∙ held in
      let few : c.loop-file.place + 1 ≤ new_count c.args.geometry.now = omega (arith, c.in-Some.ensures.file.0) in
      stopped_making c.args.geometry.now (g.F.Folder.files c.args.folder.now) none c.in-Err-Begun.fault c.taken_away-in-Err-Begun.result (c.loop-file.place + 1)
      (g.F.Folder.files c.make.new.self) (g.F.Folder.files c.taken_away-in-Err-Begun.new.folder) (g.F.Folder.stable c.taken_away-in-Err-Begun.new.folder)
      c.taken_away-in-Err-Begun.ensures.cause few
      (begun_others c.args.geometry.now c.loop-file.place c.in-Some.file (g.F.Folder.files c.args.folder.now) (g.F.Folder.files c.loop-file.folder) (g.F.Folder.files c.make.new.self)
      c.in-Some.ensures.file.1 (c.loop-file.invariant.made honest) (c.in-Err-Begun.ensures.fault held))
      (c.taken_away-in-Err-Begun.ensures.others still) (c.taken_away-in-Err-Begun.ensures.gone still);
}

pub returns-in-Err : goal.returns-in-Err
returns-in-Err g c = record {
  inits = λ honest none.
      let held : g.F.Folder.honest c.loop-file.folder ≡ true = c.loop-file.invariant.honest ∙ honest in
      let still : g.F.Folder.honest c.sync.new.self ≡ true = c.sync.ensures.honest ∙ held in
      stopped_making c.args.geometry.now (g.F.Folder.files c.args.folder.now) none c.in-Err.fault c.taken_away-in-Err.result c.loop-file.place
      (g.F.Folder.files c.sync.new.self) (g.F.Folder.files c.taken_away-in-Err.new.folder) (g.F.Folder.stable c.taken_away-in-Err.new.folder)
      c.taken_away-in-Err.ensures.cause c.loop-file.invariant.few
      (λ other is_other. ap (λ files. files other) (c.sync.ensures.same held) ∙ (c.loop-file.invariant.made honest).others other is_other)
      (c.taken_away-in-Err.ensures.others still) (c.taken_away-in-Err.ensures.gone still);
}
