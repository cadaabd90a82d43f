use Rattle.lc_c.proofs.Mirroring.{mirrors}
use Rattle.lc_c.specs.DirtyPositions.{is_dirty}
use Rattle.lc_c.proofs.mirror_area.MirrorArea.last.Goals as goal

pub returns-clause-mirrors : goal.returns-clause-mirrors
returns-clause-mirrors c = let m = c.args.self.now in mirrors m.last m.before.value.items m.bytes.items (is_dirty m.dirty) m.none m.write m.sync
