use Rattle.std.proofs.Common.{refl}
use Rattle.lc_disk.proofs.CopyLemmas.{between_copied}
use Rattle.lc_disk.proofs.mem_area.settle.Goals as goal

pub returns : goal.returns
returns c =
    let r = c.requires in
    between_copied c.args.bytes.now c.args.stable.now c.overlay.new.area _ c.args.start c.args.end r.len r.ordered r.within r.before r.after refl c.overlay.ensures.written c.overlay.ensures.torn
