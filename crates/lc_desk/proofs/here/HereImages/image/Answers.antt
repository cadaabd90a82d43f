use Rattle.std.proofs.Common.{refl}
use Rattle.lc_desk.specs.Here.{lent}
use Rattle.lc_desk.proofs.here.HereImages.image.Goals as goal

pub returns : goal.returns
returns c =
    let is = lent c.args.self.now c.args.segment c.index_mut-slot.result.now c.requires c.index_mut-slot.ensures.value in
    ((refl, is.0), record { writes_back = tt; value = is.1 })
