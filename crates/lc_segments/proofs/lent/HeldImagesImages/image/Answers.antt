use Rattle.std.proofs.Common.{refl}
use Rattle.lc_segments.specs.HeldImages.{lent_in}
use Rattle.lc_segments.proofs.lent.HeldImagesImages.image.Goals as goal

pub returns : goal.returns
returns c =
    let is = lent_in c.args.self.now c.args.segment c.index_mut-slot.result.now c.place-place.result c.place-place.ensures c.requires c.index_mut-slot.ensures.value in
    ((refl, is.0), record { writes_back = tt; value = is.1 })
