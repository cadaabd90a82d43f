-- Of nodes that run: the slots of a node stay as many, and their images as long.
use Rattle.std.proofs.Common.{◌≡◌, length, ap, arith}
use Rattle.std.specs.Prelude.{vec_len}
use Rattle.lc_desk.specs.Here.{the_images}
use Rattle.lc_desk.specs.declared.here.Here.{Here}
use Rattle.lc_desk.proofs.Shortness.{same_slots}

pub same_count : (old new : Here) → the_images.IsSameBeside old new → vec_len new.slots ≡ vec_len old.slots
same_count old new same = (let are = same_slots old new same in let then_is = old.slots.ok.0 in let now_is = new.slots.ok.0 in omega (arith, are, then_is, now_is))

pub same_len : (old new : Here) → new.slots.items ≡ old.slots.items → vec_len new.slots ≡ vec_len old.slots
same_len old new same = (let are = ap length same in let then_is = old.slots.ok.0 in let now_is = new.slots.ok.0 in omega (arith, are, then_is, now_is))
