use Rattle.std.proofs.Common.{rules}
use Rattle.lc_node.proofs.seg_room.SegRoom.new.Goals as goal

pub returns : goal.returns
returns g c = record {
  key = search rules;
  image = c.in_ok-image.image;
  base = c.in_ok-base.base;
  side = search rules;
  image_bytes = c.in_ok-image.ensures.bytes;
  base_bytes = c.in_ok-base.ensures.bytes;
  token = search rules;
  whole = search rules;
}
