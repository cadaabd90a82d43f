use Rattle.std.proofs.Common.{◌≡◌, length, take, ◌*◌}
use Rattle.std.specs.List.{flat_map}
use Rattle.lc_record.specs.Geometry.{segment_len}
use Rattle.lc_record.specs.Marks.{counting}
use Rattle.lc_recover.specs.Recovered.{page_of}
use Rattle.lc_desk.proofs.beginnings.fill_image.Given as goal

abbrev pub invariant-loop-page : goal.invariant-loop-page
invariant-loop-page g l = record {
  len : length l.image.bytes.items ≡ segment_len l.recovered.geometry;
  holders : l.image.holders ≡ l.initial.image.holders;
  bytes : take (l.page * 256) l.image.bytes.items ≡ flat_map (λ page. (page_of l.recovered l.segment page).bytes) (counting 0 l.page);
}
