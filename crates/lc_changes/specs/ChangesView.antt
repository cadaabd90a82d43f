-- What contracts see of the changes of images.
use Rattle.std.specs.Prelude.{ℕ, List}
use Rattle.lc_range.specs.Undo.{OldBytes}
use Rattle.lc_range.specs.declared.range.Range.{Range}

-- the runs that are set, the bytes that were kept of them, the length of an image, and the bytes that are gathered
pub record ChangesView : Type 0 where
  pub set : List Range
  pub undo : List OldBytes
  pub image_len : ℕ
  pub values : List ℕ
