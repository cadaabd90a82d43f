-- The changes of images.
use Rattle.std.specs.Prelude.{ℕ, ◌<◌}
use Rattle.lc_range.specs.RangeSet.{Has}
use Rattle.lc_range.specs.Undo.{LiesBelow}
use Rattle.lc_changes.specs.ChangesView.{ChangesView}
use Rattle.lc_changes.specs.declared.changes.Changes.TheInside.{Inside}

abbrev pub changes_view : Inside → ChangesView
changes_view a = record { set = a.set; undo = a.undo; image_len = a.image_len; values = a.values.items }

-- what is set and what is kept lies in the images
pub record IsChanges (a : Inside) : Type 0 where
  pub set_inside : (segment k : ℕ) → Has a.set segment k → k < a.image_len
  pub kept_inside : (segment : ℕ) → LiesBelow a.undo segment a.image_len
