-- What is tested of the images of one segment.
use Rattle.std.specs.Prelude.{◌≡◌, ℕ, ◌+◌, ◌≤◌, List, length, Some, slice_get}
use Rattle.lc_record.specs.declared.geometry.Geometry.{Geometry}
use Rattle.lc_record.specs.declared.record.Record.{Record}
use Rattle.lc_rest.specs.Merge.{number_at}
use Rattle.lc_rest.specs.Replay.{bytes_above}
use Rattle.lc_tx.specs.declared.image.Image.{Image}
use Rattle.lc_reading.specs.declared.node_images.NodeImages.{NodeImages}

-- each node has an image of each segment
pub record AreImages (g : Geometry) (nodes : List NodeImages) : Type 0 where
  pub images : (n : ℕ) (node : NodeImages) → slice_get nodes n ≡ Some node → length node.images.items ≡ g.segments
  pub applied : (n : ℕ) (node : NodeImages) → slice_get nodes n ≡ Some node → length node.applied.items ≡ g.segments

-- no node has applied more than this number of the segment, and this one just that
pub record AreApplied (nodes : List NodeImages) (segment seq here : ℕ) : Type 0 where
  pub within : (n : ℕ) (node : NodeImages) → slice_get nodes n ≡ Some node → number_at node.applied.items segment ≤ seq
  pub there : (node : NodeImages) → slice_get nodes here ≡ Some node → number_at node.applied.items segment ≡ seq

-- the image of the segment at this place, with the records above what the node has applied, is these bytes
abbrev pub ComesUp : ℕ → List Record → NodeImages → List ℕ → Type 0
ComesUp place rs node bytes = (image : Image) → slice_get node.images.items place ≡ Some image → bytes_above (place + 1) (number_at node.applied.items (place + 1)) rs image.bytes.items ≡ bytes
