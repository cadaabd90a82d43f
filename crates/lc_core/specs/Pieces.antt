-- Of the store: the pieces that a store is made of, and how they stand in it.
use Rattle.std.specs.Prelude.{◌≡◌, ℕ, nat_lt, Bool, false, List, Option, Some, None, slice_get, if◌then◌else◌}
use Rattle.lc_disk.specs.declared.area.Area.{Ghosts}
use Rattle.lc_record.specs.declared.geometry.Geometry.{Geometry}
use Rattle.lc_rest.specs.declared.holder.Holder.{Holder}
use Rattle.lc_rest.specs.declared.holder.Holder.TheVariants.{Here, Left}
use Rattle.lc_token.specs.declared.token.Token.{Token}
use Rattle.lc_events.specs.declared.node_state.NodeState.{NodeState}
use Rattle.lc_journal.specs.declared.node_piece.NodePiece.{NodePiece}
use Rattle.lc_desk.specs.declared.segment_piece.SegmentPiece.{SegmentPiece}
use Rattle.lc_journal.specs.Pieces.{IsNodePiece}
use Rattle.lc_events.specs.Pieces.{IsMadeNode}

-- the token is at one of the first so many nodes
abbrev pub is_before : ℕ → Holder → Bool
is_before nodes (Here other) = nat_lt other nodes
is_before nodes (Left other) = false

-- what the first so many nodes leave of it
abbrev pub left_by : ℕ → Holder → Option Token → Option Token
left_by nodes holder token = if is_before nodes holder then None else token

-- and those that the first so many nodes have
abbrev pub AreLeftBy : ℕ → List SegmentPiece → List (Option Token) → List (Option Token) → Type 0
AreLeftBy nodes pieces olds news = (k : ℕ) (piece : SegmentPiece) (token : Option Token) → slice_get pieces k ≡ Some piece → slice_get olds k ≡ Some token → slice_get news k ≡ Some (left_by nodes piece.holder token)

-- The nodes

module _ {D : Type 0} (a : Ghosts D) where
  abbrev pub AreNodePieces : ℕ → List (NodePiece D a) → Type 0
  AreNodePieces words pieces = (n : ℕ) (piece : NodePiece D a) → slice_get pieces n ≡ Some piece → (IsNodePiece a) words piece

  abbrev pub AreMadeNodes : Geometry → List SegmentPiece → List (Option Token) → List (NodePiece D a) → List (NodeState D a) → Type 0
  AreMadeNodes g segments tokens pieces nodes = (n : ℕ) (node : NodeState D a) (piece : NodePiece D a) → slice_get nodes n ≡ Some node → slice_get pieces n ≡ Some piece → (IsMadeNode a) g n segments tokens piece node
