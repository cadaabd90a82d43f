-- Of a desk: the pieces that a store is made of, and how they stand in it.
use Rattle.std.specs.Prelude.{◌≡◌, ℕ, ◌+◌, ◌==◌, Bool, false, List, length, Option, Some, None, slice_get, if◌then◌else◌}
use Rattle.std.specs.Option.{ForSome}
use Rattle.lc_record.specs.Geometry.{segment_len}
use Rattle.lc_record.specs.declared.geometry.Geometry.{Geometry}
use Rattle.lc_rest.specs.declared.holder.Holder.{Holder}
use Rattle.lc_rest.specs.declared.holder.Holder.TheVariants.{Here, Left}
use Rattle.lc_token.specs.Backlog.{fresh}
use Rattle.lc_token.specs.declared.token.Token.{Token}
use Rattle.lc_tx.specs.declared.holders.Holders.TheVariants.{Free as Unheld}
use Rattle.lc_desk.specs.declared.segment_piece.SegmentPiece.{SegmentPiece}
use Rattle.lc_desk.specs.declared.segment_copy.SegmentCopy.{SegmentCopy}

-- The segments

-- the bytes are those of a segment
pub record IsLong (g : Geometry) (piece : SegmentPiece) : Type 0 where
  pub bytes : length piece.bytes.items ≡ segment_len g
  pub stable_bytes : length piece.stable_bytes.items ≡ segment_len g

abbrev pub AreLong : Geometry → List SegmentPiece → Type 0
AreLong g pieces = (k : ℕ) (piece : SegmentPiece) → slice_get pieces k ≡ Some piece → IsLong g piece

-- a token of the segment, with an entry for each page
pub record IsTokenOf (g : Geometry) (segment : ℕ) (token : Token) : Type 0 where
  pub segment_is : token.segment ≡ segment
  pub pages : length token.pages ≡ g.pages

-- the tokens that are there stand at the places of their segments
abbrev pub AreTokens : Geometry → List (Option Token) → Type 0
AreTokens g tokens = (k : ℕ) (token : Option Token) → slice_get tokens k ≡ Some token → ForSome token (IsTokenOf g (k + 1))

-- the token is at this node
abbrev pub is_here : ℕ → Holder → Bool
is_here node (Here other) = other == node
is_here node (Left other) = false

-- what a node gets of a token
abbrev pub standing_at : ℕ → Holder → Option Token → Option Token
standing_at node holder token = if is_here node holder then token else None

-- what a node leaves of it
abbrev pub left_at : ℕ → Holder → Option Token → Option Token
left_at node holder token = if is_here node holder then None else token

-- the number up to which a segment is applied where this stands, and its bytes there
abbrev pub number_of : SegmentPiece → Option Token → ℕ
number_of piece None = piece.stable
number_of piece (Some token) = token.seq

abbrev pub bytes_of : SegmentPiece → Option Token → List ℕ
bytes_of piece None = piece.stable_bytes.items
bytes_of piece (Some token) = piece.bytes.items

-- a slot of a segment where this stands
pub record IsMadeSlot (segment : ℕ) (piece : SegmentPiece) (standing : Option Token) (slot : SegmentCopy) : Type 0 where
  pub bytes : slot.image.bytes.items ≡ bytes_of piece standing
  pub holders : slot.image.holders ≡ Unheld
  pub token : slot.token ≡ record { segment = segment; token = standing }
  pub parts : slot.parts ≡ fresh segment (number_of piece standing)

-- the slots of a node, of these tokens
abbrev pub AreMadeSlots : ℕ → List SegmentPiece → List (Option Token) → List SegmentCopy → Type 0
AreMadeSlots node pieces tokens slots = (k : ℕ) (slot : SegmentCopy) (piece : SegmentPiece) (token : Option Token) → slice_get slots k ≡ Some slot → slice_get pieces k ≡ Some piece → slice_get tokens k ≡ Some token
    → IsMadeSlot (k + 1) piece (standing_at node piece.holder token) slot

-- the tokens that a node has left
abbrev pub AreLeftAt : ℕ → List SegmentPiece → List (Option Token) → List (Option Token) → Type 0
AreLeftAt node pieces olds news = (k : ℕ) (piece : SegmentPiece) (token : Option Token) → slice_get pieces k ≡ Some piece → slice_get olds k ≡ Some token → slice_get news k ≡ Some (left_at node piece.holder token)
