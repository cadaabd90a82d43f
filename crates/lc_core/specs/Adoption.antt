-- What the store is that a cluster at rest becomes.
use Rattle.std.specs.Prelude.{◌≡◌, ℕ, ◌+◌, ◌<◌, ◌≤◌, true, false, List, [], ◌++◌, drop, length, take, All, Some, slice_get, if◌then◌else◌}
use Rattle.lc_disk.specs.declared.area.Area.{Ghosts}
use Rattle.lc_record.specs.Content.{segment_of}
use Rattle.lc_record.specs.declared.record.Record.{Record}
use Rattle.lc_model.specs.History.{Entry, value}
use Rattle.lc_model.specs.Refusals.{is_at}
use Rattle.lc_model.specs.State.{Up, Setting, State}
use Rattle.lc_model.specs.Stored.{records_of, stable_number}
use Rattle.lc_tx.specs.declared.image.Image.{Image as Picture}
use Rattle.lc_token.specs.KnownClean.{known as known_of}
use Rattle.lc_rest.specs.Holder.{IsPlaced, node_of}
use Rattle.lc_settled.specs.Numbers.{Numbers, stable_records}
use Rattle.lc_core.specs.World.{FitsWorld}
use Rattle.lc_rest.specs.declared.node_part.NodePart.{NodePart}
use Rattle.lc_rest.specs.declared.parts.Parts.{Parts}
use Rattle.lc_rest.specs.declared.segment_part.SegmentPart.{SegmentPart}
use Rattle.lc_core.specs.declared.world.World.{World}
use Rattle.lc_rest.specs.Parts.{AreHonest, AreSpelled}
use Rattle.lc_rest.specs.Replay.{AreBytes}

-- nothing is open, unclosed or under way, and no node is halted
pub record IsQuiet (s : State) : Type 0 where
  pub up : s.phase ≡ Up
  pub none_open : s.running ≡ []
  pub all_closed : All (λ (e : Entry). e.closed ≡ true) s.history
  pub no_flush : (node : ℕ) → (s.flush node).steps ≡ 0
  pub none_halted : (node : ℕ) → s.halted node ≡ false

module _ {D : Type 0} (a : Ghosts D) where
  -- the store fits a state with nothing open, which has what was handed over
  pub record IsAdoption (parts : Parts D a) (world : World D a) : Type 0 where
    pub setting : Setting
    pub state : State
    pub numbers : Numbers
    pub geometry : setting.geometry ≡ parts.geometry
    pub fits : AreHonest a parts → FitsWorld a setting world state numbers
    pub quiet : IsQuiet state
    -- while the areas keep to the model of a disk the content at the start is what the pages of each read as
    pub begins : AreHonest a parts → (k : ℕ) (part : SegmentPart D) → slice_get parts.segments.items k ≡ Some part → AreBytes (a.now part.area) parts.geometry.pages (segment_of (k + 1) setting.start)
    -- no earlier recovery kept any, and the history is of these nodes: of each all its records, those of the rounds that have ended,
    -- then those of its log, then those that are staged
    pub none_earlier : state.earlier ≡ []
    pub nodes : All (λ (e : Entry). e.transaction.node < parts.geometry.nodes) state.history
    pub records : (n : ℕ) (part : NodePart D a) → slice_get parts.nodes.items n ≡ Some part → AreSpelled ((part.ended.items ++ part.stable.items) ++ part.staged.items) (records_of setting state numbers.disks n)
    -- of these the first were dropped, the stable ones are those of the log, in its round, and the rest are not stable; all that were
    -- published are acknowledged
    pub dropped_acked : (n : ℕ) (part : NodePart D a) → slice_get parts.nodes.items n ≡ Some part → numbers.disks.dropped n ≤ state.ack n
    pub ended : (n : ℕ) (part : NodePart D a) → slice_get parts.nodes.items n ≡ Some part → AreSpelled part.ended.items (take (numbers.disks.dropped n) (records_of setting state numbers.disks n))
    pub stable : (n : ℕ) (part : NodePart D a) → slice_get parts.nodes.items n ≡ Some part → AreSpelled part.stable.items (stable_records setting state numbers n)
    pub staged : (n : ℕ) (part : NodePart D a) → slice_get parts.nodes.items n ≡ Some part → AreSpelled part.staged.items (drop (state.ack n) (records_of setting state numbers.disks n))
    pub acked : (n : ℕ) (part : NodePart D a) (published : List Record) → slice_get parts.nodes.items n ≡ Some part → AreSpelled (part.ended.items ++ part.stable.items) published → state.ack n ≡ length published
    -- what a node has applied is all where the token is, and elsewhere what is stable
    pub applied : (n k : ℕ) (part : SegmentPart D) → n < parts.geometry.nodes → slice_get parts.segments.items k ≡ Some part
        → numbers.applied n (k + 1) ≡ (if is_at n (state.place (k + 1)) then part.token.seq else stable_number parts.geometry state numbers.disks (k + 1))
    pub round : (n : ℕ) (part : NodePart D a) → slice_get parts.nodes.items n ≡ Some part → numbers.round n ≡ part.round
    pub clean : (k : ℕ) (part : SegmentPart D) → slice_get parts.segments.items k ≡ Some part → numbers.clean (k + 1) ≡ part.token.clean
    pub known : (n segment : ℕ) (part : NodePart D a) → 1 ≤ segment → segment ≤ parts.geometry.segments → slice_get parts.nodes.items n ≡ Some part → known_of part.known segment ≤ numbers.clean segment
    -- each token is where it was, and the value of its segment is the image there
    pub place : (k : ℕ) (part : SegmentPart D) → slice_get parts.segments.items k ≡ Some part → IsPlaced part.holder (state.place (k + 1))
    pub value_is : (k : ℕ) (part : SegmentPart D) (node : NodePart D a) (image : Picture) → slice_get parts.segments.items k ≡ Some part
        → slice_get parts.nodes.items (node_of part.holder) ≡ Some node → slice_get node.images.items k ≡ Some image
        → segment_of (k + 1) (value setting.start state.earlier state.history) ≡ image.bytes.items
