-- What a record that a node has published brings to the node that it comes to.
use Rattle.std.specs.Prelude.{◌≡◌, ◌≤◌, ◌<◌, ℕ, ◌+◌, ◌-◌, false, ◌||◌, nat_le, [], Some, slice_get, IsSome}
use Rattle.lc_disk.specs.declared.area.Area.{Ghosts}
use Rattle.lc_record.specs.Part.{number_in, part_of}
use Rattle.lc_record.specs.Transaction.{is_member}
use Rattle.lc_record.specs.declared.record.Record.{Record}
use Rattle.lc_model.specs.State.{Setting, State}
use Rattle.lc_model.specs.Stored.{records_of}
use Rattle.lc_model.specs.declared.refusal.Refusal.TheVariants.{Unknown as IsUnknown}
use Rattle.lc_model.specs.declared.reply.Reply.TheVariants.{Ignored, Refused}
use Rattle.lc_desk.specs.InPlace.{TakesAtOnce}
use Rattle.lc_settled.specs.Numbers.{Numbers}
use Rattle.lc_events.specs.Running.{FitsRunning}
use Rattle.lc_settled.specs.Settled.{deliver_answer}
use Rattle.lc_events.specs.declared.token_moves.Delivery.{Delivery}
use Rattle.lc_events.specs.declared.token_moves.Delivery.TheVariants.{Unknown, Known, New, Next}
use Rattle.lc_events.specs.declared.node_state.NodeState.{NodeState}
use Rattle.lc_events.specs.declared.running.Running.{Running}
use Rattle.lc_desk.specs.declared.segment_copy.SegmentCopy.{SegmentCopy}

-- the sender has published the record under this number, and its part of the segment is neither applied nor kept at the receiver
pub record HasNewPart (m : Setting) (s : State) (x : Numbers) (sender number segment to : ℕ) (r : Record) : Type 0 where
  pub first : 1 ≤ number
  pub acked : number ≤ s.ack sender
  pub kept : x.trimmed sender < number
  pub found : slice_get (records_of m s x.disks sender) (number - 1) ≡ Some r
  pub own : ℕ
  pub lock : number_in segment r.locks ≡ Some own
  pub unknown : (nat_le own (x.applied to segment) || is_member own (x.waiting to segment)) ≡ false

-- there is no way but to copy the part: its number is not the next, or others wait
pub record CopiesPart (m : Setting) (s : State) (x : Numbers) (sender number segment to : ℕ) (r : Record) : Type 0 where
  pub part : HasNewPart m s x sender number segment to r
  pub waits : part.own ≡ x.applied to segment + 1 → x.waiting to segment ≡ [] → ⊥

module _ {D : Type 0} (a : Ghosts D) where
  -- the slot of the segment at the node takes a record with this number at once
  pub record IsReady (segment to own : ℕ) (w : Running D a) : Type 0 where
    pub node : NodeState D a
    pub slot : SegmentCopy
    pub at : slice_get w.nodes.items to ≡ Some node
    pub at_segment : slice_get node.desk.here.slots.items (segment - 1) ≡ Some slot
    pub takes : TakesAtOnce own slot

  -- there is such a record, in each state and with the numbers that this fits
  abbrev pub WantsPart : ℕ → ℕ → ℕ → ℕ → Running D a → Type 0
  WantsPart sender number segment to w =
      (m : Setting) (s : State) (x : Numbers) → FitsRunning a m w s x → (r : Record) × CopiesPart m s x sender number segment to r

  -- where nothing is new, the answer is the one that is settled
  abbrev pub Brings : ℕ → ℕ → ℕ → ℕ → Running D a → Delivery → Type 0
  Brings sender number segment to w Unknown =
      (m : Setting) (s : State) (x : Numbers) → FitsRunning a m w s x → deliver_answer m s x sender number segment to ≡ Refused IsUnknown
  Brings sender number segment to w Known =
      (m : Setting) (s : State) (x : Numbers) → FitsRunning a m w s x → deliver_answer m s x sender number segment to ≡ Ignored
  Brings sender number segment to w (New r) =
      IsSome (part_of segment r) × ((m : Setting) (s : State) (x : Numbers) → FitsRunning a m w s x → CopiesPart m s x sender number segment to r)
  Brings sender number segment to w (Next own) =
      IsReady segment to own w
      × ((m : Setting) (s : State) (x : Numbers) → FitsRunning a m w s x → (r : Record) × (part : HasNewPart m s x sender number segment to r) × (part.own ≡ own))
