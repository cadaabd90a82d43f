-- Of a node: what became of a message from a peer at the segments of a node, under the locks that it got.
use Rattle.std.specs.Prelude.{◌≡◌, ◌⊎◌, ◌↔◌, ℕ, List, All, Option, Some, None, Result, Ok, Err, IsSome, IsTrue, map, slice_get}
use Rattle.lc_record.specs.Codec.{BeginsNoRecord, BeginsWith}
use Rattle.lc_record.specs.Record.{record_len}
use Rattle.lc_record.specs.declared.record.Record.{Record as Spelled}
use Rattle.lc_tx.specs.Tx.{IsSetOf}
use Rattle.lc_segments.specs.Arriving.{MayArrive, with_token}
use Rattle.lc_node.specs.Delivering.{Answers, HasArrived, IsDelivered, IsReadiedSide}
use Rattle.lc_segments.specs.Each.{Each}
use Rattle.lc_node.specs.Held.{HasSegment, IsFirstOutside, IsHeldOf}
use Rattle.lc_segments.specs.Journey.{Journey}
use Rattle.lc_node.specs.Pumping.{pumped_of}
use Rattle.lc_segments.specs.SegView.{SegView}
use Rattle.lc_node.specs.declared.delivered.Delivered.{Delivered}
use Rattle.lc_segments.specs.declared.held.HeldSide.{HeldSide}
use Rattle.lc_node.specs.declared.message.Message.{Message}
use Rattle.lc_node.specs.declared.message.Message.TheVariants.{Record, Token}
use Rattle.lc_node.specs.declared.node.Node.{Node}
use Rattle.lc_segments.specs.declared.node_fault.NodeFault.{NodeFault}
use Rattle.lc_segments.specs.declared.node_fault.NodeFault.TheVariants.{NotHere, NoMemory}
use Rattle.lc_node.specs.declared.pumped.Pumped.{Pumped}
use Rattle.lc_node.specs.declared.pumped.Pumped.TheVariants.{Applied, HeldBack, Ignored, Arrived, Waiting, Empty}

-- the segments on which a record has locks
abbrev pub locked_in : Spelled → List ℕ
locked_in r = map (λ lock. lock.segment) r.locks

module _ {D : Type 0} where
  -- held sides of just the segments on which the record has locks
  pub record AreHeldFor (node : Node D) (r : Spelled) (sides : List (HeldSide D)) : Type 0 where
    pub held : All (IsHeldOf node) sides
    pub segments : IsSetOf (locked_in r) (map (λ h. h.side.segment) sides)

  -- each took its part of the record in; what the least answered, and whether a token that waited at one has arrived
  pub record TakeIn (r : Spelled) (old : List (HeldSide D)) (done : Delivered) (new : List (HeldSide D)) : Type 0 where
    pub delivered : Each (IsDelivered r) old new
    pub first : (h g : HeldSide D) → slice_get old 0 ≡ Some h → slice_get new 0 ≡ Some g → Answers r h done.first g
    pub arrived : IsTrue done.arrived ↔ ((place : ℕ) × (h : HeldSide D) × (g : HeldSide D) × (slice_get old place ≡ Some h) × (slice_get new place ≡ Some g) × HasArrived h g)

  -- the record was taken in at all its segments, and this is the answer of the least
  pub record TakesRecord (node : Node D) (r : Spelled) (pumped : Pumped) : Type 0 where
    pub old : List (HeldSide D)
    pub new : List (HeldSide D)
    pub held : AreHeldFor node r old
    pub done : Delivered
    pub take_in : TakeIn r old done new
    pub answer : pumped ≡ pumped_of done

  -- it was not, at any, for this reason: but that applied parts may be folded, each side is what it was
  abbrev pub RefusesRecord : Node D → Spelled → NodeFault → Type 0
  RefusesRecord node r (NotHere segment) = IsFirstOutside node (locked_in r) segment
  RefusesRecord node r NoMemory = (old : List (HeldSide D)) × (new : List (HeldSide D)) × All (IsHeldOf node) old × Each IsReadiedSide old new
  RefusesRecord node r _ = ⊥

  -- what is answered of the record with which these words begin
  abbrev pub AnswersRecord : Node D → Spelled → Result Pumped NodeFault → Type 0
  AnswersRecord node r (Ok pumped) = TakesRecord node r pumped
  AnswersRecord node r (Err fault) = RefusesRecord node r fault

  -- what is answered of these words: they are ignored where no record begins
  abbrev pub AnswersWords : Node D → List ℕ → Result Pumped NodeFault → Type 0
  AnswersWords node words answer =
      (BeginsNoRecord words × (answer ≡ Ok Ignored))
      ⊎ ((r : Spelled) × BeginsWith words r (record_len r) × AnswersRecord node r answer)

  -- what a side of the segment answers of its token, which came: it arrives if it may, and else it waits, if no other does
  abbrev pub AnswersToken : Journey D → SegView D → Result Pumped (Journey D) → SegView D → Type 0
  AnswersToken journey old (Ok Arrived) new = MayArrive old journey × (new ≡ with_token journey old)
  AnswersToken journey old (Ok Waiting) new = (MayArrive old journey → ⊥) × (old.waiting ≡ None) × (new ≡ record old { waiting = Some journey })
  AnswersToken journey old (Ok (Applied number arrived)) new = ⊥
  AnswersToken journey old (Ok HeldBack) new = ⊥
  AnswersToken journey old (Ok Ignored) new = ⊥
  AnswersToken journey old (Ok Empty) new = ⊥
  AnswersToken journey old (Err given) new = (given ≡ journey) × (MayArrive old journey → ⊥) × IsSome old.waiting × (new ≡ old)

  -- what a node answers of a token: it comes back where the node does not have its segment
  abbrev pub AnswersJourney : Node D → Journey D → Result Pumped (Journey D) → Type 0
  AnswersJourney node journey answer =
      ((HasSegment node journey.token.segment → ⊥) × (answer ≡ Err journey))
      ⊎ ((old : SegView D) × (new : SegView D) × (old.segment ≡ journey.token.segment) × IsSome old.image × AnswersToken journey old answer new)

  -- what is answered of a message, and whether it comes back: where a record is refused, and where a token cannot wait
  abbrev pub AnswersMessage : Node D → Message (Journey D) → Result Pumped NodeFault → Option (Message (Journey D)) → Type 0
  AnswersMessage node (Record number words) answer None = (pumped : Pumped) × (answer ≡ Ok pumped) × AnswersWords node words.items (Ok pumped)
  AnswersMessage node (Record number words) answer (Some back) = (fault : NodeFault) × (answer ≡ Err fault) × AnswersWords node words.items (Err fault)
  AnswersMessage node (Token journey) answer None = (pumped : Pumped) × (answer ≡ Ok pumped) × AnswersJourney node journey (Ok pumped)
  AnswersMessage node (Token journey) answer (Some back) = (answer ≡ Ok Waiting) × AnswersJourney node journey (Err journey)
