-- Of a node: what becomes of a record that a peer published, at the segments of a node.
use Rattle.std.specs.Prelude.{◌≡◌, ◌⊎◌, None, Some, IsSome, IsSomeAnd}
use Rattle.lc_record.specs.declared.record.Record.{Record}
use Rattle.lc_record.specs.Part.{part_of}
use Rattle.lc_token.specs.declared.received.Received.{Received}
use Rattle.lc_segments.specs.Arriving.{MayArrive, with_token}
use Rattle.lc_segments.specs.SegView.{SegView}
use Rattle.lc_segments.specs.declared.held.HeldSide.{HeldSide}
use Rattle.lc_segments.specs.Delivering.{IsReadied, TakesIn}

module _ {D : Type 0} where
  -- the token that waits has arrived, where it may; else nothing has changed
  abbrev pub Admits : SegView D → SegView D → Type 0
  Admits old new =
      ((IsSomeAnd old.waiting (MayArrive old) → ⊥) × (new ≡ old))
      ⊎ ((journey : _) × (old.waiting ≡ Some journey) × MayArrive old journey × (new ≡ record (with_token journey old) { waiting = None }))

  -- a held segment takes its part of a record in, which is answered so, and then the token that waits there arrives, if it may
  pub record Answers (r : Record) (h : HeldSide D) (answer : Received) (g : HeldSide D) : Type 0 where
    pub between : SegView D
    pub takes : TakesIn (part_of h.side.segment r) h.side answer between
    pub admits : Admits between g.side
    pub same : g ≡ record h { side = g.side }

  -- so it does, whatever is answered
  abbrev pub IsDelivered : Record → HeldSide D → HeldSide D → Type 0
  IsDelivered r h g = (answer : Received) × Answers r h answer g

  -- a token arrived
  abbrev pub HasArrived : HeldSide D → HeldSide D → Type 0
  HasArrived h g = (h.side.standing.token ≡ None) × IsSome g.side.standing.token

  -- no record came, for want of memory
  abbrev pub IsReadiedSide : HeldSide D → HeldSide D → Type 0
  IsReadiedSide h g = (g ≡ record h { side = g.side }) × IsReadied h.side g.side
