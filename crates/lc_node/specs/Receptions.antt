-- Of a node: what is made ready for a record at a segment, before any is applied.
use Rattle.std.specs.Prelude.{◌≡◌, Option}
use Rattle.lc_record.specs.declared.part.Part.{Part}
use Rattle.lc_record.specs.declared.record.Record.{Record}
use Rattle.lc_record.specs.Part.{part_of}
use Rattle.lc_token.specs.declared.received.Received.{Received}
use Rattle.lc_segments.specs.Delivering.{IsReadied, TakesIn}
use Rattle.lc_node.specs.Delivering.{Admits}
use Rattle.lc_segments.specs.SegView.{SegView}
use Rattle.lc_segments.specs.declared.held.HeldSide.{HeldSide}
use Rattle.lc_segments.specs.declared.reception.Reception.{Reception}
use Rattle.lc_segments.specs.Receptions.{Prepares}

module _ {D : Type 0} where
  -- a held segment is made ready so for its part of a record
  pub record IsPrepared (r : Record) (h : HeldSide D) (reception : Reception) (g : HeldSide D) : Type 0 where
    pub prepares : Prepares (part_of h.side.segment r) h.side reception g.side
    pub same : g ≡ record h { side = g.side }

  -- whatever it was made ready for, it is taken back
  abbrev pub IsForgone : HeldSide D → Reception → HeldSide D → Type 0
  IsForgone h reception g =
      (g ≡ record h { side = g.side })
      × ((part : Option Part) (before : SegView D) → Prepares part before reception h.side → IsReadied before g.side)

  -- whatever it was made ready for, that is taken in and answered so, and then the token that waits there arrives, if it may
  abbrev pub IsFinished : HeldSide D → Reception → Received → HeldSide D → Type 0
  IsFinished h reception answer g =
      (g ≡ record h { side = g.side })
      × ((between : SegView D)
      × ((part : Option Part) (before : SegView D) → Prepares part before reception h.side → TakesIn part before answer between)
      × Admits between g.side)
