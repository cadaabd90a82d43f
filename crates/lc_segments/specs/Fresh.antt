-- Of a segment: what a segment of a recovered store is, as it comes up at a node.
use Rattle.std.specs.Prelude.{ℕ, [], None, Some}
use Rattle.std.specs.Global.{Vec}
use Rattle.lc_token.specs.Backlog.{fresh}
use Rattle.lc_tx.specs.declared.holders.Holders.TheVariants.{Free}
use Rattle.lc_segments.specs.SegView.{SegView}
use Rattle.lc_segments.specs.declared.page_area.PageArea.TheVariants.{Elsewhere}

module _ {D : Type 0} where
  -- a segment at a node where its token is not: it has these bytes and counts on from this number; nothing is applied, nothing is
  -- held back, no token waits, and its pages are elsewhere
  abbrev pub elsewhere_side : ℕ → ℕ → Vec ℕ → Vec ℕ → SegView D
  elsewhere_side segment number image base = record {
    segment = segment;
    image = Some (record { bytes = image; holders = Free });
    base = base.items;
    applied = [];
    room = 0;
    runs_room = record { runs = 0; bytes = 0 };
    backlog = fresh segment number;
    standing = record { segment = segment; token = None };
    pages = Elsewhere;
    since = 0;
    waiting = None;
  }
