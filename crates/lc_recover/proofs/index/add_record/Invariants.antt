use Rattle.std.proofs.Common.{map}
use Rattle.lc_record.specs.Spans.{left_of}
use Rattle.lc_recover.specs.Pages.{kept_pages}
use Rattle.lc_recover.specs.Changes.{Adds, IsOf, seat}
use Rattle.lc_recover.proofs.Pushes.{CoversSpans}
use Rattle.lc_recover.proofs.SpanWalks.{Reached}
use Rattle.lc_recover.proofs.index.add_record.Given as goal

abbrev pub invariant-loop-placed : goal.invariant-loop-placed
invariant-loop-placed l = record {
  adds : Adds (IsOf (map kept_pages l.segments) (seat l.log l.place l.view)) l.initial.changes.items l.changes.items;
  covers : Reached (λ i. CoversSpans (map kept_pages l.segments) (seat l.log l.place l.view) i l.changes.items) l.view (left_of l.placed-iterator);
}
