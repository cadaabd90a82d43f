use Rattle.std.proofs.Common.{◌≤◌, ◌*◌, All, take, map, length}
use Rattle.lc_record.specs.Content.{segment_of}
use Rattle.lc_record.specs.GrammarVersion.{end_of}
use Rattle.lc_record.specs.Record.{span_of}
use Rattle.lc_record.specs.Spans.{left_of}
use Rattle.lc_recover.specs.Pages.{kept_pages}
use Rattle.lc_recover.proofs.SpanWalks.{Reached}
use Rattle.lc_recover.proofs.within.ranges_within.Given as goal

abbrev pub invariant-loop-placed : goal.invariant-loop-placed
invariant-loop-placed l =
    Reached (λ i. All (λ range. end_of (span_of range) ≤ length (segment_of range.segment (map kept_pages l.segments)) * 256) (take i l.view.ranges)) l.view (left_of l.placed-iterator)
