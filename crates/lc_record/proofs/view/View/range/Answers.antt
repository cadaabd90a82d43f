use Rattle.std.proofs.Common.{◌∙◌, Option, Some, sym, ap, option_map}
use Rattle.lc_record.specs.Record.{span_of}
use Rattle.lc_record.specs.declared.span.Span.{Span}
use Rattle.lc_record.specs.declared.record.RangeData.{RangeData}
use Rattle.lc_record.proofs.LoopLemmas.{range_span}
use Rattle.lc_record.proofs.view.View.range.Goals as goal

pub returns : goal.returns
returns c =
    let x = c.in_ok-range.range in
    sym (ap (λ (o : Option RangeData). option_map span_of o) c.in_ok-range.ensures.read ∙ ap (λ (s : Span). Some s) (range_span x.span x.data.now c.in_ok-range.ensures.whole))
