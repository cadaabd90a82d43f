use Rattle.std.proofs.Common.{◌+◌, []}
use Rattle.std.specs.Prelude.{slice_index_or}
use Rattle.lc_record.specs.Lists.{items_of}
use Rattle.lc_recover.specs.Forecast.{sequence_of}
use Rattle.lc_look.specs.Draws.{AreEach, IsFieldOf}
use Rattle.lc_look.proofs.drawing.fields_of.Given as goal

abbrev pub invariant-loop-place : goal.invariant-loop-place
invariant-loop-place l = AreEach
    (λ place. IsFieldOf l.forecast.store l.forecast.geometry.pages (place + 1) (slice_index_or (items_of l.areas) (l.forecast.geometry.nodes + place) []) (sequence_of l.forecast (place + 1)))
    l.place l.fields.items
