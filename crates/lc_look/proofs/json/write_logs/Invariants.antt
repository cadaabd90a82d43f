use Rattle.std.proofs.Common.{[]}
use Rattle.std.specs.Prelude.{flat_map, slice_index_or}
use Rattle.std.specs.Io.KnownBytes.{Appends}
use Rattle.lc_record.specs.Marks.{counting}
use Rattle.lc_look.specs.Json.{log_json}
use Rattle.lc_look.proofs.json.write_logs.Given as goal

abbrev pub invariant-loop-node : goal.invariant-loop-node
invariant-loop-node g l =
    Appends (g.W.Write.contents l.fn.writer) (g.W.Write.contents l.writer) (flat_map (λ node. log_json node (slice_index_or l.survey.store.logs node [])) (counting 0 l.node))
