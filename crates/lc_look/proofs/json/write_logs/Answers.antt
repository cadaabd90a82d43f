use Rattle.std.proofs.Common.{◌≡◌, ℕ, ◌+◌, List, [], length, ◌∙◌, ap, subst, arith}
use Rattle.std.specs.Prelude.{slice_index_or}
use Rattle.std.specs.Io.KnownBytes.{Appends}
use Rattle.lc_text.proofs.Writes.{same_bytes}
use Rattle.lc_look.specs.Json.{extent_json, log_json}
use Rattle.lc_look.proofs.ChecksShown.{next_text}
use Rattle.lc_look.proofs.json.write_logs.Goals as goal

pub loop-node-preserved : goal.loop-node-preserved
loop-node-preserved g c =
    let held = g.W.Write.contents c.args.writer.now in
    let mid = g.W.Write.contents c.loop-node.writer in
    let holds = g.W.Write.contents c.write_log.new.writer in
    let node : ℕ = c.loop-node.node in
    let its : ℕ → List ℕ = λ k. log_json k (slice_index_or c.args.survey.now.store.logs k []) in
    let own : Appends mid holds (its node) =
    same_bytes mid holds _ _
    (ap (λ (n : ℕ). extent_json node n c.log.result.words) c.log.ensures.records
    ∙ ap (λ (n : ℕ). extent_json node (length (slice_index_or c.args.survey.now.store.logs node [])) n) c.log.ensures.words) c.in_ok-write_log.ensures in
    let here : node ≡ 0 + node = omega arith in
    next_text its 0 node held mid holds c.loop-node.invariant (subst (λ (k : ℕ). Appends mid holds (its k)) here own)
