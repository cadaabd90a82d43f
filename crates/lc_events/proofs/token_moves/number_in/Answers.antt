use Rattle.std.proofs.Common.{◌+◌, drop, Some, sym, ap, ◌∙◌}
use Rattle.std.specs.Prelude.{if◌then◌else◌}
use Rattle.std.proofs.lemmas.Bool.{eq-eqb, ne_eqb}
use Rattle.lc_record.specs.Part.{number_in}
use Rattle.lc_events.proofs.Arrivals.{number_at}
use Rattle.lc_events.proofs.token_moves.number_in.Goals as goal

pub returns-then-lock-segment : goal.returns-then-lock-segment
returns-then-lock-segment c =
    let locks = c.args.view.now.locks in
    let lock = c.unwrap-lock.result in
    let at = sym c.lock.ensures ∙ c.unwrap-lock.ensures in
    sym (ap (λ b. if b then Some lock.seq else number_in c.args.segment (drop (c.loop-index.index + 1) locks)) (eq-eqb lock.segment c.args.segment c.if-lock-segment.true))
    ∙ sym (number_at c.args.segment c.loop-index.index lock locks at) ∙ c.loop-index.invariant

pub loop-index-preserved : goal.loop-index-preserved
loop-index-preserved c =
    let locks = c.args.view.now.locks in
    let lock = c.unwrap-lock.result in
    let at = sym c.lock.ensures ∙ c.unwrap-lock.ensures in
    sym (ap (λ b. if b then Some lock.seq else number_in c.args.segment (drop (c.loop-index.index + 1) locks)) (ne_eqb lock.segment c.args.segment c.if-lock-segment.false))
    ∙ sym (number_at c.args.segment c.loop-index.index lock locks at) ∙ c.loop-index.invariant
