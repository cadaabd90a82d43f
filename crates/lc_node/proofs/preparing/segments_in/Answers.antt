use Rattle.std.proofs.Common.{◌≡◌, ◌<◌, false, true, length, inl, inr, arith}
use Rattle.std.specs.Prelude.{OnErr, Ok, Err}
use Rattle.std.proofs.lemmas.Bool.{cases_lt}
use Rattle.lc_node.proofs.preparing.segments_in.Goals as goal

pub returns-in_err-push-clause-no_memory : goal.returns-in_err-push-clause-no_memory
returns-in_err-push-clause-no_memory g c =
    let index = c.loop-held.held-index in
    let inv = c.loop-held.invariant in
    let many : 16 < length c.args.sides.now = elim (cases_lt index 16) [
      | inl few ↦ (let both : false ≡ true = c.in_err-push.ensures.succeeds (omega (arith, few, inv.long, inv.room)) in absurd cc)
      | inr more ↦ omega (arith, more, c.loop-held-test.true)
    ] in
    elim c.from_residual.result as (λ r. OnErr r (16 < length c.args.sides.now)) [ Ok x ↦ tt | Err fault ↦ many ]
