use Rattle.std.proofs.Common.{◌≡◌, ◌≢◌, ◌∙◌, sym, ap, subst, length, ◌<◌, List, eq-eqb, ne_eqb}
use Rattle.std.specs.Prelude.{Some, slice_index_or}
use Rattle.lc_record.specs.declared.record.Lock.{Lock}
use Rattle.lc_rest.proofs.TokenTests.{number-found, number-more}
use Rattle.lc_rest.proofs.token_test.number_in.Goals as goal

pub returns-then-lock-segment : goal.returns-then-lock-segment
returns-then-lock-segment c =
    let d : Lock = record { segment = 0; seq = 0 } in
    let i = c.loop-lock.lock-index in
    ap (λ (ls : List Lock). Some (slice_index_or ls i d).seq) c.as_slice-lock-items.ensures
    ∙ sym (number-found c.args.segment c.args.whole.now.locks i d (subst (λ (ls : List Lock). i < length ls) c.as_slice-lock-items.ensures c.loop-lock-test.true) c.loop-lock.invariant
    (eq-eqb (slice_index_or c.args.whole.now.locks i d).segment c.args.segment (subst (λ (ls : List Lock). (slice_index_or ls i d).segment ≡ c.args.segment) c.as_slice-lock-items.ensures c.if-lock-segment.true)))

pub loop-lock-preserved : goal.loop-lock-preserved
loop-lock-preserved c =
    let d : Lock = record { segment = 0; seq = 0 } in
    let i = c.loop-lock.lock-index in
    number-more c.args.segment c.args.whole.now.locks i d (subst (λ (ls : List Lock). i < length ls) c.as_slice-lock-items.ensures c.loop-lock-test.true) c.loop-lock.invariant
    (ne_eqb (slice_index_or c.args.whole.now.locks i d).segment c.args.segment (subst (λ (ls : List Lock). (slice_index_or ls i d).segment ≢ c.args.segment) c.as_slice-lock-items.ensures c.if-lock-segment.false))
