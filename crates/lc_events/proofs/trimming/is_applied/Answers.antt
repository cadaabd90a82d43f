use Rattle.std.proofs.Common.{◌≡◌, ℕ, ◌+◌, ◌<◌, true, length, refl, sym, ap, ◌∙◌, arith, Bool, below_more}
use Rattle.std.specs.Prelude.{nat_le}
use Rattle.std.proofs.lemmas.Option.{slice_get_read}
use Rattle.lc_events.proofs.Trimmed.{all_counted, one_counted}
use Rattle.lc_events.proofs.trimming.is_applied.Goals as goal

pub loop-node-init : goal.loop-node-init
loop-node-init g c = λ m s x h known k below. absurd (omega (arith, below))

pub returns-then-not-is_applied_at : goal.returns-then-not-is_applied_at
returns-then-not-is_applied_at g c = λ m s x h known.
    let i : ℕ = c.loop-node.node-index in
    let lock = c.args.lock in
    let at = slice_get_read c.args.nodes.now (length c.args.nodes.now) i c.node-item.result refl c.loop-node-test.true c.node-item.is in
    let fails = sym (c.is_applied_at.ensures m i s x (h.each i c.node-item.result at) known) ∙ c.if-not-is_applied_at.true in
    let within : i < m.geometry.nodes = omega (arith, h.all, c.loop-node-test.true) in
    let same : 0 + i ≡ i = omega arith in
    let p : ℕ → Bool = λ k. nat_le lock.seq (x.applied k lock.segment) in
    sym (one_counted p 0 m.geometry.nodes i within (ap p same ∙ fails))

pub loop-node-preserved : goal.loop-node-preserved
loop-node-preserved g c = λ m s x h known.
    let i : ℕ = c.loop-node.node-index in
    let lock = c.args.lock in
    let at = slice_get_read c.args.nodes.now (length c.args.nodes.now) i c.node-item.result refl c.loop-node-test.true c.node-item.is in
    let passes = sym (c.is_applied_at.ensures m i s x (h.each i c.node-item.result at) known) ∙ c.if-not-is_applied_at.false in
    below_more (λ (k : ℕ). nat_le lock.seq (x.applied k lock.segment) ≡ true) i (c.loop-node.invariant m s x h known) passes

pub returns : goal.returns
returns g c = λ m s x h known.
    let lock = c.args.lock in
    let p : ℕ → Bool = λ k. nat_le lock.seq (x.applied k lock.segment) in
    sym (all_counted p 0 m.geometry.nodes (λ k below.
    let same : 0 + k ≡ k = omega arith in
    let passed : k < c.loop-node.node-index = omega (arith, below, h.all, c.loop-node-test.false) in
    ap p same ∙ c.loop-node.invariant m s x h known k passed))
