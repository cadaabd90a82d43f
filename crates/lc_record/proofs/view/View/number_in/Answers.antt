use Rattle.std.proofs.Common.{◌≡◌, ◌==◌, ◌+◌, ◌∙◌, ℕ, zero, suc, Bool, List, [], ◌∷◌, drop, Some, ap, sym, arith, eq-eqb, ne_eqb}
use Rattle.std.specs.Prelude.{slice_get, if◌then◌else◌}
use Rattle.std.proofs.lemmas.Option.{none-some, same_Some}
use Rattle.lc_record.specs.Part.{number_in}
use Rattle.lc_record.specs.declared.record.Lock.{Lock}
use Rattle.lc_record.proofs.view.View.number_in.Goals as goal

-- the number among the locks that are left, by the first of these
number_next : (segment : ℕ) (locks : List Lock) (i : ℕ) (lock : Lock) → slice_get locks i ≡ Some lock
    → number_in segment (drop i locks) ≡ (if lock.segment == segment then Some lock.seq else number_in segment (drop (i + 1) locks))
number_next segment [] i lock is = absurd (none-some lock is)
number_next segment (x ∷ locks) zero lock is =
    ap (λ (l : Lock). if l.segment == segment then Some l.seq else number_in segment locks) (same_Some x lock is)
number_next segment (x ∷ locks) (suc i) lock is =
    let e : suc i + 1 ≡ suc (i + 1) = omega arith in
    rw e (number_next segment locks i lock is)

pub returns-then-lock-segment : goal.returns-then-lock-segment
returns-then-lock-segment c =
    let lock : Lock = c.in_ok-lock.lock in
    let behind = number_in c.args.segment (drop (c.loop-index.index + 1) c.args.self.now.locks) in
    sym (ap (λ (b : Bool). if b then Some lock.seq else behind) (eq-eqb lock.segment c.args.segment c.if-lock-segment.true))
    ∙ sym (number_next c.args.segment c.args.self.now.locks c.loop-index.index lock (sym c.in_ok-lock.ensures))
    ∙ c.loop-index.invariant

pub loop-index-preserved : goal.loop-index-preserved
loop-index-preserved c =
    let lock : Lock = c.in_ok-lock.lock in
    let behind = number_in c.args.segment (drop (c.loop-index.index + 1) c.args.self.now.locks) in
    sym (ap (λ (b : Bool). if b then Some lock.seq else behind) (ne_eqb lock.segment c.args.segment c.if-lock-segment.false))
    ∙ sym (number_next c.args.segment c.args.self.now.locks c.loop-index.index lock (sym c.in_ok-lock.ensures))
    ∙ c.loop-index.invariant
