use Rattle.std.proofs.Common.{◌<◌, sym, arith, length, get_or, refl}
use Rattle.std.proofs.lemmas.List.{get_or_default as same-item}
use Rattle.lc_recover.specs.declared.lock_number.LockNumber.{LockNumber}
use Rattle.lc_recover.proofs.Counts.{apart-once, apart-next, before-same, first-twice}
use Rattle.lc_recover.proofs.numbers.once.Goals as goal

pub loop-index-preserved : goal.loop-index-preserved
loop-index-preserved c = apart-next c.args.numbers.now c.loop-index.index (record { segment = 0; seq = 0 }) (omega arith) (omega arith) c.loop-index.invariant (sym c.if-eq.ensures)

pub returns-then-eq-clause-twice : goal.returns-then-eq-clause-twice
returns-then-eq-clause-twice c =
    let n : LockNumber = get_or c.args.numbers.now c.loop-index.index (record { segment = 0; seq = 0 }) in
    let within : c.loop-index.index < length c.args.numbers.now = omega arith in (
      n.segment,
      n.seq,
      refl,
      first-twice c.args.numbers.now c.requires c.loop-index.index n (omega arith) within c.loop-index.invariant
          (same-item c.args.numbers.now c.loop-index.index n (record { segment = 0; seq = 0 }) within)
          (before-same c.args.numbers.now c.loop-index.index (record { segment = 0; seq = 0 }) (omega arith) within (sym c.if-eq.ensures)),
    )

pub returns-clause-once : goal.returns-clause-once
returns-clause-once c = apart-once c.args.numbers.now c.requires c.loop-index.index (omega arith) c.loop-index.invariant
