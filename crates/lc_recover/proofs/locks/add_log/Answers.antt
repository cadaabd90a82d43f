use Rattle.std.proofs.Common.{◌++◌, ℕ, List, [], ◌∷◌, ap, sym, ◌∙◌, map, length, arith}
use Rattle.std.proofs.lemmas.List.{map-append, length-append}
use Rattle.lc_record.specs.declared.record.Record.{Record}
use Rattle.lc_log.specs.InPlace.{records_in}
use Rattle.lc_recover.specs.Locks.{numbers_in}
use Rattle.lc_recover.proofs.Walks.{passed-next, passed-all, placed-records}
use Rattle.lc_recover.proofs.Orders.{numbers-push, numbers-fit}
use Rattle.lc_recover.proofs.locks.add_log.Goals as goal

pub add_record-requires : goal.add_record-requires
add_record-requires c =
    let passed = c.loop-record.invariant in
    omega (
      arith,
      numbers-fit c.args.words.now passed.seen _ _ (c.in-Some.field-0-0, c.in-Some.record) passed.split c.in-Some.ensures.steps,
      ap length passed.holds.0,
      length-append c.args.numbers.now.items (numbers_in (map (λ (x : ℕ × Record). x.1) passed.seen)),
      passed.holds.1,
      c.requires,
      c.args.numbers.now.ok,
      c.loop-record.numbers.ok,
    )

pub loop-record-preserved : goal.loop-record-preserved
loop-record-preserved c = passed-next _ _ _ _ _ _ c.in-Some.ensures.steps c.loop-record.invariant
    (λ seen holds. (
      c.add_record.ensures.items
          ∙ numbers-push c.args.numbers.now.items c.loop-record.numbers.items (map (λ (x : ℕ × Record). x.1) seen) c.in-Some.record holds.0
          ∙ ap (λ (l : List Record). c.args.numbers.now.items ++ numbers_in l) (sym (map-append (λ (x : ℕ × Record). x.1) seen ((c.in-Some.field-0-0, c.in-Some.record) ∷ []))),
      c.add_record.ensures.capacity ∙ holds.1,
    ))

pub returns : goal.returns
returns c =
    (passed-all _ _ _ c.in-None.ensures.steps.0 c.loop-record.invariant).0
    ∙ ap (λ (l : List Record). c.args.numbers.now.items ++ numbers_in l) (placed-records 0 (records_in c.args.words.now))
