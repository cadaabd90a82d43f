use Rattle.std.proofs.Common.{sym, ◌∙◌, ap, arith, length, map, take}
use Rattle.std.proofs.lemmas.List.{length-append, length-map, length-take-le}
use Rattle.std.proofs.lemmas.Option.{slice_get_within}
use Rattle.lc_recover.specs.Locks.{number_of}
use Rattle.lc_recover.proofs.Walks.{none-within}
use Rattle.lc_recover.proofs.Orders.{number-more}
use Rattle.lc_recover.proofs.locks.add_record.Goals as goal
use Rattle.lc_recover.proofs.locks.add_record.Goals.{in-Some, in_default}

pub push_reserved-requires : goal.push_reserved-requires
push_reserved-requires c =
    omega (
      arith,
      ap length c.loop-index.invariant.0,
      length-append c.args.numbers.now.items (map number_of (take c.loop-index.index c.args.view.now.locks)),
      length-map (take c.loop-index.index c.args.view.now.locks) number_of,
      length-take-le c.loop-index.index c.args.view.now.locks (omega arith),
      length-map c.args.view.now.locks number_of,
      slice_get_within c.args.view.now.locks c.loop-index.index c.in-Some.lock (sym c.in-Some.ensures),
      c.loop-index.invariant.1,
      c.requires,
      c.args.numbers.now.ok,
      c.loop-index.numbers.ok,
    )

pub loop-index-preserved : goal.loop-index-preserved
loop-index-preserved c = elim c.match-lock.branch [
  | in-Some w ↦
      rw w.numbers-is (
        w.push_reserved.ensures.items
            ∙ number-more c.args.view.now.locks c.loop-index.index w.in-Some.lock c.args.numbers.now.items c.loop-index.numbers.items (sym w.in-Some.ensures) c.loop-index.invariant.0,
        w.push_reserved.ensures.capacity ∙ c.loop-index.invariant.1,
      )
  | in_default w ↦ absurd (none-within c.args.view.now.locks c.loop-index.index (sym w.in_default.ensures) (omega arith))
]
