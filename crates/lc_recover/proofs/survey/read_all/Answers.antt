use Rattle.std.proofs.Common.{ℕ, List, length, ◌∙◌, arith, ap, refl}
use Rattle.lc_recover.proofs.AreasRead.{left-both, left-none, read-none}
use Rattle.lc_recover.proofs.survey.read_all.Goals as goal

pub loop-init : goal.loop-init
loop-init g c = record {
  fits = c.requires;
  count = omega (arith, ap (λ (l : List (List ℕ)). length l) c.new-read.ensures.logs, ap (λ l. length l) c.new-read.ensures.segments);
  read = read-none g.D.Area c.args.geometry.now c.args.areas.now c.new-read.result c.new-read.ensures.logs c.new-read.ensures.segments c.new-read.ensures.locks c.new-read.ensures.numbers;
  honest = λ honest. honest;
  left = left-none g.D.Area c.args.geometry.now c.args.areas.now;
  reads = λ honest. refl;
}

pub read_area-requires-clause-left : goal.read_area-requires-clause-left
read_area-requires-clause-left g c = omega (arith, c.loop-test.true, c.loop.invariant.count, c.loop.auto.areas)

pub loop-preserved : goal.loop-preserved
loop-preserved g c = record {
  fits = c.read_area.ensures.areas;
  count = omega (arith, c.in_ok-read_area.ensures.next, c.loop.invariant.count);
  read = c.in_ok-read_area.ensures.read c.loop.invariant.read;
  honest = λ honest. c.read_area.ensures.honest (c.loop.invariant.honest honest);
  left = left-both g.D.Area c.args.geometry.now c.args.areas.now c.loop.areas c.read_area.new.areas c.loop.invariant.left c.read_area.ensures.left;
  reads = λ honest. c.read_area.ensures.reads (c.loop.invariant.honest honest) ∙ c.loop.invariant.reads honest;
}

pub returns-clause-count : goal.returns-clause-count
returns-clause-count g c = omega (arith, c.loop-test.false, c.loop.auto.counter-end, c.loop.invariant.count)

pub returns-in_err-read_area-clause-left : goal.returns-in_err-read_area-clause-left
returns-in_err-read_area-clause-left g c = left-both g.D.Area c.args.geometry.now c.args.areas.now c.loop.areas c.read_area.new.areas c.loop.invariant.left c.read_area.ensures.left
