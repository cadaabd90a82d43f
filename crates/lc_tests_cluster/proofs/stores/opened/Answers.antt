use Rattle.lc_tests_cluster.proofs.stores.opened.Goals as goal

pub returns-in-Ok-clause-seats : goal.returns-in-Ok-clause-seats
returns-in-Ok-clause-seats g c = λ node seat got. (c.in-Ok.ensures.seats node seat got).0
