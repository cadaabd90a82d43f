use Rattle.std.proofs.Common.{◌<◌, ℕ, List, length, subst}
use Rattle.std.specs.Prelude.{OnOk, OnErr}
use Rattle.lc_tx.specs.Tx.{IsSetOf}
use Rattle.lc_tx.proofs.SetLemmas.{others_of_none}
use Rattle.lc_tx.proofs.locking.add_all.Goals as goal

pub returns-clause-set : goal.returns-clause-set
returns-clause-set c = subst (λ (l : List ℕ). OnOk c.add_beside.result (IsSetOf l c.add_beside.new.set.items)) (others_of_none c.args.numbers.now) c.add_beside.ensures.set

pub returns-clause-memory : goal.returns-clause-memory
returns-clause-memory c =
    subst (λ (l : List ℕ). OnErr c.add_beside.result ((all : List ℕ) × IsSetOf l all × (16 < length all))) (others_of_none c.args.numbers.now) c.add_beside.ensures.memory
