use Rattle.std.proofs.Common.{Bool, false, get_or, List, ◌∙◌, sym, ap, arith}
use Rattle.lc_tx.proofs.ReaderLemmas.{any_some, none_at, set_false, past}
use Rattle.lc_tx.proofs.readers.Readers.without.Goals as goal
use Rattle.lc_tx.proofs.readers.Readers.without.Goals.{then-place-lt-THREADS, else-place-lt-THREADS}

pub invariant_of-result-clause-some : goal.invariant_of-result-clause-some
invariant_of-result-clause-some c = sym (any_some c.if-place-lt-THREADS.reads) ∙ sym c.contains.ensures.value ∙ c.if-not-contains.false

pub returns-then-not-contains-clause-none : goal.returns-then-not-contains-clause-none
returns-then-not-contains-clause-none c = λ is other. sym (elim c.if-place-lt-THREADS.branch [
  | then-place-lt-THREADS w ↦ ap (λ (l : List Bool). get_or l other false) w.reads-is ∙ set_false c.args.self.reads c.args.thread other
  | else-place-lt-THREADS w ↦ ap (λ (l : List Bool). get_or l other false) w.reads-is ∙ past c.args.self.reads c.args.thread other (omega (arith, w.if-place-lt-THREADS.false, c.args.self.all_threads))
]) ∙ none_at c.if-place-lt-THREADS.reads (sym (any_some c.if-place-lt-THREADS.reads) ∙ sym c.contains.ensures.value ∙ c.if-not-contains.true) other

pub returns-clause-others : goal.returns-clause-others
returns-clause-others c = λ other. elim c.if-place-lt-THREADS.branch [
  | then-place-lt-THREADS w ↦ ap (λ (l : List Bool). get_or l other false) w.reads-is ∙ set_false c.args.self.reads c.args.thread other
  | else-place-lt-THREADS w ↦ ap (λ (l : List Bool). get_or l other false) w.reads-is ∙ past c.args.self.reads c.args.thread other (omega (arith, w.if-place-lt-THREADS.false, c.args.self.all_threads))
]
