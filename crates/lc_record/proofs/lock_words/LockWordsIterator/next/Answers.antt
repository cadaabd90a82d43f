use Rattle.std.proofs.Common.{◌≡◌, List, [], length, arith, ap}
use Rattle.lc_record.specs.LockWords.{locks_in}
use Rattle.lc_record.specs.declared.record.Lock.{Lock}
use Rattle.lc_record.proofs.LockWordsLemmas.{lock_none, lock_next}
use Rattle.lc_record.proofs.lock_words.LockWordsIterator.next.Goals as goal

pub returns-in_err-lock-clause-steps : goal.returns-in_err-lock-clause-steps
returns-in_err-lock-clause-steps c =
    let nothing : locks_in c.args.self.now.words.now ≡ [] = lock_none c.args.self.now.words.now c.in_err-lock.ensures in
    rw c.from_residual.ensures (nothing, nothing)

pub returns-clause-steps : goal.returns-clause-steps
returns-clause-steps c = lock_next c.args.self.now.words.now (c.in_ok-lock.lock, c.in_ok-lock.rest.now) c.in_ok-lock.ensures

pub returns-clause-goes : goal.returns-clause-goes
returns-clause-goes c =
    let first = lock_next c.args.self.now.words.now (c.in_ok-lock.lock, c.in_ok-lock.rest.now) c.in_ok-lock.ensures in
    record { on = λ _. (tt, tt, omega (arith, ap (λ (l : List Lock). length l) first)); keeps = tt; rests = λ _. tt }
