use Rattle.std.proofs.Common.{◌≡◌, ◌-◌, List}
use Rattle.lc_record.specs.Reading.{locks_at}
use Rattle.lc_record.specs.declared.record.Lock.{Lock}
use Rattle.lc_record.proofs.LoopLemmas.{with_front}
use Rattle.lc_record.proofs.lock_words.locks_of.Given as goal

abbrev pub invariant-loop : goal.invariant-loop
invariant-loop l = (front : List Lock) × (with_front front (locks_at (l.count - l.counter) l.rest) ≡ locks_at l.count l.words)
