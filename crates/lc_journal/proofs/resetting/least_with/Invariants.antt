use Rattle.std.proofs.Common.{◌≡◌, ◌++◌, List, drop}
use Rattle.lc_record.specs.Record.{IsRecord}
use Rattle.lc_record.specs.declared.record.Lock.{Lock}
use Rattle.lc_record.specs.declared.record.Record.{Record}
use Rattle.lc_token.specs.KnownClean.{known as known_of}
use Rattle.lc_settled.specs.Settled.{least_unclean}
use Rattle.lc_journal.proofs.resetting.least_with.Given as goal

abbrev pub invariant-loop-index : goal.invariant-loop-index
invariant-loop-index l =
    (r : Record) (locks : List Lock) → IsRecord r l.words → l.fn.rest ≡ least_unclean (known_of l.known) locks
    → l.least ≡ least_unclean (known_of l.known) (drop l.index r.locks ++ locks)
