use Rattle.std.proofs.Common.{◌≡◌, ◌++◌, map, drop}
use Rattle.std.specs.List.{flat_map}
use Rattle.lc_record.specs.Record.{lock_words}
use Rattle.lc_tx.specs.Prepared.{AreUnspent}
use Rattle.lc_tx.proofs.RunLemmas.{others}
use Rattle.lc_tx.proofs.RecordLemmas.{lock_of}
use Rattle.lc_tx.proofs.recording.add_locks.Given as goal

abbrev pub invariant-loop-run : goal.invariant-loop-run
invariant-loop-run g l = record {
  same : l.spelling ≡ record l.fn.spelling { words = l.spelling.words };
  words : l.spelling.words ++ flat_map lock_words (map (lock_of g.I.Images l.images) (others l.last (drop l.run-index l.runs)))
      ≡ l.fn.spelling.words ++ flat_map lock_words (map (lock_of g.I.Images l.images) (others 0 l.runs));
  unspent : AreUnspent (map (lock_of g.I.Images l.images) (others l.last (drop l.run-index l.runs)));
}
