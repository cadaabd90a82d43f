use Rattle.std.proofs.Common.{◌≡◌, ◌++◌, take}
use Rattle.std.specs.List.{flat_map}
use Rattle.lc_record.specs.Record.{lock_words, range_words, version_of}
use Rattle.lc_record.proofs.SpellingLemmas.{begun}
use Rattle.lc_record.proofs.encoding.spell.Given as goal

abbrev pub invariant-loop-lock : goal.invariant-loop-lock
invariant-loop-lock l = l.spelling ≡ begun l.record (flat_map lock_words (take l.lock-index l.record.locks))

abbrev pub invariant-loop-range : goal.invariant-loop-range
invariant-loop-range l = l.spelling ≡ begun l.record (flat_map lock_words l.record.locks ++ flat_map (range_words (version_of l.record.ranges)) (take l.range-index l.record.ranges))
