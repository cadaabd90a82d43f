use Rattle.std.proofs.Common.{◌≡◌, ◌++◌, [], ◌∷◌, arith, length, ap, true, false}
use Rattle.std.specs.Result.{is_ok}
use Rattle.lc_journal.specs.Records.{KeptRecords}
use Rattle.lc_journal.proofs.Spans.{Holds, held, kept_so, seen_so, grown_so}
use Rattle.lc_journal.proofs.records.Records.reserve.Goals as goal

module _ (c : goal.After-unwrap) where
  abbrev new : KeptRecords
  new = record c.args.self.now { records = c.args.self.now.records ++ record { words = c.args.words.now; closed = false } ∷ [] }

  grown : Holds c.self.inside.first c.extend_from_slice.new.self.items c.push.new.self.items c.self.inside.gone c.self.inside.leading new
  grown =
      let h = held _ _ _ _ _ _ c.self.invariant c.self.view_is in
      let words = c.in_ok-extend_from_slice.ensures.items in
      let pushed : is_ok c.push.result ≡ true = c.push.ensures.succeeds (omega (arith, c.in_ok-reserve.ensures.ok)) in
      let places : c.push.new.self.items ≡ c.self.inside.places.items ++ record { end = c.len.result; closed = false } ∷ [] = rw (pushed, c.in_ok-reserve.ensures.items) at c.push.ensures.items in
      let end : c.len.result ≡ length (c.self.inside.words.items ++ c.args.words.now) = omega (arith, c.len.ensures, ap length words) in
      rw (words, places) (grown_so _ _ _ _ _ _ h c.args.words.now c.len.result end (omega (arith, c.if-number-ge-MOST_RECORDS.false, c.count-number.ensures)))

pub invariant_of-self-2 : goal.invariant_of-self-2
invariant_of-self-2 c = kept_so _ _ _ _ _ (new c) (grown c)

pub returns-clause-added : goal.returns-clause-added
returns-clause-added c = seen_so _ _ _ _ _ (new c) (grown c)
