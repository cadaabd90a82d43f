use Rattle.std.proofs.Common.{◌≡◌, ◌-◌, ◌<◌, ◌≤◌, ℕ, suc, List, ◌∷◌, take, drop, Some, slice_get, sym, ap, ◌∙◌, arith}
use Rattle.lc_record.specs.declared.record.Record.{Record}
use Rattle.lc_record.proofs.ListLemmas.{slice_get-take as get_take, drop-take_same as nothing_behind}
use Rattle.lc_model.specs.Stored.{records_of}
use Rattle.lc_token.specs.KnownClean.{known as known_of}
use Rattle.lc_journal.specs.Records.{count_of, front_of}
use Rattle.lc_settled.specs.Settled.{least_unclean, locks_in}
use Rattle.lc_journal.proofs.FoundByNumber.{kept_at}
use Rattle.lc_journal.proofs.Sealing.{drop_at, same_least}
use Rattle.lc_journal.proofs.Spans.{leading_le}
use Rattle.lc_journal.proofs.journal.Journal.least_unclean.Goals as goal

pub loop-number-init : goal.loop-number-init
loop-number-init g c =
    let w = c.args.self.now in (
      w.dropped_acked,
      omega arith,
      λ m node s x h. ap (λ (rs : List Record). least_unclean (known_of c.args.known.now) (locks_in rs)) (sym (nothing_behind w.acked (records_of m s x.disks node))),
    )

pub words-requires-clause-reserved : goal.words-requires-clause-reserved
words-requires-clause-reserved g c =
    let w = c.args.self.now in
    let front : front_of w.records ≤ count_of w.records = omega (arith, leading_le w.records.records) in
    omega (arith, c.loop-number-test.true, c.loop-number.invariant.1, w.acked_taken, w.taken_closed, front)

pub loop-number-preserved : goal.loop-number-preserved
loop-number-preserved g c =
    let w = c.args.self.now in
    let number : ℕ = c.loop-number.number - 1 in
    let front : front_of w.records ≤ count_of w.records = omega (arith, leading_le w.records.records) in
    let is : suc number ≡ c.loop-number.number = omega (arith, c.loop-number-test.true) in
    let below : number < w.acked = omega (arith, is, c.loop-number.invariant.1) in (
      omega (arith, c.loop-number-test.true),
      omega (arith, c.loop-number.invariant.1),
      λ m node s x h.
          let known = known_of c.args.known.now in
          let records : List Record = records_of m s x.disks node in
          let one = kept_at g.D.Area m node s x w.log w.records w.dropped w.trimmed w.taken w.acked h number c.words.result.now
          (omega (arith, w.kept, c.loop-number-test.true)) (omega (arith, below, w.acked_taken, w.taken_closed, front)) c.words.ensures in
          let at : slice_get (take w.acked records) number ≡ Some one.0 = get_take w.acked number records below ∙ one.1 in
          c.least_with-least.ensures one.0 (locks_in (drop c.loop-number.number (take w.acked records))) one.2 (c.loop-number.invariant.2 m node s x h)
          ∙ ap (λ (n : ℕ). least_unclean known (locks_in (one.0 ∷ drop n (take w.acked records)))) (sym is)
          ∙ ap (λ (rs : List Record). least_unclean known (locks_in rs)) (sym (drop_at number (take w.acked records) one.0 at)),
    )

pub returns : goal.returns
returns g c = λ m node s x sound h knows.
    let w = c.args.self.now in
    let known = known_of c.args.known.now in
    let records : List Record = records_of m s x.disks node in
    let all : c.loop-number.number ≡ w.dropped = omega (arith, c.loop-number-test.false, c.loop-number.invariant.0) in
    c.loop-number.invariant.2 m node s x h
    ∙ ap (λ (n : ℕ). least_unclean known (locks_in (drop n (take w.acked records)))) (all ∙ h.dropped_is)
    ∙ ap (λ (n : ℕ). least_unclean known (locks_in (drop (x.disks.dropped node) (take n records)))) h.acked_is
    ∙ same_least m node s x known sound knows
