use Rattle.std.proofs.Common.{◌≡◌, ◌≤◌, ◌-◌, ◌+◌, ℕ, arith, length, take, ap, ◌∙◌}
use Rattle.lc_journal.specs.Records.{all_words}
use Rattle.lc_journal.proofs.Spans.{start_order, start_within, span_words}
use Rattle.lc_journal.proofs.records.between.Goals as goal

module _ (c : goal.After-start_of-end) where
  start : c.start_of-start.result ≡ length (all_words (take c.args.from c.requires.lie.0))
  start = c.start_of-start.ensures c.requires.lie.0 c.requires.lie.1

  end : c.start_of-end.result ≡ length (all_words (take c.args.to c.requires.lie.0))
  end = c.start_of-end.ensures c.requires.lie.0 c.requires.lie.1

  order : c.start_of-start.result ≤ c.start_of-end.result
  order =
      let rs = c.requires.lie.0 in
      let more : ℕ = c.args.to - c.args.from in
      let last : c.args.from + more ≡ c.args.to = omega (arith, c.requires.order) in
      omega (arith, start, end, start_order c.args.from more rs, ap (λ (n : ℕ). length (all_words (take n rs))) last)

pub slice_bounds-result-count : goal.slice_bounds-result-count
slice_bounds-result-count c = order c

pub slice_bounds-result-start : goal.slice_bounds-result-start
slice_bounds-result-start c = omega (arith, order c)

pub slice_bounds-result-end : goal.slice_bounds-result-end
slice_bounds-result-end c = omega (arith, end c, ap length c.requires.lie.2, start_within c.args.to c.requires.lie.0)

pub offset_bounds-words-start : goal.offset_bounds-words-start
offset_bounds-words-start c = omega (arith, start c, ap length c.requires.lie.2, start_within c.args.from c.requires.lie.0)

pub returns : goal.returns
returns c rs places words =
    let more : ℕ = c.args.to - c.args.from in
    let last : c.args.to ≡ c.args.from + more = omega (arith, c.requires.order) in
    let start = c.start_of-start.ensures rs places in
    let end : c.start_of-end.result ≡ length (all_words (take (c.args.from + more) rs)) =
    c.start_of-end.ensures rs places ∙ ap (λ (n : ℕ). length (all_words (take n rs))) last in
    rw (words, end, start) (span_words c.args.from more rs)
