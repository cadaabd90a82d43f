use Rattle.std.proofs.Common.{◌≡◌, ◌∙◌, ℕ, ◌+◌, ◌*◌, [], ◌∷◌, length, drop, ap, subst, arith}
use Rattle.std.specs.Prelude.{slice_range}
use Rattle.lc_record.specs.Record.{record_len, version_of, IsRecord}
use Rattle.lc_record.specs.Reading.{ranges_at}
use Rattle.lc_record.specs.View.{record_in}
use Rattle.lc_record.specs.declared.record.Record.{Record}
use Rattle.lc_record.proofs.RecordLemmas.{ranges_there}
use Rattle.lc_record.proofs.ViewLemmas.{locks_within, range_behind}
use Rattle.lc_record.proofs.view.View.ranges.Goals as goal

pub slice_bounds-result-count : goal.slice_bounds-result-count
slice_bounds-result-count c =
    let words = c.self.inside.words.now in
    let same : length (record_in words).locks ≡ length c.args.self.now.locks = ap (λ (r : Record). length r.locks) c.self.view_is in
    omega (arith, locks_within (record_in words) words c.self.invariant, same, c.front_words.ensures)

pub slice_bounds-result-start : goal.slice_bounds-result-start
slice_bounds-result-start c =
    let words = c.self.inside.words.now in
    let same : length (record_in words).locks ≡ length c.args.self.now.locks = ap (λ (r : Record). length r.locks) c.self.view_is in
    omega (arith, locks_within (record_in words) words c.self.invariant, same, c.front_words.ensures)

pub returns : goal.returns
returns c =
    let words = c.self.inside.words.now in
    let r : Record = c.args.self.now in
    let is : IsRecord r words = subst (λ (q : Record). IsRecord q words) c.self.view_is c.self.invariant in
    let stands : slice_range words c.front_words.result (length words) ≡ drop (2 + 2 * length r.locks) words = range_behind words c.front_words.result ∙ ap (λ (n : ℕ). drop n words) c.front_words.ensures in
    (record_len r ∷ [], ap (ranges_at (version_of r.ranges) (length r.ranges)) stands ∙ ranges_there r words is)
