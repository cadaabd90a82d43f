use Rattle.std.proofs.Common.{◌≡◌, ◌+◌, ℕ, List, length, ap, ◌∙◌, arith, length-append}
use Rattle.lc_record.specs.GrammarVersion.{place_words}
use Rattle.lc_record.specs.Record.{data_words}
use Rattle.lc_record.specs.SpellingView.{SpellingView}
use Rattle.lc_record.proofs.DataLemmas.{length-data_words}
use Rattle.lc_record.proofs.spelling.Spelling.add_range.Goals as goal

pub invariant_of-self : goal.invariant_of-self
invariant_of-self c =
    let view = c.self.view_is in
    let words : length c.self.inside.words.items ≡ length c.args.self.now.words = ap (λ (v : SpellingView). length v.words) view in
    let len : c.self.inside.len ≡ c.args.self.now.len = ap (λ (v : SpellingView). v.len) view in
    let version : place_words c.self.inside.version ≡ place_words c.args.self.now.version = ap (λ (v : SpellingView). place_words v.version) view in
    let more : length c.push_data.new.words.items ≡ length c.push_span.new.words.items + length (data_words c.args.bytes.now) = ap (λ (l : List ℕ). length l) c.push_data.ensures.items ∙ length-append c.push_span.new.words.items (data_words c.args.bytes.now) in
    record {
      room = omega (arith, c.push_data.ensures.room, c.push_span.ensures.room, c.self.invariant.room);
      within = omega (arith, c.requires, words, len, version, more, length-data_words c.args.bytes.now, c.push_span.ensures.len);
    }
