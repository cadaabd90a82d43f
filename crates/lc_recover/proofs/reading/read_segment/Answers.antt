use Rattle.std.proofs.Common.{◌++◌, ◌∷◌, [], ℕ, List, length, refl, ◌∙◌, ap, subst}
use Rattle.lc_recover.specs.Pages.{AreKept}
use Rattle.lc_recover.specs.declared.segment_pages.SegmentPages.{SegmentPages}
use Rattle.lc_recover.proofs.reading.read_segment.Goals as goal

pub returns-clause-read : goal.returns-clause-read
returns-clause-read g c = record {
  bytes = c.as_slice.result.now;
  of_area = record {
    long = ap (λ (l : List ℕ). length l) c.as_slice.ensures.value ∙ c.read_whole.ensures.len;
    same = λ honest. c.as_slice.ensures.value ∙ c.in_ok-read_whole.ensures.bytes honest;
  };
  pages = c.fill.new.self;
  kept = subst (λ (n : ℕ). AreKept c.as_slice.result.now n c.fill.new.self) c.in_ok-pages.ensures.texts c.fill.ensures;
  logs = refl;
  segments = c.push_reserved-2.ensures.items ∙ ap (λ (l : List SegmentPages). l ++ c.fill.new.self ∷ []) c.reserve.ensures.items;
  locks = refl;
  numbers = c.push_reserved.ensures.items ∙ ap (λ (l : List ℕ). l ++ c.greatest_sequence.result ∷ []) c.reserve-2.ensures.items
      ∙ ap (λ (n : ℕ). c.args.read.now.numbers.items ++ n ∷ []) c.greatest_sequence.ensures;
}
