-- The words of a record, written in parts.
use Rattle.std.proofs.Common.{◌≡◌, ◌+◌, ◌<◌, ◌≤◌, ℕ, List, [], ◌∷◌, ◌++◌, length, ap, ◌∙◌, arith, length-append}
use Rattle.std.specs.List.{flat_map}
use Rattle.std.proofs.lemmas.List.{length-map}
use Rattle.lc_record.specs.Layout.{layout_len, first_word, second_word}
use Rattle.lc_record.specs.Record.{record_layout, record_len, spelling, span_of, version_of, lock_words, range_words}
use Rattle.lc_record.specs.SpellingView.{SpellingView}
use Rattle.lc_record.specs.declared.layout.Layout.{Layout}
use Rattle.lc_record.specs.declared.record.Record.{Record}
use Rattle.lc_record.proofs.SpellingLemmas.{length-spelling, begun}

-- the spelling of a record that is laid out so, with nothing but its first two words
abbrev pub first_of : Layout → ℕ → SpellingView
first_of layout node = record {
  words = first_word layout.version layout.ranges (layout_len layout) ∷ second_word node layout.locks ∷ [];
  version = layout.version;
  len = layout_len layout;
}

-- with these words after it
abbrev pub and_words : SpellingView → List ℕ → SpellingView
and_words s words = record s { words = s.words ++ words }

module _ (r : Record) where
  first_is : first_of (record_layout r) r.node ≡ begun r []
  first_is = ap (λ (n : ℕ). record { words = first_word (version_of r.ranges) n (record_len r) ∷ second_word r.node (length r.locks) ∷ []; version = version_of r.ranges; len = record_len r }) (length-map r.ranges span_of)

  module _ (layout : Layout) (laid : layout ≡ record_layout r) (first second third : SpellingView)
      (is_first : first ≡ first_of layout r.node) (is_second : second ≡ and_words first (flat_map lock_words r.locks)) where
    pub locked : second ≡ begun r (flat_map lock_words r.locks)
    locked =
        is_second ∙ ap (λ (s : SpellingView). and_words s (flat_map lock_words r.locks)) (is_first ∙ ap (λ (x : Layout). first_of x r.node) laid ∙ first_is)

    whole : 3 + length (flat_map lock_words r.locks) + length (flat_map (range_words (version_of r.ranges)) r.ranges) ≡ record_len r
    whole =
        omega (
          arith,
          length-spelling r,
          length-append (flat_map lock_words r.locks ++ flat_map (range_words (version_of r.ranges)) r.ranges) (record_len r ∷ []),
          length-append (flat_map lock_words r.locks) (flat_map (range_words (version_of r.ranges)) r.ranges),
        )

    pub room : length second.words + length (flat_map (range_words second.version) r.ranges) ≤ second.len
    room =
        let words : length second.words ≡ 2 + length (flat_map lock_words r.locks) = ap (λ (s : SpellingView). length s.words) locked ∙ omega arith in
        let len : second.len ≡ record_len r = ap (λ (s : SpellingView). s.len) locked in
        let ranges : length (flat_map (range_words second.version) r.ranges) ≡ length (flat_map (range_words (version_of r.ranges)) r.ranges) = ap (λ (s : SpellingView). length (flat_map (range_words s.version) r.ranges)) locked in
        omega (arith, words, len, ranges, whole)

    module _ (is_third : third ≡ and_words second (flat_map (range_words second.version) r.ranges)) where
      ranged : third ≡ begun r (flat_map lock_words r.locks ++ flat_map (range_words (version_of r.ranges)) r.ranges)
      ranged = is_third ∙ ap (λ (s : SpellingView). and_words s (flat_map (range_words s.version) r.ranges)) locked

      pub last_room : length third.words < third.len
      last_room =
          let words : length third.words ≡ 2 + length (flat_map lock_words r.locks ++ flat_map (range_words (version_of r.ranges)) r.ranges) = ap (λ (s : SpellingView). length s.words) ranged ∙ omega arith in
          let len : third.len ≡ record_len r = ap (λ (s : SpellingView). s.len) ranged in
          omega (arith, words, len, length-append (flat_map lock_words r.locks) (flat_map (range_words (version_of r.ranges)) r.ranges), whole)

      pub spelled : third.words ++ third.len ∷ [] ≡ spelling r
      spelled = ap (λ (s : SpellingView). s.words ++ s.len ∷ []) ranged
