-- A record that stands at a place is what is read there.
use Rattle.std.proofs.Common.{◌≡◌, ℕ, ◌/◌, ◌^◌, ◌≤◌, ◌<◌, List, ◌++◌, length, get_or, sym, ap, ◌∙◌, arith, length-append}
use Rattle.std.specs.List.{concat}
use Rattle.std.proofs.Math.ListN.{take, drop}
use lib.ListN.{get_or-append}
use Rattle.std.proofs.lemmas.List.{take_at, drop_at}
use Rattle.lc_stage.specs.Staging.{IsOneRecord}
use Rattle.lc_stage.proofs.Records.{some_record, header_tells}
use Rattle.lc_log_side.specs.Among.{IsAmong}

pub some_word : (words record_words behind : List ℕ) → words ≡ record_words ++ behind → IsOneRecord record_words → 0 < length words
some_word words record_words behind text one =
    let filled = some_record record_words one in let long : length words ≡ length (record_words ++ behind) = ap (λ (l : List ℕ). length l) text in let parts = length-append record_words behind in omega arith

-- its first word tells how many words it has
pub one_there : (words record_words behind : List ℕ) → words ≡ record_words ++ behind → IsOneRecord record_words → (n : ℕ) → n ≡ get_or words 0 0 / 2 ^ 32
    → (0 < n) × (n ≤ length words) × (take n words ≡ record_words)
one_there words record_words behind text one n is = let filled = some_record record_words one in
    let header : get_or words 0 0 ≡ get_or record_words 0 0 = ap (λ (l : List ℕ). get_or l 0 0) text ∙ get_or-append record_words behind 0 0 filled in
    let tells : n ≡ length record_words = is ∙ (ap (λ (k : ℕ). k / 2 ^ 32) header ∙ header_tells record_words one) in
    let long : length words ≡ length (record_words ++ behind) = ap (λ (l : List ℕ). length l) text in let parts = length-append record_words behind in (
      omega arith,
      omega arith,
      ap (take n) text ∙ take_at record_words behind n (sym tells),
    )

pub behind_place : (log : List ℕ) (index place : ℕ) (record_words : List ℕ) (a : IsAmong log index place record_words) → drop place log ≡ record_words ++ a.behind
behind_place log index place record_words a = ap (drop place) a.text ∙ drop_at (concat a.front) (record_words ++ a.behind) place a.at_place
