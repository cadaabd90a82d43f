-- How many records a log has, and how many words they take, while they are walked.
use Rattle.std.proofs.Common.{◌≡◌, ℕ, ◌+◌, ◌≤◌, List, [], ◌∷◌, ◌++◌, map, length, sym, ◌∙◌, ap, arith}
use Rattle.std.proofs.lemmas.List.{length-append, length-map, map-append}
use Rattle.std.proofs.lemmas.List.Concat.{flat_map-append}
use Rattle.lc_record.specs.Record.{spelling}
use Rattle.lc_record.specs.declared.record.Record.{Record}
use Rattle.lc_log.specs.InPlace.{records_in}
use Rattle.lc_log.specs.LogText.{joined, placed}
use Rattle.lc_log.proofs.InPlaceLemmas.{records_text}
use Rattle.lc_recover.proofs.Walks.{placed-records}
use Rattle.lc_recover.specs.Reading.{placed_in}

abbrev pub without_places : List (ℕ × Record) → List Record
without_places = map (λ (x : ℕ × Record). x.1)

abbrev first_of : {A : Type 0} → A → List A → A
first_of x [] = x
first_of x (y ∷ ys) = y

abbrev behind_first : {A : Type 0} → List A → List A
behind_first [] = []
behind_first (y ∷ ys) = ys

-- the place of a record after others
pub place-behind : (at : ℕ) (records : List Record) (seen behind : List (ℕ × Record)) (x : ℕ × Record) → placed at records ≡ seen ++ x ∷ behind → x.0 ≡ at + length (joined (without_places seen))
place-behind at [] [] behind x is = absurd (omega (arith, ap (λ (l : List (ℕ × Record)). length l) is))
place-behind at [] (y ∷ ys) behind x is = absurd (omega (arith, ap (λ (l : List (ℕ × Record)). length l) is))
place-behind at (r ∷ rs) [] behind x is =
    let first : at ≡ x.0 = ap (λ (l : List (ℕ × Record)). (first_of x l).0) is in
    omega (arith, first)
place-behind at (r ∷ rs) (y ∷ ys) behind x is =
    let first : r ≡ y.1 = ap (λ (l : List (ℕ × Record)). (first_of y l).1) is in
    let rest : placed (at + length (spelling r)) rs ≡ ys ++ x ∷ behind = ap (λ (l : List (ℕ × Record)). behind_first l) is in
    omega (
      arith,
      place-behind (at + length (spelling r)) rs ys behind x rest,
      length-append (spelling y.1) (joined (without_places ys)),
      ap (λ (q : Record). length (spelling q)) first,
    )

-- each record has a word
few-records : (records : List Record) → length records ≤ length (joined records)
few-records [] = omega arith
few-records (r ∷ rs) = omega (arith, few-records rs, length-append (spelling r) (joined rs))

pub joined-more : (seen : List (ℕ × Record)) (x : ℕ × Record) → length (joined (without_places (seen ++ x ∷ []))) ≡ length (joined (without_places seen)) + length (spelling x.1)
joined-more seen x =
    let apart : joined (without_places (seen ++ x ∷ [])) ≡ joined (without_places seen) ++ joined (x.1 ∷ []) =
    ap joined (map-append (λ (y : ℕ × Record). y.1) seen (x ∷ [])) ∙ flat_map-append spelling (without_places seen) (x.1 ∷ []) in
    omega (
      arith,
      ap (λ (l : List ℕ). length l) apart,
      length-append (joined (without_places seen)) (joined (x.1 ∷ [])),
      length-append (spelling x.1) [],
    )

-- what is seen and what comes next is among the words
module _ (words : List ℕ) (seen left behind : List (ℕ × Record)) (x : ℕ × Record) (split : placed_in words ≡ seen ++ left) (next : left ≡ x ∷ behind) where
  whole : placed_in words ≡ seen ++ x ∷ behind
  whole = split ∙ ap (λ (l : List (ℕ × Record)). seen ++ l) next

  all : records_in words ≡ without_places seen ++ x.1 ∷ without_places behind
  all = sym (placed-records 0 (records_in words)) ∙ ap without_places whole ∙ map-append (λ (y : ℕ × Record). y.1) seen (x ∷ behind)

  text : length (joined (records_in words)) ≤ length words
  text =
      let its = records_text words in
      omega (arith, ap (λ (l : List ℕ). length l) its.text, length-append (joined (records_in words)) its.rest)

  pub its-place : x.0 ≡ length (joined (without_places seen))
  its-place = omega (arith, place-behind 0 (records_in words) seen behind x whole)

  pub words-fit : length (joined (without_places seen)) + length (spelling x.1) ≤ length words
  words-fit =
      let apart : joined (records_in words) ≡ joined (without_places seen) ++ (spelling x.1 ++ joined (without_places behind)) =
      ap joined all ∙ flat_map-append spelling (without_places seen) (x.1 ∷ without_places behind) in
      omega (
        arith,
        text,
        ap (λ (l : List ℕ). length l) apart,
        length-append (joined (without_places seen)) (spelling x.1 ++ joined (without_places behind)),
        length-append (spelling x.1) (joined (without_places behind)),
      )

  pub records-fit : length seen + 1 ≤ length words
  records-fit =
      omega (
        arith,
        text,
        few-records (records_in words),
        ap (λ (l : List Record). length l) all,
        length-append (without_places seen) (x.1 ∷ without_places behind),
        length-map seen (λ (y : ℕ × Record). y.1),
      )
