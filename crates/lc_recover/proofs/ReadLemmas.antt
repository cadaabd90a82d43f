-- What is known of areas that were read, the first ones of a store or all.
use Rattle.std.proofs.Common.{◌≡◌, ℕ, zero, suc, ◌+◌, ◌*◌, ◌<◌, ◌≤◌, Some, List, [], ◌∷◌, ◌++◌, map, flat_map, length, take, drop, IsPermutation, refl, sym, ◌∙◌, ap, subst, arith, append-nil}
use Rattle.std.proofs.lemmas.List.{length-append, length-map, map-append, take-append-drop, take-append-le, take_all, drop_all as drop-past}
use Rattle.std.proofs.lemmas.List.Concat.{flat_map-append}
use Rattle.std.proofs.lemmas.List.Sorted.{IsPermutation-append_left}
use Rattle.lc_record.specs.Record.{spelling}
use Rattle.lc_record.specs.Words.{words_of}
use Rattle.lc_record.specs.declared.geometry.Geometry.{Geometry}
use Rattle.lc_record.specs.declared.record.Record.{Record}
use Rattle.lc_record.proofs.SpellingLemmas.{length-spelling}
use Rattle.lc_log.specs.InPlace.{records_in}
use Rattle.lc_log.specs.LogText.{joined}
use Rattle.lc_log.proofs.InPlaceLemmas.{records_text}
use Rattle.lc_log.proofs.WalkBackLemmas.{words_within}
use Rattle.lc_model.specs.Merge.{all_records}
use Rattle.lc_recover.specs.KeptAreas.{AreAllKept, AreFirst, IsCounted, IsRead, IsSameRead, read_count}
use Rattle.lc_recover.specs.Locks.{number_of, numbers_of, numbers_in, greatest_kept}
use Rattle.lc_recover.specs.Pages.{AreKept}
use Rattle.lc_recover.specs.Reading.{store_of}
use Rattle.lc_recover.specs.Reads.{area_count, area_len}
use Rattle.lc_recover.specs.declared.store_contents.StoreContents.{StoreContents}
use Rattle.lc_recover.specs.declared.lock_number.LockNumber.{LockNumber}
use Rattle.lc_recover.specs.declared.read_areas.ReadAreas.{ReadAreas}
use Rattle.lc_recover.specs.declared.segment_pages.SegmentPages.{SegmentPages}
use Rattle.lc_recover.proofs.AreaLemmas.{read-lengths}
use Rattle.lc_recover.proofs.KeptLemmas.{all_kept-none, all_kept-more}

take-none : {A : Type 0} (n : ℕ) → take {A = A} n [] ≡ []
take-none zero = refl
take-none (suc n) = refl

drop-none : {A : Type 0} (n : ℕ) → drop {A = A} n [] ≡ []
drop-none zero = refl
drop-none (suc n) = refl

-- How many areas are read

pub count-read : (g : Geometry) (areas : List (List ℕ)) (r : ReadAreas) → IsRead g areas r.kept → read_count r ≡ length areas
count-read g areas r is =
    let logs : length r.kept.logs.items ≡ length (take g.nodes areas) = ap (λ (l : List (List ℕ)). length l) is.logs ∙ length-map (take g.nodes areas) words_of in
    let all : length (take g.nodes areas) + length (drop g.nodes areas) ≡ length areas =
    sym (length-append (take g.nodes areas) (drop g.nodes areas)) ∙ ap (λ (l : List (List ℕ)). length l) (take-append-drop g.nodes areas) in
    omega (arith, logs, all, is.segments.count)

-- None, or the same

pub counted-none : (r : ReadAreas) → r.kept.logs.items ≡ [] → r.kept.segments.items ≡ [] → r.locks.items ≡ [] → r.numbers.items ≡ [] → IsCounted r
counted-none r logs segments locks numbers = record {
  locks = subst (λ (l : List (List ℕ)). IsPermutation (numbers_in (all_records (store_of l []))) r.locks.items) (sym logs)
      (subst (λ (l : List LockNumber). IsPermutation [] l) (sym locks) (record { moves = []; below = tt; is = refl }));
  numbers = numbers ∙ ap (map greatest_kept) (sym segments);
}

pub read-none : (g : Geometry) (kept : StoreContents) → kept.logs.items ≡ [] → kept.segments.items ≡ [] → IsRead g [] kept
read-none g kept logs segments = record {
  logs = logs ∙ ap (map words_of) (sym (take-none g.nodes));
  segments = subst (λ (l : List (List ℕ)). AreAllKept g.pages l kept.segments.items) (sym (drop-none g.nodes))
      (subst (λ (l : List SegmentPages). AreAllKept g.pages [] l) (sym segments) (all_kept-none g.pages));
}

pub same-kept : (g : Geometry) (areas : List (List ℕ)) (kept other : StoreContents) → other.logs.items ≡ kept.logs.items → other.segments.items ≡ kept.segments.items → IsRead g areas kept → IsRead g areas other
same-kept g areas kept other logs segments is = record {
  logs = logs ∙ is.logs;
  segments = subst (λ (l : List SegmentPages). AreAllKept g.pages (drop g.nodes areas) l) (sym segments) is.segments;
}

pub same-counted : (r other : ReadAreas) → IsSameRead r other → IsCounted r → IsCounted other
same-counted r other same is = record {
  locks = subst (λ (l : List (List ℕ)). IsPermutation (numbers_in (all_records (store_of l []))) other.locks.items) (sym same.logs)
      (subst (λ (l : List LockNumber). IsPermutation (numbers_in (all_records (store_of r.kept.logs.items []))) l) (sym same.locks) is.locks);
  numbers = same.numbers ∙ is.numbers ∙ ap (map greatest_kept) (sym same.segments);
}

-- Room for the numbers of a log's records

numbers-of_record : (r : Record) → length (numbers_of r) * 2 ≤ length (spelling r)
numbers-of_record r = omega (arith, length-map r.locks number_of, length-spelling r)

numbers-of_records : (rs : List Record) → length (numbers_in rs) * 2 ≤ length (joined rs)
numbers-of_records [] = omega arith
numbers-of_records (r ∷ rs) =
    omega (arith, numbers-of_record r, numbers-of_records rs, length-append (numbers_of r) (numbers_in rs), length-append (spelling r) (joined rs))

pub few-numbers : (words : List ℕ) → length (numbers_in (records_in words)) * 2 ≤ length words
few-numbers words =
    let text = records_text words in
    omega (arith, numbers-of_records (records_in words), ap (λ (l : List ℕ). length l) text.text, length-append (joined (records_in words)) text.rest)

pub few-of_bytes : (bytes : List ℕ) → length (numbers_in (records_in (words_of bytes))) * 16 ≤ length bytes
few-of_bytes bytes = omega (arith, few-numbers (words_of bytes), words_within bytes)

-- One more log

take-more : {A : Type 0} (n : ℕ) (xs : List A) (x : A) → length xs < n → take n (xs ++ x ∷ []) ≡ take n xs ++ x ∷ []
take-more n xs x less =
    take_all n (xs ++ x ∷ []) (omega (arith, less, length-append xs (x ∷ []))) ∙ ap (λ l. l ++ x ∷ []) (sym (take_all n xs (omega (arith, less))))

drop-more : {A : Type 0} (n : ℕ) (xs : List A) (x : A) → n ≤ length xs → drop n (xs ++ x ∷ []) ≡ drop n xs ++ x ∷ []
drop-more zero xs x within = refl
drop-more (suc n) [] x within = absurd (omega (arith, within))
drop-more (suc n) (y ∷ xs) x within = drop-more n xs x (omega (arith, within))

all-records-more : (logs : List (List ℕ)) (words : List ℕ) → numbers_in (all_records (store_of (logs ++ words ∷ []) [])) ≡ numbers_in (all_records (store_of logs [])) ++ numbers_in (records_in words)
all-records-more logs words =
    let all : flat_map (λ (l : List Record). l) (map records_in (logs ++ words ∷ [])) ≡ flat_map (λ (l : List Record). l) (map records_in logs) ++ records_in words =
    ap (flat_map (λ (l : List Record). l)) (map-append records_in logs (words ∷ [])) ∙ flat_map-append (λ (l : List Record). l) (map records_in logs) (records_in words ∷ [])
    ∙ ap (λ (l : List Record). flat_map (λ (l : List Record). l) (map records_in logs) ++ l) (append-nil (records_in words)) in
    ap (flat_map numbers_of) all ∙ flat_map-append numbers_of (flat_map (λ (l : List Record). l) (map records_in logs)) (records_in words)

pub counted-log : (r new : ReadAreas) (words : List ℕ) → new.kept.logs.items ≡ r.kept.logs.items ++ words ∷ [] → new.kept.segments.items ≡ r.kept.segments.items
    → new.locks.items ≡ r.locks.items ++ numbers_in (records_in words) → new.numbers.items ≡ r.numbers.items → IsCounted r → IsCounted new
counted-log r new words logs segments locks numbers is = record {
  locks =
      let front : List LockNumber = numbers_in (all_records (store_of r.kept.logs.items [])) in
      let more : IsPermutation (front ++ numbers_in (records_in words)) (r.locks.items ++ numbers_in (records_in words)) = IsPermutation-append_left (numbers_in (records_in words)) front r.locks.items is.locks in
      subst (λ (l : List LockNumber). IsPermutation l new.locks.items) (sym (ap (λ (l : List (List ℕ)). numbers_in (all_records (store_of l []))) logs ∙ all-records-more r.kept.logs.items words))
      (subst (λ (l : List LockNumber). IsPermutation (front ++ numbers_in (records_in words)) l) (sym locks) more);
  numbers = numbers ∙ is.numbers ∙ ap (map greatest_kept) (sym segments);
}

pub read-log : (g : Geometry) (areas : List (List ℕ)) (bytes : List ℕ) (kept new : StoreContents) → length areas < g.nodes → new.logs.items ≡ kept.logs.items ++ words_of bytes ∷ [] → new.segments.items ≡ kept.segments.items
    → IsRead g areas kept → IsRead g (areas ++ bytes ∷ []) new
read-log g areas bytes kept new less logs segments is =
    let n : ℕ = g.nodes in
    let more : map words_of (take n (areas ++ bytes ∷ [])) ≡ map words_of (take n areas) ++ words_of bytes ∷ [] =
    ap (map words_of) (take-more n areas bytes less) ∙ map-append words_of (take n areas) (bytes ∷ []) in
    let none : drop n (areas ++ bytes ∷ []) ≡ drop n areas = drop-past n (areas ++ bytes ∷ []) (omega (arith, less, length-append areas (bytes ∷ []))) ∙ sym (drop-past n areas (omega (arith, less))) in
    record {
      logs = logs ∙ ap (λ (l : List (List ℕ)). l ++ words_of bytes ∷ []) is.logs ∙ sym more;
      segments = subst (λ (l : List (List ℕ)). AreAllKept g.pages l new.segments.items) (sym none)
          (subst (λ (l : List SegmentPages). AreAllKept g.pages (drop n areas) l) (sym segments) is.segments);
    }

-- One more segment

pub counted-segment : (r new : ReadAreas) (pages : SegmentPages) → new.kept.logs.items ≡ r.kept.logs.items → new.kept.segments.items ≡ r.kept.segments.items ++ pages ∷ []
    → new.locks.items ≡ r.locks.items → new.numbers.items ≡ r.numbers.items ++ greatest_kept pages ∷ [] → IsCounted r → IsCounted new
counted-segment r new pages logs segments locks numbers is = record {
  locks = subst (λ (l : List (List ℕ)). IsPermutation (numbers_in (all_records (store_of l []))) new.locks.items) (sym logs)
      (subst (λ (l : List LockNumber). IsPermutation (numbers_in (all_records (store_of r.kept.logs.items []))) l) (sym locks) is.locks);
  numbers = numbers ∙ ap (λ (l : List ℕ). l ++ greatest_kept pages ∷ []) is.numbers ∙ sym (map-append greatest_kept r.kept.segments.items (pages ∷ [])) ∙ ap (map greatest_kept) (sym segments);
}

pub read-segment : (g : Geometry) (areas : List (List ℕ)) (bytes : List ℕ) (pages : SegmentPages) (kept new : StoreContents) → g.nodes ≤ length areas → AreKept bytes g.pages pages
    → new.logs.items ≡ kept.logs.items → new.segments.items ≡ kept.segments.items ++ pages ∷ [] → IsRead g areas kept → IsRead g (areas ++ bytes ∷ []) new
read-segment g areas bytes pages kept new more its logs segments is =
    let n : ℕ = g.nodes in
    record {
      logs = logs ∙ is.logs ∙ ap (map words_of) (sym (take-append-le n areas (bytes ∷ []) more));
      segments = subst (λ (l : List (List ℕ)). AreAllKept g.pages l new.segments.items) (sym (drop-more n areas bytes more))
          (subst (λ (l : List SegmentPages). AreAllKept g.pages (drop n areas ++ bytes ∷ []) l) (sym segments)
          (all_kept-more g.pages (drop n areas) kept.segments.items bytes pages is.segments its));
    }

pub first-more : (g : Geometry) (areas : List (List ℕ)) (bytes : List ℕ) → length areas < area_count g → Some (length bytes) ≡ area_len g (length areas) → AreFirst g areas → AreFirst g (areas ++ bytes ∷ [])
first-more g areas bytes less long first = record {
  count = omega (arith, less, length-append areas (bytes ∷ []));
  lengths = read-lengths areas bytes (area_len g) first.lengths long;
}
