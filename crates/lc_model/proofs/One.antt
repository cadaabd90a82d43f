-- A store has one result at most.
use Rattle.std.proofs.Common.{◌≡◌, ℕ, zero, suc, ◌+◌, ◌*◌, ◌/◌, ◌%◌, ◌<◌, ◌≤◌, Bool, true, false, List, [], ◌∷◌, map, length, filter, get_or, Option, Some, Contains, IsTrue, refl, sym, ◌∙◌, ap, subst, arith, inl, inr, true≢false, eq-eqb, le_trans}
use Rattle.std.specs.Prelude.{if◌then◌else◌, slice_get}
use Rattle.std.proofs.lemmas.Bool.{cases_lt}
use Rattle.std.proofs.lemmas.Nat.{div-add-mod'}
use Rattle.std.proofs.lemmas.Option.{slice_get_past}
use Rattle.std.proofs.lemmas.List.Elements.{All-contains}
use Rattle.std.proofs.lemmas.List.{get_or_default as get_or-any}
use Rattle.lc_record.specs.Content.{Content, segment_of}
use Rattle.lc_record.specs.declared.record.Record.{Record}
use Rattle.lc_record.specs.Newest.{number_or_zero, byte_of, has_byte, IsNewest, IsByNumber}
use Rattle.lc_record.proofs.ListLemmas.{slice_get_some as get-some}
use Rattle.lc_model.specs.Merging.{byte_at}
use Rattle.lc_model.proofs.Bytes.{same-bytes}
use Rattle.lc_model.specs.Merge.{Page, StoreText, all_records, has_number, IsMerged}
use Rattle.lc_model.proofs.Visible.{count-cons, contains-count}
use Rattle.lc_model.proofs.Numbers.{part-length}
use Rattle.lc_model.proofs.Result.{number-counts}

pub two-pass : {X : Type 0} (p : X → Bool) (xs : List X) (i j : ℕ) (x y : X) → i < j → j < length xs → get_or xs i x ≡ x → get_or xs j y ≡ y → p x ≡ true → p y ≡ true → 2 ≤ length (filter p xs)
two-pass p [] i j x y less within x_is y_is x_passes y_passes = absurd (omega arith)
two-pass p (z ∷ zs) zero zero x y less within x_is y_is x_passes y_passes = absurd (omega arith)
two-pass p (z ∷ zs) (suc i) zero x y less within x_is y_is x_passes y_passes = absurd (omega arith)
two-pass p (z ∷ zs) zero (suc j) x y less within x_is y_is x_passes y_passes =
    let behind : j < length zs = omega arith in
    let one : 1 ≤ length (filter p zs) = contains-count p zs y y_passes (j, behind, y_is) in
    let own : p z ≡ true = ap p x_is ∙ x_passes in
    subst (λ (b : Bool). 2 ≤ length (if b then z ∷ filter p zs else filter p zs)) (sym own) (omega (arith, one))
two-pass p (z ∷ zs) (suc i) (suc j) x y less within x_is y_is x_passes y_passes =
    let next_less : i < j = omega arith in
    let behind : j < length zs = omega arith in
    le_trans (two-pass p zs i j x y next_less behind x_is y_is x_passes y_passes) (count-cons p z zs)

pub only-one : (p : Record → Bool) (rs : List Record) (r q : Record) → (2 ≤ length (filter p rs) → ⊥) → Contains rs r → Contains rs q → p r ≡ true → p q ≡ true → r ≡ q
only-one p rs r q once r_in q_in r_passes q_passes =
    elim (cases_lt r_in.0 q_in.0) [
      | inl before ↦ absurd (once (two-pass p rs r_in.0 q_in.0 r q before q_in.1 r_in.2 q_in.2 r_passes q_passes))
      | inr not_before ↦
          (elim (cases_lt q_in.0 r_in.0) [
            | inl after ↦ absurd (once (two-pass p rs q_in.0 r_in.0 q r after r_in.1 q_in.2 r_in.2 q_passes r_passes))
            | inr not_after ↦
                let same : r_in.0 ≡ q_in.0 = omega (arith, not_before, not_after) in
                sym r_in.2 ∙ ap (λ k. get_or rs k r) same ∙ get_or-any rs q_in.0 r q q_in.1 ∙ q_in.2
          ])
    ]

pub by_number-one : (segment place floor : ℕ) (rs : List Record) (before one two : Option ℕ) → ((seq : ℕ) → 0 < seq → 2 ≤ length (filter (has_number segment seq) rs) → ⊥) → IsByNumber segment place floor rs before one → IsByNumber segment place floor rs before two → one ≡ two
by_number-one segment place floor rs before one two once first second =
    elim first [
      | inl none ↦
          (elim second [
            | inl other ↦ none.1 ∙ sym other.1
            | inr newest ↦ absurd (true≢false (sym newest.1.has ∙ All-contains (λ q. has_byte segment place floor q ≡ false) rs newest.0 none.0 newest.1.among))
          ])
      | inr newest ↦
          let r_is : IsNewest segment place floor rs one newest.0 = newest.1 in
          (elim second [
            | inl none ↦ absurd (true≢false (sym r_is.has ∙ All-contains (λ q. has_byte segment place floor q ≡ false) rs newest.0 none.0 r_is.among))
            | inr other ↦
                let q_is : IsNewest segment place floor rs two other.0 = other.1 in
                let r_most : number_or_zero segment other.0.locks ≤ number_or_zero segment newest.0.locks = All-contains (λ q. IsTrue (has_byte segment place floor q) → number_or_zero segment q.locks ≤ number_or_zero segment newest.0.locks) rs other.0 r_is.greatest q_is.among q_is.has in
                let q_most : number_or_zero segment newest.0.locks ≤ number_or_zero segment other.0.locks = All-contains (λ q. IsTrue (has_byte segment place floor q) → number_or_zero segment q.locks ≤ number_or_zero segment other.0.locks) rs newest.0 q_is.greatest r_is.among r_is.has in
                let some : 0 < number_or_zero segment newest.0.locks = omega (arith, (number-counts segment place floor newest.0 r_is.has).1) in
                let same_number : number_or_zero segment other.0.locks ≡ number_or_zero segment newest.0.locks = omega (arith, r_most, q_most) in
                let same : newest.0 ≡ other.0 = only-one (has_number segment (number_or_zero segment newest.0.locks)) rs newest.0 other.0 (once (number_or_zero segment newest.0.locks) some) r_is.among q_is.among
                (eq-eqb (number_or_zero segment newest.0.locks) (number_or_zero segment newest.0.locks) refl) (eq-eqb (number_or_zero segment other.0.locks) (number_or_zero segment newest.0.locks) same_number) in
                r_is.is ∙ ap (λ (x : Record). byte_of segment place x.ranges) same ∙ sym q_is.is
          ])
    ]

pub shape-length : {A B : Type 0} (xs : List (List A)) (ys : List (List B)) → map length xs ≡ map length ys → length xs ≡ length ys
shape-length [] [] same = refl
shape-length [] (y ∷ ys) same = absurd cc
shape-length (x ∷ xs) [] same = absurd cc
shape-length (x ∷ xs) (y ∷ ys) same =
    let others : map length xs ≡ map length ys = cc in
    ap suc (shape-length xs ys others)

pub part-times : (segment : ℕ) (content : Content) (pages : List (List Page)) → map length content ≡ map (λ (ps : List Page). length ps * 256) pages → length (segment_of segment content) ≡ length (segment_of segment pages) * 256
part-times segment [] [] same = omega arith
part-times segment [] (y ∷ ys) same = absurd cc
part-times segment (x ∷ xs) [] same = absurd cc
part-times zero (x ∷ xs) (y ∷ ys) same = omega arith
part-times (suc zero) (x ∷ xs) (y ∷ ys) same = (let first : length x ≡ length y * 256 = cc in first)
part-times (suc (suc i)) (x ∷ xs) (y ∷ ys) same =
    let others : map length xs ≡ map (λ (ps : List Page). length ps * 256) ys = cc in
    part-times (suc i) xs ys others

pub one-content : (store : StoreText) (one two : Content) (numbers others : ℕ → ℕ) → IsMerged store one numbers → IsMerged store two others → one ≡ two
one-content store one two numbers others first second =
    let shapes : map length one ≡ map length two = first.shape ∙ sym second.shape in
    same-bytes one two (shape-length one two shapes)
    (λ segment place.
    let long : length (segment_of segment one) ≡ length (segment_of segment two) = part-length segment one two shapes in
    elim (cases_lt place (length (segment_of segment one))) [
      | inl within ↦
          let times : length (segment_of segment one) ≡ length (segment_of segment store.pages) * 256 = part-times segment one store.pages first.shape in
          let parts : place / 256 * 256 + place % 256 ≡ place = div-add-mod' place 256 in
          let offset_in : place % 256 < 256 = omega arith in
          let page_in : place / 256 < length (segment_of segment store.pages) = omega (arith, parts, within, times) in
          let text : (text : Page) × (slice_get (segment_of segment store.pages) (place / 256) ≡ Some text) = get-some (segment_of segment store.pages) (place / 256) page_in in
          subst (λ (n : ℕ). byte_at segment n one ≡ byte_at segment n two) parts
          (by_number-one segment (place / 256 * 256 + place % 256) text.0.sequence (all_records store) (slice_get text.0.bytes (place % 256)) (byte_at segment (place / 256 * 256 + place % 256) one) (byte_at segment (place / 256 * 256 + place % 256) two)
          (λ seq some twice. first.not_twice segment seq (some, twice))
          (first.bytes segment (place / 256) text.0 text.1 (place % 256) offset_in) (second.bytes segment (place / 256) text.0 text.1 (place % 256) offset_in))
      | inr past ↦
          let past_two : length (segment_of segment two) ≤ place = omega (arith, past, long) in
          slice_get_past (segment_of segment one) place past ∙ sym (slice_get_past (segment_of segment two) place past_two)
    ])

pub one-result : (store : StoreText) (one two : Content) (numbers others : ℕ → ℕ) → IsMerged store one numbers → IsMerged store two others → (one ≡ two) × ((segment : ℕ) → 1 ≤ segment → segment ≤ length store.pages → numbers segment ≡ others segment)
one-result store one two numbers others first second =
    (one-content store one two numbers others first second, λ segment some last. first.counted segment some last ∙ sym (second.counted segment some last))
