-- The lines of a size are read as that size.
use Rattle.std.proofs.Common.{◌≡◌, ◌<◌, ◌^◌, ◌++◌, ◌∷◌, [], ℕ, List, Option, arith, sym, ◌∙◌, subst, refl, Bor, None, Some, true, false, zero, suc}
use Rattle.std.specs.Prelude.{decimal, codes, nat_lt, ◌↔◌, MatchOption, IfSome, IsSome, IsUtf8}
use Rattle.std.specs.Str.{IsAscii, bytes_eq}
use Rattle.std.proofs.lemmas.Slice.Eq.{bytes_eq-Decides}
use Rattle.std.specs.List.{list_all}
use Rattle.std.proofs.lemmas.Bool.Decides.{nat_tests}
use Rattle.std.specs.Str.Parse.{AllDigits, digits_value}
use Rattle.std.proofs.lemmas.List.{append_cancel_left, append_assoc}
use Rattle.std.proofs.lemmas.Fmt.{digits_decimal, IsAscii-decimal}
use Rattle.std.proofs.lemmas.Str.{IsAscii-append, IsUtf8-from_ascii}
use Rattle.std.proofs.lemmas.Str.Parse.{IsNumeralModel, numerals_by_value, tells_digits, not_in_digits}
use Rattle.std.proofs.lemmas.Str.Pattern.{IsSplitOnceResult, split_after}
use Rattle.lc_record.specs.declared.geometry.Geometry.{Geometry}
use Rattle.lc_record.specs.Geometry.{HasNumbers, IsGeometry}
use Rattle.lc_folder.specs.SizeText.{IsSameSize, size_file_text}

own : IsNumeralModel (AllDigits 10) (digits_value 10)
own = numerals_by_value (AllDigits 10) tells_digits

-- after the words the line is cut where its number ends
pub cut_line : (n : ℕ) (words text left rest : List ℕ) (r : Option (Bor (List ℕ) × Bor (List ℕ))) → n < 2 ^ 32 → text ≡ words ++ (decimal n ++ (10 ∷ rest)) → text ≡ words ++ left
    → IsSplitOnceResult 10 left r → MatchOption r ⊥ (λ x. (x.0.now ≡ decimal n) × (x.1.now ≡ rest))
cut_line n words text left rest r small whole stripped cut =
    split_after 10 left (decimal n) rest r cut (omega arith)
    (append_cancel_left words left (decimal n ++ (10 ∷ rest)) (sym stripped ∙ whole))
    (not_in_digits own (decimal n) 10 (digits_decimal own n (omega arith)) (λ range. omega arith))

pub uncut : (n : ℕ) (words text left rest : List ℕ) (r : Option (Bor (List ℕ) × Bor (List ℕ))) → n < 2 ^ 32 → text ≡ words ++ (decimal n ++ (10 ∷ rest)) → text ≡ words ++ left
    → IsSplitOnceResult 10 left r → r ≡ None → ⊥
uncut n words text left rest r small whole stripped cut none =
    subst (λ (o : Option (Bor (List ℕ) × Bor (List ℕ))). MatchOption o ⊥ (λ x. (x.0.now ≡ decimal n) × (x.1.now ≡ rest))) none (cut_line n words text left rest r small whole stripped cut)

pub cut_in_two : (n : ℕ) (words text left rest : List ℕ) (r : Option (Bor (List ℕ) × Bor (List ℕ))) (number more : Bor (List ℕ)) → n < 2 ^ 32 → text ≡ words ++ (decimal n ++ (10 ∷ rest)) → text ≡ words ++ left
    → IsSplitOnceResult 10 left r → r ≡ Some (number, more) → (number.now ≡ decimal n) × (more.now ≡ rest)
cut_in_two n words text left rest r number more small whole stripped cut some =
    subst (λ (o : Option (Bor (List ℕ) × Bor (List ℕ))). MatchOption o ⊥ (λ x. (x.0.now ≡ decimal n) × (x.1.now ≡ rest))) some (cut_line n words text left rest r small whole stripped cut)

-- what stands after the line of the nodes, of the segments, and of the pages
abbrev pub behind_pages : Geometry → List ℕ
behind_pages g = codes "words " ++ (decimal g.words ++ (10 ∷ []))

abbrev pub behind_segments : Geometry → List ℕ
behind_segments g = codes "pages " ++ (decimal g.pages ++ (10 ∷ behind_pages g))

abbrev pub behind_nodes : Geometry → List ℕ
behind_nodes g = codes "segments " ++ (decimal g.segments ++ (10 ∷ behind_segments g))

pub size_lines : (g : Geometry) → size_file_text g ≡ codes "format 1\nnodes " ++ (decimal g.nodes ++ (10 ∷ behind_nodes g))
size_lines g = simp append_assoc

-- it is a text
ascii_by : (bs : List ℕ) → list_all (λ byte. nat_lt byte 128) bs ≡ true → IsAscii bs
ascii_by [] all i = omega arith
ascii_by (b ∷ bs) all zero = grind (arith, nat_tests)
ascii_by (b ∷ bs) all (suc i) = ascii_by bs (grind (arith, nat_tests)) i

line_is_ascii : (words rest : List ℕ) (n : ℕ) → n < 2 ^ 32 → list_all (λ byte. nat_lt byte 128) words ≡ true → IsAscii rest → IsAscii (words ++ (decimal n ++ (10 ∷ rest)))
line_is_ascii words rest n small all behind =
    IsAscii-append words _ (ascii_by words all) (IsAscii-append (decimal n) (10 ∷ rest) (IsAscii-decimal n (omega arith)) (IsAscii-append (10 ∷ []) rest (ascii_by (10 ∷ []) refl) behind))

pub size_is_text : (g : Geometry) → IsUtf8 (size_file_text g)
size_is_text g = IsUtf8-from_ascii (size_file_text g) (subst (λ (bs : List ℕ). IsAscii bs) (sym (size_lines g))
    (line_is_ascii (codes "format 1\nnodes ") (behind_nodes g) g.nodes (omega (arith, g.few_nodes)) refl
    (line_is_ascii (codes "segments ") (behind_segments g) g.segments (omega (arith, g.few_segments)) refl
    (line_is_ascii (codes "pages ") (behind_pages g) g.pages (omega (arith, g.few_pages)) refl
    (line_is_ascii (codes "words ") [] g.words (omega (arith, g.few_words)) refl (ascii_by [] refl))))))

pub no_number : {A : Type 0} (r : Option A) (P : A → Type 0) → MatchOption r ⊥ P → r ≡ None → ⊥
no_number {A = A} r P found none = subst (λ (o : Option A). MatchOption o ⊥ P) none found

pub the_number : {A : Type 0} (r : Option A) (P : A → Type 0) (x : A) → MatchOption r ⊥ P → r ≡ Some x → P x
the_number {A = A} r P x found some = subst (λ (o : Option A). MatchOption o ⊥ P) some found

pub makes_same : (g : Geometry) (r : Option Geometry) (nodes segments pages words : ℕ) → nodes ≡ g.nodes → segments ≡ g.segments → pages ≡ g.pages → words ≡ g.words
    → IfSome r (λ h. HasNumbers h nodes 1 segments pages words) → (IsSome r ↔ IsGeometry nodes 1 segments pages words) → MatchOption r ⊥ (λ h. IsSameSize h g)
makes_same g None nodes segments pages words n s p w value within =
    let is : IsGeometry nodes 1 segments pages words = record {
      some_nodes = omega (arith, g.some_nodes, n);
      few_nodes = omega (arith, g.few_nodes, n);
      some_threads = omega arith;
      few_threads = omega arith;
      some_segments = omega (arith, g.some_segments, s);
      few_segments = omega (arith, g.few_segments, s);
      some_pages = omega (arith, g.some_pages, p);
      few_pages = omega (arith, g.few_pages, p);
      some_words = omega (arith, g.some_words, w);
      few_words = omega (arith, g.few_words, w);
    } in
    let bad : IsSome {T = Geometry} None = within.1 is in absurd (cc)
makes_same g (Some h) nodes segments pages words n s p w value within = record {
  nodes = value.nodes_are ∙ n;
  segments = value.segments_are ∙ s;
  pages = value.pages_are ∙ p;
  words = value.words_are ∙ w;
}

pub same_text : (g h : Geometry) → IsSameSize g h → size_file_text g ≡ size_file_text h
same_text g h same = rw (same.nodes, same.segments, same.pages, same.words) refl

pub told_apart : (a b : List ℕ) → bytes_eq a b ≡ false → a ≡ b → ⊥
told_apart a b apart same = let yes = (bytes_eq-Decides a b).1 same in absurd (cc)
