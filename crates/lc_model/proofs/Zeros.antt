-- A store of zeros can be read, and merges to zeros.
use Rattle.std.proofs.Common.{◌≡◌, ℕ, zero, suc, ◌+◌, ◌*◌, ◌<◌, ◌≤◌, false, List, [], ◌∷◌, map, length, filter, flat_map, replicate, Some, All, Contains, refl, sym, ◌∙◌, ap, subst, arith, inl}
use Rattle.std.specs.Prelude.{slice_get}
use Rattle.std.proofs.Math.Nat.{max-le, le_antisymm}
use Rattle.std.proofs.lemmas.Option.{slice_get_within}
use Rattle.std.proofs.lemmas.List.Elements.{All-nil}
use Rattle.std.proofs.lemmas.List.{length-replicate as length-same}
use Rattle.lc_record.specs.Content.{segment_of}
use Rattle.lc_record.specs.Geometry.{segment_len}
use Rattle.lc_record.specs.declared.geometry.Geometry.{Geometry}
use Rattle.lc_record.specs.declared.record.Record.{Record}
use Rattle.lc_record.specs.Newest.{number_or_zero, has_byte}
use Rattle.lc_model.specs.Merging.{byte_at}
use Rattle.lc_model.specs.Merge.{Page, all_records, page_number, record_number, how_many, has_number, greatest, IsMerged}
use Rattle.lc_model.specs.Recovered.{HasByte, IsReadable, zero_store, zero_content}
use Rattle.lc_model.proofs.Numbers.{greatest-at_most}
use Rattle.lc_model.proofs.Result.{part-known, shape-pages}

no-records : (n : ℕ) → flat_map (λ (log : List Record). log) (replicate n []) ≡ []
no-records zero = refl
no-records (suc n) = no-records n

map-same : {A : Type 0} (n k : ℕ) (x : A) → map length (replicate n (replicate k x)) ≡ replicate n k
map-same zero k x = refl
map-same (suc n) k x = ap (λ j. j ∷ map length (replicate n (replicate k x))) (length-same k x) ∙ ap (λ js. k ∷ js) (map-same n k x)

get-same : {A : Type 0} (n k : ℕ) (x : A) → k < n → slice_get (replicate n x) k ≡ Some x
get-same zero k x within = absurd (omega arith)
get-same (suc n) zero x within = refl
get-same (suc n) (suc k) x within =
    let less : k < n = omega arith in
    get-same n k x less

-- what a list of equal items has is that item
only-same : {A : Type 0} (n k : ℕ) (x y : A) → slice_get (replicate n x) k ≡ Some y → y ≡ x
only-same zero k x y is = absurd cc
only-same (suc n) zero x y is = (let same : x ≡ y = cc in sym same)
only-same (suc n) (suc k) x y is = only-same n k x y is

part-same : {A : Type 0} (segment n k : ℕ) (x : A) → 1 ≤ segment → segment ≤ n → segment_of segment (replicate n (replicate k x)) ≡ replicate k x
part-same zero n k x some last = absurd (omega arith)
part-same (suc i) zero k x some last = absurd (omega arith)
part-same (suc zero) (suc n) k x some last = refl
part-same (suc (suc i)) (suc n) k x some last =
    let less : suc i ≤ n = omega arith in
    part-same (suc i) n k x (omega arith) less

-- each page of it is zeros
page-zero : (g : Geometry) (segment page : ℕ) (text : Page) → slice_get (segment_of segment (zero_store g).pages) page ≡ Some text → (text ≡ record { sequence = 0; bytes = replicate 256 0 }) × (1 ≤ segment) × (segment ≤ g.segments) × (page < g.pages)
page-zero g segment page text is =
    let in_list : page < length (segment_of segment (zero_store g).pages) = slice_get_within (segment_of segment (zero_store g).pages) page text is in
    let some_page : 0 < length (segment_of segment (zero_store g).pages) = omega (arith, in_list) in
    let in_store : (1 ≤ segment) × (segment ≤ length (zero_store g).pages) = part-known segment (zero_store g).pages some_page in
    let count : length (zero_store g).pages ≡ g.segments = length-same g.segments (replicate g.pages (record { sequence = 0; bytes = replicate 256 0 })) in
    let last : segment ≤ g.segments = omega (arith, in_store.1, count) in
    let part : segment_of segment (zero_store g).pages ≡ replicate g.pages (record { sequence = 0; bytes = replicate 256 0 }) = part-same segment g.segments g.pages (record { sequence = 0; bytes = replicate 256 0 }) in_store.0 last in
    let here : slice_get (replicate g.pages (record { sequence = 0; bytes = replicate 256 0 })) page ≡ Some text = ap (λ (ps : List Page). slice_get ps page) (sym part) ∙ is in
    let within : page < g.pages = (let long : length (segment_of segment (zero_store g).pages) ≡ g.pages = ap length part ∙ length-same g.pages (record { sequence = 0; bytes = replicate 256 0 }) in omega (arith, in_list, long)) in
    (only-same g.pages page (record { sequence = 0; bytes = replicate 256 0 }) text here, in_store.0, last, within)

pub zeros-readable : (g : Geometry) → IsReadable g (zero_store g)
zeros-readable g = record {
  shape = map-same g.segments g.pages (record { sequence = 0; bytes = replicate 256 0 });
  long = λ segment page text is. ap (λ (p : Page). length p.bytes) (page-zero g segment page text is).0 ∙ length-same {A = ℕ} 256 0;
  on_pages = λ segment some last. subst (λ (rs : List Record). All (HasByte segment (segment_len g)) rs) (sym (no-records g.nodes)) (All-nil (HasByte segment (segment_len g)));
}

pub zeros-merged : (g : Geometry) → IsMerged (zero_store g) (zero_content g) (λ segment. 0)
zeros-merged g =
    let none : all_records (zero_store g) ≡ [] = no-records g.nodes in
    record {
      not_twice = λ segment seq twice.
          (let zero_many : how_many segment seq (zero_store g) ≡ 0 = ap (λ rs. length (filter (has_number segment seq) rs)) none in
          omega (arith, zero_many, twice.1));
      no_gap = λ segment seq some last gap.
          (let nothing : Contains [] gap.2.0 = subst (λ (rs : List Record). Contains rs gap.2.0) none gap.2.1 in
          let below : nothing.0 < 0 = nothing.1 in
          omega (arith, below));
      shape = map-same g.segments (segment_len g) 0 ∙ sym (shape-pages g.segments g.pages (zero_store g).pages (map-same g.segments g.pages (record { sequence = 0; bytes = replicate 256 0 })));
      bytes = λ segment page text is offset in_page.
          (let at : (text ≡ record { sequence = 0; bytes = replicate 256 0 }) × (1 ≤ segment) × (segment ≤ g.segments) × (page < g.pages) = page-zero g segment page text is in
          let place_in : page * 256 + offset < g.pages * 256 = omega (arith, in_page, at.3) in
          let after : byte_at segment (page * 256 + offset) (zero_content g) ≡ Some 0 =
          ap (λ bs. slice_get bs (page * 256 + offset)) (part-same segment g.segments (g.pages * 256) 0 at.1 at.2) ∙ get-same (g.pages * 256) (page * 256 + offset) 0 place_in in
          let before : slice_get text.bytes offset ≡ Some 0 = ap (λ (p : Page). slice_get p.bytes offset) at.0 ∙ get-same 256 offset 0 in_page in
          inl (
            subst (λ (rs : List Record). All (λ r. has_byte segment (page * 256 + offset) text.sequence r ≡ false) rs) (sym none) (All-nil (λ r. has_byte segment (page * 256 + offset) text.sequence r ≡ false)),
            after ∙ sym before,
          ));
      counted = λ segment some last.
          (let pages : page_number segment (zero_store g) ≤ 0 =
          greatest-at_most (λ (p : Page). p.sequence) 0 (segment_of segment (zero_store g).pages)
          (λ page text is. (let seq : text.sequence ≡ 0 = ap (λ (p : Page). p.sequence) (page-zero g segment page text is).0 in omega (arith, seq))) in
          let records : record_number segment (zero_store g) ≡ 0 = ap (λ rs. greatest (map (λ (r : Record). number_or_zero segment r.locks) rs)) none in
          let records_low : record_number segment (zero_store g) ≤ 0 = omega (arith, records) in
          le_antisymm (omega arith) (max-le pages records_low));
    }
