-- Each step of a recovery keeps the result.
use Rattle.std.proofs.Common.{true≢false, ◌≡◌, ◌⊎◌, ℕ, suc, ◌+◌, ◌*◌, ◌/◌, ◌%◌, ◌<◌, ◌≤◌, Bool, true, false, ◌&&◌, nat_lt, List, [], ◌∷◌, ◌++◌, map, length, filter, get_or, flat_map, Some, is_some, All, Contains, IsTrue, max, refl, sym, ◌∙◌, ap, subst, arith, inl, inr, le_trans, lt-ltb, le-ltb, length-append}
use Rattle.std.specs.Prelude.{slice_get, drop}
use Rattle.std.proofs.Math.Nat.{max-le, le-max_left, le-max_right, le_refl, le_antisymm}
use Rattle.std.proofs.lemmas.Bool.{cases_lt, false_from_ne_true as false-if-not}
use Rattle.std.proofs.lemmas.Nat.{div-add-mod'}
use Rattle.std.proofs.lemmas.Option.{slice_get_within}
use Rattle.std.proofs.lemmas.List.Elements.{All-nil, All-append, All-weaker, All-contains, All-contains_itself, Contains-get_or, filter-append}
use Rattle.lc_record.specs.Content.{Content, segment_of}
use Rattle.lc_record.specs.declared.record.Record.{Record}
use Rattle.lc_record.specs.Newest.{number_or_zero, byte_of, has_byte, IsByNumber}
use Rattle.lc_record.proofs.ListLemmas.{slice_get_some as get-some, slice_get-take as get-take, All-append_left as All-left, All-append_right as All-right, slice_get-drop as get-drop}
use Rattle.lc_model.specs.Merging.{byte_at}
use Rattle.lc_model.specs.Merge.{Page, StoreText, all_records, page_number, record_number, how_many, has_number, greatest, IsMerged}
use Rattle.lc_model.specs.Recovered.{HasByte, IsBehind, IsPartlyRenewed, AreStill, IsPartlyReset}
use Rattle.lc_model.proofs.Numbers.{part-length, at_most-greatest, greatest-at_most, greatest-all, all-greatest}
use Rattle.lc_model.proofs.Result.{part-known}
use Rattle.lc_model.proofs.One.{shape-length}

-- Page writes

no-byte : (segment place floor : ℕ) (r : Record) → number_or_zero segment r.locks ≤ floor → has_byte segment place floor r ≡ false
no-byte segment place floor r within =
    let not_above : nat_lt floor (number_or_zero segment r.locks) ≡ false = le-ltb floor (number_or_zero segment r.locks) within in
    elim (is_some (byte_of segment place r.ranges)) as (λ b. (b && nat_lt floor (number_or_zero segment r.locks)) ≡ false) [ true ↦ not_above | false ↦ refl ]

le_refl_by : {a b : ℕ} → a ≡ b → a ≤ b
le_refl_by same = omega (arith, same)

-- of no record above the segment's number
none-above : (store : StoreText) (numbers : ℕ → ℕ) (segment place : ℕ) → record_number segment store ≤ numbers segment → All (λ r. has_byte segment place (numbers segment) r ≡ false) (all_records store)
none-above store numbers segment place most = λ k d k_in.
    let within : number_or_zero segment (get_or (all_records store) k d).locks ≤ record_number segment store = all-greatest (λ (r : Record). number_or_zero segment r.locks) (all_records store) k d k_in in
    let low : number_or_zero segment (get_or (all_records store) k d).locks ≤ numbers segment = omega (arith, within, most) in
    no-byte segment place (numbers segment) (get_or (all_records store) k d) low

times-shape : (xs ys : List (List Page)) → map length xs ≡ map length ys → map (λ (ps : List Page). length ps * 256) xs ≡ map (λ (ps : List Page). length ps * 256) ys
times-shape [] [] same = refl
times-shape [] (y ∷ ys) same = absurd cc
times-shape (x ∷ xs) [] same = absurd cc
times-shape (x ∷ xs) (y ∷ ys) same =
    let first : length x ≡ length y = cc in
    let others : map length xs ≡ map length ys = cc in
    ap (λ n. n * 256 ∷ map (λ (ps : List Page). length ps * 256) xs) first ∙ ap (λ ns. length y * 256 ∷ ns) (times-shape xs ys others)

pub renewed-merged : (store new : StoreText) (content : Content) (numbers : ℕ → ℕ) → IsMerged store content numbers → IsPartlyRenewed store new content numbers → IsMerged new content numbers
renewed-merged store new content numbers result renewed =
    let records_same : all_records new ≡ all_records store = ap (flat_map (λ log. log)) renewed.logs in
    let count_same : length new.pages ≡ length store.pages = shape-length new.pages store.pages renewed.shape in
    let most : (segment : ℕ) → 1 ≤ segment → segment ≤ length store.pages → (page_number segment store ≤ numbers segment) × (record_number segment store ≤ numbers segment) =
    λ segment some last. (let is : numbers segment ≡ max (page_number segment store) (record_number segment store) = result.counted segment some last in (
      subst (λ (n : ℕ). page_number segment store ≤ n) (sym is) (le-max_left (page_number segment store) (record_number segment store)),
      subst (λ (n : ℕ). record_number segment store ≤ n) (sym is) (le-max_right (page_number segment store) (record_number segment store)),
    )) in
    let pages_most : (segment : ℕ) → 1 ≤ segment → segment ≤ length store.pages → page_number segment new ≤ numbers segment =
    λ segment some last. greatest-at_most (λ (p : Page). p.sequence) (numbers segment) (segment_of segment new.pages)
    (λ page text is. elim (renewed.pages segment page text is) [
      | inl old ↦ le_trans (at_most-greatest (λ (p : Page). p.sequence) (segment_of segment store.pages) page text old) (most segment some last).0
      | inr fresh ↦ omega (arith, fresh.0)
    ]) in
    let pages_least : (segment : ℕ) → 1 ≤ segment → segment ≤ length store.pages → page_number segment store ≤ page_number segment new =
    λ segment some last. greatest-at_most (λ (p : Page). p.sequence) (page_number segment new) (segment_of segment store.pages)
    (λ page old is.
    let long : length (segment_of segment new.pages) ≡ length (segment_of segment store.pages) = part-length segment new.pages store.pages renewed.shape in
    let old_in : page < length (segment_of segment store.pages) = slice_get_within (segment_of segment store.pages) page old is in
    let in_list : page < length (segment_of segment new.pages) = omega (arith, old_in, long) in
    let text : (text : Page) × (slice_get (segment_of segment new.pages) page ≡ Some text) = get-some (segment_of segment new.pages) page in_list in
    let newest : text.0.sequence ≤ page_number segment new = at_most-greatest (λ (p : Page). p.sequence) (segment_of segment new.pages) page text.0 text.1 in
    let old_most : old.sequence ≤ page_number segment store = at_most-greatest (λ (p : Page). p.sequence) (segment_of segment store.pages) page old is in
    elim (renewed.pages segment page text.0 text.1) [
      | inl same ↦
          let is_old : old ≡ text.0 = (let somes : Some old ≡ Some text.0 = sym is ∙ same in cc) in
          let seqs : old.sequence ≡ text.0.sequence = ap (λ (p : Page). p.sequence) is_old in
          omega (arith, seqs, newest)
      | inr fresh ↦ omega (arith, fresh.0, newest, old_most, (most segment some last).0)
    ]) in
    record {
      not_twice = λ segment seq twice.
          result.not_twice segment seq (twice.0, subst (λ (rs : List Record). 2 ≤ length (filter (has_number segment seq) rs)) records_same twice.1);
      no_gap = λ segment seq some last gap.
          (let last_old : segment ≤ length store.pages = omega (arith, last, count_same) in
          let below : page_number segment store < seq = omega (arith, gap.0, pages_least segment some last_old) in
          result.no_gap segment seq some last_old (
            below,
            subst (λ (rs : List Record). length (filter (has_number segment seq) rs) ≡ 0) records_same gap.1,
            (gap.2.0, subst (λ (rs : List Record). Contains rs gap.2.0) records_same gap.2.1, gap.2.2),
          ));
      shape = result.shape ∙ sym (times-shape new.pages store.pages renewed.shape);
      bytes = λ segment page text is offset in_page.
          subst (λ (rs : List Record). IsByNumber segment (page * 256 + offset) text.sequence rs (slice_get text.bytes offset) (byte_at segment (page * 256 + offset) content)) (sym records_same)
          (elim (renewed.pages segment page text is) [
            | inl old ↦ result.bytes segment page text old offset in_page
            | inr fresh ↦
                let in_list : page < length (segment_of segment new.pages) = slice_get_within (segment_of segment new.pages) page text is in
                let some_page : 0 < length (segment_of segment new.pages) = omega (arith, in_list) in
                let in_store : (1 ≤ segment) × (segment ≤ length new.pages) = part-known segment new.pages some_page in
                let last_old : segment ≤ length store.pages = omega (arith, in_store.1, count_same) in
                inl (
                  subst (λ (n : ℕ). All (λ r. has_byte segment (page * 256 + offset) n r ≡ false) (all_records store)) (sym fresh.0)
                      (none-above store numbers segment (page * 256 + offset) (most segment in_store.0 last_old).1),
                  sym (ap (λ bs. slice_get bs offset) fresh.1
                      ∙ get-take 256 offset (drop (page * 256) (segment_of segment content)) in_page
                      ∙ get-drop (page * 256) offset (segment_of segment content)),
                )
          ]);
      counted = λ segment some last.
          (let last_old : segment ≤ length store.pages = omega (arith, last, count_same) in
          let is : numbers segment ≡ max (page_number segment store) (record_number segment store) = result.counted segment some last_old in
          let records : record_number segment new ≡ record_number segment store = ap (λ rs. greatest (map (λ (r : Record). number_or_zero segment r.locks) rs)) records_same in
          let least : numbers segment ≤ max (page_number segment new) (record_number segment new) =
          subst (λ (n : ℕ). n ≤ max (page_number segment new) (record_number segment new)) (sym is)
          (max-le (le_trans (pages_least segment some last_old) (le-max_left (page_number segment new) (record_number segment new)))
          (subst (λ (n : ℕ). n ≤ max (page_number segment new) (record_number segment new)) records (le-max_right (page_number segment new) (record_number segment new)))) in
          let greatest_one : max (page_number segment new) (record_number segment new) ≤ numbers segment =
          max-le (pages_most segment some last_old) (subst (λ (n : ℕ). n ≤ numbers segment) (sym records) (most segment some last_old).1) in
          le_antisymm least greatest_one);
    }

-- Resets

logs-all : (P : Record → Type 0) (olds news : List (List Record)) → length news ≡ length olds → ((k : ℕ) → (get_or news k [] ≡ get_or olds k []) ⊎ (get_or news k [] ≡ [])) → All P (flat_map (λ log. log) olds) → All P (flat_map (λ log. log) news)
logs-all P [] [] long each all = all
logs-all P [] (n ∷ news) long each all = absurd (omega (arith, long))
logs-all P (o ∷ olds) [] long each all = All-nil P
logs-all P (o ∷ olds) (n ∷ news) long each all =
    let shorter : length news ≡ length olds = omega (arith, long) in
    let rest : All P (flat_map (λ log. log) news) = logs-all P olds news shorter (λ k. each (suc k)) (All-right P o (flat_map (λ log. log) olds) all) in
    let first : All P n =
    elim (each 0) [
      | inl same ↦ subst (λ (log : List Record). All P log) (sym same) (All-left P o (flat_map (λ log. log) olds) all)
      | inr none ↦ subst (λ (log : List Record). All P log) (sym none) (All-nil P)
    ] in
    All-append P n (flat_map (λ log. log) news) first rest

logs-fewer : (p : Record → Bool) (olds news : List (List Record)) → length news ≡ length olds → ((k : ℕ) → (get_or news k [] ≡ get_or olds k []) ⊎ (get_or news k [] ≡ [])) → length (filter p (flat_map (λ log. log) news)) ≤ length (filter p (flat_map (λ log. log) olds))
logs-fewer p [] [] long each = omega arith
logs-fewer p [] (n ∷ news) long each = absurd (omega (arith, long))
logs-fewer p (o ∷ olds) [] long each = omega arith
logs-fewer p (o ∷ olds) (n ∷ news) long each =
    let shorter : length news ≡ length olds = omega (arith, long) in
    let rest : length (filter p (flat_map (λ log. log) news)) ≤ length (filter p (flat_map (λ log. log) olds)) = logs-fewer p olds news shorter (λ k. each (suc k)) in
    let first : length (filter p n) ≤ length (filter p o) =
    elim (each 0) [
      | inl same ↦ subst (λ (log : List Record). length (filter p log) ≤ length (filter p o)) (sym same) (le_refl (length (filter p o)))
      | inr none ↦ subst (λ (log : List Record). length (filter p log) ≤ length (filter p o)) (sym none) (omega arith)
    ] in
    let news_are : length (filter p (n ++ flat_map (λ log. log) news)) ≡ length (filter p n) + length (filter p (flat_map (λ log. log) news)) = ap length (filter-append p n (flat_map (λ log. log) news)) ∙ length-append (filter p n) (filter p (flat_map (λ log. log) news)) in
    let olds_are : length (filter p (o ++ flat_map (λ log. log) olds)) ≡ length (filter p o) + length (filter p (flat_map (λ log. log) olds)) = ap length (filter-append p o (flat_map (λ log. log) olds)) ∙ length-append (filter p o) (filter p (flat_map (λ log. log) olds)) in
    omega (arith, first, rest, news_are, olds_are)

-- where no record comes on top, no number of a record is above the pages'
still-number : (store : StoreText) (segment : ℕ) → AreStill store → All (HasByte segment (length (segment_of segment store.pages) * 256)) (all_records store) → record_number segment store ≤ page_number segment store
still-number store segment still bytes =
    greatest-all (λ (r : Record). number_or_zero segment r.locks) (page_number segment store) (all_records store)
    (λ k d k_in.
    let r : Record = get_or (all_records store) k d in
    elim (cases_lt (page_number segment store) (number_or_zero segment (get_or (all_records store) k d).locks)) [
      | inl above ↦
          let some : 0 < number_or_zero segment (get_or (all_records store) k d).locks = omega (arith, above) in
          let byte : (place : ℕ) × (place < length (segment_of segment store.pages) * 256) × IsTrue (is_some (byte_of segment place (get_or (all_records store) k d).ranges)) = bytes k d k_in some in
          let parts : byte.0 / 256 * 256 + byte.0 % 256 ≡ byte.0 = div-add-mod' byte.0 256 in
          let offset_in : byte.0 % 256 < 256 = omega arith in
          let page_in : byte.0 / 256 < length (segment_of segment store.pages) = omega (arith, parts, byte.1) in
          let old : (old : Page) × (slice_get (segment_of segment store.pages) (byte.0 / 256) ≡ Some old) = get-some (segment_of segment store.pages) (byte.0 / 256) page_in in
          let low : old.0.sequence ≤ page_number segment store = at_most-greatest (λ (p : Page). p.sequence) (segment_of segment store.pages) (byte.0 / 256) old.0 old.1 in
          let less : old.0.sequence < number_or_zero segment (get_or (all_records store) k d).locks = omega (arith, low, above) in
          let here : is_some (byte_of segment (byte.0 / 256 * 256 + byte.0 % 256) (get_or (all_records store) k d).ranges) ≡ true = subst (λ (n : ℕ). is_some (byte_of segment n (get_or (all_records store) k d).ranges) ≡ true) (sym parts) byte.2 in
          let has : has_byte segment (byte.0 / 256 * 256 + byte.0 % 256) old.0.sequence (get_or (all_records store) k d) ≡ true =
          ap (λ b. b && nat_lt old.0.sequence (number_or_zero segment (get_or (all_records store) k d).locks)) here ∙ lt-ltb old.0.sequence (number_or_zero segment (get_or (all_records store) k d).locks) less in
          absurd (still segment (byte.0 / 256) old.0 old.1 (get_or (all_records store) k d, Contains-get_or (all_records store) k d k_in, byte.0 % 256, offset_in, has))
      | inr low ↦ low
    ])

pub reset-merged : (store new : StoreText) (content : Content) (numbers : ℕ → ℕ) → IsMerged store content numbers → AreStill store → ((segment : ℕ) → All (HasByte segment (length (segment_of segment store.pages) * 256)) (all_records store)) → IsPartlyReset store new → IsMerged new content numbers
reset-merged store new content numbers result still bytes reset =
    let back : All (Contains (all_records store)) (all_records new) = logs-all (Contains (all_records store)) store.logs new.logs reset.count reset.logs (All-contains_itself (all_records store)) in
    let page_same : (segment : ℕ) → page_number segment new ≡ page_number segment store = λ segment. ap (λ ps. greatest (map (λ (p : Page). p.sequence) (segment_of segment ps))) reset.pages in
    let records_low : (segment : ℕ) → record_number segment store ≤ page_number segment store = λ segment. still-number store segment still (bytes segment) in
    let new_low : (segment : ℕ) → All (λ r. number_or_zero segment r.locks ≤ page_number segment store) (all_records new) =
    λ segment. All-weaker (Contains (all_records store)) (λ r. number_or_zero segment r.locks ≤ page_number segment store)
    (λ r among. le_trans (All-contains (λ q. number_or_zero segment q.locks ≤ record_number segment store) (all_records store) r (all-greatest (λ (q : Record). number_or_zero segment q.locks) (all_records store)) among) (records_low segment))
    (all_records new) back in
    record {
      not_twice = λ segment seq twice.
          (let fewer : how_many segment seq new ≤ how_many segment seq store = logs-fewer (has_number segment seq) store.logs new.logs reset.count reset.logs in
          result.not_twice segment seq (twice.0, le_trans twice.1 fewer));
      no_gap = λ segment seq some last gap.
          (let low : number_or_zero segment gap.2.0.locks ≤ page_number segment store = All-contains (λ r. number_or_zero segment r.locks ≤ page_number segment store) (all_records new) gap.2.0 (new_low segment) gap.2.1 in
          omega (arith, low, gap.0, gap.2.2, page_same segment));
      shape = result.shape ∙ ap (map (λ (ps : List Page). length ps * 256)) (sym reset.pages);
      bytes = λ segment page text is offset in_page.
          (let old : slice_get (segment_of segment store.pages) page ≡ Some text = ap (λ ps. slice_get (segment_of segment ps) page) (sym reset.pages) ∙ is in
          let none : All (λ r. has_byte segment (page * 256 + offset) text.sequence r ≡ false) (all_records store) =
          λ k d k_in. false-if-not (has_byte segment (page * 256 + offset) text.sequence (get_or (all_records store) k d))
          (λ has. still segment page text old (get_or (all_records store) k d, Contains-get_or (all_records store) k d k_in, offset, in_page, has)) in
          let byte : byte_at segment (page * 256 + offset) content ≡ slice_get text.bytes offset =
          elim (result.bytes segment page text old offset in_page) [
            | inl stays ↦ stays.1
            | inr newest ↦ absurd (still segment page text old (newest.0, newest.1.among, offset, in_page, newest.1.has))
          ] in
          inl (
            All-weaker (Contains (all_records store)) (λ r. has_byte segment (page * 256 + offset) text.sequence r ≡ false)
                (λ r among. All-contains (λ q. has_byte segment (page * 256 + offset) text.sequence q ≡ false) (all_records store) r none among) (all_records new) back,
            byte,
          ));
      counted = λ segment some last.
          (let last_old : segment ≤ length store.pages = (let same : length new.pages ≡ length store.pages = ap length reset.pages in omega (arith, last, same)) in
          let is : numbers segment ≡ max (page_number segment store) (record_number segment store) = result.counted segment some last_old in
          let old_most : max (page_number segment store) (record_number segment store) ≤ page_number segment store = max-le (le_refl (page_number segment store)) (records_low segment) in
          let most : numbers segment ≤ page_number segment store = omega (arith, is, old_most) in
          let least : page_number segment store ≤ numbers segment = subst (λ (n : ℕ). page_number segment store ≤ n) (sym is) (le-max_left (page_number segment store) (record_number segment store)) in
          let records : record_number segment new ≤ page_number segment store = greatest-all (λ (r : Record). number_or_zero segment r.locks) (page_number segment store) (all_records new) (new_low segment) in
          le_antisymm
          (le_trans most (subst (λ (n : ℕ). n ≤ max (page_number segment new) (record_number segment new)) (page_same segment) (le-max_left (page_number segment new) (record_number segment new))))
          (le_trans (max-le (le_refl_by (page_same segment)) records) least));
    }

-- once each page on which a record came on top is written, none does
pub still-renewed : (store new : StoreText) (content : Content) (numbers : ℕ → ℕ) → IsMerged store content numbers → new.logs ≡ store.logs → map length new.pages ≡ map length store.pages → ((segment page : ℕ) (text : Page) → slice_get (segment_of segment new.pages) page ≡ Some text → (text.sequence ≡ numbers segment) ⊎ ((slice_get (segment_of segment store.pages) page ≡ Some text) × (IsBehind store segment page text → ⊥))) → AreStill new
still-renewed store new content numbers result logs shape each = λ segment page text is behind.
    let records_same : all_records new ≡ all_records store = ap (flat_map (λ log. log)) logs in
    let among : Contains (all_records store) behind.0 = subst (λ (rs : List Record). Contains rs behind.0) records_same behind.1 in
    elim (each segment page text is) [
      | inl written ↦
          let in_list : page < length (segment_of segment new.pages) = slice_get_within (segment_of segment new.pages) page text is in
          let some_page : 0 < length (segment_of segment new.pages) = omega (arith, in_list) in
          let in_store : (1 ≤ segment) × (segment ≤ length new.pages) = part-known segment new.pages some_page in
          let count_same : length new.pages ≡ length store.pages = shape-length new.pages store.pages shape in
          let last : segment ≤ length store.pages = omega (arith, in_store.1, count_same) in
          let most : record_number segment store ≤ numbers segment =
          subst (λ (n : ℕ). record_number segment store ≤ n) (sym (result.counted segment in_store.0 last)) (le-max_right (page_number segment store) (record_number segment store)) in
          let none : has_byte segment (page * 256 + behind.2) (numbers segment) behind.0 ≡ false =
          All-contains (λ r. has_byte segment (page * 256 + behind.2) (numbers segment) r ≡ false) (all_records store) behind.0 (none-above store numbers segment (page * 256 + behind.2) most) among in
          true≢false (sym behind.4 ∙ ap (λ n. has_byte segment (page * 256 + behind.2) n behind.0) written ∙ none)
      | inr same ↦ same.1 (behind.0, among, behind.2, behind.3, behind.4)
    ]
