-- An image of all areas merges to what its cut keeps.
use Rattle.std.proofs.Common.{◌≡◌, ◌⊎◌, ℕ, zero, suc, ◌+◌, ◌-◌, ◌*◌, ◌<◌, ◌≤◌, true, nat_lt, List, [], ◌∷◌, ◌++◌, map, length, filter, take, replicate, Some, is_some, All, Contains, refl, sym, ◌∙◌, ap, subst, arith, inl, inr, eq-eqb, ltb-true, le_trans}
use Rattle.std.specs.Prelude.{max, slice_get}
use Rattle.std.proofs.Math.Nat.{max-le, le-max_left, le-max_right, le_antisymm}
use Rattle.std.proofs.lemmas.Bool.{cases_lt, and_parts as both-true}
use Rattle.std.proofs.lemmas.Option.{slice_get_within}
use Rattle.std.proofs.lemmas.List.Elements.{All-weaker, All-contains}
use Rattle.std.proofs.lemmas.List.{take-append-le as take-front}
use Rattle.lc_record.specs.Content.{Content, put, on_segment, segment_of}
use Rattle.lc_record.specs.Transaction.{Transaction, ByteWrite, IsWellFormed, writes_on, effects}
use Rattle.lc_record.specs.Geometry.{segment_len}
use Rattle.lc_record.specs.declared.record.Record.{Record}
use Rattle.lc_record.proofs.SegmentLemmas.{length-put, shape-on_segment}
use Rattle.lc_model.specs.History.{Cut, transactions, kept, rest, IsClosed}
use Rattle.lc_model.specs.State.{State, Setting}
use Rattle.lc_model.specs.Stops.{MayCut}
use Rattle.lc_model.specs.Sound.{IsProper}
use Rattle.lc_record.specs.Newest.{number_or_zero, byte_of, has_byte, IsByNumber}
use Rattle.lc_model.specs.Merging.{byte_at, sets, counted_all}
use Rattle.lc_model.proofs.Law.{effects-append}
use Rattle.lc_model.proofs.Keeps.{All-kept}
use Rattle.lc_model.proofs.EveryCut.{every_cut_closed, may_cut}
use Rattle.lc_model.proofs.Merging.{numbers-above, numbers-within, numbers-rise, counted-length}
use Rattle.lc_model.specs.Merge.{Page, StoreText, all_records, page_number, record_number, has_number, how_many, IsTwice, IsGap, HasBytes, IsMerged}
use Rattle.lc_model.specs.Stored.{Disks, Fits, IsImage, IsOnPages, Shows, Stands, base, up_to}
use Rattle.lc_model.proofs.Visible.{contains-count}
use Rattle.lc_model.specs.Recovered.{HasByte}
use Rattle.lc_model.proofs.Numbers.{one-number, has-record, part-replicate, length-shape, numbered-byte, greatest-at_most, greatest-all, all-greatest}
use Rattle.lc_model.proofs.Pages.{kept-first, by_number-some, page-byte}
use Rattle.lc_model.proofs.Shown.{kept_of, proper-well, Shown, shown-of, page-read, on_pages-number, acked-within}

-- Shapes

shape-writes_on : (ws : List ByteWrite) (content : Content) → map length (writes_on ws content) ≡ map length content
shape-writes_on [] content = refl
shape-writes_on (w ∷ ws) content =
    shape-writes_on ws (on_segment w.segment (put w.offset w.bytes) content)
    ∙ shape-on_segment w.segment (put w.offset w.bytes) content (length-put w.offset w.bytes)

pub shape-effects : (ts : List Transaction) (content : Content) → map length (effects ts content) ≡ map length content
shape-effects [] content = refl
shape-effects (t ∷ ts) content = shape-effects ts (writes_on t.writes content) ∙ shape-writes_on t.writes content

pub shape-pages : (n k : ℕ) (pages : List (List Page)) → map length pages ≡ replicate n k → map (λ (ps : List Page). length ps * 256) pages ≡ replicate n (k * 256)
shape-pages zero k [] same = refl
shape-pages zero k (ps ∷ pages) same = absurd cc
shape-pages (suc n) k [] same = absurd cc
shape-pages (suc n) k (ps ∷ pages) same =
    let first : length ps ≡ k = cc in
    let others : map length pages ≡ replicate n k = cc in
    ap (λ j. j * 256 ∷ map (λ (qs : List Page). length qs * 256) pages) first ∙ ap (λ js. k * 256 ∷ js) (shape-pages n k pages others)

-- a segment that has items is one of the list
pub part-known : {A : Type 0} (segment : ℕ) (xs : List (List A)) → 0 < length (segment_of segment xs) → (1 ≤ segment) × (segment ≤ length xs)
part-known segment [] some = absurd (omega arith)
part-known zero (x ∷ xs) some = absurd (omega arith)
part-known (suc zero) (x ∷ xs) some = ((omega arith), (omega arith))
part-known (suc (suc i)) (x ∷ xs) some =
    let behind : (1 ≤ suc i) × (suc i ≤ length xs) = part-known (suc i) xs some in
    ((omega arith), (omega (arith, behind.1)))

-- all that the result rests on, said of the records that the cut keeps
pub record Known (m : Setting) (s : State) (d : Disks) (cut : Cut) (store : StoreText) : Type 0 where
  pub closed : IsClosed s.history cut
  pub shown : Shown (kept_of m s d cut) (all_records store) (IsOnPages m.geometry d)
  pub proper : All (IsProper m.geometry) (kept s.history cut)
  -- each number is 0, or among those that were used since the last recovery
  pub above : (segment : ℕ) → All (λ r. (number_or_zero segment r.locks ≡ 0) ⊎ (d.numbers segment < number_or_zero segment r.locks)) (kept_of m s d cut)
  pub within : (segment : ℕ) → All (λ r. number_or_zero segment r.locks ≤ counted_all d.numbers (kept s.history cut) segment) (kept_of m s d cut)
  -- some page has come to the number of the last recovery
  pub reached : (segment : ℕ) → 1 ≤ segment → segment ≤ m.geometry.segments → d.numbers segment ≤ page_number segment store
  -- what is on the pages is not above their sequences
  pub on_pages : (segment : ℕ) → 1 ≤ segment → segment ≤ m.geometry.segments → (r : Record) → Contains (kept_of m s d cut) r → IsOnPages m.geometry d r → number_or_zero segment r.locks ≤ page_number segment store

pub known : (m : Setting) (s : State) (d : Disks) (cut : Cut) (store : StoreText) → Fits m s d → IsImage m s d cut store → Known m s d cut store
known m s d cut store fits image =
    let closed : IsClosed s.history cut = every_cut_closed m.geometry s cut fits.sound image.cuts in
    let proper : All (IsProper m.geometry) (kept s.history cut) = All-kept (IsProper m.geometry) s.history cut fits.sound.history_proper in
    record {
      closed = closed;
      shown = shown-of m s d cut store fits image closed;
      proper = proper;
      above = λ segment. numbers-above d.numbers (base m s) segment (kept s.history cut);
      within = λ segment. numbers-within d.numbers (base m s) segment (kept s.history cut);
      reached = λ segment some last.
          (let page : (page : ℕ) × (page < m.geometry.pages) × ((text : Page) → Shows d segment page text → d.numbers segment ≤ text.sequence) = fits.reached segment some last in
          let text : (text : Page) × Shows d segment page.0 text × (text.sequence ≤ page_number segment store) = page-read m s d cut store image segment page.0 some last page.1 in
          le_trans (page.2 text.0 text.1) text.2);
      on_pages = λ segment some last r has on.
          (let long : length (segment_of segment (base m s)) ≡ segment_len m.geometry = part-replicate segment m.geometry.segments (segment_len m.geometry) (base m s) fits.shape some last in
          let marked : All (λ (t : Transaction). length (segment_of segment t.marks) ≡ segment_len m.geometry) (kept s.history cut) =
          All-weaker (IsProper m.geometry) (λ (t : Transaction). length (segment_of segment t.marks) ≡ segment_len m.geometry)
          (λ t own. part-replicate segment m.geometry.segments (segment_len m.geometry) t.marks own.shaped some last) (kept s.history cut) proper in
          on_pages-number m s d cut store image segment r some last
          (All-contains (HasByte segment (segment_len m.geometry)) (kept_of m s d cut) r
          (numbered-byte d.numbers (base m s) segment (segment_len m.geometry) (kept s.history cut) long marked) has)
          on);
    }

-- No number stands twice

pub not_twice : (m : Setting) (s : State) (d : Disks) (cut : Cut) (store : StoreText) → Known m s d cut store → (segment seq : ℕ) → IsTwice store segment seq → ⊥
not_twice m s d cut store k segment seq twice =
    let few : how_many segment seq store ≤ length (filter (has_number segment seq) (kept_of m s d cut)) = k.shown.few (has_number segment seq) in
    let one : length (filter (has_number segment seq) (kept_of m s d cut)) ≤ 1 = one-number segment seq (kept_of m s d cut) twice.0 (numbers-rise d.numbers (base m s) segment (kept s.history cut)) in
    omega (arith, few, one, twice.1)

-- No number is missing

pub no_gap : (m : Setting) (s : State) (d : Disks) (cut : Cut) (store : StoreText) → Known m s d cut store → (segment seq : ℕ) → 1 ≤ segment → segment ≤ m.geometry.segments → IsGap store segment seq → ⊥
no_gap m s d cut store k segment seq some last gap =
    let r : Record = gap.2.0 in
    let among : Contains (kept_of m s d cut) gap.2.0 = All-contains (Contains (kept_of m s d cut)) (all_records store) gap.2.0 k.shown.back gap.2.1 in
    let most : number_or_zero segment gap.2.0.locks ≤ counted_all d.numbers (kept s.history cut) segment =
    All-contains (λ q. number_or_zero segment q.locks ≤ counted_all d.numbers (kept s.history cut) segment) (kept_of m s d cut) gap.2.0 (k.within segment) among in
    let used : d.numbers segment < seq = (let least : d.numbers segment ≤ page_number segment store = k.reached segment some last in omega (arith, least, gap.0)) in
    let used_most : seq ≤ counted_all d.numbers (kept s.history cut) segment = omega (arith, most, gap.2.2) in
    let q : (q : Record) × Contains (kept_of m s d cut) q × (number_or_zero segment q.locks ≡ seq) = has-record d.numbers (base m s) (kept s.history cut) segment seq used used_most in
    elim (k.shown.there q.0 q.1) [
      | inl stands ↦
          let one : 1 ≤ how_many segment seq store = contains-count (has_number segment seq) (all_records store) q.0 (eq-eqb (number_or_zero segment q.0.locks) seq q.2) stands in
          omega (arith, one, gap.1)
      | inr on ↦
          let less : number_or_zero segment q.0.locks ≤ page_number segment store = k.on_pages segment some last q.0 q.1 on in
          omega (arith, less, q.2, gap.0)
    ]

-- The number

pub number-is : (m : Setting) (s : State) (d : Disks) (cut : Cut) (store : StoreText) → Fits m s d → IsImage m s d cut store → Known m s d cut store → (segment : ℕ) → 1 ≤ segment → segment ≤ m.geometry.segments → counted_all d.numbers (kept s.history cut) segment ≡ max (page_number segment store) (record_number segment store)
number-is m s d cut store fits image k segment some last =
    let most : ℕ = counted_all d.numbers (kept s.history cut) segment in
    let pages_known : length (segment_of segment store.pages) ≡ m.geometry.pages = part-replicate segment m.geometry.segments m.geometry.pages store.pages image.shape some last in
    let pages_within : page_number segment store ≤ counted_all d.numbers (kept s.history cut) segment =
    greatest-at_most (λ (p : Page). p.sequence) (counted_all d.numbers (kept s.history cut) segment) (segment_of segment store.pages)
    (λ page text is.
    let page_in : page < length (segment_of segment store.pages) = slice_get_within (segment_of segment store.pages) page text is in
    let page_known : page < m.geometry.pages = omega (arith, page_in, pages_known) in
    le_trans (fits.stands segment page text some last page_known (image.pages segment page text is)).within (acked-within m s d cut store fits image segment)) in
    let records_within : record_number segment store ≤ counted_all d.numbers (kept s.history cut) segment =
    greatest-all (λ (r : Record). number_or_zero segment r.locks) (counted_all d.numbers (kept s.history cut) segment) (all_records store)
    (All-weaker (Contains (kept_of m s d cut)) (λ r. number_or_zero segment r.locks ≤ counted_all d.numbers (kept s.history cut) segment)
    (λ r among. All-contains (λ q. number_or_zero segment q.locks ≤ counted_all d.numbers (kept s.history cut) segment) (kept_of m s d cut) r (k.within segment) among)
    (all_records store) k.shown.back) in
    let least : counted_all d.numbers (kept s.history cut) segment ≤ max (page_number segment store) (record_number segment store) =
    elim (cases_lt (d.numbers segment) (counted_all d.numbers (kept s.history cut) segment)) [
      | inl more ↦
          let q : (q : Record) × Contains (kept_of m s d cut) q × (number_or_zero segment q.locks ≡ counted_all d.numbers (kept s.history cut) segment) = has-record d.numbers (base m s) (kept s.history cut) segment (counted_all d.numbers (kept s.history cut) segment) more (omega arith) in
          (elim (k.shown.there q.0 q.1) [
            | inl stands ↦
                let less : number_or_zero segment q.0.locks ≤ record_number segment store = All-contains (λ r. number_or_zero segment r.locks ≤ record_number segment store) (all_records store) q.0 (all-greatest (λ (r : Record). number_or_zero segment r.locks) (all_records store)) stands in
                let here : counted_all d.numbers (kept s.history cut) segment ≤ record_number segment store = omega (arith, less, q.2) in
                le_trans here (le-max_right (page_number segment store) (record_number segment store))
            | inr on ↦
                let less : number_or_zero segment q.0.locks ≤ page_number segment store = k.on_pages segment some last q.0 q.1 on in
                let here : counted_all d.numbers (kept s.history cut) segment ≤ page_number segment store = omega (arith, less, q.2) in
                le_trans here (le-max_left (page_number segment store) (record_number segment store))
          ])
      | inr no_more ↦ le_trans no_more (le_trans (k.reached segment some last) (le-max_left (page_number segment store) (record_number segment store)))
    ] in
    le_antisymm least (max-le pages_within records_within)

-- The bytes

pub number-counts : (segment place floor : ℕ) (r : Record) → has_byte segment place floor r ≡ true → (is_some (byte_of segment place r.ranges) ≡ true) × (floor < number_or_zero segment r.locks)
number-counts segment place floor r has =
    let both : (is_some (byte_of segment place r.ranges) ≡ true) × (nat_lt floor (number_or_zero segment r.locks) ≡ true) = both-true (is_some (byte_of segment place r.ranges)) (nat_lt floor (number_or_zero segment r.locks)) has in
    (both.0, ltb-true floor (number_or_zero segment r.locks) both.1)

pub bytes-are : (m : Setting) (s : State) (d : Disks) (cut : Cut) (store : StoreText) → Fits m s d → IsImage m s d cut store → Known m s d cut store → (segment page : ℕ) (text : Page) → slice_get (segment_of segment store.pages) page ≡ Some text → HasBytes store (effects (kept s.history cut) (base m s)) segment page text
bytes-are m s d cut store fits image k segment page text is offset in_page =
    let in_list : page < length (segment_of segment store.pages) = slice_get_within (segment_of segment store.pages) page text is in
    let some_page : 0 < length (segment_of segment store.pages) = omega (arith, in_list) in
    let in_store : (1 ≤ segment) × (segment ≤ length store.pages) = part-known segment store.pages some_page in
    let segments : length store.pages ≡ m.geometry.segments = length-shape m.geometry.segments m.geometry.pages store.pages image.shape in
    let some : 1 ≤ segment = in_store.0 in
    let last : segment ≤ m.geometry.segments = omega (arith, in_store.1, segments) in
    let pages_known : length (segment_of segment store.pages) ≡ m.geometry.pages = part-replicate segment m.geometry.segments m.geometry.pages store.pages image.shape some last in
    let page_known : page < m.geometry.pages = omega (arith, in_list, pages_known) in
    let shows : Shows d segment page text = image.pages segment page text is in
    let stands : Stands m s d segment page text = fits.stands segment page text some last page_known shows in
    let well : All IsWellFormed (transactions s.history) = proper-well m.geometry s fits.sound in
    let well_kept : All IsWellFormed (kept s.history cut) = All-kept IsWellFormed s.history cut well in
    let enough : text.sequence - d.numbers segment ≤ length (filter (sets segment) (kept s.history cut)) =
    omega (arith, stands.within, acked-within m s d cut store fits image segment, counted-length d.numbers (kept s.history cut) segment) in
    let first : up_to d s segment text.sequence ≡ take (text.sequence - d.numbers segment) (filter (sets segment) (kept s.history cut)) =
    ap (take (text.sequence - d.numbers segment)) (kept-first s.history cut segment well k.closed)
    ∙ take-front (text.sequence - d.numbers segment) (filter (sets segment) (kept s.history cut)) (filter (sets segment) (rest s.history cut)) enough in
    let of_kept : (floor : ℕ) × All (λ r. has_byte segment (page * 256 + offset) floor r ≡ has_byte segment (page * 256 + offset) text.sequence r) (kept_of m s d cut) × IsByNumber segment (page * 256 + offset) floor (kept_of m s d cut) (slice_get text.bytes offset) (byte_at segment (page * 256 + offset) (effects (kept s.history cut) (base m s))) =
    page-byte d.numbers (base m s) segment page offset text.sequence text.bytes (kept s.history cut) (up_to d s segment text.sequence) well_kept in_page enough first stands.bytes (k.above segment) in
    by_number-some segment (page * 256 + offset) of_kept.0 text.sequence (kept_of m s d cut) (all_records store) (slice_get text.bytes offset) (byte_at segment (page * 256 + offset) (effects (kept s.history cut) (base m s))) of_kept.1 k.shown.back
    (λ r among has.
    elim (k.shown.there r among) [
      | inl stays ↦ stays
      | inr on ↦
          let counts : (is_some (byte_of segment (page * 256 + offset) r.ranges) ≡ true) × (text.sequence < number_or_zero segment r.locks) = number-counts segment (page * 256 + offset) text.sequence r has in
          let less : number_or_zero segment r.locks ≤ text.sequence = on segment page offset text some last page_known in_page counts.0 shows in
          absurd (omega (arith, counts.1, less))
    ])
    of_kept.2

-- All of it

pub merged : (m : Setting) (s : State) (d : Disks) (cut : Cut) (store : StoreText) → Fits m s d → IsImage m s d cut store → MayCut m.geometry s cut × IsMerged store (effects (s.earlier ++ kept s.history cut) m.start) (counted_all d.numbers (kept s.history cut))
merged m s d cut store fits image =
    let k : Known m s d cut store = known m s d cut store fits image in
    let segments : length store.pages ≡ m.geometry.segments = length-shape m.geometry.segments m.geometry.pages store.pages image.shape in
    let all_at_once : effects (s.earlier ++ kept s.history cut) m.start ≡ effects (kept s.history cut) (base m s) = effects-append s.earlier (kept s.history cut) m.start in (
      may_cut m.geometry s cut fits.sound image.nodes image.cuts,
      record {
        not_twice = not_twice m s d cut store k;
        no_gap = λ segment seq some last. no_gap m s d cut store k segment seq some (omega (arith, last, segments));
        shape = ap (map length) all_at_once ∙ shape-effects (kept s.history cut) (base m s) ∙ fits.shape
            ∙ sym (shape-pages m.geometry.segments m.geometry.pages store.pages image.shape);
        bytes = λ segment page text is. subst (λ (content : Content). HasBytes store content segment page text) (sym all_at_once) (bytes-are m s d cut store fits image k segment page text is);
        counted = λ segment some last. number-is m s d cut store fits image k segment some (omega (arith, last, segments));
      },
    )
