-- What a recovery leaves fits the machine's next state.
use Rattle.std.proofs.Common.{◌≡◌, ℕ, zero, suc, ◌+◌, ◌-◌, ◌*◌, ◌/◌, ◌%◌, ◌<◌, ◌≤◌, true, ◌&&◌, nat_lt, List, [], ◌∷◌, ◌++◌, map, length, take, drop, length-drop, Some, None, is_some, All, Contains, IsTrue, max, refl, sym, ◌∙◌, ap, subst, arith, inl, inr, true≢false, le_trans, lt-ltb}
use Rattle.std.specs.Prelude.{slice_get}
use Rattle.std.proofs.Math.Nat.{max-le, le-max_left, le_refl}
use Rattle.std.proofs.Math.Seq.{take-nil}
use Rattle.std.proofs.lemmas.Bool.{cases_lt}
use Rattle.std.proofs.lemmas.Nat.{div-add-mod'}
use Rattle.std.proofs.lemmas.Option.{slice_get_within, slice_get_past}
use Rattle.std.proofs.lemmas.List.Elements.{All-nil, All-weaker, All-contains, Contains-append_right}
use Rattle.std.proofs.lemmas.List.{length-take-le as take-length}
use Rattle.lc_record.specs.Content.{Content, segment_of}
use Rattle.lc_record.specs.Transaction.{Transaction, effects}
use Rattle.lc_record.specs.Geometry.{segment_len}
use Rattle.lc_record.specs.declared.record.Record.{Record}
use Rattle.lc_model.specs.History.{Cut, kept}
use Rattle.lc_model.specs.State.{State, Setting, Up, fresh, first_state}
use Rattle.lc_model.specs.Sound.{Sound, IsProper}
use Rattle.lc_record.specs.Newest.{number_or_zero, byte_of, has_byte, IsByNumber}
use Rattle.lc_record.proofs.ListLemmas.{slice_get_some as get-some, slice_get-take as get-take, slice_get-drop as get-drop}
use Rattle.lc_model.specs.Merging.{byte_at, counted_all}
use Rattle.lc_model.proofs.Bytes.{same-items}
use Rattle.lc_model.proofs.Keeps.{sound-recovered, sound-first, sound-phase, up-cut}
use Rattle.lc_model.specs.Merge.{Page, StoreText, greatest, all_records, page_number, record_number, IsMerged}
use Rattle.lc_model.specs.Stored.{Disks, Fits, IsImage, IsOnPages, Stands, base, up_to, page_bytes}
use Rattle.lc_model.specs.Recovered.{HasByte, IsBehind, AreRenewed, IsReadable, recovered_disks}
use Rattle.lc_model.proofs.Numbers.{part-replicate, length-shape, numbered-byte, at_most-greatest}
use Rattle.lc_model.proofs.Shown.{kept_of}
use Rattle.lc_model.proofs.Result.{Known, known, merged, shape-effects, shape-pages, part-known}

get-take-past : {X : Type 0} (n k : ℕ) (xs : List X) → n ≤ k → slice_get (take n xs) k ≡ None
get-take-past zero k xs past = refl
get-take-past (suc n) k [] past = refl
get-take-past (suc n) zero (x ∷ xs) past = absurd (omega arith)
get-take-past (suc n) (suc k) (x ∷ xs) past =
    let less : n ≤ k = omega arith in
    get-take-past n k xs less

greatest-page : {A : Type 0} (f : A → ℕ) (xs : List A) → 0 < length xs → (k : ℕ) × (x : A) × (slice_get xs k ≡ Some x) × (greatest (map f xs) ≤ f x)
greatest-page f [] some = absurd (omega arith)
greatest-page f (x ∷ []) some = (0, x, refl, max-le (le_refl (f x)) (omega arith))
greatest-page {A} f (x ∷ (y ∷ ys)) some =
    let next : (k : ℕ) × (z : A) × (slice_get (y ∷ ys) k ≡ Some z) × (greatest (map f (y ∷ ys)) ≤ f z) = greatest-page f (y ∷ ys) (omega arith) in
    elim (cases_lt (f x) (f next.1)) [
      | inl less ↦
          let first : f x ≤ f next.1 = omega (arith, less) in
          (suc next.0, next.1, next.2, max-le first next.3)
      | inr more ↦ (0, x, refl, max-le (le_refl (f x)) (le_trans next.3 more))
    ]

greatest-record : {A : Type 0} (f : A → ℕ) (xs : List A) → 0 < greatest (map f xs) → (x : A) × Contains xs x × (greatest (map f xs) ≤ f x)
greatest-record f [] some = absurd (omega arith)
greatest-record {A} f (x ∷ xs) some =
    elim (cases_lt (f x) (greatest (map f xs))) [
      | inl less ↦
          let above : 0 < greatest (map f xs) = omega (arith, less) in
          let next : (y : A) × Contains xs y × (greatest (map f xs) ≤ f y) = greatest-record f xs above in
          let first : f x ≤ f next.0 = omega (arith, less, next.2) in
          (next.0, Contains-append_right (x ∷ []) xs next.0 next.1, max-le first next.2)
      | inr more ↦ (x, (0, (omega arith), refl), max-le (le_refl (f x)) more)
    ]

-- a page on which no record comes on top has the result's bytes
still-bytes : (store : StoreText) (content : Content) (numbers : ℕ → ℕ) (segment page : ℕ) (old : Page) → IsMerged store content numbers → slice_get (segment_of segment store.pages) page ≡ Some old → length old.bytes ≡ 256 → (IsBehind store segment page old → ⊥) → old.bytes ≡ page_bytes segment page content
still-bytes store content numbers segment page old result is long still =
    same-items old.bytes (page_bytes segment page content)
    (λ place. elim (cases_lt place 256) [
      | inl within ↦
          let by : IsByNumber segment (page * 256 + place) old.sequence (all_records store) (slice_get old.bytes place) (byte_at segment (page * 256 + place) content) = result.bytes segment page old is place within in
          let byte : byte_at segment (page * 256 + place) content ≡ slice_get old.bytes place =
          elim by [ inl none ↦ none.1 | inr newest ↦ absurd (still (newest.0, newest.1.among, place, within, newest.1.has)) ] in
          sym byte
          ∙ sym (get-take 256 place (drop (page * 256) (segment_of segment content)) within ∙ get-drop (page * 256) place (segment_of segment content))
      | inr past ↦
          let past_old : length old.bytes ≤ place = omega (arith, past, long) in
          slice_get_past old.bytes place past_old
          ∙ sym (get-take-past 256 place (drop (page * 256) (segment_of segment content)) past)
    ])

-- some page has come to the segment's number
renewed-reached : (store : StoreText) (content : Content) (numbers : ℕ → ℕ) (pages : ℕ → ℕ → Page) (segment count : ℕ) → IsMerged store content numbers → AreRenewed store content numbers pages → 1 ≤ segment → segment ≤ length store.pages → length (segment_of segment store.pages) ≡ count → 1 ≤ count → All (HasByte segment (count * 256)) (all_records store) → (page : ℕ) × (page < count) × (numbers segment ≤ (pages segment page).sequence)
renewed-reached store content numbers pages segment count result renewed some last long some_page bytes =
    let number : numbers segment ≡ max (page_number segment store) (record_number segment store) = result.counted segment some last in
    elim (cases_lt (page_number segment store) (record_number segment store)) [
      | inl above ↦
          let some_number : 0 < record_number segment store = omega (arith, above) in
          let r : (r : Record) × Contains (all_records store) r × (record_number segment store ≤ number_or_zero segment r.locks) = greatest-record (λ (q : Record). number_or_zero segment q.locks) (all_records store) some_number in
          let r_some : 0 < number_or_zero segment r.0.locks = omega (arith, some_number, r.2) in
          let byte : (place : ℕ) × (place < count * 256) × IsTrue (is_some (byte_of segment place r.0.ranges)) = All-contains (HasByte segment (count * 256)) (all_records store) r.0 bytes r.1 r_some in
          let parts : byte.0 / 256 * 256 + byte.0 % 256 ≡ byte.0 = div-add-mod' byte.0 256 in
          let offset_in : byte.0 % 256 < 256 = omega arith in
          let page_in : byte.0 / 256 < count = omega (arith, parts, byte.1) in
          let in_list : byte.0 / 256 < length (segment_of segment store.pages) = omega (arith, page_in, long) in
          let old : (old : Page) × (slice_get (segment_of segment store.pages) (byte.0 / 256) ≡ Some old) = get-some (segment_of segment store.pages) (byte.0 / 256) in_list in
          let low : old.0.sequence ≤ page_number segment store = at_most-greatest (λ (p : Page). p.sequence) (segment_of segment store.pages) (byte.0 / 256) old.0 old.1 in
          let less : old.0.sequence < number_or_zero segment r.0.locks = omega (arith, low, above, r.2) in
          let test : nat_lt old.0.sequence (number_or_zero segment r.0.locks) ≡ true = lt-ltb old.0.sequence (number_or_zero segment r.0.locks) less in
          let here : is_some (byte_of segment (byte.0 / 256 * 256 + byte.0 % 256) r.0.ranges) ≡ true = subst (λ (n : ℕ). is_some (byte_of segment n r.0.ranges) ≡ true) (sym parts) byte.2 in
          let has : has_byte segment (byte.0 / 256 * 256 + byte.0 % 256) old.0.sequence r.0 ≡ true = ap (λ b. b && nat_lt old.0.sequence (number_or_zero segment r.0.locks)) here ∙ test in (
            byte.0 / 256,
            page_in,
            (elim (renewed segment (byte.0 / 256) old.0 old.1) [
              | inl written ↦ (let is : (pages segment (byte.0 / 256)).sequence ≡ numbers segment = written.1 in omega (arith, is))
              | inr still ↦ absurd (still.0 (r.0, r.1, byte.0 % 256, offset_in, has))
            ]),
          )
      | inr not_above ↦
          let some_here : 0 < length (segment_of segment store.pages) = omega (arith, some_page, long) in
          let top : (k : ℕ) × (text : Page) × (slice_get (segment_of segment store.pages) k ≡ Some text) × (page_number segment store ≤ text.sequence) = greatest-page (λ (p : Page). p.sequence) (segment_of segment store.pages) some_here in
          let in_list : top.0 < length (segment_of segment store.pages) = slice_get_within (segment_of segment store.pages) top.0 top.1 top.2 in
          let most : numbers segment ≤ page_number segment store = subst (λ (n : ℕ). n ≤ page_number segment store) (sym number) (max-le (le_refl (page_number segment store)) not_above) in (
            top.0,
            (omega (arith, in_list, long)),
            (elim (renewed segment top.0 top.1 top.2) [
              | inl written ↦ (let is : (pages segment top.0).sequence ≡ numbers segment = written.1 in omega (arith, is))
              | inr still ↦ (let is : (pages segment top.0).sequence ≡ top.1.sequence = ap (λ (p : Page). p.sequence) still.1 in omega (arith, is, most, top.3))
            ]),
          )
    ]

-- the disks after a recovery fit
pub renewed-fits : (m : Setting) (earlier : List Transaction) (store : StoreText) (numbers : ℕ → ℕ) (pages : ℕ → ℕ → Page) → 1 ≤ m.geometry.pages → Sound m.geometry (fresh m.geometry earlier Up) → IsReadable m.geometry store → IsMerged store (effects earlier m.start) numbers → AreRenewed store (effects earlier m.start) numbers pages → Fits m (fresh m.geometry earlier Up) (recovered_disks numbers pages)
renewed-fits m earlier store numbers pages some_pages sound readable result renewed =
    let segments : length store.pages ≡ m.geometry.segments = length-shape m.geometry.segments m.geometry.pages store.pages readable.shape in
    let count_of : (segment : ℕ) → 1 ≤ segment → segment ≤ m.geometry.segments → length (segment_of segment store.pages) ≡ m.geometry.pages =
    λ segment some last. part-replicate segment m.geometry.segments m.geometry.pages store.pages readable.shape some last in
    let old_of : (segment page : ℕ) → 1 ≤ segment → segment ≤ m.geometry.segments → page < m.geometry.pages → (old : Page) × (slice_get (segment_of segment store.pages) page ≡ Some old) =
    λ segment page some last within. (let long : length (segment_of segment store.pages) ≡ m.geometry.pages = count_of segment some last in
    get-some (segment_of segment store.pages) page (omega (arith, within, long))) in
    record {
      sound = sound;
      shape = result.shape ∙ shape-pages m.geometry.segments m.geometry.pages store.pages readable.shape;
      stands = λ segment page text some last within shows.
          (let is : text ≡ pages segment page = elim shows [ inl one ↦ one | inr one ↦ absurd (let no : None ≡ Some text = one in cc) ] in
          let old : (old : Page) × (slice_get (segment_of segment store.pages) page ≡ Some old) = old_of segment page some last within in
          let in_store : segment ≤ length store.pages = omega (arith, last, segments) in
          let low : old.0.sequence ≤ numbers segment =
          subst (λ (n : ℕ). old.0.sequence ≤ n) (sym (result.counted segment some in_store))
          (le_trans (at_most-greatest (λ (p : Page). p.sequence) (segment_of segment store.pages) page old.0 old.1) (le-max_left (page_number segment store) (record_number segment store))) in
          let whole : (pages segment page).bytes ≡ page_bytes segment page (effects earlier m.start) =
          elim (renewed segment page old.0 old.1) [
            | inl written ↦ written.2
            | inr still ↦ ap (λ (p : Page). p.bytes) still.1 ∙ still-bytes store (effects earlier m.start) numbers segment page old.0 result old.1 (readable.long segment page old.0 old.1) still.0
          ] in
          let under : (pages segment page).sequence ≤ numbers segment =
          elim (renewed segment page old.0 old.1) [
            | inl written ↦ omega (arith, written.1)
            | inr still ↦ (let same : (pages segment page).sequence ≡ old.0.sequence = ap (λ (p : Page). p.sequence) still.1 in omega (arith, same, low))
          ] in
          let none : take (text.sequence - numbers segment) [] ≡ [] = take-nil (text.sequence - numbers segment) in
          record {
            within = subst (λ (p : Page). p.sequence ≤ numbers segment) (sym is) under;
            bytes = subst (λ (p : Page). p.bytes ≡ page_bytes segment page (effects earlier m.start)) (sym is) whole
                ∙ ap (λ ts. page_bytes segment page (effects ts (effects earlier m.start))) (sym none);
          });
      reached = λ segment some last.
          (let at : (page : ℕ) × (page < m.geometry.pages) × (numbers segment ≤ (pages segment page).sequence) =
          renewed-reached store (effects earlier m.start) numbers pages segment m.geometry.pages result renewed some (omega (arith, last, segments)) (count_of segment some last) some_pages (readable.on_pages segment some last) in (
            at.0,
            at.1,
            (λ text shows. elim shows [
              | inl one ↦ subst (λ (p : Page). numbers segment ≤ p.sequence) (sym one) at.2
              | inr one ↦ absurd (let no : None ≡ Some text = one in cc)
            ]),
          ));
      dropped = λ node within. All-nil (IsOnPages m.geometry (recovered_disks numbers pages));
      resetting = λ node within is. absurd (true≢false (sym is));
      begun = λ segment page text some last within is. absurd (let no : None ≡ Some text = is in cc);
      dropped_acked = λ node within. omega arith;
      sealed = λ node within is. absurd (true≢false (sym is));
    }

-- what a stop leaves can be read
pub image-readable : (m : Setting) (s : State) (d : Disks) (cut : Cut) (store : StoreText) → Fits m s d → IsImage m s d cut store → IsReadable m.geometry store
image-readable m s d cut store fits image =
    let k : Known m s d cut store = known m s d cut store fits image in
    let segments : length store.pages ≡ m.geometry.segments = length-shape m.geometry.segments m.geometry.pages store.pages image.shape in
    record {
      shape = image.shape;
      long = λ segment page text is.
          (let in_list : page < length (segment_of segment store.pages) = slice_get_within (segment_of segment store.pages) page text is in
          let some_page : 0 < length (segment_of segment store.pages) = omega (arith, in_list) in
          let in_store : (1 ≤ segment) × (segment ≤ length store.pages) = part-known segment store.pages some_page in
          let last : segment ≤ m.geometry.segments = omega (arith, in_store.1, segments) in
          let pages_known : length (segment_of segment store.pages) ≡ m.geometry.pages = part-replicate segment m.geometry.segments m.geometry.pages store.pages image.shape in_store.0 last in
          let page_known : page < m.geometry.pages = omega (arith, in_list, pages_known) in
          let stands : Stands m s d segment page text = fits.stands segment page text in_store.0 last page_known (image.pages segment page text is) in
          let whole : length (segment_of segment (effects (up_to d s segment text.sequence) (base m s))) ≡ segment_len m.geometry =
          part-replicate segment m.geometry.segments (segment_len m.geometry) (effects (up_to d s segment text.sequence) (base m s)) (shape-effects (up_to d s segment text.sequence) (base m s) ∙ fits.shape) in_store.0 last in
          let left : length (drop (page * 256) (segment_of segment (effects (up_to d s segment text.sequence) (base m s)))) ≡ length (segment_of segment (effects (up_to d s segment text.sequence) (base m s))) - page * 256 = length-drop (page * 256) (segment_of segment (effects (up_to d s segment text.sequence) (base m s))) in
          let enough : 256 ≤ length (drop (page * 256) (segment_of segment (effects (up_to d s segment text.sequence) (base m s)))) = omega (arith, left, whole, page_known) in
          ap length stands.bytes ∙ take-length 256 (drop (page * 256) (segment_of segment (effects (up_to d s segment text.sequence) (base m s)))) enough);
      on_pages = λ segment some last.
          (let base_long : length (segment_of segment (base m s)) ≡ segment_len m.geometry = part-replicate segment m.geometry.segments (segment_len m.geometry) (base m s) fits.shape some last in
          let marked : All (λ (t : Transaction). length (segment_of segment t.marks) ≡ segment_len m.geometry) (kept s.history cut) =
          All-weaker (IsProper m.geometry) (λ (t : Transaction). length (segment_of segment t.marks) ≡ segment_len m.geometry)
          (λ t own. part-replicate segment m.geometry.segments (segment_len m.geometry) t.marks own.shaped some last) (kept s.history cut) k.proper in
          let bytes : All (HasByte segment (segment_len m.geometry)) (kept_of m s d cut) = numbered-byte d.numbers (base m s) segment (segment_len m.geometry) (kept s.history cut) base_long marked in
          All-weaker (Contains (kept_of m s d cut)) (HasByte segment (segment_len m.geometry))
          (λ r among. All-contains (HasByte segment (segment_len m.geometry)) (kept_of m s d cut) r bytes among) (all_records store) k.shown.back);
    }

pub recovered : (m : Setting) (s : State) (d : Disks) (cut : Cut) (store : StoreText) (pages : ℕ → ℕ → Page) → 1 ≤ m.geometry.pages → Fits m s d → IsImage m s d cut store → AreRenewed store (effects (s.earlier ++ kept s.history cut) m.start) (counted_all d.numbers (kept s.history cut)) pages → Fits m (fresh m.geometry (s.earlier ++ kept s.history cut) Up) (recovered_disks (counted_all d.numbers (kept s.history cut)) pages)
recovered m s d cut store pages some_pages fits image renewed =
    renewed-fits m (s.earlier ++ kept s.history cut) store (counted_all d.numbers (kept s.history cut)) pages some_pages (sound-recovered m.geometry s cut fits.sound)
    (image-readable m s d cut store fits image) (merged m s d cut store fits image).1 renewed

-- and so do those after the first recovery
pub first-recovered : (m : Setting) (store : StoreText) (numbers : ℕ → ℕ) (pages : ℕ → ℕ → Page) → 1 ≤ m.geometry.pages → IsReadable m.geometry store → IsMerged store m.start numbers → AreRenewed store m.start numbers pages → Fits m (fresh m.geometry [] Up) (recovered_disks numbers pages)
first-recovered m store numbers pages some_pages readable result renewed =
    renewed-fits m [] store numbers pages some_pages (sound-phase m.geometry (first_state m.geometry) Up (sound-first m.geometry) (up-cut m.geometry (record (first_state m.geometry) { phase = Up }) refl)) readable result renewed
