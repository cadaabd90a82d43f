-- What is not refused: what a stop leaves of a store, what the steps of a recovery leave of one that is not, and zeros.
use Rattle.std.proofs.Common.{slice_index_or, ◌≡◌, ℕ, zero, suc, ◌+◌, ◌*◌, ◌<◌, ◌≤◌, Bool, true, false, ◌==◌, List, [], ◌∷◌, ◌++◌, map, length, take, drop, replicate, All, Contains, refl, subst, arith, inl, inr, eqb-true, slice_index, ◌⊎◌, ap}
use Rattle.std.specs.Prelude.{if◌then◌else◌}
use Rattle.std.proofs.lemmas.List.Elements.{All-nil, All-cons, All-head, All-tail, All-append, All-take, All-drop, All-weaker, All-contains}
use Rattle.lc_record.specs.Content.{Content, segment_of}
use Rattle.lc_record.specs.Transaction.{Transaction, Marks, effect, effects}
use Rattle.lc_record.specs.Geometry.{segment_len}
use Rattle.lc_record.specs.GrammarVersion.{end_of}
use Rattle.lc_record.specs.Record.{span_of}
use Rattle.lc_record.specs.Recorded.{with_byte, ranges_from, ranges_of, is_set, locks_of, record_of, records_from, counted}
use Rattle.lc_record.specs.declared.record.Record.{Record}
use Rattle.lc_record.specs.declared.record.Lock.{Lock}
use Rattle.lc_record.specs.declared.record.RangeData.{RangeData}
use Rattle.lc_record.specs.declared.geometry.Geometry.{Geometry}
use Rattle.lc_model.specs.History.{Cut, kept}
use Rattle.lc_model.specs.State.{State, Setting}
use Rattle.lc_model.specs.Sound.{IsProper}
use Rattle.lc_model.specs.Merging.{counted_all, is_from}
use Rattle.lc_model.specs.Stored.{Disks, Fits, IsImage, base, records_of}
use Rattle.lc_model.specs.Merge.{StoreText, all_records, AreOwn, AreWithin, MergesTo, IsOutside, IsMerged}
use Rattle.lc_model.specs.Recovered.{HasByte, IsPartlyRenewed, IsPartlyReset, AreStill, zero_store, zero_content}
use Rattle.lc_model.proofs.Within.{renewed-merged, reset-merged}
use Rattle.lc_model.proofs.Zeros.{zeros-merged}
use Rattle.lc_model.proofs.One.{shape-length}
use Rattle.lc_model.proofs.Lists.{All-filter_if}
use Rattle.lc_model.proofs.Numbers.{part-replicate, part-length, length-shape}
use Rattle.lc_model.proofs.Shown.{kept_of}
use Rattle.lc_model.proofs.Visible.{in-logs, log-known}
use Rattle.lc_model.proofs.Result.{Known, known, merged}

-- Nodes

abbrev IsFrom : ℕ → Record → Type 0
IsFrom node r = is_from node r ≡ true

image-own : (m : Setting) (s : State) (d : Disks) (cut : Cut) (store : StoreText) → IsImage m s d cut store → AreOwn store
image-own m s d cut store image log found =
    let r : Record = found.0 in
    let shown : log < length store.logs = log-known store.logs log found.0 found.1 in
    let node : log < m.geometry.nodes = (let count : length store.logs ≡ m.geometry.nodes = image.count in omega (arith, shown, count)) in
    elim (image.logs log node) [
      | inl front ↦
          let own : All (IsFrom log) (drop (d.dropped log) (take (slice_index cut log) (records_of m s d log))) =
          All-drop (IsFrom log) (d.dropped log) (take (slice_index cut log) (records_of m s d log))
          (All-take (IsFrom log) (slice_index cut log) (records_of m s d log)
          (All-filter_if (is_from log) (IsFrom log) (records_from d.numbers (base m s) _) (λ k one k_in passes. passes))) in
          let here : Contains (drop (d.dropped log) (take (slice_index cut log) (records_of m s d log))) found.0 = subst (λ (rs : List Record). Contains rs found.0) front found.1 in
          found.2 (eqb-true found.0.node log (All-contains (IsFrom log) (drop (d.dropped log) (take (slice_index cut log) (records_of m s d log))) found.0 own here))
      | inr none ↦
          let here : Contains [] found.0 = subst (λ (rs : List Record). Contains rs found.0) none.2 found.1 in
          absurd (omega (arith, here.1))
    ]

-- Segments

abbrev IsLockIn : ℕ → Lock → Type 0
IsLockIn count lock = lock.segment ≤ count

-- of this segment, and not past this place
abbrev EndsIn : ℕ → ℕ → RangeData → Type 0
EndsIn segment most range = (range.segment ≡ segment) × (end_of (span_of range) ≤ most)

abbrev IsRangeIn : ℕ → ℕ → RangeData → Type 0
IsRangeIn count len range = (1 ≤ range.segment) × (range.segment ≤ count) × (end_of (span_of range) ≤ len)

record IsInside (count len : ℕ) (r : Record) : Type 0 where
  locks : All (IsLockIn count) r.locks
  ranges : All (IsRangeIn count len) r.ranges

locks-inside : (numbers : ℕ → ℕ) (first count : ℕ) (marks : Marks) → first + length marks ≤ suc count → All (IsLockIn count) (locks_of numbers first marks)
locks-inside numbers first count [] few = All-nil (IsLockIn count)
locks-inside numbers first count (m ∷ ms) few =
    let here : first ≤ count = omega (arith, few) in
    let fewer : (first + 1) + length ms ≤ suc count = omega (arith, few) in
    let next : All (IsLockIn count) (locks_of numbers (first + 1) ms) = locks-inside numbers (first + 1) count ms fewer in
    elim (is_set m) as (λ b. All (IsLockIn count) (if b then record { segment = first; seq = numbers first + 1 } ∷ locks_of numbers (first + 1) ms else locks_of numbers (first + 1) ms)) [
      | true ↦ All-cons (IsLockIn count) (record { segment = first; seq = numbers first + 1 }) (locks_of numbers (first + 1) ms) here next
      | false ↦ next
    ]

ends-with_byte : (segment offset byte most : ℕ) (ranges : List RangeData) → offset + 1 ≤ most → All (EndsIn segment most) ranges → All (EndsIn segment most) (with_byte segment offset byte ranges)
ends-with_byte segment offset byte most [] within all =
    All-cons (EndsIn segment most) (record { segment = segment; offset = offset; bytes = byte ∷ [] }) [] (refl, within) (All-nil (EndsIn segment most))
ends-with_byte segment offset byte most (range ∷ ranges) within all =
    let own : EndsIn segment most range = All-head (EndsIn segment most) range ranges all in
    elim (range.offset == offset + 1) as (λ b. (range.offset == offset + 1) ≡ b → All (EndsIn segment most) (if b then record { segment = segment; offset = offset; bytes = byte ∷ range.bytes } ∷ ranges else record { segment = segment; offset = offset; bytes = byte ∷ [] } ∷ (range ∷ ranges))) [
      | true ↦ λ e.
          let behind : range.offset ≡ offset + 1 = eqb-true range.offset (offset + 1) e in
          let ends : offset + suc (length range.bytes) ≤ most = omega (arith, behind, own.1) in
          All-cons (EndsIn segment most) (record { segment = segment; offset = offset; bytes = byte ∷ range.bytes }) ranges (refl, ends) (All-tail (EndsIn segment most) range ranges all)
      | false ↦ λ e. All-cons (EndsIn segment most) (record { segment = segment; offset = offset; bytes = byte ∷ [] }) (range ∷ ranges) (refl, within) all
    ] refl

ends-ranges_from : (segment offset most : ℕ) (marks : List Bool) (bytes : List ℕ) → offset + length marks ≤ most → All (EndsIn segment most) (ranges_from segment offset marks bytes)
ends-ranges_from segment offset most [] bytes within = All-nil (EndsIn segment most)
ends-ranges_from segment offset most (mark ∷ marks) [] within = All-nil (EndsIn segment most)
ends-ranges_from segment offset most (true ∷ marks) (byte ∷ bytes) within =
    let here : offset + 1 ≤ most = omega (arith, within) in
    let further : (offset + 1) + length marks ≤ most = omega (arith, within) in
    ends-with_byte segment offset byte most (ranges_from segment (offset + 1) marks bytes) here (ends-ranges_from segment (offset + 1) most marks bytes further)
ends-ranges_from segment offset most (false ∷ marks) (byte ∷ bytes) within =
    let further : (offset + 1) + length marks ≤ most = omega (arith, within) in
    ends-ranges_from segment (offset + 1) most marks bytes further

ranges-inside : (first n count len : ℕ) (marks : Marks) (content : Content) → map length marks ≡ replicate n len → 1 ≤ first → first + n ≤ suc count → All (IsRangeIn count len) (ranges_of first marks content)
ranges-inside first n count len [] content shaped some few = All-nil (IsRangeIn count len)
ranges-inside first n count len (m ∷ ms) [] shaped some few = All-nil (IsRangeIn count len)
ranges-inside first zero count len (m ∷ ms) (b ∷ bs) shaped some few = absurd cc
ranges-inside first (suc n) count len (m ∷ ms) (b ∷ bs) shaped some few =
    let own : length m ≡ len = cc in
    let others : map length ms ≡ replicate n len = cc in
    let here : first ≤ count = omega (arith, few) in
    let fewer : (first + 1) + n ≤ suc count = omega (arith, few) in
    let one : 1 ≤ first + 1 = omega arith in
    let within : 0 + length m ≤ len = omega (arith, own) in
    All-append (IsRangeIn count len) (ranges_from first 0 m b) (ranges_of (first + 1) ms bs)
    (All-weaker (EndsIn first len) (IsRangeIn count len)
    (λ range ends. (omega (arith, ends.0, some), omega (arith, ends.0, here), ends.1))
    (ranges_from first 0 m b) (ends-ranges_from first 0 len m b within))
    (ranges-inside (first + 1) n count len ms bs others one fewer)

records-inside : (g : Geometry) (numbers : ℕ → ℕ) (content : Content) (ts : List Transaction) → All (IsProper g) ts → All (IsInside g.segments (segment_len g)) (records_from numbers content ts)
records-inside g numbers content [] proper = All-nil (IsInside g.segments (segment_len g))
records-inside g numbers content (t ∷ ts) proper =
    let own : IsProper g t = All-head (IsProper g) t ts proper in
    let long : length t.marks ≡ g.segments = length-shape g.segments (segment_len g) t.marks own.shaped in
    let all_locks : 1 + length t.marks ≤ suc g.segments = omega (arith, long) in
    let all_ranges : 1 + g.segments ≤ suc g.segments = omega arith in
    let one : 1 ≤ 1 = omega arith in
    All-cons (IsInside g.segments (segment_len g)) (record_of numbers content t) (records_from (counted numbers t) (effect t content) ts)
    (record {
      locks = locks-inside numbers 1 g.segments t.marks all_locks;
      ranges = ranges-inside 1 g.segments g.segments (segment_len g) t.marks (effect t content) own.shaped one all_ranges;
    })
    (records-inside g (counted numbers t) (effect t content) ts (All-tail (IsProper g) t ts proper))

image-within : (m : Setting) (s : State) (d : Disks) (cut : Cut) (store : StoreText) → Fits m s d → IsImage m s d cut store → AreWithin store
image-within m s d cut store fits image log found =
    let k : Known m s d cut store = known m s d cut store fits image in
    let segments : length store.pages ≡ m.geometry.segments = length-shape m.geometry.segments m.geometry.pages store.pages image.shape in
    let among : Contains (all_records store) found.0 = in-logs store.logs log found.0 (log-known store.logs log found.0 found.1) found.1 in
    let of_cut : Contains (kept_of m s d cut) found.0 = All-contains (Contains (kept_of m s d cut)) (all_records store) found.0 k.shown.back among in
    let inside : IsInside m.geometry.segments (segment_len m.geometry) found.0 =
    All-contains (IsInside m.geometry.segments (segment_len m.geometry)) (kept_of m s d cut) found.0 (records-inside m.geometry d.numbers (base m s) (kept s.history cut) k.proper) of_cut in
    elim found.2 [
      | inl lock ↦
          let low : lock.0.segment ≤ m.geometry.segments = All-contains (IsLockIn m.geometry.segments) found.0.locks lock.0 inside.locks lock.1 in
          omega (arith, low, lock.2, segments)
      | inr range ↦
          let low : IsRangeIn m.geometry.segments (segment_len m.geometry) range.0 = All-contains (IsRangeIn m.geometry.segments (segment_len m.geometry)) found.0.ranges range.0 inside.ranges range.1 in
          let long : length (segment_of range.0.segment store.pages) ≡ m.geometry.pages = part-replicate range.0.segment m.geometry.segments m.geometry.pages store.pages image.shape low.0 low.1 in
          let ends : end_of (span_of range.0) ≤ m.geometry.pages * 256 = low.2 in
          omega (arith, ends, range.2, long)
    ]

pub image-merges : (m : Setting) (s : State) (d : Disks) (cut : Cut) (store : StoreText) → Fits m s d → IsImage m s d cut store → MergesTo store (effects (s.earlier ++ kept s.history cut) m.start) (counted_all d.numbers (kept s.history cut))
image-merges m s d cut store fits image = (image-own m s d cut store image, image-within m s d cut store fits image, (merged m s d cut store fits image).1)

-- Within a recovery

outside-same : (store new : StoreText) (r : Record) → map length new.pages ≡ map length store.pages → IsOutside new r → IsOutside store r
outside-same store new r shape outside =
    let count : length new.pages ≡ length store.pages = shape-length new.pages store.pages shape in
    elim outside [
      | inl lock ↦ inl (lock.0, lock.1, (omega (arith, lock.2, count)))
      | inr range ↦
          let long : length (segment_of range.0.segment new.pages) ≡ length (segment_of range.0.segment store.pages) = part-length range.0.segment new.pages store.pages shape in
          inr (range.0, range.1, (omega (arith, range.2, long)))
    ]

abbrev AreFewer : StoreText → StoreText → Type 0
AreFewer store new = (node : ℕ) → (slice_index_or new.logs node [] ≡ slice_index_or store.logs node []) ⊎ (slice_index_or new.logs node [] ≡ [])

log-fewer : (store new : StoreText) (log : ℕ) (r : Record) → AreFewer store new → Contains (slice_index_or new.logs log []) r → Contains (slice_index_or store.logs log []) r
log-fewer store new log r fewer has =
    elim (fewer log) [
      | inl same ↦ subst (λ (rs : List Record). Contains rs r) same has
      | inr none ↦
          let here : Contains [] r = subst (λ (rs : List Record). Contains rs r) none has in
          absurd (omega (arith, here.1))
    ]

fewer-unrefused : (store new : StoreText) (content : Content) (numbers : ℕ → ℕ) → AreFewer store new → map length new.pages ≡ map length store.pages → MergesTo store content numbers → IsMerged new content numbers → MergesTo new content numbers
fewer-unrefused store new content numbers fewer shape before merged_new = (
  λ log found. before.0 log (found.0, log-fewer store new log found.0 fewer found.1, found.2),
  λ log found. before.1 log (found.0, log-fewer store new log found.0 fewer found.1, outside-same store new found.0 shape found.2),
  merged_new,
)

pub renewed-merges : (store new : StoreText) (content : Content) (numbers : ℕ → ℕ) → MergesTo store content numbers → IsPartlyRenewed store new content numbers → MergesTo new content numbers
renewed-merges store new content numbers before renewed =
    fewer-unrefused store new content numbers (λ node. inl (ap (λ (logs : List (List Record)). slice_index_or logs node []) renewed.logs)) renewed.shape before
    (renewed-merged store new content numbers before.2 renewed)

pub reset-merges : (store new : StoreText) (content : Content) (numbers : ℕ → ℕ) → MergesTo store content numbers → AreStill store → ((segment : ℕ) → All (HasByte segment (length (segment_of segment store.pages) * 256)) (all_records store)) → IsPartlyReset store new → MergesTo new content numbers
reset-merges store new content numbers before still bytes reset =
    fewer-unrefused store new content numbers reset.logs (ap (map length) reset.pages) before
    (reset-merged store new content numbers before.2 still bytes reset)

-- Zeros

no-record : (n k : ℕ) (r : Record) → Contains (slice_index_or (replicate n []) k []) r → ⊥
no-record zero k r has = absurd (omega (arith, has.1))
no-record (suc n) zero r has = absurd (omega (arith, has.1))
no-record (suc n) (suc k) r has = no-record n k r has

pub zeros-merge : (g : Geometry) → MergesTo (zero_store g) (zero_content g) (λ segment. 0)
zeros-merge g = (λ log found. no-record g.nodes log found.0 found.1, λ log found. no-record g.nodes log found.0 found.1, zeros-merged g)
