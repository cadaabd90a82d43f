-- The transaction that a record stands for is proper, and its record is that record.
use Rattle.std.proofs.Common.{◌≡◌, ℕ, zero, suc, ◌+◌, ◌<◌, ◌≤◌, Bool, true, false, ◌||◌, ◌==◌, List, [], ◌∷◌, map, length, All, replicate, refl, sym, ◌∙◌, ap, subst, arith, inl, inr, true≢false, eq-eqb, ne_eqb}
use Rattle.std.proofs.lemmas.Bool.{or_right}
use Rattle.std.specs.Prelude.{IsTrue, is_some}
use Rattle.std.specs.List.{AllByRecursion}
use Rattle.std.proofs.lemmas.List.{length-map}
use Rattle.std.proofs.lemmas.List.Elements.{All-nil, All-cons, All-head, All-tail}
use Rattle.lc_record.specs.Content.{Content, segment_of}
use Rattle.lc_record.specs.Geometry.{segment_len}
use Rattle.lc_record.specs.Marks.{counting, ranges as count_ranges, is_empty}
use Rattle.lc_record.specs.Newest.{byte_of}
use Rattle.lc_record.specs.Record.{IsCanonical, IsRange}
use Rattle.lc_record.specs.Recorded.{record_of, records_from, ranges_of, locks_of, laid, counted}
use Rattle.lc_record.specs.Transaction.{Transaction, ByteWrite, IsWellFormed, all_set, is_member, effect}
use Rattle.lc_record.specs.declared.geometry.Geometry.{Geometry}
use Rattle.lc_record.specs.declared.record.Lock.{Lock}
use Rattle.lc_record.specs.declared.record.RangeData.{RangeData}
use Rattle.lc_record.specs.declared.record.Record.{Record}
use Rattle.lc_record.proofs.ListLemmas.{length-counting, true_from_or-false as no-reading}
use Rattle.lc_range.specs.RangeSet.{Has, IsCanonical as AreRuns}
use Rattle.lc_range.specs.declared.range.Range.{Range}
use Rattle.lc_model.specs.Sound.{IsProper}
use Rattle.lc_model.proofs.Numbers.{part-replicate}
use Rattle.lc_model.proofs.Result.{shape-effects}
use Rattle.lc_tx.proofs.DataLemmas.{data_in, record_ranges, record_locks}
use Rattle.lc_tx.proofs.MarkLemmas.{runs_of, set_is_runs, count_all}
use Rattle.lc_tx.proofs.StandsLemmas.{each-set}
use Rattle.lc_tx.specs.Prepared.{segments_of}
use Rattle.lc_rest.specs.Adopted.{marks_of, write_of, transaction_of, IsInside, IsTaken, IsNext, Follow}
use Rattle.lc_rest.proofs.OneRecord.{run_of, writes-laid, runs-canonical, marks-has, data-own, shows-all, Fits}
use Rattle.lc_rest.proofs.OneLock.{locks-segments, locks-next, member-lock, lock-member, write-member, member-write, member-inside}

pub some-bytes : (ranges : List RangeData) → AllByRecursion IsRange ranges → All (λ (r : RangeData). 1 ≤ length r.bytes) ranges
some-bytes [] all = All-nil (λ (r : RangeData). 1 ≤ length r.bytes)
some-bytes (r ∷ ranges) all = All-cons (λ (r : RangeData). 1 ≤ length r.bytes) r ranges all.0.0 (some-bytes ranges all.1)

pub runs-are : (g : Geometry) (r : Record) → IsTaken g r → AreRuns (map run_of r.ranges)
runs-are g r taken = runs-canonical r.ranges (some-bytes r.ranges taken.canonical.each_range) taken.canonical.ranges_ascend

pub marks-are : (g : Geometry) (r : Record) → IsTaken g r → map run_of r.ranges ≡ runs_of 1 (marks_of g r.ranges)
marks-are g r taken = set_is_runs (map run_of r.ranges) (marks_of g r.ranges) (runs-are g r taken) (marks-has g r.ranges taken.inside)

-- the shape of the marks

rows : (f : ℕ → List Bool) (k from n : ℕ) → ((segment : ℕ) → length (f segment) ≡ k) → map length (map f (counting from n)) ≡ replicate n k
rows f k from zero long = refl
rows f k from (suc n) long = ap (λ l. l ∷ map length (map f (counting (from + 1) n))) (long from) ∙ ap (λ rest. k ∷ rest) (rows f k (from + 1) n long)

pub marks-shape : (g : Geometry) (ranges : List RangeData) → map length (marks_of g ranges) ≡ replicate g.segments (segment_len g)
marks-shape g ranges =
    rows (λ segment. map (λ place. is_some (byte_of segment place ranges)) (counting 0 (segment_len g))) (segment_len g) 1 g.segments
    (λ segment. length-map (counting 0 (segment_len g)) (λ place. is_some (byte_of segment place ranges)) ∙ length-counting 0 (segment_len g))

-- each range fits a content of this shape
all-fit : (g : Geometry) (content : Content) → map length content ≡ replicate g.segments (segment_len g) → (ranges : List RangeData) → All (IsInside g) ranges → All (Fits content) ranges
all-fit g content shape [] all = All-nil (Fits content)
all-fit g content shape (r ∷ ranges) all =
    let is : IsInside g r = All-head (IsInside g) r ranges all in
    let long : length (segment_of r.segment content) ≡ segment_len g = part-replicate r.segment g.segments (segment_len g) content shape is.first is.last in
    All-cons (Fits content) r ranges (subst (λ (n : ℕ). r.offset + length r.bytes ≤ n) (sym long) is.end) (all-fit g content shape ranges (All-tail (IsInside g) r ranges all))

pub record-own : (g : Geometry) (r : Record) (numbers : ℕ → ℕ) (content : Content) → IsTaken g r → map length content ≡ replicate g.segments (segment_len g) → IsNext numbers r
    → record_of numbers content (transaction_of g r) ≡ r
record-own g r numbers content taken shape next =
    ap (λ (ls : List Lock). record { node = r.node; locks = ls; ranges = ranges_of 1 (marks_of g r.ranges) (effect (transaction_of g r) content) }) own_locks
    ∙ ap (λ (rs : List RangeData). record { node = r.node; locks = r.locks; ranges = rs }) own_ranges
  where
    runs : map run_of r.ranges ≡ runs_of 1 (marks_of g r.ranges)
    runs = marks-are g r taken

    laid_is : effect (transaction_of g r) content ≡ laid r.ranges content
    laid_is = writes-laid r.ranges content

    own_ranges : ranges_of 1 (marks_of g r.ranges) (effect (transaction_of g r) content) ≡ r.ranges
    own_ranges =
        sym (record_ranges (λ s. segment_of s (effect (transaction_of g r) content)) (marks_of g r.ranges) (effect (transaction_of g r) content)
        (marks-shape g r.ranges ∙ sym (shape-effects (transaction_of g r ∷ []) content ∙ shape)) (λ s k set. refl))
        ∙ ap (map (data_in (λ s. segment_of s (effect (transaction_of g r) content)))) (sym runs)
        ∙ ap (λ (c : Content). map (data_in (λ s. segment_of s c)) (map run_of r.ranges)) laid_is
        ∙ data-own r.ranges r.ranges content (shows-all r.ranges (runs-are g r taken)) (all-fit g content shape r.ranges taken.inside)

    own_locks : locks_of numbers 1 (marks_of g r.ranges) ≡ r.locks
    own_locks =
        sym (record_locks (λ s. numbers s + 1) numbers (marks_of g r.ranges) (λ s k set. refl))
        ∙ ap (λ (rs : List Range). map (λ (s : ℕ). record { segment = s; seq = numbers s + 1 }) (segments_of rs)) (sym runs)
        ∙ ap (map (λ (s : ℕ). record { segment = s; seq = numbers s + 1 })) (sym (locks-segments g r taken.canonical taken.inside (runs-are g r taken)))
        ∙ locks-next numbers r.locks next

-- It is proper

abbrev locked : Record → List ℕ
locked r = map (λ (l : Lock). l.segment) r.locks

pub has-writes : (ranges : List RangeData) (segment place : ℕ) → Has (map run_of ranges) segment place → is_member segment (map (λ (l : RangeData). l.segment) ranges) ≡ true
has-writes [] segment place has = absurd has
has-writes (r ∷ ranges) segment place has = elim has [
  | inl here ↦ ap (λ b. b || is_member segment (map (λ (l : RangeData). l.segment) ranges)) (eq-eqb r.segment segment (sym here.0))
  | inr later ↦ or_right (r.segment == segment) (is_member segment (map (λ (l : RangeData). l.segment) ranges)) (has-writes ranges segment place later)
]

pub range-locks : (r : Record) → IsCanonical r → (segment : ℕ) → is_member segment (map (λ (l : RangeData). l.segment) r.ranges) ≡ true → is_member segment (locked r) ≡ true
range-locks r canonical segment is = lock-member segment r.locks ((canonical.same_segments segment).1 (member-write segment r.ranges is))

-- the places of each range are marked
range-set : (g : Geometry) (r : Record) → IsTaken g r → (ranges : List RangeData) → ((s k : ℕ) → Has (map run_of ranges) s k → Has (map run_of r.ranges) s k)
    → All (λ (w : ByteWrite). IsTrue (all_set w.offset (length w.bytes) (segment_of w.segment (marks_of g r.ranges)))) (map write_of ranges)
range-set g r taken [] among = All-nil (λ (w : ByteWrite). IsTrue (all_set w.offset (length w.bytes) (segment_of w.segment (marks_of g r.ranges))))
range-set g r taken (a ∷ ranges) among =
    All-cons (λ (w : ByteWrite). IsTrue (all_set w.offset (length w.bytes) (segment_of w.segment (marks_of g r.ranges)))) (write_of a) (map write_of ranges)
    (each-set a.offset (length a.bytes) (segment_of a.segment (marks_of g r.ranges)) (λ k low high. (marks-has g r.ranges taken.inside a.segment k).0 (among a.segment k (inl (refl, low, high)))))
    (range-set g r taken ranges (λ s k has. among s k (inr has)))

range-locked : (r : Record) → IsCanonical r → (ranges : List RangeData) → ((s : ℕ) → is_member s (map (λ (l : RangeData). l.segment) ranges) ≡ true → is_member s (map (λ (l : RangeData). l.segment) r.ranges) ≡ true)
    → All (λ (w : ByteWrite). IsTrue (is_member w.segment (locked r))) (map write_of ranges)
range-locked r canonical [] among = All-nil (λ (w : ByteWrite). IsTrue (is_member w.segment (locked r)))
range-locked r canonical (a ∷ ranges) among =
    All-cons (λ (w : ByteWrite). IsTrue (is_member w.segment (locked r))) (write_of a) (map write_of ranges)
    (range-locks r canonical a.segment (among a.segment (ap (λ b. b || is_member a.segment (map (λ (l : RangeData). l.segment) ranges)) (eq-eqb a.segment a.segment refl))))
    (range-locked r canonical ranges (λ s is. among s (or_right (a.segment == s) (is_member s (map (λ (l : RangeData). l.segment) ranges)) is)))

pub well-own : (g : Geometry) (r : Record) → IsTaken g r → IsWellFormed (transaction_of g r)
well-own g r taken = record {
  set_locked = λ segment place set. range-locks r taken.canonical segment (has-writes r.ranges segment place ((marks-has g r.ranges taken.inside segment place).1 set));
  write_locked = range-locked r taken.canonical r.ranges (λ s is. is);
  write_set = range-set g r taken r.ranges (λ s k has. has);
}

pub count-own : (g : Geometry) (r : Record) → IsTaken g r → count_ranges (marks_of g r.ranges) ≡ length r.ranges
count-own g r taken = sym (count_all 1 (marks_of g r.ranges)) ∙ ap length (sym (marks-are g r taken)) ∙ length-map r.ranges run_of

pub proper-own : (g : Geometry) (r : Record) → IsTaken g r → r.node < g.nodes → 0 < g.threads → IsProper g (transaction_of g r)
proper-own g r taken node threads = record {
  well = well-own g r taken;
  node_known = node;
  thread_known = threads;
  segments_known = λ segment is. member-inside g r.ranges taken.inside segment (write-member segment r.ranges ((taken.canonical.same_segments segment).0 (member-lock segment r.locks (no-reading (is_member segment (locked r)) is))));
  shaped = marks-shape g r.ranges;
  few_ranges = (let most = taken.canonical.few_ranges in let is = count-own g r taken in omega (arith, most, is));
}

pub set-own : (g : Geometry) (r : Record) → IsTaken g r → is_empty (marks_of g r.ranges) ≡ false
set-own g r taken = (let some = taken.canonical.some_ranges in let is = count-own g r taken in ne_eqb (count_ranges (marks_of g r.ranges)) 0 (λ none. absurd (omega (arith, some, is, none))))

-- Many records

abbrev pub transactions_of : Geometry → List Record → List Transaction
transactions_of g rs = map (transaction_of g) rs

pub records-own : (g : Geometry) (rs : List Record) (numbers : ℕ → ℕ) (content : Content) → All (IsTaken g) rs → map length content ≡ replicate g.segments (segment_len g) → Follow g numbers rs
    → records_from numbers content (transactions_of g rs) ≡ rs
records-own g [] numbers content taken shape follow = refl
records-own g (r ∷ rs) numbers content taken shape follow =
    ap (λ (q : Record). q ∷ records_from (counted numbers (transaction_of g r)) (effect (transaction_of g r) content) (transactions_of g rs)) (record-own g r numbers content (All-head (IsTaken g) r rs taken) shape follow.0)
    ∙ ap (λ (qs : List Record). r ∷ qs) (records-own g rs (counted numbers (transaction_of g r)) (effect (transaction_of g r) content) (All-tail (IsTaken g) r rs taken) (shape-effects (transaction_of g r ∷ []) content ∙ shape) follow.1)
