-- What a transaction does keeps what it stands for.
use Rattle.std.proofs.Common.{◌≡◌, ◌≢◌, ◌⊎◌, ℕ, zero, suc, ◌+◌, ◌<◌, ◌≤◌, Bool, true, false, ◌==◌, List, [], ◌∷◌, ◌++◌, map, length, replicate, Option, None, Some, refl, sym, ◌∙◌, ap, subst, arith, inl, inr, true≢false, eqb-true, eq-eqb, ne_eqb}
use Rattle.std.specs.Prelude.{◌↔◌, All, IsSome, IsTrue, unwrap_or, slice_index}
use Rattle.std.proofs.lemmas.Bool.{cases_lt}
use Rattle.std.proofs.lemmas.List.Elements.{All-head, All-nil, All-tail}
use Rattle.lc_record.specs.Content.{Content, put, on_segment, segment_of}
use Rattle.lc_record.specs.Transaction.{Transaction, ByteWrite, is_member, all_set, writes_on, effect}
use Rattle.lc_record.specs.Marks.{ranges, is_empty, marked, written}
use Rattle.lc_record.specs.Recorded.{record_of, locks_of}
use Rattle.lc_record.proofs.SegmentLemmas.{segment_of-other, segment_of-same, shape-on_segment, length-put, length-written_segment, all_set-put, well-marked, well-written}
use Rattle.lc_record.proofs.LockLemmas.{member_left as in_first, member_right as in_second}
use Rattle.lc_record.proofs.ListLemmas.{none_not_some as none_is_not_some}
use Rattle.lc_range.specs.RangeSet.{Has, IsCanonical, AddsPositions, NeedsRunsAbove}
use Rattle.lc_range.specs.Undo.{kept}
use Rattle.lc_range.specs.declared.range.Range.{Range}
use Rattle.lc_tx.specs.declared.images.Images.{Ghosts}
use Rattle.lc_tx.specs.declared.tx.Tx.{Tx}
use Rattle.lc_tx.specs.Images.{bytes_of, IsSame, IsWritten, AreRestored}
use Rattle.lc_tx.specs.Tx.{Locked, Reads, Holds, AreSet, RunsOn, Begins, SetsRange}
use Rattle.lc_tx.specs.Prepared.{final_record, next_number, segments_of}
use Rattle.lc_tx.specs.StandsFor.{StandsFor, Show, AreNumbers, begun_on, unmarked}
use Rattle.lc_tx.proofs.HoldsLemmas.{asked_reading, asked_writing, held_cases, held_here, locked_holds, read_apart, reads_holds}
use Rattle.lc_tx.proofs.MemberLemmas.{member_both}
use Rattle.lc_tx.proofs.MarkLemmas.{runs_of, set_is_runs, count_all, canonical_all, has_positions}
use Rattle.lc_tx.proofs.DataLemmas.{data_in, record_ranges, record_locks}

-- Shapes

shape_at : {A B : Type 0} (s : ℕ) (xs : List (List A)) (ys : List (List B)) → map length xs ≡ map length ys → length (segment_of s xs) ≡ length (segment_of s ys)
shape_at s [] [] same = refl
shape_at s [] (y ∷ ys) same = absurd cc
shape_at s (x ∷ xs) [] same = absurd cc
shape_at zero (x ∷ xs) (y ∷ ys) same = refl
shape_at (suc zero) (x ∷ xs) (y ∷ ys) same = cc
shape_at (suc (suc i)) (x ∷ xs) (y ∷ ys) same = (let behind : map length xs ≡ map length ys = cc in shape_at (suc i) xs ys behind)

-- Marks that a range sets

put-marks : (at n k : ℕ) (marks : List Bool) → all_set k 1 (put at (replicate n true) marks) ≡ true → (all_set k 1 marks ≡ true) ⊎ ((at ≤ k) × (k < at + n))
put-marks at n k [] set = inl set
put-marks zero zero k (m ∷ marks) set = inl set
put-marks zero (suc n) zero (m ∷ marks) set = inr (omega arith, omega arith)
put-marks zero (suc n) (suc k) (m ∷ marks) set = elim (put-marks zero n k marks set) [
  | inl was ↦ inl was
  | inr here ↦ inr (omega arith, omega (arith, here.1))
]
put-marks (suc at) n zero (m ∷ marks) set = inl set
put-marks (suc at) n (suc k) (m ∷ marks) set = elim (put-marks at n k marks set) [
  | inl was ↦ inl was
  | inr here ↦ inr (omega (arith, here.0), omega (arith, here.1))
]

marks-put : (at n k : ℕ) (marks : List Bool) → at ≤ k → k < at + n → k < length marks → all_set k 1 (put at (replicate n true) marks) ≡ true
marks-put at n k [] low high inside = absurd (omega (arith, inside))
marks-put zero zero k (m ∷ marks) low high inside = absurd (omega (arith, high))
marks-put zero (suc n) zero (m ∷ marks) low high inside = refl
marks-put zero (suc n) (suc k) (m ∷ marks) low high inside = marks-put zero n k marks (omega arith) (omega (arith, high)) (omega (arith, inside))
marks-put (suc at) n zero (m ∷ marks) low high inside = absurd (omega (arith, low))
marks-put (suc at) n (suc k) (m ∷ marks) low high inside = marks-put at n k marks (omega (arith, low)) (omega (arith, high)) (omega (arith, inside))

-- the marks of a transaction that set a range more
pub marked-marks : (t : Transaction) (segment offset n s k : ℕ) → all_set k 1 (segment_of s (marked t segment offset n).marks) ≡ true
    → (all_set k 1 (segment_of s t.marks) ≡ true) ⊎ ((s ≡ segment) × (offset ≤ k) × (k < offset + n))
marked-marks t segment offset n s k set =
    elim (s == segment) as (λ b. (s == segment) ≡ b → (all_set k 1 (segment_of s t.marks) ≡ true) ⊎ ((s ≡ segment) × (offset ≤ k) × (k < offset + n))) [
      | true ↦ λ e.
          let same : s ≡ segment = eqb-true s segment e in
          let here : segment_of s (marked t segment offset n).marks ≡ put offset (replicate n true) (segment_of s t.marks) =
          subst (λ (c : ℕ). segment_of c (marked t segment offset n).marks ≡ put offset (replicate n true) (segment_of c t.marks)) (sym same) (segment_of-same segment (put offset (replicate n true)) t.marks refl) in
          (elim (put-marks offset n k (segment_of s t.marks) (sym (ap (all_set k 1) here) ∙ set)) [
            | inl was ↦ inl was
            | inr range ↦ inr (same, range.0, range.1)
          ])
      | false ↦ λ e.
          let differ : s ≢ segment = λ same. true≢false (sym (eq-eqb s segment same) ∙ e) in
          inl (sym (ap (all_set k 1) (segment_of-other s segment (put offset (replicate n true)) t.marks differ)) ∙ set)
    ] refl

pub marks-marked : (t : Transaction) (segment offset n s k : ℕ)
    → (all_set k 1 (segment_of s t.marks) ≡ true) ⊎ ((s ≡ segment) × (offset ≤ k) × (k < offset + n) × (k < length (segment_of segment t.marks)))
    → all_set k 1 (segment_of s (marked t segment offset n).marks) ≡ true
marks-marked t segment offset n s k is =
    elim (s == segment) as (λ b. (s == segment) ≡ b → all_set k 1 (segment_of s (marked t segment offset n).marks) ≡ true) [
      | true ↦ λ e.
          let same : s ≡ segment = eqb-true s segment e in
          let here : segment_of s (marked t segment offset n).marks ≡ put offset (replicate n true) (segment_of s t.marks) =
          subst (λ (c : ℕ). segment_of c (marked t segment offset n).marks ≡ put offset (replicate n true) (segment_of c t.marks)) (sym same) (segment_of-same segment (put offset (replicate n true)) t.marks refl) in
          ap (all_set k 1) here ∙ (elim is [
            | inl was ↦ all_set-put k 1 offset n (segment_of s t.marks) was
            | inr range ↦ marks-put offset n k (segment_of s t.marks) range.1 range.2 (subst (λ (c : ℕ). k < length (segment_of c t.marks)) (sym same) range.3)
          ])
      | false ↦ λ e.
          let differ : s ≢ segment = λ same. true≢false (sym (eq-eqb s segment same) ∙ e) in
          ap (all_set k 1) (segment_of-other s segment (put offset (replicate n true)) t.marks differ) ∙ (elim is [
            | inl was ↦ was
            | inr range ↦ absurd (differ range.0)
          ])
    ] refl

-- a stretch is set where each of its positions is
pub each-set : (at n : ℕ) (marks : List Bool) → ((k : ℕ) → at ≤ k → k < at + n → all_set k 1 marks ≡ true) → all_set at n marks ≡ true
each-set at zero marks each = refl
each-set at (suc n) [] each = each at (omega arith) (omega arith)
each-set zero (suc n) (true ∷ marks) each = each-set zero n marks (λ k low high. each (suc k) (omega arith) (omega (arith, high)))
each-set zero (suc n) (false ∷ marks) each = absurd (true≢false (sym (each 0 (omega arith) (omega arith))))
each-set (suc at) (suc n) (m ∷ marks) each = each-set at (suc n) marks (λ k low high. each (suc k) (omega (arith, low)) (omega (arith, high)))

pub set-each : (at n k : ℕ) (marks : List Bool) → all_set at n marks ≡ true → at ≤ k → k < at + n → all_set k 1 marks ≡ true
set-each at zero k marks set low high = absurd (omega (arith, low, high))
set-each at (suc n) k [] set low high = absurd (true≢false (sym set))
set-each zero (suc n) zero (true ∷ marks) set low high = refl
set-each zero (suc n) (suc k) (true ∷ marks) set low high = set-each zero n k marks set (omega arith) (omega (arith, high))
set-each zero (suc n) k (false ∷ marks) set low high = absurd (true≢false (sym set))
set-each (suc at) (suc n) zero (m ∷ marks) set low high = absurd (omega (arith, low))
set-each (suc at) (suc n) (suc k) (m ∷ marks) set low high = set-each at (suc n) k marks set (omega (arith, low)) (omega (arith, high))

-- Bytes

-- what is put on leaves the others
put-other : (offset : ℕ) (items xs : List ℕ) (k : ℕ) → (offset ≤ k → k < offset + length items → ⊥) → slice_index (put offset items xs) k ≡ slice_index xs k
put-other offset items [] k outside = refl
put-other zero [] (x ∷ xs) k outside = refl
put-other zero (i ∷ items) (x ∷ xs) zero outside = absurd (outside (omega arith) (omega arith))
put-other zero (i ∷ items) (x ∷ xs) (suc k) outside = put-other zero items xs k (λ low high. outside (omega arith) (omega (arith, high)))
put-other (suc offset) items (x ∷ xs) zero outside = refl
put-other (suc offset) items (x ∷ xs) (suc k) outside = put-other offset items xs k (λ low high. outside (omega (arith, low)) (omega (arith, high)))

-- lists of one length with the same items
same_list : (xs ys : List ℕ) → length xs ≡ length ys → ((k : ℕ) → slice_index xs k ≡ slice_index ys k) → xs ≡ ys
same_list [] [] long same = refl
same_list [] (y ∷ ys) long same = absurd (omega (arith, long))
same_list (x ∷ xs) [] long same = absurd (omega (arith, long))
same_list (x ∷ xs) (y ∷ ys) long same =
    let first : x ≡ y = same 0 in
    let shorter : length xs ≡ length ys = omega (arith, long) in
    let others : xs ≡ ys = same_list xs ys shorter (λ k. same (suc k)) in
    cc

-- one write more
pub writes-more : (ws : List ByteWrite) (w : ByteWrite) (content : Content) → writes_on (ws ++ w ∷ []) content ≡ on_segment w.segment (put w.offset w.bytes) (writes_on ws content)
writes-more [] w content = refl
writes-more (v ∷ ws) w content = writes-more ws w (on_segment v.segment (put v.offset v.bytes) content)

shape-writes : (ws : List ByteWrite) (content : Content) → map length (writes_on ws content) ≡ map length content
shape-writes [] content = refl
shape-writes (w ∷ ws) content =
    shape-writes ws (on_segment w.segment (put w.offset w.bytes) content) ∙ shape-on_segment w.segment (put w.offset w.bytes) content (length-put w.offset w.bytes)

-- what is not written has the content's bytes
pub unwritten : (locked : List ℕ) (s : ℕ) (ws : List ByteWrite) (content : Content) → All (λ w. IsTrue (is_member w.segment locked)) ws → is_member s locked ≡ false
    → segment_of s (writes_on ws content) ≡ segment_of s content
unwritten locked s [] content all none = refl
unwritten locked s (w ∷ ws) content all none =
    let here : is_member w.segment locked ≡ true = All-head (λ (v : ByteWrite). IsTrue (is_member v.segment locked)) w ws all in
    let differ : s ≢ w.segment = λ same. true≢false (sym here ∙ subst (λ (n : ℕ). is_member n locked ≡ false) same none) in
    unwritten locked s ws (on_segment w.segment (put w.offset w.bytes) content) (All-tail (λ (v : ByteWrite). IsTrue (is_member v.segment locked)) w ws all) none
    ∙ segment_of-other s w.segment (put w.offset w.bytes) content differ

-- no position of an empty list is marked
no_marks : (k : ℕ) → all_set k 1 [] ≡ false
no_marks zero = refl
no_marks (suc k) = refl

-- nothing is marked in a transaction that has just begun
none_marked : (s k : ℕ) (content : Content) → all_set k 1 (segment_of s (unmarked content)) ≡ false
none_marked s k [] = no_marks k
none_marked zero k (bytes ∷ content) = no_marks k
none_marked (suc zero) k (bytes ∷ content) = unset k (length bytes)
  where
    unset : (k n : ℕ) → all_set k 1 (replicate n false) ≡ false
    unset zero zero = refl
    unset (suc k) zero = refl
    unset zero (suc n) = refl
    unset (suc k) (suc n) = unset k n
none_marked (suc (suc i)) k (bytes ∷ content) = none_marked (suc i) k content

-- Options

some_or_none : (o : Option ℕ) → ((b : ℕ) × (o ≡ Some b)) ⊎ (o ≡ None)
some_or_none None = inr refl
some_or_none (Some b) = inl (b, refl)

is_some_of : (o : Option ℕ) (b : ℕ) → o ≡ Some b → IsSome o
is_some_of None b same = absurd cc
is_some_of (Some c) b same = refl

-- The steps

module _ {I : Type 0} (m : Ghosts I) where
  same_shown : (old new : I) (tx : Tx) (s : ℕ) → RunsOn m old tx → IsSame m old new → Holds tx s → bytes_of m new s ≡ bytes_of m old s
  same_shown old new tx s runs same held = ap (λ image. image.bytes.items) (same.others s (held_here m old tx s runs held) refl)

  -- the length of a segment's marks is that of its bytes
  marks_length : (images : I) (tx : Tx) (content : Content) (t : Transaction) (s : ℕ) → StandsFor m images tx content t → Locked tx s
      → length (bytes_of m images s) ≡ length (segment_of s t.marks)
  marks_length images tx content t s is lock =
      ap length (is.shown s (locked_holds tx s lock)) ∙ length-written_segment s t.writes content ∙ sym (shape_at s t.marks content is.shape)

  pub same_stands : (old new : I) (tx : Tx) (content : Content) (t : Transaction)
      → StandsFor m old tx content t → RunsOn m old tx → IsSame m old new → StandsFor m new tx content t
  same_stands old new tx content t is runs same = record {
    thread_is = is.thread_is;
    locked_are = is.locked_are;
    reading_are = is.reading_are;
    well_formed = is.well_formed;
    shape = is.shape;
    inside = is.inside;
    set_is = is.set_is;
    shown = λ s held. same_shown old new tx s runs same held ∙ is.shown s held;
    all_kept = is.all_kept;
    kept_is = λ s k lock. ap (λ bytes. unwrap_or (kept tx.undo s k) (slice_index bytes k)) (same_shown old new tx s runs same (locked_holds tx s lock)) ∙ is.kept_is s k lock;
  }

  pub range_stands : (images later : I) (old new : Tx) (segment offset len : ℕ) (content : Content) (t : Transaction)
      → StandsFor m images old content t → Locked old segment → SetsRange m images old segment offset len new
      → IsSame m images later → RunsOn m images old → RunsOn m later new
      → StandsFor m later new content (marked t segment offset len)
  range_stands images later old new segment offset len content t is lock sets same runs after = record {
    thread_is = is.thread_is ∙ sym sets.same_thread;
    locked_are = is.locked_are ∙ sym locks_are;
    reading_are = is.reading_are ∙ sym reading_are;
    well_formed = well-marked t segment offset len is.well_formed (ap (is_member segment) is.locked_are ∙ lock);
    shape = shape-on_segment segment (put offset (replicate len true)) t.marks (length-put offset (replicate len true)) ∙ is.shape;
    inside = λ s held. is.inside s (was_held s held);
    set_is = λ s k. (to s k, from s k);
    shown = λ s held. same_shown images later old s runs same (was_held s held) ∙ is.shown s (was_held s held);
    all_kept = λ s k has. elim (some_or_none (kept old.undo s k)) [
      | inl some ↦ is_some_of (kept new.undo s k) some.0 (sets.keeps.first s k some.0 some.1)
      | inr none ↦ elim ((sets.adds s k).0 has) [
        | inl has_old ↦ absurd (none_is_not_some (kept old.undo s k) none (is.all_kept s k has_old))
        | inr range ↦ is_some_of (kept new.undo s k) (slice_index (bytes_of m images segment) k) (fresh s k none range.0 range.1 range.2)
      ]
    ];
    kept_is = λ s k locked. kept_still s k (was s locked);
  }
    where
      locks_are : new.locked.items ≡ old.locked.items
      locks_are = ap (λ locked. locked.items) sets.same_locks

      reading_are : new.reading.items ≡ old.reading.items
      reading_are = ap (λ reading. reading.items) sets.same_reading

      was : (s : ℕ) → Locked new s → Locked old s
      was s locked = sym (ap (is_member s) locks_are) ∙ locked

      was_held : (s : ℕ) → Holds new s → Holds old s
      was_held s held = elim (held_cases new s held) [
        | inl locked ↦ locked_holds old s (was s locked)
        | inr read ↦ reads_holds old s (sym (ap (is_member s) reading_are) ∙ read)
      ]

      not_set : (s k : ℕ) → kept old.undo s k ≡ None → Has old.set s k → ⊥
      not_set s k none has = none_is_not_some (kept old.undo s k) none (is.all_kept s k has)

      fresh : (s k : ℕ) → kept old.undo s k ≡ None → s ≡ segment → offset ≤ k → k < offset + len → kept new.undo s k ≡ Some (slice_index (bytes_of m images segment) k)
      fresh s k none here low high =
          let at : kept old.undo segment k ≡ None = sym (ap (λ n. kept old.undo n k) here) ∙ none in
          ap (λ n. kept new.undo n k) here ∙ sets.keeps.fresh k at low high (λ has. not_set segment k at has)

      to : (s k : ℕ) → Has new.set s k → all_set k 1 (segment_of s (marked t segment offset len).marks) ≡ true
      to s k has = marks-marked t segment offset len s k (elim ((sets.adds s k).0 has) [
        | inl has_old ↦ inl ((is.set_is s k).0 has_old)
        | inr range ↦ inr (range.0, range.1, range.2, inside_marks (subst (λ (n : ℕ). Has new.set n k) range.0 has))
      ])
        where
          inside_marks : Has new.set segment k → k < length (segment_of segment t.marks)
          inside_marks has =
              let bound : k < length (bytes_of m later segment) = after.set_inside segment k has in
              let long : length (bytes_of m later segment) ≡ length (segment_of segment t.marks) =
              ap length (same_shown images later old segment runs same (locked_holds old segment lock)) ∙ marks_length images old content t segment is lock in
              subst (λ (n : ℕ). k < n) long bound

      from : (s k : ℕ) → all_set k 1 (segment_of s (marked t segment offset len).marks) ≡ true → Has new.set s k
      from s k set = (sets.adds s k).1 (elim (marked-marks t segment offset len s k set) [
        | inl was_set ↦ inl ((is.set_is s k).1 was_set)
        | inr range ↦ inr range
      ])

      kept_still : (s k : ℕ) → Locked old s → unwrap_or (kept new.undo s k) (slice_index (bytes_of m later s) k) ≡ slice_index (segment_of s content) k
      kept_still s k held =
          let bytes : bytes_of m later s ≡ bytes_of m images s = same_shown images later old s runs same (locked_holds old s held) in
          let before : unwrap_or (kept old.undo s k) (slice_index (bytes_of m images s) k) ≡ slice_index (segment_of s content) k = is.kept_is s k held in
          elim (some_or_none (kept old.undo s k)) [
            | inl some ↦
                ap (λ o. unwrap_or o (slice_index (bytes_of m later s) k)) (sets.keeps.first s k some.0 some.1)
                ∙ sym (ap (λ o. unwrap_or o (slice_index (bytes_of m images s) k)) some.1) ∙ before
            | inr none ↦
                let own : slice_index (bytes_of m images s) k ≡ slice_index (segment_of s content) k = sym (ap (λ o. unwrap_or o (slice_index (bytes_of m images s) k)) none) ∙ before in
                elim (cases_in s k) [
                  | inl range ↦
                      ap (λ o. unwrap_or o (slice_index (bytes_of m later s) k)) (fresh s k none range.0 range.1 range.2)
                      ∙ ap (λ n. slice_index (bytes_of m images n) k) (sym range.0) ∙ own
                  | inr outside ↦
                      ap (λ o. unwrap_or o (slice_index (bytes_of m later s) k)) (sets.keeps.others s k none (λ e low high. absurd (outside e low high)))
                      ∙ ap (λ b. slice_index b k) bytes ∙ own
                ]
          ]
        where
          cases_in : (s k : ℕ) → ((s ≡ segment) × (offset ≤ k) × (k < offset + len)) ⊎ (s ≡ segment → offset ≤ k → k < offset + len → ⊥)
          cases_in s k = elim (s == segment) as (λ b. (s == segment) ≡ b → ((s ≡ segment) × (offset ≤ k) × (k < offset + len)) ⊎ (s ≡ segment → offset ≤ k → k < offset + len → ⊥)) [
            | true ↦ λ e. elim (cases_lt k offset) [
              | inl less ↦ inr (λ same low high. omega (arith, less, low))
              | inr low ↦ elim (cases_lt k (offset + len)) [
                | inl high ↦ inl (eqb-true s segment e, low, high)
                | inr past ↦ inr (λ same low high. omega (arith, past, high))
              ]
            ]
            | false ↦ λ e. inr (λ same low high. true≢false (sym (eq-eqb s segment same) ∙ e))
          ] refl

  -- positions of a segment that is not locked are not set
  pub positions_set : (images : I) (tx : Tx) (content : Content) (t : Transaction) (segment offset n : ℕ)
      → StandsFor m images tx content t → AreSet tx segment offset n ↔ (all_set offset n (segment_of segment t.marks) ≡ true)
  positions_set images tx content t segment offset n is = (
    (λ set. each-set offset n (segment_of segment t.marks) (λ k low high. (is.set_is segment k).0 (set k low high))),
    (λ set k low high. (is.set_is segment k).1 (set-each offset n k (segment_of segment t.marks) set low high)),
  )

  pub write_stands : (old new : I) (tx : Tx) (segment offset : ℕ) (bytes : List ℕ) (content : Content) (t : Transaction)
      → StandsFor m old tx content t → RunsOn m old tx → Locked tx segment → AreSet tx segment offset (length bytes)
      → IsWritten m old segment offset bytes new → StandsFor m new tx content (written t segment offset bytes)
  write_stands old new tx segment offset bytes content t is runs lock set wrote = record {
    thread_is = is.thread_is;
    locked_are = is.locked_are;
    reading_are = is.reading_are;
    well_formed = well-written t segment offset bytes is.well_formed (ap (is_member segment) is.locked_are ∙ lock)
        ((positions_set old tx content t segment offset (length bytes) is).0 set);
    shape = is.shape;
    inside = is.inside;
    set_is = is.set_is;
    shown = λ s held. shown_at s held;
    all_kept = is.all_kept;
    kept_is = λ s k held. kept_at s k held;
  }
    where
      one_more : (s : ℕ) → segment_of s (effect (written t segment offset bytes) content) ≡ segment_of s (on_segment segment (put offset bytes) (effect t content))
      one_more s = ap (segment_of s) (writes-more t.writes (record { segment = segment; offset = offset; bytes = bytes }) content)

      other_bytes : (s : ℕ) → Holds tx s → s ≢ segment → bytes_of m new s ≡ bytes_of m old s
      other_bytes s held differ = ap (λ image. image.bytes.items) (wrote.same.others s (held_here m old tx s runs held) (not_member s differ))
        where
          not_member : (n : ℕ) → n ≢ segment → is_member n (segment ∷ []) ≡ false
          not_member n apart = (let other : segment ≢ n = λ same. apart (sym same) in rw (ne_eqb segment n other) refl)

      shown_at : (s : ℕ) → Holds tx s → bytes_of m new s ≡ segment_of s (effect (written t segment offset bytes) content)
      shown_at s held = elim (s == segment) as (λ b. (s == segment) ≡ b → bytes_of m new s ≡ segment_of s (effect (written t segment offset bytes) content)) [
        | true ↦ λ e.
            let same : segment ≡ s = sym (eqb-true s segment e) in
            subst (λ (n : ℕ). bytes_of m new n ≡ segment_of n (effect (written t segment offset bytes) content)) same
            (wrote.bytes_are ∙ ap (put offset bytes) (is.shown segment (locked_holds tx segment lock))
            ∙ sym (segment_of-same segment (put offset bytes) (effect t content) refl) ∙ sym (one_more segment))
        | false ↦ λ e.
            let differ : s ≢ segment = λ same. true≢false (sym (eq-eqb s segment same) ∙ e) in
            other_bytes s held differ ∙ is.shown s held
            ∙ sym (segment_of-other s segment (put offset bytes) (effect t content) differ) ∙ sym (one_more s)
      ] refl

      kept_at : (s k : ℕ) → Locked tx s → unwrap_or (kept tx.undo s k) (slice_index (bytes_of m new s) k) ≡ slice_index (segment_of s content) k
      kept_at s k held = elim (some_or_none (kept tx.undo s k)) [
        | inl some ↦
            ap (λ o. unwrap_or o (slice_index (bytes_of m new s) k)) some.1
            ∙ sym (ap (λ o. unwrap_or o (slice_index (bytes_of m old s) k)) some.1) ∙ is.kept_is s k held
        | inr none ↦
            ap (λ b. unwrap_or (kept tx.undo s k) b) (unchanged none) ∙ is.kept_is s k held
      ]
        where
          unchanged : kept tx.undo s k ≡ None → slice_index (bytes_of m new s) k ≡ slice_index (bytes_of m old s) k
          unchanged none = elim (s == segment) as (λ b. (s == segment) ≡ b → slice_index (bytes_of m new s) k ≡ slice_index (bytes_of m old s) k) [
            | true ↦ λ e.
                let same : s ≡ segment = eqb-true s segment e in
                ap (λ n. slice_index (bytes_of m new n) k) same ∙ ap (λ b. slice_index b k) wrote.bytes_are
                ∙ put-other offset bytes (bytes_of m old segment) k (λ low high.
                let at : kept tx.undo segment k ≡ None = sym (ap (λ n. kept tx.undo n k) same) ∙ none in
                none_is_not_some (kept tx.undo segment k) at (is.all_kept segment k (set k low high)))
                ∙ ap (λ n. slice_index (bytes_of m old n) k) (sym same)
            | false ↦ λ e.
                let differ : s ≢ segment = λ same. true≢false (sym (eq-eqb s segment same) ∙ e) in
                ap (λ b. slice_index b k) (other_bytes s (locked_holds tx s held) differ)
          ] refl

  pub content_back : (old new : I) (tx : Tx) (content : Content) (t : Transaction) (segment : ℕ)
      → StandsFor m old tx content t → AreRestored m tx.undo tx.thread tx.locked.items tx.reading.items old new → Locked tx segment
      → bytes_of m new segment ≡ segment_of segment content
  content_back old new tx content t segment is restored lock =
      same_list (bytes_of m new segment) (segment_of segment content)
      (restored.same_length segment lock ∙ ap length (is.shown segment (locked_holds tx segment lock)) ∙ length-written_segment segment t.writes content)
      (λ k. restored.bytes_are segment k lock ∙ is.kept_is segment k lock)

  -- what it locked for reading shows the content
  pub read_shown : (images : I) (tx : Tx) (content : Content) (t : Transaction) (segment : ℕ)
      → StandsFor m images tx content t → RunsOn m images tx → Reads tx segment → bytes_of m images segment ≡ segment_of segment content
  read_shown images tx content t segment is runs read =
      is.shown segment (reads_holds tx segment read)
      ∙ unwritten t.locked segment t.writes content is.well_formed.write_locked (ap (is_member segment) is.locked_are ∙ read_apart m images tx segment runs read)

  pub begun_stands : (old new : I) (thread node : ℕ) (segments reading : List ℕ) (tx : Tx) (content : Content)
      → Begins m thread segments reading old new tx → Show m old (segments ++ reading) content → StandsFor m new tx content (begun_on content node tx)
  begun_stands old new thread node segments reading tx content begins show = record {
    thread_is = refl;
    locked_are = refl;
    reading_are = refl;
    well_formed = record {
      set_locked = λ s place set. absurd (true≢false (sym set ∙ none_marked s place content));
      write_locked = All-nil (λ (w : ByteWrite). _);
      write_set = All-nil (λ (w : ByteWrite). _);
    };
    shape = same_shape content;
    inside = λ s held. show.inside s (asked s held);
    set_is = λ s k. (
      (λ has. absurd (subst (λ (set : List Range). Has set s k) begins.nothing_set has)),
      (λ set. absurd (true≢false (sym set ∙ none_marked s k content))),
    );
    shown = λ s held. shown_at s held;
    all_kept = λ s k has. absurd (subst (λ (set : List Range). Has set s k) begins.nothing_set has);
    kept_is = λ s k lock. ap (λ copies. unwrap_or (kept copies s k) (slice_index (bytes_of m new s) k)) begins.nothing_kept ∙ ap (λ b. slice_index b k) (shown_at s (locked_holds tx s lock));
  }
    where
      asked : (s : ℕ) → Holds tx s → is_member s (segments ++ reading) ≡ true
      asked s held = elim (held_cases tx s held) [
        | inl lock ↦ in_first s segments reading (asked_writing m old new thread segments reading tx begins s lock)
        | inr read ↦ in_second s segments reading (asked_reading m old new thread segments reading tx begins s read)
      ]

      shown_at : (s : ℕ) → Holds tx s → bytes_of m new s ≡ segment_of s content
      shown_at s held = begins.held.same_bytes s (member_both s tx.locked.items tx.reading.items ∙ held) ∙ show.shown s (asked s held)

      same_shape : (xs : Content) → map length (unmarked xs) ≡ map length xs
      same_shape [] = refl
      same_shape (x ∷ xs) = ap (λ n. n ∷ map length (unmarked xs)) (replicated (length x)) ∙ ap (λ l. length x ∷ l) (same_shape xs)
        where
          replicated : (n : ℕ) → length (replicate n false) ≡ n
          replicated zero = refl
          replicated (suc n) = ap suc (replicated n)

  -- The set and the marks

  runs_are : (images : I) (tx : Tx) (content : Content) (t : Transaction) → IsCanonical tx.set → StandsFor m images tx content t → tx.set ≡ runs_of 1 t.marks
  runs_are images tx content t canonical is = set_is_runs tx.set t.marks canonical is.set_is

  pub empty_set : (images : I) (tx : Tx) (content : Content) (t : Transaction) → IsCanonical tx.set
      → StandsFor m images tx content t → (tx.set ≡ []) ↔ (is_empty t.marks ≡ true)
  empty_set images tx content t canonical is =
      let runs : tx.set ≡ runs_of 1 t.marks = runs_are images tx content t canonical is in
      let count : length (runs_of 1 t.marks) ≡ ranges t.marks = count_all 1 t.marks in (
        (λ none. eq-eqb (ranges t.marks) 0 (sym count ∙ ap length (sym runs ∙ none))),
        (λ empty. no_items tx.set (ap length runs ∙ count ∙ eqb-true (ranges t.marks) 0 empty)),
      )
    where
      no_items : (xs : List Range) → length xs ≡ 0 → xs ≡ []
      no_items [] none = refl
      no_items (x ∷ xs) none = absurd (omega (arith, none))

  pub more_runs : (images : I) (tx : Tx) (segment offset len : ℕ) (content : Content) (t : Transaction)
      → StandsFor m images tx content t → Locked tx segment → offset + len ≤ length (bytes_of m images segment)
      → NeedsRunsAbove 64 tx.set segment offset len ↔ (64 < ranges (marked t segment offset len).marks)
  more_runs images tx segment offset len content t is lock fits = (
    (λ needs.
        let same : needs.0 ≡ runs_of 1 (marked t segment offset len).marks = set_is_runs needs.0 (marked t segment offset len).marks needs.1 (positions needs.0 needs.2) in
        subst (λ (n : ℕ). 64 < n) (ap length same ∙ count_all 1 (marked t segment offset len).marks) needs.3),
    (λ many. (runs_of 1 (marked t segment offset len).marks, canonical_all 1 (marked t segment offset len).marks, adds, subst (λ (n : ℕ). 64 < n) (sym (count_all 1 (marked t segment offset len).marks)) many)),
  )
    where
      long : length (bytes_of m images segment) ≡ length (segment_of segment t.marks)
      long = marks_length images tx content t segment is lock

      positions : (runs : List Range) → AddsPositions tx.set segment offset len runs → (s k : ℕ) → Has runs s k ↔ (all_set k 1 (segment_of s (marked t segment offset len).marks) ≡ true)
      positions runs adds s k = (
        (λ has. marks-marked t segment offset len s k (elim ((adds s k).0 has) [
          | inl old ↦ inl ((is.set_is s k).0 old)
          | inr range ↦ inr (range.0, range.1, range.2, let less : k < length (bytes_of m images segment) = omega (arith, range.2, fits) in subst (λ (n : ℕ). k < n) long less)
        ])),
        (λ set. (adds s k).1 (elim (marked-marks t segment offset len s k set) [
          | inl old ↦ inl ((is.set_is s k).1 old)
          | inr range ↦ inr range
        ])),
      )

      adds : AddsPositions tx.set segment offset len (runs_of 1 (marked t segment offset len).marks)
      adds s k = (
        (λ has. elim (marked-marks t segment offset len s k ((has_positions (marked t segment offset len).marks s k).0 has)) [
          | inl old ↦ inl ((is.set_is s k).1 old)
          | inr range ↦ inr range
        ]),
        (λ has. (has_positions (marked t segment offset len).marks s k).1 (marks-marked t segment offset len s k (elim has [
          | inl old ↦ inl ((is.set_is s k).0 old)
          | inr range ↦ inr (range.0, range.1, range.2, let less : k < length (bytes_of m images segment) = omega (arith, range.2, fits) in subst (λ (n : ℕ). k < n) long less)
        ]))),
      )

  pub record_stands : (images : I) (tx : Tx) (numbers : ℕ → ℕ) (content : Content) (t : Transaction) → IsCanonical tx.set
      → StandsFor m images tx content t → AreNumbers m images tx numbers → final_record m images tx t.node ≡ record_of numbers content t
  record_stands images tx numbers content t canonical is are =
      ap (λ set. record { node = t.node; locks = map (λ (s : ℕ). record { segment = s; seq = next_number m images s }) (segments_of set); ranges = map (data_in (bytes_of m images)) set })
      (runs_are images tx content t canonical is)
      ∙ ap (λ locks. record { node = t.node; locks = locks; ranges = map (data_in (bytes_of m images)) (runs_of 1 t.marks) })
      (record_locks (next_number m images) numbers t.marks (λ s k set. ap (λ o. unwrap_or o 0 + 1) (are s (locked s k set))))
      ∙ ap (λ laid. record { node = t.node; locks = locks_of numbers 1 t.marks; ranges = laid })
      (record_ranges (bytes_of m images) t.marks (effect t content) shape (λ s k set. is.shown s (locked_holds tx s (locked s k set))))
    where
      locked : (s k : ℕ) → all_set k 1 (segment_of s t.marks) ≡ true → Locked tx s
      locked s k set = sym (ap (is_member s) is.locked_are) ∙ is.well_formed.set_locked s k set

      shape : map length t.marks ≡ map length (effect t content)
      shape = is.shape ∙ sym (shape-writes t.writes content)
