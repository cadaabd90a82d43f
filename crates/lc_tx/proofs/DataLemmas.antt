-- The record of a set's runs is that of the marks.
use Rattle.std.proofs.Common.{◌≡◌, ◌≢◌, ℕ, zero, suc, ◌+◌, ◌≤◌, Bool, true, false, not, ◌==◌, List, [], ◌∷◌, ◌++◌, map, length, take, drop, refl, sym, ◌∙◌, ap, subst, arith, inl, eqb-true, eq-eqb, ne_eqb, add-one}
use Rattle.std.specs.Prelude.{if◌then◌else◌}
use Rattle.std.proofs.lemmas.List.{map-append}
use Rattle.lc_record.specs.Content.{Content, segment_of}
use Rattle.lc_record.specs.Transaction.{Marks, all_set}
use Rattle.lc_record.specs.Recorded.{with_byte, ranges_from, ranges_of, locks_of}
use Rattle.lc_record.specs.declared.record.Lock.{Lock}
use Rattle.lc_record.specs.declared.record.RangeData.{RangeData}
use Rattle.lc_range.specs.RangeSet.{Has}
use Rattle.lc_range.specs.declared.range.Range.{Range}
use Rattle.lc_tx.specs.Prepared.{with_number, segments_of}
use Rattle.lc_tx.proofs.MarkLemmas.{with_position, runs_from, runs_of, AreFrom, AreAbove, from_runs, above_runs, has_marks, count_runs}

-- a run with the bytes that its segment has there
abbrev pub data_in : (ℕ → List ℕ) → Range → RangeData
data_in bytes run = record { segment = run.segment; offset = run.offset; bytes = take run.len (drop run.offset (bytes run.segment)) }

abbrev data_of : List ℕ → Range → RangeData
data_of whole run = record { segment = run.segment; offset = run.offset; bytes = take run.len (drop run.offset whole) }

-- One segment

drop_next : (offset byte : ℕ) (whole rest : List ℕ) → drop offset whole ≡ byte ∷ rest → drop (suc offset) whole ≡ rest
drop_next zero byte [] rest same = absurd cc
drop_next zero byte (x ∷ xs) rest same = cc
drop_next (suc offset) byte [] rest same = absurd cc
drop_next (suc offset) byte (x ∷ xs) rest same = drop_next offset byte xs rest same

data-position : (segment offset byte : ℕ) (whole rest : List ℕ) (runs : List Range) → drop offset whole ≡ byte ∷ rest
    → map (data_of whole) (with_position segment offset runs) ≡ with_byte segment offset byte (map (data_of whole) runs)
data-position segment offset byte whole rest [] here = rw here refl
data-position segment offset byte whole rest (run ∷ runs) here =
    elim (run.offset == offset + 1) as (λ b. (run.offset == offset + 1) ≡ b → map (data_of whole) (if b then record { segment = segment; offset = offset; len = run.len + 1 } ∷ runs else record { segment = segment; offset = offset; len = 1 } ∷ (run ∷ runs))
    ≡ (if b then record { segment = segment; offset = offset; bytes = byte ∷ take run.len (drop run.offset whole) } ∷ map (data_of whole) runs else record { segment = segment; offset = offset; bytes = byte ∷ [] } ∷ (data_of whole run ∷ map (data_of whole) runs))) [
      | true ↦ λ e.
          let touches : run.offset ≡ suc offset = eqb-true run.offset (offset + 1) e ∙ add-one offset in
          let behind : drop run.offset whole ≡ rest = ap (λ n. drop n whole) touches ∙ drop_next offset byte whole rest here in
          let longer : take (run.len + 1) (drop offset whole) ≡ byte ∷ take run.len (drop run.offset whole) =
          ap (λ n. take n (drop offset whole)) (add-one run.len) ∙ ap (take (suc run.len)) here ∙ ap (λ l. byte ∷ take run.len l) (sym behind) in
          ap (λ l. record { segment = segment; offset = offset; bytes = l } ∷ map (data_of whole) runs) longer
      | false ↦ λ e. ap (λ l. record { segment = segment; offset = offset; bytes = take 1 l } ∷ map (data_of whole) (run ∷ runs)) here
    ] refl

data-from : (segment offset : ℕ) (marks : List Bool) (whole bytes : List ℕ) → drop offset whole ≡ bytes → length marks ≡ length bytes
    → map (data_of whole) (runs_from segment offset marks) ≡ ranges_from segment offset marks bytes
data-from segment offset [] whole bytes here long = refl
data-from segment offset (mark ∷ marks) whole [] here long = absurd (omega (arith, long))
data-from segment offset (true ∷ marks) whole (byte ∷ bytes) here long =
    let next : drop (offset + 1) whole ≡ bytes = ap (λ n. drop n whole) (add-one offset) ∙ drop_next offset byte whole bytes here in
    let shorter : length marks ≡ length bytes = omega (arith, long) in
    data-position segment offset byte whole bytes (runs_from segment (offset + 1) marks) here
    ∙ ap (with_byte segment offset byte) (data-from segment (offset + 1) marks whole bytes next shorter)
data-from segment offset (false ∷ marks) whole (byte ∷ bytes) here long =
    let next : drop (offset + 1) whole ≡ bytes = ap (λ n. drop n whole) (add-one offset) ∙ drop_next offset byte whole bytes here in
    let shorter : length marks ≡ length bytes = omega (arith, long) in
    data-from segment (offset + 1) marks whole bytes next shorter

-- the segment's bytes are these, if it has a run
data-same : (bytes : ℕ → List ℕ) (segment offset : ℕ) (whole : List ℕ) (runs : List Range) → AreFrom segment offset runs
    → ((k : ℕ) → Has runs segment k → bytes segment ≡ whole) → map (data_in bytes) runs ≡ map (data_of whole) runs
data-same bytes segment offset whole [] are same = refl
data-same bytes segment offset whole (run ∷ runs) are same =
    let own : bytes segment ≡ whole = same run.offset (inl (sym are.0, omega arith, omega (arith, are.2))) in
    let here : bytes run.segment ≡ whole = ap bytes are.0 ∙ own in
    ap (λ l. record { segment = run.segment; offset = run.offset; bytes = take run.len (drop run.offset l) } ∷ map (data_in bytes) runs) here
    ∙ ap (λ l. data_of whole run ∷ l) (data-same bytes segment offset whole runs are.3 (λ k has. own))

-- All segments

data-all : (bytes : ℕ → List ℕ) (first : ℕ) (marks : Marks) (content : Content) → map length marks ≡ map length content
    → ((i k : ℕ) → all_set k 1 (segment_of (suc i) marks) ≡ true → bytes (first + i) ≡ segment_of (suc i) content)
    → map (data_in bytes) (runs_of first marks) ≡ ranges_of first marks content
data-all bytes first [] content shape same = refl
data-all bytes first (m ∷ ms) [] shape same = absurd cc
data-all bytes first (m ∷ ms) (b ∷ bs) shape same =
    let long : length m ≡ length b = cc in
    let behind : map length ms ≡ map length bs = cc in
    let zero_more : first + 0 ≡ first = omega arith in
    let own : (k : ℕ) → Has (runs_from first 0 m) first k → bytes first ≡ b = λ k has. ap bytes (sym zero_more) ∙ same 0 k ((has_marks first first k m).0 has).1 in
    let later : (i k : ℕ) → all_set k 1 (segment_of (suc i) ms) ≡ true → bytes (first + 1 + i) ≡ segment_of (suc i) bs =
    λ i k set. ap bytes (next first i) ∙ same (suc i) k set in
    map-append (data_in bytes) (runs_from first 0 m) (runs_of (first + 1) ms)
    ∙ ap (λ l. l ++ map (data_in bytes) (runs_of (first + 1) ms)) (data-same bytes first 0 b (runs_from first 0 m) (from_runs first 0 m) own ∙ data-from first 0 m b b refl long)
    ∙ ap (λ l. ranges_from first 0 m b ++ l) (data-all bytes (first + 1) ms bs behind later)
  where
    next : (first i : ℕ) → first + 1 + i ≡ first + suc i
    next first i = omega arith

-- the data of the runs of marks, where each segment with a mark has the content's bytes
pub record_ranges : (bytes : ℕ → List ℕ) (marks : Marks) (content : Content) → map length marks ≡ map length content
    → ((segment k : ℕ) → all_set k 1 (segment_of segment marks) ≡ true → bytes segment ≡ segment_of segment content)
    → map (data_in bytes) (runs_of 1 marks) ≡ ranges_of 1 marks content
record_ranges bytes marks content shape same =
    data-all bytes 1 marks content shape (λ i k set. let one : 1 + i ≡ suc i = omega arith in ap bytes one ∙ same (suc i) k set)

-- Locks

-- the first of these segments is that of the first run
above_numbers : (segment : ℕ) (runs : List Range) → AreAbove (segment + 1) runs → with_number segment (segments_of runs) ≡ segment ∷ segments_of runs
above_numbers segment [] above = refl
above_numbers segment (run ∷ runs) above = in_front segment run.segment (segments_of runs) above.0
  where
    in_front : (n m : ℕ) (numbers : List ℕ) → n + 1 ≤ m → with_number n (with_number m numbers) ≡ n ∷ with_number m numbers
    in_front n m [] less = (let differ : n ≢ m = omega arith in rw (ne_eqb n m differ) refl)
    in_front n m (next ∷ numbers) less =
        let differ : n ≢ m = omega arith in
        elim (m == next) as (λ b. (m == next) ≡ b → with_number n (if b then next ∷ numbers else m ∷ next ∷ numbers) ≡ n ∷ (if b then next ∷ numbers else m ∷ next ∷ numbers)) [
          | true ↦ λ e. let same : m ≡ next = eqb-true m next e in let other : n ≢ next = omega arith in rw (ne_eqb n next other) refl
          | false ↦ λ e. rw (ne_eqb n m differ) refl
        ] refl

abbrev is_none : List Range → Bool
is_none [] = true
is_none (run ∷ runs) = false

none_counted : (runs : List Range) → is_none runs ≡ (length runs == 0)
none_counted [] = refl
none_counted (run ∷ runs) = (let some : length (run ∷ runs) ≢ 0 = omega arith in sym (ne_eqb (length (run ∷ runs)) 0 some))

segments_joined : (segment offset : ℕ) (xs ys : List Range) → AreFrom segment offset xs → AreAbove (segment + 1) ys
    → segments_of (xs ++ ys) ≡ (if is_none xs then segments_of ys else segment ∷ segments_of ys)
segments_joined segment offset [] ys are above = refl
segments_joined segment offset (x ∷ []) ys are above = rw (are.0) (above_numbers segment ys above)
segments_joined segment offset (x ∷ (y ∷ xs)) ys are above =
    rw (are.0) (ap (with_number segment) (segments_joined segment offset (y ∷ xs) ys are.3 above) ∙ rw (eq-eqb segment segment refl) refl)

locks-all : (next numbers : ℕ → ℕ) (first : ℕ) (marks : Marks)
    → ((i k : ℕ) → all_set k 1 (segment_of (suc i) marks) ≡ true → next (first + i) ≡ numbers (first + i) + 1)
    → map (λ (s : ℕ). record { segment = s; seq = next s }) (segments_of (runs_of first marks)) ≡ locks_of numbers first marks
locks-all next numbers first [] same = refl
locks-all next numbers first (m ∷ ms) same =
    let later : (i k : ℕ) → all_set k 1 (segment_of (suc i) ms) ≡ true → next (first + 1 + i) ≡ numbers (first + 1 + i) + 1 =
    λ i k set. let moved : first + suc i ≡ first + 1 + i = omega arith in subst (λ (n : ℕ). next n ≡ numbers n + 1) moved (same (suc i) k set) in
    let behind : map lock (segments_of (runs_of (first + 1) ms)) ≡ locks_of numbers (first + 1) ms = locks-all next numbers (first + 1) ms later in
    let zero_more : first + 0 ≡ first = omega arith in
    let number : (k : ℕ) → all_set k 1 m ≡ true → next first ≡ numbers first + 1 = λ k set. subst (λ (n : ℕ). next n ≡ numbers n + 1) zero_more (same 0 k set) in
    ap (map lock) (segments_joined first 0 (runs_from first 0 m) (runs_of (first + 1) ms) (from_runs first 0 m) (above_runs (first + 1) ms))
    ∙ by_marks (runs_from first 0 m) (from_runs first 0 m) (λ k has. ((has_marks first first k m).0 has).1) number behind
    ∙ ap (λ b. if not b then lock_of numbers first ∷ locks_of numbers (first + 1) ms else locks_of numbers (first + 1) ms) (none_counted (runs_from first 0 m) ∙ ap (λ n. n == 0) (count_runs first m))
  where
    lock : ℕ → Lock
    lock s = record { segment = s; seq = next s }

    lock_of : (ℕ → ℕ) → ℕ → Lock
    lock_of numbers s = record { segment = s; seq = numbers s + 1 }

    by_marks : (runs : List Range) → AreFrom first 0 runs → ((k : ℕ) → Has runs first k → all_set k 1 m ≡ true) → ((k : ℕ) → all_set k 1 m ≡ true → next first ≡ numbers first + 1)
        → map lock (segments_of (runs_of (first + 1) ms)) ≡ locks_of numbers (first + 1) ms
        → map lock (if is_none runs then segments_of (runs_of (first + 1) ms) else first ∷ segments_of (runs_of (first + 1) ms))
        ≡ (if not (is_none runs) then lock_of numbers first ∷ locks_of numbers (first + 1) ms else locks_of numbers (first + 1) ms)
    by_marks [] are marked number behind = behind
    by_marks (run ∷ runs) are marked number behind =
        let own : next first ≡ numbers first + 1 = number run.offset (marked run.offset (inl (sym are.0, omega arith, omega (arith, are.2)))) in
        ap (λ l. lock first ∷ l) behind ∙ ap (λ n. record { segment = first; seq = n } ∷ locks_of numbers (first + 1) ms) own

-- the locks of the runs of marks, where each segment with a mark has the next number
pub record_locks : (next numbers : ℕ → ℕ) (marks : Marks)
    → ((segment k : ℕ) → all_set k 1 (segment_of segment marks) ≡ true → next segment ≡ numbers segment + 1)
    → map (λ (s : ℕ). record { segment = s; seq = next s }) (segments_of (runs_of 1 marks)) ≡ locks_of numbers 1 marks
record_locks next numbers marks same =
    locks-all next numbers 1 marks (λ i k set. let one : suc i ≡ 1 + i = omega arith in subst (λ (n : ℕ). next n ≡ numbers n + 1) one (same (suc i) k set))
