-- Records put on in order, and merged by number, are the transactions' writes.
use Rattle.std.proofs.Common.{◌≡◌, ◌≢◌, ◌⊎◌, ℕ, ◌+◌, ◌<◌, ◌≤◌, Bool, true, false, not, ◌&&◌, ◌==◌, nat_lt, List, [], ◌∷◌, ◌++◌, map, length, filter, get_or, Option, Some, None, is_some, All, AllPairs, IsTrue, refl, sym, ◌∙◌, ap, subst, arith, inl, inr, true≢false, eqb-true, eq-eqb, ne_eqb, ltb-true, lt-ltb, le-ltb}
use Rattle.std.proofs.Common.{◌-◌, suc, take, slice_index, Contains, subst₂, ltb-false}
use Rattle.std.proofs.Math.Seq.{take-nil}
use Rattle.std.proofs.lemmas.List.Elements.{Contains-get_or}
use Rattle.lc_model.specs.History.{is_of, numbered_after}
use Rattle.lc_model.specs.Merging.{is_from}
use Rattle.lc_model.proofs.Prefix.{count, count-own, count-other}
use Rattle.std.specs.Prelude.{if◌then◌else◌}
use Rattle.std.proofs.Math.Nat.{le_trans, le_refl}
use Rattle.std.proofs.lemmas.Bool.{cases_lt}
use Rattle.std.proofs.lemmas.List.Kept.{AllPairs-cons}
use Rattle.lc_model.proofs.Lists.{AllPairs-nil}
use Rattle.std.proofs.lemmas.List.Elements.{All-nil, All-cons, All-head, All-tail, All-append, All-weaker, All-contains, Contains-append_right}
use Rattle.std.proofs.lemmas.List.{get_or_default as get_or-default}
use Rattle.lc_record.specs.Content.{Content, put, on_segment, segment_of}
use Rattle.lc_record.proofs.LockLemmas.{meet_locks}
use Rattle.lc_record.specs.Transaction.{Transaction, ByteWrite, Marks, Meet, IsWellFormed, all_set, locks, writes_on, effect, effects}
use Rattle.lc_record.specs.declared.record.Record.{Record}
use Rattle.lc_record.specs.declared.record.Lock.{Lock}
use Rattle.lc_record.specs.declared.record.RangeData.{RangeData}
use Rattle.lc_model.specs.History.{Numbered, History, Cut, transactions, numbered, is_kept, kept, IsClosed}
use Rattle.lc_record.specs.Marks.{counting}
use Rattle.lc_record.specs.Recorded.{ranges_from, ranges_of, is_set, locks_of, record_of, counted, records_from}
use Rattle.std.specs.Option.{option_or}
use Rattle.lc_record.specs.Newest.{byte_of, number_or_zero, has_byte, IsNewest, IsByNumber}
use Rattle.lc_model.specs.Merging.{put_on, kept_records, byte_at, numbers_in, sets, counted_all, Rises}
use Rattle.lc_model.proofs.Law.{effects-append, Pulls, passing, passing-yes, passing-no, all, all-numbered_after, AllPairs-head, AllPairs-tail}
use Rattle.lc_record.proofs.SegmentLemmas.{segment_of-other, segment_of-same}
use Rattle.lc_model.proofs.Keeps.{All-kept}
use Rattle.lc_record.proofs.SegmentLemmas.{length-writes_on}
use Rattle.lc_record.proofs.ListLemmas.{option_or-some as some-or}
use Rattle.lc_model.proofs.Bytes.{same-items, byte-unset}
use Rattle.lc_model.proofs.RecordBytes.{marked_byte, marked_byte-set, marked_byte-unset, byte-ranges_of, part_from, part_from-below, part_from-segment, record-byte, record-laid, record-number, place-set, sets-locks}

-- In order

pub records-put_on : (numbers : ℕ → ℕ) (content : Content) (ts : List Transaction) → All IsWellFormed ts → put_on (records_from numbers content ts) content ≡ effects ts content
records-put_on numbers content [] well = refl
records-put_on numbers content (t ∷ ts) well =
    ap (put_on (records_from (counted numbers t) (effect t content) ts)) (record-laid t content (All-head IsWellFormed t ts well))
    ∙ records-put_on (counted numbers t) (effect t content) ts (All-tail IsWellFormed t ts well)

-- What a closed cut keeps

-- two contents and two tables of numbers agree where a transaction has locks
record Agree (t : Transaction) (numbers others : ℕ → ℕ) (content other : Content) : Type 0 where
  same_numbers : (segment : ℕ) → locks t segment ≡ true → numbers segment ≡ others segment
  same_segments : (segment : ℕ) → locks t segment ≡ true → segment_of segment content ≡ segment_of segment other

-- writes act on each segment by itself
writes-same : (segment : ℕ) (ws : List ByteWrite) (content other : Content) → segment_of segment content ≡ segment_of segment other → segment_of segment (writes_on ws content) ≡ segment_of segment (writes_on ws other)
writes-same segment [] content other same = same
writes-same segment (w ∷ ws) content other same =
    writes-same segment ws (on_segment w.segment (put w.offset w.bytes) content) (on_segment w.segment (put w.offset w.bytes) other)
    (elim (segment == w.segment) as (λ b. (segment == w.segment) ≡ b → segment_of segment (on_segment w.segment (put w.offset w.bytes) content) ≡ segment_of segment (on_segment w.segment (put w.offset w.bytes) other)) [
      | true ↦ λ e.
          let is : segment ≡ w.segment = eqb-true segment w.segment e in
          let here : segment_of w.segment content ≡ segment_of w.segment other = subst (λ (s : ℕ). segment_of s content ≡ segment_of s other) is same in
          subst (λ (s : ℕ). segment_of s (on_segment w.segment (put w.offset w.bytes) content) ≡ segment_of s (on_segment w.segment (put w.offset w.bytes) other)) (sym is)
          (segment_of-same w.segment (put w.offset w.bytes) content refl ∙ ap (put w.offset w.bytes) here ∙ sym (segment_of-same w.segment (put w.offset w.bytes) other refl))
      | false ↦ λ e.
          let differ : segment ≢ w.segment = λ is. true≢false (sym (eq-eqb segment w.segment is) ∙ e) in
          segment_of-other segment w.segment (put w.offset w.bytes) content differ ∙ same ∙ sym (segment_of-other segment w.segment (put w.offset w.bytes) other differ)
    ] refl)

-- writes to locked segments leave the others
writes-unlocked : (t : Transaction) (segment : ℕ) (ws : List ByteWrite) (content : Content) → All (λ (w : ByteWrite). IsTrue (locks t w.segment)) ws → locks t segment ≡ false → segment_of segment (writes_on ws content) ≡ segment_of segment content
writes-unlocked t segment [] content locked free = refl
writes-unlocked t segment (w ∷ ws) content locked free =
    let Locked : ByteWrite → Type 0 = λ (v : ByteWrite). IsTrue (locks t v.segment) in
    let differ : segment ≢ w.segment = λ is. true≢false (sym (All-head Locked w ws locked) ∙ subst (λ (s : ℕ). locks t s ≡ false) is free) in
    writes-unlocked t segment ws (on_segment w.segment (put w.offset w.bytes) content) (All-tail Locked w ws locked) free
    ∙ segment_of-other segment w.segment (put w.offset w.bytes) content differ

-- of a segment's list that is not set, no range comes
ranges_from-unset : (segment offset : ℕ) (marks : List Bool) (bytes : List ℕ) → is_set marks ≡ false → ranges_from segment offset marks bytes ≡ []
ranges_from-unset segment offset [] bytes unset = refl
ranges_from-unset segment offset (mark ∷ marks) [] unset = refl
ranges_from-unset segment offset (true ∷ marks) (byte ∷ bytes) unset = absurd (true≢false (sym (place-set (true ∷ marks) 0 refl) ∙ unset))
ranges_from-unset segment offset (false ∷ marks) (byte ∷ bytes) unset = ranges_from-unset segment (offset + 1) marks bytes unset

-- a set part further on is one of the whole
part-further : (first segment : ℕ) (m : List Bool) (ms : Marks) → is_set (part_from (first + 1) ms segment) ≡ true → (first == segment) ≡ false
part-further first segment m ms set =
    elim (first == segment) as (λ b. (first == segment) ≡ b → b ≡ false) [
      | true ↦ λ e.
          let same : first ≡ segment = eqb-true first segment e in
          let below : segment < first + 1 = omega arith in
          absurd (true≢false (sym set ∙ ap is_set (part_from-below (first + 1) segment ms below)))
      | false ↦ λ e. refl
    ] refl

locks_of-same : (numbers others : ℕ → ℕ) (first : ℕ) (marks : Marks) → ((segment : ℕ) → is_set (part_from first marks segment) ≡ true → numbers segment ≡ others segment) → locks_of numbers first marks ≡ locks_of others first marks
locks_of-same numbers others first [] same = refl
locks_of-same numbers others first (m ∷ ms) same =
    let next : locks_of numbers (first + 1) ms ≡ locks_of others (first + 1) ms =
    locks_of-same numbers others (first + 1) ms (λ segment set. same segment (rw (part-further first segment m ms set) set)) in
    elim (is_set m) as (λ b. is_set m ≡ b → (if b then record { segment = first; seq = numbers first + 1 } ∷ locks_of numbers (first + 1) ms else locks_of numbers (first + 1) ms) ≡ (if b then record { segment = first; seq = others first + 1 } ∷ locks_of others (first + 1) ms else locks_of others (first + 1) ms)) [
      | true ↦ λ set.
          let here : numbers first ≡ others first = same first (rw (eq-eqb first first refl) set) in
          ap (λ n. record { segment = first; seq = n + 1 } ∷ locks_of numbers (first + 1) ms) here
          ∙ ap (λ ls. record { segment = first; seq = others first + 1 } ∷ ls) next
      | false ↦ λ unset. next
    ] refl

ranges_of-same : (first : ℕ) (marks : Marks) (content other : Content) → length content ≡ length other → ((segment : ℕ) → is_set (part_from first marks segment) ≡ true → part_from first content segment ≡ part_from first other segment) → ranges_of first marks content ≡ ranges_of first marks other
ranges_of-same first [] content other long same = refl
ranges_of-same first (m ∷ ms) [] [] long same = refl
ranges_of-same first (m ∷ ms) [] (y ∷ ys) long same = absurd (omega (arith, long))
ranges_of-same first (m ∷ ms) (x ∷ xs) [] long same = absurd (omega (arith, long))
ranges_of-same first (m ∷ ms) (x ∷ xs) (y ∷ ys) long same =
    let shorter : length xs ≡ length ys = omega (arith, long) in
    let behind : (segment : ℕ) → is_set (part_from (first + 1) ms segment) ≡ true → part_from (first + 1) xs segment ≡ part_from (first + 1) ys segment =
    λ segment set.
    let further : (first == segment) ≡ false = part-further first segment m ms set in
    let whole : part_from first (x ∷ xs) segment ≡ part_from first (y ∷ ys) segment = same segment (rw further set) in
    rw further at whole in
    let next : ranges_of (first + 1) ms xs ≡ ranges_of (first + 1) ms ys = ranges_of-same (first + 1) ms xs ys shorter behind in
    let here : ranges_from first 0 m x ≡ ranges_from first 0 m y =
    elim (is_set m) as (λ b. is_set m ≡ b → ranges_from first 0 m x ≡ ranges_from first 0 m y) [
      | true ↦ λ set.
          let whole : part_from first (x ∷ xs) first ≡ part_from first (y ∷ ys) first = same first (rw (eq-eqb first first refl) set) in
          let own : x ≡ y = rw (eq-eqb first first refl) at whole in
          ap (ranges_from first 0 m) own
      | false ↦ λ unset. ranges_from-unset first 0 m x unset ∙ sym (ranges_from-unset first 0 m y unset)
    ] refl in
    ap (λ rs. rs ++ ranges_of (first + 1) ms xs) here ∙ ap (λ rs. ranges_from first 0 m y ++ rs) next

record-same : (t : Transaction) (numbers others : ℕ → ℕ) (content other : Content) → IsWellFormed t → length content ≡ length other → Agree t numbers others content other → record_of numbers content t ≡ record_of others other t
record-same t numbers others content other well long agree =
    let locked : (segment : ℕ) → is_set (part_from 1 t.marks segment) ≡ true → locks t segment ≡ true =
    λ segment set. sets-locks t segment well (sym (ap is_set (part_from-segment t.marks segment)) ∙ set) in
    let same_locks : locks_of numbers 1 t.marks ≡ locks_of others 1 t.marks =
    locks_of-same numbers others 1 t.marks (λ segment set. agree.same_numbers segment (locked segment set)) in
    let same_ranges : ranges_of 1 t.marks (effect t content) ≡ ranges_of 1 t.marks (effect t other) =
    ranges_of-same 1 t.marks (effect t content) (effect t other)
    (length-writes_on t.writes content ∙ long ∙ sym (length-writes_on t.writes other))
    (λ segment set. part_from-segment (effect t content) segment
    ∙ writes-same segment t.writes content other (agree.same_segments segment (locked segment set))
    ∙ sym (part_from-segment (effect t other) segment)) in
    let made : List Lock → List RangeData → Record = λ ls rs. record { node = t.node; locks = ls; ranges = rs } in
    ap (λ ls. made ls (ranges_of 1 t.marks (effect t content))) same_locks ∙ ap (made (locks_of others 1 t.marks)) same_ranges

-- after a transaction both agree where they agreed before
agree-both : (t u : Transaction) (numbers others : ℕ → ℕ) (content other : Content) → Agree u numbers others content other → Agree u (counted numbers t) (counted others t) (effect t content) (effect t other)
agree-both t u numbers others content other agree = record {
  same_numbers = λ segment lock. ap (λ n. if is_set (segment_of segment t.marks) then n + 1 else n) (agree.same_numbers segment lock);
  same_segments = λ segment lock. writes-same segment t.writes content other (agree.same_segments segment lock);
}

-- one that is left out leaves what is locked by another that it does not meet
agree-left_out : (t u : Transaction) (numbers others : ℕ → ℕ) (content other : Content) → IsWellFormed t → (Meet t u → ⊥) → Agree u numbers others content other → Agree u (counted numbers t) others (effect t content) other
agree-left_out t u numbers others content other well apart agree =
    let free : (segment : ℕ) → locks u segment ≡ true → locks t segment ≡ false =
    λ segment lock. elim (locks t segment) as (λ b. locks t segment ≡ b → b ≡ false) [ true ↦ λ own. absurd (apart (meet_locks t u segment own lock)) | false ↦ λ own. refl ] refl in
    let unset : (segment : ℕ) → locks u segment ≡ true → sets segment t ≡ false =
    λ segment lock. elim (sets segment t) as (λ b. sets segment t ≡ b → b ≡ false) [
      | true ↦ λ set. absurd (true≢false (sym (sets-locks t segment well set) ∙ free segment lock))
      | false ↦ λ set. refl
    ] refl in
    record {
      same_numbers = λ segment lock. ap (λ b. if b then numbers segment + 1 else numbers segment) (unset segment lock) ∙ agree.same_numbers segment lock;
      same_segments = λ segment lock. writes-unlocked t segment t.writes content well.write_locked (free segment lock) ∙ agree.same_segments segment lock;
    }

abbrev AgreeIfKept : (Numbered → Bool) → (ℕ → ℕ) → (ℕ → ℕ) → Content → Content → Numbered → Type 0
AgreeIfKept keep numbers others content other x = keep x ≡ true → Agree x.transaction numbers others content other

kept_records-from : (keep : Numbered → Bool) (numbers others : ℕ → ℕ) (content other : Content) (xs : List Numbered) → All IsWellFormed (all xs) → AllPairs (Pulls keep) xs → length content ≡ length other → All (AgreeIfKept keep numbers others content other) xs → kept_records keep numbers content xs ≡ records_from others other (passing keep xs)
kept_records-from keep numbers others content other [] well closed long agree = refl
kept_records-from keep numbers others content other (x ∷ xs) well closed long agree =
    let t : Transaction = x.transaction in
    let t_well : IsWellFormed x.transaction = All-head IsWellFormed x.transaction (all xs) well in
    let ts_well : All IsWellFormed (all xs) = All-tail IsWellFormed x.transaction (all xs) well in
    let later : AllPairs (Pulls keep) xs = AllPairs-tail (Pulls keep) x xs closed in
    let pulls : All (Pulls keep x) xs = AllPairs-head (Pulls keep) x xs closed in
    let behind : All (AgreeIfKept keep numbers others content other) xs = All-tail (AgreeIfKept keep numbers others content other) x xs agree in
    let more : Content = effect x.transaction content in
    elim (keep x) as (λ b. keep x ≡ b → (if b then record_of numbers content x.transaction ∷ kept_records keep (counted numbers x.transaction) (effect x.transaction content) xs else kept_records keep (counted numbers x.transaction) (effect x.transaction content) xs) ≡ records_from others other (passing keep (x ∷ xs))) [
      | true ↦ λ e.
          let first : record_of numbers content x.transaction ≡ record_of others other x.transaction =
          record-same x.transaction numbers others content other t_well long (All-head (AgreeIfKept keep numbers others content other) x xs agree e) in
          let next : kept_records keep (counted numbers x.transaction) (effect x.transaction content) xs ≡ records_from (counted others x.transaction) (effect x.transaction other) (passing keep xs) =
          kept_records-from keep (counted numbers x.transaction) (counted others x.transaction) (effect x.transaction content) (effect x.transaction other) xs ts_well later
          (length-writes_on x.transaction.writes content ∙ long ∙ sym (length-writes_on x.transaction.writes other))
          (λ k d k_in kept_one. agree-both x.transaction (get_or xs k d).transaction numbers others content other (behind k d k_in kept_one)) in
          ap (λ r. r ∷ kept_records keep (counted numbers x.transaction) (effect x.transaction content) xs) first
          ∙ ap (λ rs. record_of others other x.transaction ∷ rs) next
          ∙ ap (records_from others other) (sym (passing-yes keep x xs e))
      | false ↦ λ e.
          kept_records-from keep (counted numbers x.transaction) others (effect x.transaction content) other xs ts_well later
          (length-writes_on x.transaction.writes content ∙ long)
          (λ k d k_in kept_one. agree-left_out x.transaction (get_or xs k d).transaction numbers others content other t_well
          (λ meet. true≢false (sym (pulls k d k_in meet kept_one) ∙ e)) (behind k d k_in kept_one))
          ∙ ap (records_from others other) (sym (passing-no keep x xs e))
    ] refl

-- the records of those that a closed cut keeps are what these alone would have made
pub kept_records-same : (numbers : ℕ → ℕ) (content : Content) (history : History) (cut : Cut) → All IsWellFormed (transactions history) → IsClosed history cut → kept_records (is_kept cut) numbers content (numbered history) ≡ records_from numbers content (kept history cut)
kept_records-same numbers content history cut well closed =
    kept_records-from (is_kept cut) numbers numbers content content (numbered history)
    (subst (λ (ts : List Transaction). All IsWellFormed ts) (sym (all-numbered_after [] (transactions history))) well) closed refl
    (λ k d k_in kept_one. record { same_numbers = λ segment lock. refl; same_segments = λ segment lock. refl })

-- The numbers of a segment

number-filter : (n : ℕ) (rest : List ℕ) → filter (λ k. not (k == 0)) ((n + 1) ∷ rest) ≡ (n + 1) ∷ filter (λ k. not (k == 0)) rest
number-filter n rest =
    let some : n + 1 ≢ 0 = omega arith in
    rw (ne_eqb (n + 1) 0 some) refl

-- they run on from the one before, one for each transaction that set some of the segment
pub numbers-counting : (numbers : ℕ → ℕ) (content : Content) (segment : ℕ) (ts : List Transaction) → numbers_in segment (records_from numbers content ts) ≡ counting (numbers segment + 1) (length (filter (sets segment) ts))
numbers-counting numbers content segment [] = refl
numbers-counting numbers content segment (t ∷ ts) =
    let next : numbers_in segment (records_from (counted numbers t) (effect t content) ts) ≡ counting (counted numbers t segment + 1) (length (filter (sets segment) ts)) = numbers-counting (counted numbers t) (effect t content) segment ts in
    let own : number_or_zero segment (locks_of numbers 1 t.marks) ≡ (if sets segment t then numbers segment + 1 else 0) = record-number numbers segment t in
    let behind : List ℕ = map (λ (r : Record). number_or_zero segment r.locks) (records_from (counted numbers t) (effect t content) ts) in
    ap (λ n. filter (λ k. not (k == 0)) (n ∷ map (λ (r : Record). number_or_zero segment r.locks) (records_from (counted numbers t) (effect t content) ts))) own
    ∙ (elim (sets segment t) as (λ b. (numbers_in segment (records_from (counted numbers t) (effect t content) ts) ≡ counting ((if b then numbers segment + 1 else numbers segment) + 1) (length (filter (sets segment) ts))) → filter (λ k. not (k == 0)) ((if b then numbers segment + 1 else 0) ∷ map (λ (r : Record). number_or_zero segment r.locks) (records_from (counted numbers t) (effect t content) ts)) ≡ counting (numbers segment + 1) (length (if b then t ∷ filter (sets segment) ts else filter (sets segment) ts))) [
      | true ↦ λ is. number-filter (numbers segment) (map (λ (r : Record). number_or_zero segment r.locks) (records_from (counted numbers t) (effect t content) ts)) ∙ ap (λ ns. (numbers segment + 1) ∷ ns) is
      | false ↦ λ is. is
    ] next)

-- By number

-- a record's number is 0, or above those before it
abbrev IsAbove : (ℕ → ℕ) → ℕ → Record → Type 0
IsAbove numbers segment r = (number_or_zero segment r.locks ≡ 0) ⊎ (numbers segment < number_or_zero segment r.locks)

counted-grows : (numbers : ℕ → ℕ) (t : Transaction) (segment : ℕ) → numbers segment ≤ counted numbers t segment
counted-grows numbers t segment =
    elim (is_set (segment_of segment t.marks)) as (λ b. numbers segment ≤ (if b then numbers segment + 1 else numbers segment)) [ true ↦ omega arith | false ↦ le_refl (numbers segment) ]

own-number : (numbers : ℕ → ℕ) (t : Transaction) (segment : ℕ) → ((number_or_zero segment (locks_of numbers 1 t.marks) ≡ 0) × (sets segment t ≡ false)) ⊎ ((number_or_zero segment (locks_of numbers 1 t.marks) ≡ numbers segment + 1) × (counted numbers t segment ≡ numbers segment + 1))
own-number numbers t segment =
    let own : number_or_zero segment (locks_of numbers 1 t.marks) ≡ (if sets segment t then numbers segment + 1 else 0) = record-number numbers segment t in
    elim (sets segment t) as (λ b. sets segment t ≡ b → ((number_or_zero segment (locks_of numbers 1 t.marks) ≡ 0) × (sets segment t ≡ false)) ⊎ ((number_or_zero segment (locks_of numbers 1 t.marks) ≡ numbers segment + 1) × (counted numbers t segment ≡ numbers segment + 1))) [
      | true ↦ λ e. inr (own ∙ ap (λ b. if b then numbers segment + 1 else 0) e, ap (λ b. if b then numbers segment + 1 else numbers segment) e)
      | false ↦ λ e. inl (own ∙ ap (λ b. if b then numbers segment + 1 else 0) e, e)
    ] refl

pub numbers-above : (numbers : ℕ → ℕ) (content : Content) (segment : ℕ) (ts : List Transaction) → All (IsAbove numbers segment) (records_from numbers content ts)
numbers-above numbers content segment [] = All-nil (IsAbove numbers segment)
numbers-above numbers content segment (t ∷ ts) =
    All-cons (IsAbove numbers segment) (record_of numbers content t) (records_from (counted numbers t) (effect t content) ts)
    (elim (own-number numbers t segment) [
      | inl none ↦ inl none.0
      | inr one ↦
          let above : numbers segment < number_or_zero segment (locks_of numbers 1 t.marks) = omega (arith, one.0) in
          inr above
    ])
    (All-weaker (IsAbove (counted numbers t) segment) (IsAbove numbers segment)
    (λ r above. elim above [
      | inl none ↦ inl none
      | inr over ↦
          let grows : numbers segment ≤ counted numbers t segment = counted-grows numbers t segment in
          let both : numbers segment < number_or_zero segment r.locks = omega (arith, over, grows) in
          inr both
    ])
    (records_from (counted numbers t) (effect t content) ts) (numbers-above (counted numbers t) (effect t content) segment ts))

counted_all-grows : (numbers : ℕ → ℕ) (ts : List Transaction) (segment : ℕ) → numbers segment ≤ counted_all numbers ts segment
counted_all-grows numbers [] segment = le_refl (numbers segment)
counted_all-grows numbers (t ∷ ts) segment = le_trans (counted-grows numbers t segment) (counted_all-grows (counted numbers t) ts segment)

abbrev IsWithin : ℕ → ℕ → Record → Type 0
IsWithin segment most r = number_or_zero segment r.locks ≤ most

pub numbers-within : (numbers : ℕ → ℕ) (content : Content) (segment : ℕ) (ts : List Transaction) → All (IsWithin segment (counted_all numbers ts segment)) (records_from numbers content ts)
numbers-within numbers content segment [] = All-nil (IsWithin segment (numbers segment))
numbers-within numbers content segment (t ∷ ts) =
    let most : ℕ = counted_all (counted numbers t) ts segment in
    let grows : counted numbers t segment ≤ counted_all (counted numbers t) ts segment = counted_all-grows (counted numbers t) ts segment in
    All-cons (IsWithin segment (counted_all (counted numbers t) ts segment)) (record_of numbers content t) (records_from (counted numbers t) (effect t content) ts)
    (elim (own-number numbers t segment) [
      | inl none ↦ omega (arith, none.0)
      | inr one ↦ omega (arith, one.0, one.1, grows)
    ])
    (numbers-within (counted numbers t) (effect t content) segment ts)

pub records_from-append : (numbers : ℕ → ℕ) (content : Content) (us vs : List Transaction) → records_from numbers content (us ++ vs) ≡ records_from numbers content us ++ records_from (counted_all numbers us) (effects us content) vs
records_from-append numbers content [] vs = refl
records_from-append numbers content (u ∷ us) vs = ap (λ rs. record_of numbers content u ∷ rs) (records_from-append (counted numbers u) (effect u content) us vs)

no_byte-number : (segment place floor : ℕ) (r : Record) → number_or_zero segment r.locks ≤ floor → has_byte segment place floor r ≡ false
no_byte-number segment place floor r within =
    let not_above : nat_lt floor (number_or_zero segment r.locks) ≡ false = le-ltb floor (number_or_zero segment r.locks) within in
    elim (is_some (byte_of segment place r.ranges)) as (λ b. (b && nat_lt floor (number_or_zero segment r.locks)) ≡ false) [ true ↦ not_above | false ↦ refl ]

some-byte : (x : Option ℕ) (b : Bool) → (is_some x && b) ≡ true → (is_some x ≡ true) × (b ≡ true)
some-byte None b h = absurd (true≢false (sym h))
some-byte (Some byte) b h = (refl, h)

none-or : (x y : Option ℕ) → is_some x ≡ false → option_or x y ≡ y
none-or None y h = refl
none-or (Some byte) y h = absurd (true≢false h)

-- of a segment that it did not set a transaction has no byte
byte-none : (t : Transaction) (content : Content) (segment place : ℕ) → sets segment t ≡ false → byte_of segment place (ranges_of 1 t.marks content) ≡ None
byte-none t content segment place unset =
    byte-ranges_of segment place t.marks content
    ∙ (elim (all_set place 1 (segment_of segment t.marks)) as (λ b. all_set place 1 (segment_of segment t.marks) ≡ b → marked_byte (segment_of segment t.marks) (segment_of segment content) place ≡ None) [
      | true ↦ λ e. absurd (true≢false (sym (place-set (segment_of segment t.marks) place e) ∙ unset))
      | false ↦ λ e. marked_byte-unset (segment_of segment t.marks) (segment_of segment content) place e
    ] refl)

first-false : (a b : Bool) → b ≡ true → (a && b) ≡ false → a ≡ false
first-false false b on h = refl
first-false true b on h = absurd (true≢false (sym on ∙ h))

-- a record without a number for the segment has no byte of it
byte-number : (numbers : ℕ → ℕ) (content : Content) (t : Transaction) (segment place floor : ℕ) → floor ≤ numbers segment → has_byte segment place floor (record_of numbers content t) ≡ false → is_some (byte_of segment place (ranges_of 1 t.marks (effect t content))) ≡ false
byte-number numbers content t segment place floor least without =
    elim (own-number numbers t segment) [
      | inl none ↦ ap is_some (byte-none t (effect t content) segment place none.1)
      | inr one ↦
          let above : floor < number_or_zero segment (locks_of numbers 1 t.marks) = omega (arith, one.0, least) in
          let test : nat_lt floor (number_or_zero segment (locks_of numbers 1 t.marks)) ≡ true = lt-ltb floor (number_or_zero segment (locks_of numbers 1 t.marks)) above in
          first-false (is_some (byte_of segment place (ranges_of 1 t.marks (effect t content)))) (nat_lt floor (number_or_zero segment (locks_of numbers 1 t.marks))) test without
    ]

by_number-from : (numbers : ℕ → ℕ) (content : Content) (ts : List Transaction) (segment place floor : ℕ) → All IsWellFormed ts → floor ≤ numbers segment → IsByNumber segment place floor (records_from numbers content ts) (byte_at segment place content) (byte_at segment place (effects ts content))
by_number-from numbers content [] segment place floor well least = inl (All-nil (λ q. has_byte segment place floor q ≡ false), refl)
by_number-from numbers content (t ∷ ts) segment place floor well least =
    let r : Record = record_of numbers content t in
    let rs : List Record = records_from (counted numbers t) (effect t content) ts in
    let own : byte_at segment place (effect t content) ≡ option_or (byte_of segment place (ranges_of 1 t.marks (effect t content))) (byte_at segment place content) = record-byte t content segment place (All-head IsWellFormed t ts well) in
    let grows : floor ≤ counted numbers t segment = le_trans least (counted-grows numbers t segment) in
    let within : number_or_zero segment (locks_of numbers 1 t.marks) ≤ counted numbers t segment =
    elim (own-number numbers t segment) [ inl none ↦ omega (arith, none.0) | inr one ↦ omega (arith, one.0, one.1) ] in
    elim (by_number-from (counted numbers t) (effect t content) ts segment place floor (All-tail IsWellFormed t ts well) grows) [
      | inl none ↦
          (elim (has_byte segment place floor (record_of numbers content t)) as (λ b. has_byte segment place floor (record_of numbers content t) ≡ b → IsByNumber segment place floor (records_from numbers content (t ∷ ts)) (byte_at segment place content) (byte_at segment place (effects (t ∷ ts) content))) [
            | true ↦ λ e.
                let has : (is_some (byte_of segment place (ranges_of 1 t.marks (effect t content))) ≡ true) × (nat_lt floor (number_or_zero segment (locks_of numbers 1 t.marks)) ≡ true) = some-byte (byte_of segment place (ranges_of 1 t.marks (effect t content))) (nat_lt floor (number_or_zero segment (locks_of numbers 1 t.marks))) e in
                inr (
                  record_of numbers content t,
                  record {
                    among = (0, (omega arith), refl);
                    has = e;
                    is = none.1 ∙ own ∙ some-or (byte_of segment place (ranges_of 1 t.marks (effect t content))) (byte_at segment place content) has.0;
                    greatest = All-cons (λ q. IsTrue (has_byte segment place floor q) → number_or_zero segment q.locks ≤ number_or_zero segment (locks_of numbers 1 t.marks)) (record_of numbers content t) (records_from (counted numbers t) (effect t content) ts)
                        (λ passes. le_refl (number_or_zero segment (locks_of numbers 1 t.marks)))
                        (λ k d k_in passes. absurd (true≢false (sym passes ∙ none.0 k d k_in)));
                  },
                )
            | false ↦ λ e.
                inl (
                  All-cons (λ q. has_byte segment place floor q ≡ false) (record_of numbers content t) (records_from (counted numbers t) (effect t content) ts) e none.0,
                  none.1 ∙ own ∙ none-or (byte_of segment place (ranges_of 1 t.marks (effect t content))) (byte_at segment place content) (byte-number numbers content t segment place floor least e),
                )
          ] refl)
      | inr one ↦
          let newest : IsNewest segment place floor (records_from (counted numbers t) (effect t content) ts) (byte_at segment place (effects ts (effect t content))) one.0 = one.1 in
          let has : (is_some (byte_of segment place one.0.ranges) ≡ true) × (nat_lt floor (number_or_zero segment one.0.locks) ≡ true) = some-byte (byte_of segment place one.0.ranges) (nat_lt floor (number_or_zero segment one.0.locks)) newest.has in
          let over : floor < number_or_zero segment one.0.locks = ltb-true floor (number_or_zero segment one.0.locks) has.1 in
          let above : IsAbove (counted numbers t) segment one.0 = All-contains (IsAbove (counted numbers t) segment) (records_from (counted numbers t) (effect t content) ts) one.0 (numbers-above (counted numbers t) (effect t content) segment ts) newest.among in
          let less : number_or_zero segment (locks_of numbers 1 t.marks) ≤ number_or_zero segment one.0.locks =
          elim above [ inl zero_number ↦ absurd (omega (arith, zero_number, over)) | inr higher ↦ omega (arith, higher, within) ] in
          inr (
            one.0,
            record {
              among = Contains-append_right (record_of numbers content t ∷ []) (records_from (counted numbers t) (effect t content) ts) one.0 newest.among;
              has = newest.has;
              is = newest.is;
              greatest = All-cons (λ q. IsTrue (has_byte segment place floor q) → number_or_zero segment q.locks ≤ number_or_zero segment one.0.locks) (record_of numbers content t) (records_from (counted numbers t) (effect t content) ts)
                  (λ passes. less) newest.greatest;
            },
          )
    ]

-- records in front that do not count change nothing
by_number-front : (segment place floor : ℕ) (front records : List Record) (before after : Option ℕ) → All (λ q. has_byte segment place floor q ≡ false) front → IsByNumber segment place floor records before after → IsByNumber segment place floor (front ++ records) before after
by_number-front segment place floor front records before after without by =
    elim by [
      | inl none ↦ inl (All-append (λ q. has_byte segment place floor q ≡ false) front records without none.0, none.1)
      | inr one ↦
          let newest : IsNewest segment place floor records after one.0 = one.1 in
          inr (
            one.0,
            record {
              among = Contains-append_right front records one.0 newest.among;
              has = newest.has;
              is = newest.is;
              greatest = All-append (λ q. IsTrue (has_byte segment place floor q) → number_or_zero segment q.locks ≤ number_or_zero segment one.0.locks) front records
                  (λ k d k_in passes. absurd (true≢false (sym passes ∙ without k d k_in))) newest.greatest;
            },
          )
    ]

-- wherever the content is told from, its numbers tell which records come on top
pub by_number-all : (numbers : ℕ → ℕ) (content : Content) (us vs : List Transaction) (segment place : ℕ) → All IsWellFormed vs → IsByNumber segment place (counted_all numbers us segment) (records_from numbers content (us ++ vs)) (byte_at segment place (effects us content)) (byte_at segment place (effects (us ++ vs) content))
by_number-all numbers content us vs segment place well =
    let floor : ℕ = counted_all numbers us segment in
    subst (λ (rs : List Record). IsByNumber segment place (counted_all numbers us segment) rs (byte_at segment place (effects us content)) (byte_at segment place (effects (us ++ vs) content))) (sym (records_from-append numbers content us vs))
    (subst (λ (c : Content). IsByNumber segment place (counted_all numbers us segment) (records_from numbers content us ++ records_from (counted_all numbers us) (effects us content) vs) (byte_at segment place (effects us content)) (byte_at segment place c)) (sym (effects-append us vs content))
    (by_number-front segment place (counted_all numbers us segment) (records_from numbers content us) (records_from (counted_all numbers us) (effects us content) vs) (byte_at segment place (effects us content)) (byte_at segment place (effects vs (effects us content)))
    (λ k d k_in. no_byte-number segment place (counted_all numbers us segment) (get_or (records_from numbers content us) k d) (numbers-within numbers content segment us k d k_in))
    (by_number-from (counted_all numbers us) (effects us content) vs segment place (counted_all numbers us segment) well (le_refl (counted_all numbers us segment)))))

pub kept_records-put_on : (numbers : ℕ → ℕ) (content : Content) (history : History) (cut : Cut) → All IsWellFormed (transactions history) → IsClosed history cut → put_on (kept_records (is_kept cut) numbers content (numbered history)) content ≡ effects (kept history cut) content
kept_records-put_on numbers content history cut well closed =
    ap (λ rs. put_on rs content) (kept_records-same numbers content history cut well closed)
    ∙ records-put_on numbers content (kept history cut) (All-kept IsWellFormed history cut well)

-- a record has a byte just where its transaction set one: that which the effect leaves
pub record-final : (numbers : ℕ → ℕ) (content : Content) (t : Transaction) (segment place : ℕ) → byte_of segment place (record_of numbers content t).ranges ≡ (if all_set place 1 (segment_of segment t.marks) then byte_at segment place (effect t content) else None)
record-final numbers content t segment place =
    byte-ranges_of segment place t.marks (effect t content)
    ∙ (elim (all_set place 1 (segment_of segment t.marks)) as (λ b. all_set place 1 (segment_of segment t.marks) ≡ b → marked_byte (segment_of segment t.marks) (segment_of segment (effect t content)) place ≡ (if b then byte_at segment place (effect t content) else None)) [
      | true ↦ λ e. marked_byte-set (segment_of segment t.marks) (segment_of segment (effect t content)) place e
      | false ↦ λ e. marked_byte-unset (segment_of segment t.marks) (segment_of segment (effect t content)) place e
    ] refl)

-- of a segment, the later record has the greater number
pub numbers-rise : (numbers : ℕ → ℕ) (content : Content) (segment : ℕ) (ts : List Transaction) → AllPairs (Rises segment) (records_from numbers content ts)
numbers-rise numbers content segment [] = AllPairs-nil (Rises segment)
numbers-rise numbers content segment (t ∷ ts) =
    AllPairs-cons (Rises segment) (record_of numbers content t) (records_from (counted numbers t) (effect t content) ts)
    (λ k d k_in first second.
    elim (own-number numbers t segment) [
      | inl none ↦ absurd (omega (arith, none.0, first))
      | inr one ↦
          (elim (numbers-above (counted numbers t) (effect t content) segment ts k d k_in) [
            | inl zero_number ↦ absurd (omega (arith, zero_number, second))
            | inr higher ↦ omega (arith, one.0, one.1, higher)
          ])
    ])
    (numbers-rise (counted numbers t) (effect t content) segment ts)

-- so the record with the greatest number is one
pub newest-one : (numbers : ℕ → ℕ) (content : Content) (ts : List Transaction) (segment place floor : ℕ) (byte other : Option ℕ) (r q : Record) → IsNewest segment place floor (records_from numbers content ts) byte r → IsNewest segment place floor (records_from numbers content ts) other q → byte ≡ other
newest-one numbers content ts segment place floor byte other r q one two =
    let rs : List Record = records_from numbers content ts in
    let r_above : floor < number_or_zero segment r.locks = ltb-true floor (number_or_zero segment r.locks) (some-byte (byte_of segment place r.ranges) (nat_lt floor (number_or_zero segment r.locks)) one.has).1 in
    let q_above : floor < number_or_zero segment q.locks = ltb-true floor (number_or_zero segment q.locks) (some-byte (byte_of segment place q.ranges) (nat_lt floor (number_or_zero segment q.locks)) two.has).1 in
    let r_most : number_or_zero segment q.locks ≤ number_or_zero segment r.locks = All-contains (λ x. IsTrue (has_byte segment place floor x) → number_or_zero segment x.locks ≤ number_or_zero segment r.locks) (records_from numbers content ts) q one.greatest two.among two.has in
    let q_most : number_or_zero segment r.locks ≤ number_or_zero segment q.locks = All-contains (λ x. IsTrue (has_byte segment place floor x) → number_or_zero segment x.locks ≤ number_or_zero segment q.locks) (records_from numbers content ts) r two.greatest one.among one.has in
    let r_is : get_or (records_from numbers content ts) one.among.0 r ≡ r = one.among.2 in
    let q_is : get_or (records_from numbers content ts) two.among.0 q ≡ q = two.among.2 in
    let q_also : get_or (records_from numbers content ts) two.among.0 r ≡ q = get_or-default (records_from numbers content ts) two.among.0 r q two.among.1 ∙ q_is in
    elim (cases_lt one.among.0 two.among.0) [
      | inl before ↦
          let rises : Rises segment r q = subst₂ (λ (x y : Record). Rises segment x y) r_is q_also (numbers-rise numbers content segment ts one.among.0 two.among.0 r before two.among.1) in
          let r_some : 0 < number_or_zero segment r.locks = omega (arith, r_above) in
          let q_some : 0 < number_or_zero segment q.locks = omega (arith, q_above) in
          let less : number_or_zero segment r.locks < number_or_zero segment q.locks = rises r_some q_some in
          absurd (omega (arith, less, r_most))
      | inr not_before ↦
          (elim (cases_lt two.among.0 one.among.0) [
            | inl after ↦
                let rises : Rises segment q r = subst₂ (λ (x y : Record). Rises segment x y) q_also r_is (numbers-rise numbers content segment ts two.among.0 one.among.0 r after one.among.1) in
                let r_some : 0 < number_or_zero segment r.locks = omega (arith, r_above) in
                let q_some : 0 < number_or_zero segment q.locks = omega (arith, q_above) in
                let less : number_or_zero segment q.locks < number_or_zero segment r.locks = rises q_some r_some in
                absurd (omega (arith, less, q_most))
            | inr not_after ↦
                let at : one.among.0 ≡ two.among.0 = omega (arith, not_before, not_after) in
                let same : r ≡ q = sym r_is ∙ ap (λ k. get_or (records_from numbers content ts) k r) at ∙ q_also in
                one.is ∙ ap (λ (x : Record). byte_of segment place x.ranges) same ∙ sym two.is
          ])
    ]

-- A segment by itself

-- a transaction that set nothing of a segment leaves it
unset-same : (t : Transaction) (segment : ℕ) (content : Content) → IsWellFormed t → sets segment t ≡ false → segment_of segment (effect t content) ≡ segment_of segment content
unset-same t segment content well unset =
    same-items (segment_of segment (effect t content)) (segment_of segment content)
    (λ place. byte-unset segment place t.marks t.writes content well.write_set
    (elim (all_set place 1 (segment_of segment t.marks)) as (λ b. all_set place 1 (segment_of segment t.marks) ≡ b → b ≡ false) [
      | true ↦ λ e. absurd (true≢false (sym (place-set (segment_of segment t.marks) place e) ∙ unset))
      | false ↦ λ e. refl
    ] refl))

setting-same : (segment : ℕ) (ts : List Transaction) (content other : Content) → All IsWellFormed ts → segment_of segment content ≡ segment_of segment other → segment_of segment (effects ts content) ≡ segment_of segment (effects (filter (sets segment) ts) other)
setting-same segment [] content other well same = same
setting-same segment (t ∷ ts) content other well same =
    let behind : All IsWellFormed ts = All-tail IsWellFormed t ts well in
    elim (sets segment t) as (λ b. sets segment t ≡ b → segment_of segment (effects ts (effect t content)) ≡ segment_of segment (effects (if b then t ∷ filter (sets segment) ts else filter (sets segment) ts) other)) [
      | true ↦ λ e. setting-same segment ts (effect t content) (effect t other) behind (writes-same segment t.writes content other same)
      | false ↦ λ e. setting-same segment ts (effect t content) other behind (unset-same t segment content (All-head IsWellFormed t ts well) e ∙ same)
    ] refl

-- its bytes are what those make that set some of it
pub of_a_segment : (content : Content) (ts : List Transaction) (segment : ℕ) → All IsWellFormed ts → segment_of segment (effects ts content) ≡ segment_of segment (effects (filter (sets segment) ts) content)
of_a_segment content ts segment well = setting-same segment ts content content well refl

-- and its number counts them
pub counted-length : (numbers : ℕ → ℕ) (ts : List Transaction) (segment : ℕ) → counted_all numbers ts segment ≡ numbers segment + length (filter (sets segment) ts)
counted-length numbers [] segment = omega arith
counted-length numbers (t ∷ ts) segment =
    counted-length (counted numbers t) ts segment
    ∙ (elim (sets segment t) as (λ b. (if b then numbers segment + 1 else numbers segment) + length (filter (sets segment) ts) ≡ numbers segment + length (if b then t ∷ filter (sets segment) ts else filter (sets segment) ts)) [
      | true ↦ omega arith
      | false ↦ refl
    ])

-- Each node's records, and any order

kept_records-yes : (keep : Numbered → Bool) (numbers : ℕ → ℕ) (content : Content) (x : Numbered) (xs : List Numbered) → keep x ≡ true → kept_records keep numbers content (x ∷ xs) ≡ record_of numbers content x.transaction ∷ kept_records keep (counted numbers x.transaction) (effect x.transaction content) xs
kept_records-yes keep numbers content x xs e = rw e

kept_records-no : (keep : Numbered → Bool) (numbers : ℕ → ℕ) (content : Content) (x : Numbered) (xs : List Numbered) → keep x ≡ false → kept_records keep numbers content (x ∷ xs) ≡ kept_records keep (counted numbers x.transaction) (effect x.transaction content) xs
kept_records-no keep numbers content x xs e = rw e

kept_records-after : (cut : Cut) (node : ℕ) (before ts : List Transaction) (numbers : ℕ → ℕ) (content : Content) → filter (is_from node) (kept_records (is_kept cut) numbers content (numbered_after before ts)) ≡ take (slice_index cut node - count node before) (filter (is_from node) (records_from numbers content ts))
kept_records-after cut node before [] numbers content = sym (take-nil (slice_index cut node - count node before))
kept_records-after cut node before (t ∷ ts) numbers content =
    let x : Numbered = record { transaction = t; number = count t.node before } in
    let later : List Numbered = numbered_after (before ++ t ∷ []) ts in
    let rs : List Record = records_from (counted numbers t) (effect t content) ts in
    let next : filter (is_from node) (kept_records (is_kept cut) (counted numbers t) (effect t content) (numbered_after (before ++ t ∷ []) ts)) ≡ take (slice_index cut node - count node (before ++ t ∷ [])) (filter (is_from node) (records_from (counted numbers t) (effect t content) ts)) = kept_records-after cut node (before ++ t ∷ []) ts (counted numbers t) (effect t content) in
    let P : Type 0 = filter (is_from node) (kept_records (is_kept cut) numbers content (numbered_after before (t ∷ ts))) ≡ take (slice_index cut node - count node before) (filter (is_from node) (records_from numbers content (t ∷ ts))) in
    elim (is_of node t) as (λ b. is_of node t ≡ b → P) [
      | true ↦ λ own.
          let same : t.node ≡ node = eqb-true t.node node own in
          let more : count node (before ++ t ∷ []) ≡ count node before + 1 = count-own node before t own in
          elim (is_kept cut x) as (λ b. is_kept cut x ≡ b → P) [
            | true ↦ λ e.
                let below : count node before < slice_index cut node = subst (λ (n : ℕ). count n before < slice_index cut n) same (ltb-true (count t.node before) (slice_index cut t.node) e) in
                let one : slice_index cut node - count node before ≡ suc (slice_index cut node - count node (before ++ t ∷ [])) = omega (arith, more) in
                rw (kept_records-yes (is_kept cut) numbers content x later e, own, one) (ap (λ us. record_of numbers content t ∷ us) next)
            | false ↦ λ e.
                let over : slice_index cut node ≤ count node before = subst (λ (n : ℕ). slice_index cut n ≤ count n before) same (ltb-false (count t.node before) (slice_index cut t.node) e) in
                let none : slice_index cut node - count node before ≡ 0 = omega arith in
                let none_next : slice_index cut node - count node (before ++ t ∷ []) ≡ 0 = omega (arith, more) in
                rw (kept_records-no (is_kept cut) numbers content x later e, none) (next ∙ rw none_next refl)
          ] refl
      | false ↦ λ other.
          let as_many : count node (before ++ t ∷ []) ≡ count node before = count-other node before t other in
          elim (is_kept cut x) as (λ b. is_kept cut x ≡ b → P) [
            | true ↦ λ e. rw (kept_records-yes (is_kept cut) numbers content x later e, other) (next ∙ rw as_many refl)
            | false ↦ λ e. rw (kept_records-no (is_kept cut) numbers content x later e, other) (next ∙ rw as_many refl)
          ] refl
    ] refl

-- of each node, the records that a cut keeps are the first cut(n) of its records
pub kept_records-of_node : (numbers : ℕ → ℕ) (content : Content) (history : History) (cut : Cut) (node : ℕ) → filter (is_from node) (kept_records (is_kept cut) numbers content (numbered history)) ≡ take (slice_index cut node) (filter (is_from node) (records_from numbers content (transactions history)))
kept_records-of_node numbers content history cut node =
    let all_of : slice_index cut node - 0 ≡ slice_index cut node = omega arith in
    kept_records-after cut node [] (transactions history) numbers content ∙ ap (λ n. take n (filter (is_from node) (records_from numbers content (transactions history)))) all_of

All-members : (P : Record → Type 0) (records others : List Record) → ((r : Record) → Contains others r → Contains records r) → All P records → All P others
All-members P records others among every = λ k d k_in.
    All-contains P records (get_or others k d) every (among (get_or others k d) (Contains-get_or others k d k_in))

-- it does not matter in which order the records stand
pub by_number-any_order : (segment place floor : ℕ) (records others : List Record) (before after : Option ℕ) → ((r : Record) → Contains records r → Contains others r) → ((r : Record) → Contains others r → Contains records r) → IsByNumber segment place floor records before after → IsByNumber segment place floor others before after
by_number-any_order segment place floor records others before after there back by =
    elim by [
      | inl none ↦ inl (All-members (λ q. has_byte segment place floor q ≡ false) records others back none.0, none.1)
      | inr one ↦
          let newest : IsNewest segment place floor records after one.0 = one.1 in
          inr (
            one.0,
            record {
              among = there one.0 newest.among;
              has = newest.has;
              is = newest.is;
              greatest = All-members (λ q. IsTrue (has_byte segment place floor q) → number_or_zero segment q.locks ≤ number_or_zero segment one.0.locks) records others back newest.greatest;
            },
          )
    ]
