-- Of a journal: a record more, and a record that is closed, among those that a journal keeps.
use Rattle.std.proofs.Common.{◌≡◌, ◌⊎◌, ℕ, zero, suc, ◌+◌, ◌-◌, ◌≤◌, Bool, true, false, List, [], ◌∷◌, ◌++◌, map, length, take, drop, Some, slice_get, slice_set, refl, sym, ap, subst, ◌∙◌, arith, inl, inr, le_trans, eq-eqb}
use Rattle.std.specs.Prelude.{Result, Ok, Err, IfOk, OnErr, filter, find, nat_lt, if◌then◌else◌}
use Rattle.std.specs.List.{AllByRecursion}
use Rattle.std.proofs.lemmas.List.{length-append, length-map, length-drop, map-append, take_all, take-append-le, drop-append-le}
use Rattle.lc_disk.specs.declared.area.Area.{Ghosts}
use Rattle.lc_record.specs.Content.{Content}
use Rattle.lc_record.specs.Record.{spelling}
use Rattle.lc_record.specs.Recorded.{record_of, records_from, counted}
use Rattle.lc_record.specs.Transaction.{Transaction, effect}
use Rattle.lc_record.specs.declared.record.Record.{Record}
use Rattle.lc_record.proofs.ListLemmas.{slice_get-map_some as get-map}
use Rattle.lc_log.specs.LogText.{IsWhole}
use Rattle.lc_model.specs.History.{Entry, entries_of, is_of, leading, reserved, transactions}
use Rattle.lc_model.specs.Machine.{appended, closed_by}
use Rattle.lc_model.specs.Merging.{is_from}
use Rattle.lc_model.specs.Sound.{Sound, unclosed}
use Rattle.lc_model.specs.State.{Setting, State, is_by}
use Rattle.lc_model.specs.Stored.{base, records_of}
use Rattle.lc_model.proofs.Fronts.{entry, front-closed, front-push, front-reserved, transactions-closed}
use Rattle.lc_model.proofs.Lists.{found-passes}
use Rattle.lc_model.proofs.Moves.{reserved-count}
use Rattle.lc_settled.specs.Numbers.{Numbers}
use Rattle.lc_journal.specs.Records.{Spelled, KeptRecords, all_words, count_of, front_of, span_of, marks_of, closing, closed_at}
use Rattle.lc_journal.specs.declared.log.Log.{Log}
use Rattle.lc_journal.specs.Log.{Stands}
use Rattle.lc_journal.specs.Journal.{FitsLog}
use Rattle.lc_settled.proofs.Appending.{filter-end}
use Rattle.lc_settled.proofs.Closes.{entries_shut}
use Rattle.lc_journal.proofs.Flushing.{part_of}
use Rattle.lc_journal.proofs.Spans.{closed_in, words_more, leading_more, leading_le, leading_set, closing_count, closing_marks}
use Rattle.lc_journal.proofs.OneOpen.{shut_marks, one_open}

-- Answers

pub ok_or : {X E A B : Type 0} (r : Result X E) → IfOk r (λ _. A) → OnErr r B → A ⊎ B
ok_or (Ok x) done none = inl done
ok_or (Err e) done none = inr none

pub err_then : {X E A B : Type 0} (r : Result X E) → OnErr r A → (A → B) → OnErr r B
err_then (Ok x) none next = tt
err_then (Err e) none next = next none

-- Lists

window_front : {A : Type 0} (n place : ℕ) (xs ys : List A) → place + n ≤ length xs → take n (drop place (xs ++ ys)) ≡ take n (drop place xs)
window_front n zero xs ys within = take-append-le n xs ys (omega (arith, within))
window_front zero (suc place) xs ys within = refl
window_front (suc n) (suc place) [] ys within = absurd (omega (arith, within))
window_front (suc n) (suc place) (x ∷ xs) ys within = window_front (suc n) place xs ys (omega (arith, within))

set_drop : {A : Type 0} (from at : ℕ) (xs : List A) (y : A) → from ≤ at → slice_set (drop from xs) (at - from) y ≡ drop from (slice_set xs at y)
set_drop zero at xs y kept = let same : at - 0 ≡ at = omega arith in ap (λ (n : ℕ). slice_set xs n y) same
set_drop (suc from) zero xs y kept = absurd (omega (arith, kept))
set_drop (suc from) (suc at) [] y kept = refl
set_drop (suc from) (suc at) (x ∷ xs) y kept =
    let same : suc at - suc from ≡ at - from = omega arith in
    ap (λ (n : ℕ). slice_set (drop from xs) n y) same ∙ set_drop from at xs y (omega (arith, kept))

whole_more : (records : List Record) (r : Record) → AllByRecursion IsWhole records → IsWhole r → AllByRecursion IsWhole (records ++ r ∷ [])
whole_more [] r whole one = (one, tt)
whole_more (q ∷ records) r whole one = (whole.0, whole_more records r whole.1 one)

-- What is kept

same_all : (rs qs : List Spelled) → map (λ (r : Spelled). r.words) rs ≡ map (λ (r : Spelled). r.words) qs → all_words rs ≡ all_words qs
same_all [] [] is = refl
same_all [] (q ∷ qs) is = absurd cc
same_all (r ∷ rs) [] is = absurd cc
same_all (r ∷ rs) (q ∷ qs) is =
    let first : r.words ≡ q.words = cc in
    let rest : map (λ (r : Spelled). r.words) rs ≡ map (λ (r : Spelled). r.words) qs = cc in
    ap (λ (ws : List ℕ). ws ++ all_words rs) first ∙ ap (λ (ws : List ℕ). q.words ++ ws) (same_all rs qs rest)

closing_each : (place : ℕ) (rs : List Spelled) → map (λ (r : Spelled). r.words) (closing place rs) ≡ map (λ (r : Spelled). r.words) rs
closing_each place [] = refl
closing_each zero (r ∷ rs) = refl
closing_each (suc place) (r ∷ rs) = ap (λ (ws : List (List ℕ)). r.words ∷ ws) (closing_each place rs)

span_all : (k : KeptRecords) (from : ℕ) → k.before ≤ from → span_of k from (count_of k) ≡ all_words (drop (from - k.before) k.records)
span_all k from kept =
    ap all_words (take_all (count_of k - from) (drop (from - k.before) k.records) (omega (arith, kept, length-drop (from - k.before) k.records)))

-- a mark that is not set stands after those that lead
open_behind : (ms : List Bool) (n : ℕ) → slice_get ms n ≡ Some false → leading ms ≤ n
open_behind [] n is = omega arith
open_behind (false ∷ ms) n is = omega arith
open_behind (true ∷ ms) zero is = absurd cc
open_behind (true ∷ ms) (suc n) is = omega (arith, open_behind ms n is)

-- these are those, and what a journal's facts ask of them
pub record Extends (k later : KeptRecords) (dropped acked taken : ℕ) (more : ℕ) : Type 0 where
  pub before_is : later.before ≡ k.before
  pub front : front_of k ≤ front_of later
  pub stable : span_of later dropped acked ≡ span_of k dropped acked
  pub on_its_way : span_of later acked taken ≡ span_of k acked taken
  pub end : length (span_of later dropped (count_of later)) ≡ length (span_of k dropped (count_of k)) + more

module _ (k : KeptRecords) (dropped acked taken : ℕ) (kept : k.before ≤ dropped) (first : dropped ≤ acked) (second : acked ≤ taken) (few : taken ≤ front_of k) where
  pub same_extends : Extends k k dropped acked taken 0
  same_extends = record { before_is = refl; front = omega arith; stable = refl; on_its_way = refl; end = omega arith }

  front_more : (r : Spelled) → r.closed ≡ false → leading (marks_of (k.records ++ r ∷ [])) ≡ leading (marks_of k.records)
  front_more r open_still =
      ap leading (map-append (λ (r : Spelled). r.closed) k.records (r ∷ []) ∙ ap (λ b. marks_of k.records ++ b ∷ []) open_still) ∙ leading_more (marks_of k.records)

  pub more_extends : (words : List ℕ) → Extends k (record k { records = k.records ++ record { words = words; closed = false } ∷ [] }) dropped acked taken (length words)
  more_extends words =
      let r : Spelled = record { words = words; closed = false } in
      let later : KeptRecords = record k { records = k.records ++ r ∷ [] } in
      let count : front_of k ≤ count_of k = omega (arith, leading_le k.records) in
      let place : ℕ = dropped - k.before in
      record {
        before_is = refl;
        front = omega (arith, front_more r refl);
        stable = ap all_words (window_front (acked - dropped) place k.records (r ∷ []) (omega (arith, kept, first, second, few, count)));
        on_its_way = ap all_words (window_front (taken - acked) (acked - k.before) k.records (r ∷ []) (omega (arith, kept, first, second, few, count)));
        end =
            ap length (span_all later dropped kept
            ∙ ap all_words (drop-append-le place k.records (r ∷ []) (omega (arith, kept, first, second, few, count)))
            ∙ words_more (drop place k.records) r
            ∙ ap (λ (ws : List ℕ). ws ++ words) (sym (span_all k dropped kept)))
            ∙ length-append (span_of k dropped (count_of k)) words;
      }

  closing_span : (place from to : ℕ) → span_of (record k { records = closing place k.records }) from to ≡ span_of k from to
  closing_span place from to =
      let n : ℕ = to - from in
      let at : ℕ = from - k.before in
      same_all (take n (drop at (closing place k.records))) (take n (drop at k.records))
      (part_of (λ (r : Spelled). r.words) n at (closing place k.records)
      ∙ ap (λ (l : List (List ℕ)). take n (drop at l)) (closing_each place k.records)
      ∙ sym (part_of (λ (r : Spelled). r.words) n at k.records))

  closing_extends : (place : ℕ) → Extends k (record k { records = closing place k.records }) dropped acked taken 0
  closing_extends place = record {
    before_is = refl;
    front = omega (arith, leading_set (marks_of k.records) place, ap leading (closing_marks place k.records));
    stable = closing_span place dropped acked;
    on_its_way = closing_span place acked taken;
    end = omega (
      arith,
      ap length (closing_span place dropped (count_of (record k { records = closing place k.records }))),
      ap (λ (n : ℕ). length (span_of k dropped (k.before + n))) (closing_count place k.records),
    );
  }

  pub closed_extends : (number : ℕ) → Extends k (closed_at number k) dropped acked taken 0
  closed_extends number = closed_or (nat_lt number k.before) refl
    where
      closed_or : (b : Bool) → nat_lt number k.before ≡ b → Extends k (if b then k else record k { records = closing (number - k.before) k.records }) dropped acked taken 0
      closed_or true is = same_extends
      closed_or false is = closing_extends (number - k.before)

-- none comes and none goes
pub closed_count : (number : ℕ) (k : KeptRecords) → count_of (closed_at number k) ≡ count_of k
closed_count number k = closed_or (nat_lt number k.before)
  where
    closed_or : (b : Bool) → count_of (if b then k else record k { records = closing (number - k.before) k.records }) ≡ count_of k
    closed_or true = refl
    closed_or false = ap (λ (n : ℕ). k.before + n) (closing_count (number - k.before) k.records)

-- as many records as transactions of a node
pub length-records : (numbers : ℕ → ℕ) (content : Content) (node : ℕ) (ts : List Transaction) → length (filter (is_from node) (records_from numbers content ts)) ≡ length (filter (is_of node) ts)
length-records numbers content node [] = refl
length-records numbers content node (t ∷ ts) =
    let next : length (filter (is_from node) (records_from (counted numbers t) (effect t content) ts)) ≡ length (filter (is_of node) ts) = length-records (counted numbers t) (effect t content) node ts in
    elim (is_of node t) as (λ b. length (if b then record_of numbers content t ∷ filter (is_from node) (records_from (counted numbers t) (effect t content) ts) else filter (is_from node) (records_from (counted numbers t) (effect t content) ts)) ≡ length (if b then t ∷ filter (is_of node) ts else filter (is_of node) ts)) [
      | true ↦ ap suc next
      | false ↦ next
    ]

module _ {D : Type 0} (a : Ghosts D) (m : Setting) (node : ℕ) (s : State) (x : Numbers) (log : Log D a) (k : KeptRecords) (dropped trimmed taken acked : ℕ)
    (h : FitsLog a m node log k dropped trimmed taken acked s x) where
  abbrev pub records : List Record
  records = records_of m s x.disks node

  abbrev marks : List Bool
  marks = map (λ (e : Entry). e.closed) (entries_of node s.history)

  -- the number of the next reservation
  pub count_same : count_of k ≡ reserved node s.history
  count_same = omega (
    arith,
    h.all_closed,
    front-reserved node s.history,
    ap length h.marks,
    length-map k.records (λ (r : Spelled). r.closed),
    length-drop k.before marks,
    length-map (entries_of node s.history) (λ (e : Entry). e.closed),
  )

  pub as_many : length records ≡ reserved node s.history
  as_many = length-records x.disks.numbers (base m s) node (transactions s.history) ∙ sym (reserved-count node s.history)

  pub fits_more : (t : Transaction) (r : Record) (words : List ℕ) → acked ≤ taken → taken ≤ front_of k → t.node ≡ node
      → records_of m (appended s t) x.disks node ≡ records ++ r ∷ [] → spelling r ≡ words → IsWhole r
      → FitsLog a m node log (record k { records = k.records ++ record { words = words; closed = false } ∷ [] }) dropped trimmed taken acked (appended s t) x
  fits_more t r words less few own last spelled whole =
      let new : Spelled = record { words = words; closed = false } in
      let late : List Record = records_of m (appended s t) x.disks node in
      let front : front_of k ≤ count_of k = omega (arith, leading_le k.records) in
      let within : k.before ≤ length records = omega (arith, as_many, count_same) in
      let stable : drop dropped (take acked late) ≡ drop dropped (take acked records) =
      ap (λ (l : List Record). drop dropped (take acked l)) last ∙ ap (drop dropped) (take-append-le acked records (r ∷ []) (omega (arith, as_many, count_same, less, few, front))) in
      let group : drop acked (take taken late) ≡ drop acked (take taken records) =
      ap (λ (l : List Record). drop acked (take taken l)) last ∙ ap (drop acked) (take-append-le taken records (r ∷ []) (omega (arith, as_many, count_same, few, front))) in
      let entries : entries_of node (appended s t).history ≡ entries_of node s.history ++ entry t false ∷ [] =
      filter-end (λ (e : Entry). is_of node e.transaction) s.history (entry t false)
      ∙ ap (λ b. entries_of node s.history ++ (if b then entry t false ∷ [] else [])) (eq-eqb t.node node own) in
      record {
        words =
            map-append (λ (r : Spelled). r.words) k.records (new ∷ [])
            ∙ ap (λ (l : List (List ℕ)). l ++ words ∷ []) h.words
            ∙ ap (λ (ws : List ℕ). map spelling (drop k.before records) ++ ws ∷ []) (sym spelled)
            ∙ sym (map-append spelling (drop k.before records) (r ∷ []))
            ∙ ap (map spelling) (sym (drop-append-le k.before records (r ∷ []) within))
            ∙ ap (λ (l : List Record). map spelling (drop k.before l)) (sym last);
        marks =
            map-append (λ (r : Spelled). r.closed) k.records (new ∷ [])
            ∙ ap (λ (l : List Bool). l ++ false ∷ []) h.marks
            ∙ sym (drop-append-le k.before marks (false ∷ []) (omega (arith, count_same, length-map (entries_of node s.history) (λ (e : Entry). e.closed))))
            ∙ ap (drop k.before) (sym (ap (map (λ (e : Entry). e.closed)) entries ∙ map-append (λ (e : Entry). e.closed) (entries_of node s.history) (entry t false ∷ [])));
        all_closed = omega (arith, h.all_closed, front-push node s.history t);
        whole = subst (AllByRecursion IsWhole) (sym last) (whole_more records r h.whole whole);
        stands =
            subst (λ (l : List Record). Stands a log (s.flush node).steps l (drop acked (take taken late))) (sym stable)
            (subst (λ (l : List Record). Stands a log (s.flush node).steps (drop dropped (take acked records)) l) (sym group) h.stands);
        halted = h.halted;
        dropped_is = h.dropped_is;
        trimmed_is = h.trimmed_is;
        acked_is = h.acked_is;
        taken_is = h.taken_is;
        reset_is = h.reset_is;
      }

  fits_shut : (thread number : ℕ) (t : Transaction) → Sound m.geometry s → k.before ≤ number → find (is_by node thread) (unclosed s.history) ≡ Some t
      → slice_get (entries_of node s.history) number ≡ Some (entry t false)
      → FitsLog a m node log (record k { records = closing (number - k.before) k.records }) dropped trimmed taken acked (record s { history = closed_by node thread s.history }) x
  fits_shut thread number t sound kept found there =
      let place : ℕ = number - k.before in
      let late : List Record = records_of m (record s { history = closed_by node thread s.history }) x.disks node in
      let same : late ≡ records = ap (λ (ts : List Transaction). filter (is_from node) (records_from x.disks.numbers (base m s) ts)) (transactions-closed node thread s.history) in
      let its : is_by node thread t ≡ true = found-passes (is_by node thread) (unclosed s.history) t found in
      record {
        words = closing_each place k.records ∙ h.words ∙ ap (λ (l : List Record). map spelling (drop k.before l)) (sym same);
        marks =
            closing_marks place k.records
            ∙ ap (λ (l : List Bool). slice_set l place true) h.marks
            ∙ set_drop k.before number marks true kept
            ∙ ap (drop k.before) (sym (ap (map (λ (e : Entry). e.closed)) (entries_shut node node thread s.history)
            ∙ shut_marks node thread (entries_of node s.history) number t there its (one_open node thread m.geometry s sound)));
        all_closed = le_trans h.all_closed (front-closed node node thread s.history);
        whole = subst (AllByRecursion IsWhole) (sym same) h.whole;
        stands = subst (λ (l : List Record). Stands a log (s.flush node).steps (drop dropped (take acked l)) (drop acked (take taken l))) (sym same) h.stands;
        halted = h.halted;
        dropped_is = h.dropped_is;
        trimmed_is = h.trimmed_is;
        acked_is = h.acked_is;
        taken_is = h.taken_is;
        reset_is = h.reset_is;
      }

  -- what is not closed stands after all that is dropped
  pub fits_closed : (thread number : ℕ) (t : Transaction) → Sound m.geometry s → find (is_by node thread) (unclosed s.history) ≡ Some t
      → slice_get (entries_of node s.history) number ≡ Some (entry t false)
      → FitsLog a m node log (closed_at number k) dropped trimmed taken acked (record s { history = closed_by node thread s.history }) x
  fits_closed thread number t sound found there =
      let behind = open_behind marks number (get-map (λ (e : Entry). e.closed) (entries_of node s.history) number (entry t false) there) in
      let kept : k.before ≤ number = le_trans h.all_closed behind in
      subst (λ (l : KeptRecords). FitsLog a m node log l dropped trimmed taken acked (record s { history = closed_by node thread s.history }) x) (sym (closed_in number k kept))
      (fits_shut thread number t sound kept found there)
