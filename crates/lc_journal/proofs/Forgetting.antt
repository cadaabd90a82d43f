-- Records in front that are kept no longer.
use Rattle.std.proofs.Common.{◌≡◌, ℕ, ◌+◌, ◌-◌, ◌≤◌, List, drop, length, map, take, sym, ap, ◌∙◌, arith}
use Rattle.std.proofs.lemmas.List.{drop-drop, drop-map, length-drop}
use Rattle.lc_disk.specs.declared.area.Area.{Ghosts}
use Rattle.lc_record.specs.Record.{spelling}
use Rattle.lc_model.specs.History.{entries_of, leading}
use Rattle.lc_model.specs.State.{Setting, State}
use Rattle.lc_model.specs.Stored.{records_of}
use Rattle.lc_journal.specs.Journal.{FitsLog}
use Rattle.lc_settled.specs.Numbers.{Numbers}
use Rattle.lc_journal.specs.Records.{KeptRecords, Spelled, all_words, count_of, front_of, marks_of, span_of}
use Rattle.lc_journal.specs.declared.log.Log.{Log}
use Rattle.lc_journal.proofs.Flushing.{front_same}
use Rattle.lc_journal.proofs.Spans.{leading_drop, leading_le}

abbrev pub forgotten : KeptRecords → ℕ → KeptRecords
forgotten k number = record { before = number; records = drop (number - k.before) k.records }

-- what is asked for of these records is as before
pub record IsForgotten (k later : KeptRecords) (dropped acked taken : ℕ) : Type 0 where
  pub count : count_of later ≡ count_of k
  pub front : front_of later ≡ front_of k
  pub stable : span_of later dropped acked ≡ span_of k dropped acked
  pub on_its_way : span_of later acked taken ≡ span_of k acked taken
  pub end : length (span_of later dropped (count_of later)) ≡ length (span_of k dropped (count_of k))

module _ (k : KeptRecords) (number : ℕ) (kept : k.before ≤ number) (closed : number ≤ front_of k) where
  pub span_forgotten : (from to : ℕ) → number ≤ from → span_of (forgotten k number) from to ≡ span_of k from to
  span_forgotten from to behind =
      let same : (number - k.before) + (from - number) ≡ from - k.before = omega (arith, kept, behind) in
      ap (λ (rs : List Spelled). all_words (take (to - from) rs)) (drop-drop (from - number) (number - k.before) k.records ∙ ap (λ (n : ℕ). drop n k.records) same)

  pub count_forgotten : count_of (forgotten k number) ≡ count_of k
  count_forgotten = (let len = length-drop (number - k.before) k.records in let few = leading_le k.records in omega (arith, len, few, kept, closed))

  pub front_forgotten : front_of (forgotten k number) ≡ front_of k
  front_forgotten =
      let marks = ap leading (sym (drop-map (λ (r : Spelled). r.closed) (number - k.before) k.records)) in
      let left = leading_drop (number - k.before) (marks_of k.records) (omega (arith, kept, closed)) in
      omega (arith, marks, left, kept, closed)

  pub is_forgotten : (dropped acked taken : ℕ) → number ≤ dropped → dropped ≤ acked → acked ≤ taken → IsForgotten k (forgotten k number) dropped acked taken
  is_forgotten dropped acked taken first next last = record {
    count = count_forgotten;
    front = front_forgotten;
    stable = span_forgotten dropped acked first;
    on_its_way = span_forgotten acked taken (omega (arith, first, next));
    end = ap length (span_forgotten dropped (count_of (forgotten k number)) first ∙ ap (span_of k dropped) count_forgotten);
  }

  -- the journal's log fits as before
  pub log_forgotten : {D : Type 0} (a : Ghosts D) (m : Setting) (node : ℕ) (log : Log D a) (dropped trimmed taken acked : ℕ) (s : State) (x : Numbers)
      → FitsLog a m node log k dropped trimmed taken acked s x → FitsLog a m node log (forgotten k number) dropped trimmed taken acked s x
  log_forgotten a m node log dropped trimmed taken acked s x h =
      let same : k.before + (number - k.before) ≡ number = omega (arith, kept) in
      record {
        words = sym (drop-map (λ (r : Spelled). r.words) (number - k.before) k.records) ∙ ap (drop (number - k.before)) h.words
            ∙ drop-map spelling (number - k.before) (drop k.before (records_of m s x.disks node))
            ∙ ap (map spelling) (drop-drop (number - k.before) k.before (records_of m s x.disks node) ∙ ap (λ (n : ℕ). drop n (records_of m s x.disks node)) same);
        marks = sym (drop-map (λ (r : Spelled). r.closed) (number - k.before) k.records) ∙ ap (drop (number - k.before)) h.marks
            ∙ drop-drop (number - k.before) k.before (map (λ e. e.closed) (entries_of node s.history)) ∙ ap (λ (n : ℕ). drop n (map (λ e. e.closed) (entries_of node s.history))) same;
        all_closed = (let front_is = front_same a m node s x k dropped trimmed acked log taken h in omega (arith, closed, front_is));
        whole = h.whole;
        stands = h.stands;
        halted = h.halted;
        dropped_is = h.dropped_is;
        trimmed_is = h.trimmed_is;
        acked_is = h.acked_is;
        taken_is = h.taken_is;
        reset_is = h.reset_is;
      }
