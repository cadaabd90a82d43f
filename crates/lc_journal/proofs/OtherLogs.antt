-- The journals of the other nodes stay.
use Rattle.std.proofs.Common.{◌≡◌, ◌≢◌, ℕ, Bool, true, false, Some, eqb-true, List, [], ◌∷◌, ◌++◌, map, filter, refl, sym, ap, ◌∙◌}
use Rattle.std.specs.Prelude.{if◌then◌else◌}
use Rattle.std.proofs.lemmas.Bool.{ne_eqb}
use Rattle.std.proofs.lemmas.List.{append-nil}
use Rattle.lc_disk.specs.declared.area.Area.{Ghosts}
use Rattle.lc_record.specs.Transaction.{Transaction, effects}
use Rattle.lc_record.specs.Recorded.{record_of, records_from}
use Rattle.lc_model.specs.History.{Entry, transactions, entries_of, is_of}
use Rattle.lc_model.specs.Machine.{appended, closed_by}
use Rattle.lc_model.specs.Merging.{counted_all, is_from}
use Rattle.lc_model.specs.State.{Setting, State, running_of, is_by}
use Rattle.lc_model.specs.Stored.{base, records_of}
use Rattle.lc_model.proofs.Fronts.{entry, transactions-closed}
use Rattle.lc_model.proofs.Holders.{is_by-both}
use Rattle.lc_model.proofs.Lists.{found-passes}
use Rattle.lc_model.proofs.Merging.{records_from-append}
use Rattle.lc_model.proofs.Seats.{is_by-other}
use Rattle.lc_journal.specs.Beside.{BesideLogs}
use Rattle.lc_settled.specs.Follows.{SameButLog}
use Rattle.lc_settled.specs.FollowsDesk.{SameButOpen}
use Rattle.lc_journal.specs.Journal.{FitsLog}
use Rattle.lc_settled.specs.Numbers.{Numbers}
use Rattle.lc_journal.specs.Records.{KeptRecords}
use Rattle.lc_journal.specs.declared.log.Log.{Log}
use Rattle.lc_settled.proofs.Appending.{filter-end}
use Rattle.lc_settled.proofs.Closes.{entries_shut, shut}

pub log_beside : {D : Type 0} (a : Ghosts D) (m : Setting) (node other : ℕ) (old : State) (x : Numbers) (new : State) (y : Numbers) → other ≢ node → BesideLogs m node old x new y
    → (log : Log D a) (kept : KeptRecords) (dropped trimmed taken acked : ℕ) → FitsLog a m other log kept dropped trimmed taken acked old x → FitsLog a m other log kept dropped trimmed taken acked new y
log_beside a m node other old x new y differ beside log kept dropped trimmed taken acked h = record {
  words = rw (beside.records other differ) h.words;
  marks = rw (beside.marks other differ) h.marks;
  all_closed = rw (beside.marks other differ) h.all_closed;
  whole = rw (beside.records other differ) h.whole;
  stands = rw (beside.records other differ, beside.flush other differ) h.stands;
  halted = beside.halted other differ ∙ h.halted;
  dropped_is = h.dropped_is ∙ sym (beside.dropped other differ);
  trimmed_is = h.trimmed_is ∙ sym (beside.trimmed other differ);
  acked_is = h.acked_is ∙ sym (beside.ack other differ);
  taken_is = rw (beside.flush other differ) h.taken_is;
  reset_is = rw (beside.reset other differ) h.reset_is;
}

pub logs_open : (m : Setting) (node : ℕ) (s after : State) (x : Numbers) → SameButOpen node s after → BesideLogs m node s x after x
logs_open m node s after x same = record {
  records = λ other differ. rw (same.earlier, same.history) refl;
  marks = λ other differ. rw same.history refl;
  flush = λ other differ. ap (λ f. f other) same.flush;
  halted = λ other differ. ap (λ f. f other) same.halted;
  ack = λ other differ. ap (λ f. f other) same.ack;
  dropped = λ other differ. refl;
  trimmed = λ other differ. refl;
  reset = λ other differ. refl;
  round = λ other differ. refl;
}

pub logs_logged : (m : Setting) (node : ℕ) (s after : State) (x : Numbers) → SameButLog node s after → BesideLogs m node s x after x
logs_logged m node s after x same = record {
  records = λ other differ. rw (same.earlier, same.history) refl;
  marks = λ other differ. rw same.history refl;
  flush = same.flush;
  halted = same.halted;
  ack = same.ack;
  dropped = λ other differ. refl;
  trimmed = λ other differ. refl;
  reset = λ other differ. refl;
  round = λ other differ. refl;
}

pub logs_appended : (m : Setting) (node i : ℕ) (s : State) (x : Numbers) (t : Transaction) → running_of node i s ≡ Some t → BesideLogs m node s x (appended s t) x
logs_appended m node i s x t running = record {
  records = λ other differ.
      ap (λ ts. filter (is_from other) (records_from x.disks.numbers (base m s) ts)) (pushed s.history)
      ∙ ap (filter (is_from other)) (records_from-append x.disks.numbers (base m s) (transactions s.history) (t ∷ []))
      ∙ filter-end (is_from other) (records_from x.disks.numbers (base m s) (transactions s.history)) (record_of (counted_all x.disks.numbers (transactions s.history)) (effects (transactions s.history) (base m s)) t)
      ∙ ap (λ b. records_of m s x.disks other ++ (if b then record_of (counted_all x.disks.numbers (transactions s.history)) (effects (transactions s.history) (base m s)) t ∷ [] else [])) (not_its other differ)
      ∙ append-nil (records_of m s x.disks other);
  marks = λ other differ.
      ap (map (λ (e : Entry). e.closed)) (filter-end (λ (e : Entry). is_of other e.transaction) s.history (entry t false)
      ∙ ap (λ b. entries_of other s.history ++ (if b then entry t false ∷ [] else [])) (not_its other differ) ∙ append-nil (entries_of other s.history));
  flush = λ other differ. refl;
  halted = λ other differ. refl;
  ack = λ other differ. refl;
  dropped = λ other differ. refl;
  trimmed = λ other differ. refl;
  reset = λ other differ. refl;
  round = λ other differ. refl;
}
  where
    not_its : (other : ℕ) → other ≢ node → is_of other t ≡ false
    not_its other differ = ne_eqb t.node other (λ e. differ (sym e ∙ (is_by-both node i t (found-passes (is_by node i) s.running t running)).0))

    pushed : (history : List Entry) → transactions (history ++ entry t false ∷ []) ≡ transactions history ++ t ∷ []
    pushed [] = refl
    pushed (e ∷ es) = ap (λ ts. e.transaction ∷ ts) (pushed es)

pub logs_closed : (m : Setting) (node i : ℕ) (s : State) (x : Numbers) → BesideLogs m node s x (record s { history = closed_by node i s.history }) x
logs_closed m node i s x = record {
  records = λ other differ. ap (λ ts. filter (is_from other) (records_from x.disks.numbers (base m s) ts)) (transactions-closed node i s.history);
  marks = λ other differ. ap (map (λ (e : Entry). e.closed)) (entries_shut other node i s.history) ∙ same_marks other differ s.history;
  flush = λ other differ. refl;
  halted = λ other differ. refl;
  ack = λ other differ. refl;
  dropped = λ other differ. refl;
  trimmed = λ other differ. refl;
  reset = λ other differ. refl;
  round = λ other differ. refl;
}
  where
    same_mark : (other : ℕ) → other ≢ node → (t : Transaction) (closed : Bool) → is_of other t ≡ true → (shut node i (entry t closed)).closed ≡ closed
    same_mark other differ t true its = refl
    same_mark other differ t false its =
        ap (λ b. (if b then entry t true else entry t false).closed) (is_by-other node i t (λ nodes _. differ (sym (eqb-true t.node other its) ∙ nodes)))

    same_marks : (other : ℕ) → other ≢ node → (history : List Entry) → map (λ (e : Entry). e.closed) (map (shut node i) (entries_of other history)) ≡ map (λ (e : Entry). e.closed) (entries_of other history)
    same_marks other differ [] = refl
    same_marks other differ (e ∷ es) = elim (is_of other e.transaction) as (λ b. is_of other e.transaction ≡ b
        → map (λ (e : Entry). e.closed) (map (shut node i) (if b then e ∷ entries_of other es else entries_of other es)) ≡ map (λ (e : Entry). e.closed) (if b then e ∷ entries_of other es else entries_of other es)) [
          | true ↦ λ is. ap (λ b. b ∷ map (λ (e : Entry). e.closed) (map (shut node i) (entries_of other es))) (same_mark other differ e.transaction e.closed is)
              ∙ ap (λ l. e.closed ∷ l) (same_marks other differ es)
          | false ↦ λ is. same_marks other differ es
        ] refl
