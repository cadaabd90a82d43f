-- Of nodes that run: a record more, and a record that is closed, among those that a journal keeps.
use Rattle.std.proofs.Common.{◌≡◌, ℕ, ◌≤◌, List, [], ◌∷◌, length, drop, refl, sym, ap, ◌∙◌, arith}
use Rattle.std.specs.Prelude.{sum_by}
use Rattle.std.proofs.lemmas.List.{length-append, take_all}
use Rattle.std.proofs.lemmas.List.Sums.{sum_by-cons}
use Rattle.lc_disk.specs.declared.area.Area.{Ghosts}
use Rattle.lc_record.specs.Record.{spelling, record_len}
use Rattle.lc_record.specs.declared.record.Record.{Record}
use Rattle.lc_record.proofs.SpellingLemmas.{length-spelling}
use Rattle.lc_log.specs.LogText.{joined}
use Rattle.lc_model.specs.State.{Setting, State}
use Rattle.lc_settled.specs.Numbers.{Numbers, round_records, log_end}
use Rattle.lc_journal.specs.Records.{KeptRecords, count_of, span_of}
use Rattle.lc_journal.specs.declared.log.Log.{Log}
use Rattle.lc_journal.specs.Journal.{FitsLog}
use Rattle.lc_journal.proofs.Flushing.{span_joined}
use Rattle.lc_journal.proofs.Logged.{as_many, count_same, records}

length-joined : (records : List Record) → sum_by record_len records ≡ length (joined records)
length-joined [] = refl
length-joined (r ∷ records) =
    omega (arith, sum_by-cons record_len r records, length-joined records, length-spelling r, length-append (spelling r) (joined records))

module _ {D : Type 0} (a : Ghosts D) (m : Setting) (node : ℕ) (s : State) (x : Numbers) (log : Log D a) (k : KeptRecords) (dropped trimmed taken acked : ℕ)
    (h : FitsLog a m node log k dropped trimmed taken acked s x) where
  -- the end of its records is the machine's
  pub end_same : k.before ≤ dropped → dropped ≤ count_of k → length (span_of k dropped (count_of k)) ≡ log_end m s x node
  end_same kept within =
      ap length (span_joined (records a m node s x log k dropped trimmed taken acked h) k dropped (count_of k) h.words kept within
      ∙ ap (λ (l : List Record). joined (drop dropped l)) (take_all (count_of k) (records a m node s x log k dropped trimmed taken acked h) (omega (arith, (as_many a m node s x log k dropped trimmed taken acked h), (count_same a m node s x log k dropped trimmed taken acked h))))
      ∙ ap (λ (n : ℕ). joined (drop n (records a m node s x log k dropped trimmed taken acked h))) h.dropped_is)
      ∙ sym (length-joined (round_records m s x node))
