-- What it is that a node's journal follows its reservations, the closing of its records, and its trims.
use Rattle.std.specs.Prelude.{◌≡◌, ℕ, ◌+◌, false, List, [], ◌∷◌, ◌++◌, length, min, find, Some, slice_get}
use Rattle.lc_disk.specs.declared.area.Area.{Ghosts}
use Rattle.lc_record.specs.Record.{spelling}
use Rattle.lc_record.specs.Transaction.{Transaction}
use Rattle.lc_record.specs.declared.record.Record.{Record}
use Rattle.lc_log.specs.LogText.{IsWhole}
use Rattle.lc_model.specs.History.{entries_of, reserved}
use Rattle.lc_model.specs.Machine.{appended, closed_by}
use Rattle.lc_model.specs.Sound.{Sound, unclosed}
use Rattle.lc_model.specs.State.{Setting, State, update, is_by}
use Rattle.lc_model.specs.Stored.{records_of}
use Rattle.lc_settled.specs.Numbers.{Numbers}
use Rattle.lc_journal.specs.Records.{count_of, span_of}
use Rattle.lc_journal.specs.declared.journal.Journal.{Journal}
use Rattle.lc_journal.specs.Follows.{FitsJournal}

module _ {D : Type 0} (a : Ghosts D) where
  -- where its records end, in words of the present round
  abbrev pub end_of_records : Journal D a → ℕ
  end_of_records w = length (span_of w.records w.dropped (count_of w.records))

  -- whatever state of the machine it fits, it goes on to fit the one where a transaction is reserved whose record has these
  -- words, and the number is the reservation's
  abbrev pub Logs : Journal D a → List ℕ → ℕ → Journal D a → Type 0
  Logs old words number new =
      (m : Setting) (node : ℕ) (s : State) (x : Numbers) (t : Transaction) (r : Record) → FitsJournal a m node old s x → t.node ≡ node
      → records_of m (appended s t) x.disks node ≡ records_of m s x.disks node ++ r ∷ [] → spelling r ≡ words → IsWhole r
      → (number ≡ reserved node s.history) × FitsJournal a m node new (appended s t) x

  -- it goes on to fit the one where the reservation of this number is closed
  abbrev pub Shuts : Journal D a → ℕ → Journal D a → Type 0
  Shuts old number new =
      (m : Setting) (node thread : ℕ) (s : State) (x : Numbers) (t : Transaction) → Sound m.geometry s → FitsJournal a m node old s x
      → find (is_by node thread) (unclosed s.history) ≡ Some t
      → slice_get (entries_of node s.history) number ≡ Some (record { transaction = t; closed = false })
      → FitsJournal a m node new (record s { history = closed_by node thread s.history }) x

  -- records in front are kept no longer, and all else is as it was: whatever it fitted, it still fits
  pub record Forgets (old new : Journal D a) : Type 0 where
    pub still : (m : Setting) (node : ℕ) (s : State) (x : Numbers) → FitsJournal a m node old s x → FitsJournal a m node new s x
    pub kept : new.records.before ≡ min new.dropped new.trimmed
    pub end : end_of_records new ≡ end_of_records old
    pub log : new.log ≡ old.log
    pub group : new.group ≡ old.group
    pub words : new.words ≡ old.words
    pub dropped : new.dropped ≡ old.dropped
    pub trimmed : new.trimmed ≡ old.trimmed
    pub acked : new.acked ≡ old.acked
    pub round : new.round ≡ old.round

  -- and the numbers where so many more records are trimmed
  abbrev pub Trims : Journal D a → ℕ → Journal D a → Type 0
  Trims old count new =
      (m : Setting) (node : ℕ) (s : State) (x : Numbers) → FitsJournal a m node old s x
      → FitsJournal a m node new s (record x { trimmed = update x.trimmed node (x.trimmed node + count) })
