-- Of a journal: the pieces that a store is made of, and how they stand in it.
use Rattle.std.specs.Prelude.{◌≡◌, ℕ, ◌+◌, ◌*◌, ◌<◌, ◌≤◌, ◌^◌, length}
use Rattle.lc_disk.specs.declared.area.Area.{Ghosts}
use Rattle.lc_journal.specs.Records.{all_words, front_of, span_of}
use Rattle.lc_journal.specs.declared.journal.Journal.{Journal}
use Rattle.lc_journal.specs.declared.log.Log.TheVariants.{Idle}
use Rattle.lc_journal.specs.declared.node_piece.NodePiece.{NodePiece}

-- The nodes

module _ {D : Type 0} (a : Ghosts D) where
  -- the log, which has room for so many words, has the stable ones of the records that are kept, all of which fit into it
  pub record IsNodePiece (words : ℕ) (piece : NodePiece D a) : Type 0 where
    pub area : length (a.now piece.log.area) ≡ 8 * (words + 1)
    pub kept : piece.records.before ≤ piece.stable
    pub closed : piece.stable ≤ front_of piece.records
    pub end : piece.log.end ≡ length (span_of piece.records piece.records.before piece.stable)
    pub room : length (all_words piece.records.records) ≤ words
    pub few_rounds : piece.round < 2 ^ 48

  -- a journal that begins at what is dropped, with all that is stable taken and acknowledged
  pub record IsMadeJournal (piece : NodePiece D a) (journal : Journal D a) : Type 0 where
    pub log : journal.log ≡ Idle piece.log
    pub records : journal.records ≡ piece.records
    pub dropped : journal.dropped ≡ piece.records.before
    pub trimmed : journal.trimmed ≡ piece.records.before
    pub taken : journal.taken ≡ piece.stable
    pub acked : journal.acked ≡ piece.stable
    pub round : journal.round ≡ piece.round
