-- Of a journal: what stands ready before the pages of a store are known, and how its nodes are filled with them.
use Rattle.std.specs.Prelude.{◌≡◌, []}
use Rattle.lc_disk.specs.declared.area.Area.{Ghosts}
use Rattle.lc_record.specs.declared.geometry.Geometry.{Geometry}
use Rattle.lc_journal.specs.declared.journal.Journal.{Journal}

module _ {D : Type 0} (a : Ghosts D) where
  -- no record, and room for as many words as there are
  pub record IsBlankJournal (g : Geometry) (journal : Journal D a) : Type 0 where
    pub room : journal.group.room ≡ g.words
    pub records : journal.records ≡ record { before = 0; records = [] }
    pub dropped : journal.dropped ≡ 0
    pub trimmed : journal.trimmed ≡ 0
    pub taken : journal.taken ≡ 0
    pub acked : journal.acked ≡ 0
    pub round : journal.round ≡ 0
