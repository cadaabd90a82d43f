-- When a segment can be locked in a mode, and who holds it then.
use Rattle.std.specs.Prelude.{◌≡◌, ℕ, None}
use Rattle.lc_tx.specs.Holders.{Joins, writer_of}
use Rattle.lc_tx.specs.declared.holders.Holders.{Holders}
use Rattle.lc_tx.specs.declared.holders.Holders.TheVariants.{Free, Writer}
use Rattle.lc_tx.specs.declared.lock_mode.LockMode.{LockMode}
use Rattle.lc_tx.specs.declared.lock_mode.LockMode.TheVariants.{Exclusive, Shared}

-- they let one more thread lock it in this mode
abbrev pub Allow : LockMode → Holders → Type 0
Allow Exclusive holders = holders ≡ Free
Allow Shared holders = writer_of holders ≡ None

-- the thread locks it in this mode
abbrev pub Takes : LockMode → ℕ → Holders → Holders → Type 0
Takes Exclusive thread old new = new ≡ Writer thread
Takes Shared thread old new = Joins thread old new
