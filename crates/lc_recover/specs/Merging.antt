-- What a merge makes of areas that were read.
use Rattle.std.specs.Prelude.{◌≡◌, ℕ, List, length, None, Some}
use Rattle.lc_record.specs.Content.{Content}
use Rattle.lc_record.specs.declared.geometry.Geometry.{Geometry}
use Rattle.lc_model.specs.Merge.{MergesTo}
use Rattle.lc_recover.specs.KeptAreas.{IsRead}
use Rattle.lc_recover.specs.Reads.{store_of}
use Rattle.lc_recover.specs.RecoveryPhase.{IsWriting}
use Rattle.lc_recover.specs.Recovery.{AreBehind}
use Rattle.lc_recover.specs.Steps.{pages_in, pages_left, pages_kept}
use Rattle.lc_recover.specs.declared.page_writes.PageWrites.{PageWrites}
use Rattle.lc_recover.specs.declared.recovery_phase.RecoveryPhase.{RecoveryPhase}

-- what is kept is what was read, its store is the one that they read as, and no page is written yet
pub record IsMergedFrom (g : Geometry) (read : List (List ℕ)) (w : PageWrites) : Type 0 where
  pub kept : IsRead g read w.kept
  pub sound : IsWriting g w
  pub same_store : sound.store ≡ store_of g read
  pub next : w.next ≡ 0
  pub written : w.written ≡ 0
  pub current : w.current ≡ None

-- the merge of what was read is not refused; its pages are kept, and those that some record is newer than are left
pub record IsMergedStage (g : Geometry) (read : List (List ℕ)) (stage : RecoveryPhase) : Type 0 where
  pub content : Content
  pub numbers : ℕ → ℕ
  pub merges : MergesTo (store_of g read) content numbers
  pub pages : pages_in stage ≡ Some (length (pages_left stage))
  pub kept : pages_kept stage ≡ (store_of g read).pages
  pub behind : AreBehind (store_of g read) (pages_left stage)
