-- What a draft has locked and set, and what its work does.
use Rattle.std.specs.Prelude.{◌≡◌, ◌≢◌, ℕ, List, [], Result, Ok, Err, OnErr, OnOk, length, take, drop, slice_index}
use Rattle.std.specs.declared.alloc.AllocError.{AllocError}
use Rattle.lc_record.specs.Content.{put}
use Rattle.lc_record.specs.Transaction.{Transaction}
use Rattle.lc_record.specs.Geometry.{segment_len}
use Rattle.lc_record.specs.declared.geometry.Geometry.{Geometry}
use Rattle.lc_range.specs.RangeSet.{AddsPositions}
use Rattle.lc_range.specs.Undo.{KeepsOld, OldBytes}
use Rattle.lc_range.specs.declared.range.Range.{Range}
use Rattle.lc_model.specs.Refusals.{read_refusal, set_range_refusal, write_refusal}
use Rattle.lc_model.specs.Sound.{IsProper}
use Rattle.lc_model.specs.declared.refusal.Refusal.{Refusal}
use Rattle.lc_model.specs.declared.refusal.Refusal.TheVariants.{Unknown}
use Rattle.lc_model.specs.declared.reply.Reply.{Reply}
use Rattle.lc_model.specs.declared.reply.Reply.TheVariants.{Ok as Accepted, Refused}
use Rattle.lc_changes.specs.Calls.{AreRangesOf, refused_or}
use Rattle.lc_changes.specs.Replies.{AnswersRange, done_or}
use Rattle.lc_changes.specs.Setting.{RangeTakesMemory}
use Rattle.lc_changes.specs.declared.draft.Draft.{Draft}

-- what it has locked for writing, and for reading
abbrev pub writing_of : Draft → List ℕ
writing_of d = d.writing.items

abbrev pub reading_of : Draft → List ℕ
reading_of d = d.reading.items

-- the runs that are set, the bytes that were kept of them, and the length of an image
abbrev pub set_of : Draft → List Range
set_of d = d.changes.set

abbrev pub undo_of : Draft → List OldBytes
undo_of d = d.changes.undo

abbrev pub image_len_of : Draft → ℕ
image_len_of d = d.changes.image_len

-- so many of the runs were handed over
abbrev pub handed_of : Draft → ℕ
handed_of d = d.handed

-- nothing is set, and nothing was handed over
pub record HasNothing (d : Draft) : Type 0 where
  pub none_set : set_of d ≡ []
  pub none_kept : undo_of d ≡ []
  pub none_handed : handed_of d ≡ 0

pub record SameLocks (old new : Draft) : Type 0 where
  pub same_writing : writing_of new ≡ writing_of old
  pub same_reading : reading_of new ≡ reading_of old

-- it is the same, but for how many were handed over
pub record IsSameBut (old new : Draft) : Type 0 where
  pub locks : SameLocks old new
  pub same_set : set_of new ≡ set_of old
  pub same_undo : undo_of new ≡ undo_of old
  pub same_len : image_len_of new ≡ image_len_of old

-- it has what this transaction of a store has locked, and has set what that has, of images as long as a segment
pub record IsDraftOf (g : Geometry) (t : Transaction) (d : Draft) : Type 0 where
  pub proper : IsProper g t
  pub same_locked : t.locked ≡ writing_of d
  pub same_reading : t.reading ≡ reading_of d
  pub ranges : AreRangesOf t.marks (set_of d)
  pub long : image_len_of d ≡ segment_len g

-- what a range is answered, and what becomes of the draft
pub record SetsRange (old : Draft) (segment : ℕ) (image : List ℕ) (offset len : ℕ) (said : Result Reply AllocError) (new : Draft) : Type 0 where
  pub no_image : length image ≢ image_len_of old → said ≡ Ok (Refused Unknown)
  pub answers : length image ≡ image_len_of old → (g : Geometry) (t : Transaction) → IsDraftOf g t old → AnswersRange (set_range_refusal g t segment offset len) said
  pub sets : said ≡ Ok Accepted → AddsPositions (set_of old) segment offset len (set_of new)
  pub keeps : said ≡ Ok Accepted → KeepsOld (undo_of old) (set_of old) segment offset len (slice_index image) (undo_of new)
  pub none : said ≢ Ok Accepted → (set_of new ≡ set_of old) × (undo_of new ≡ undo_of old)
  pub needs : OnErr said (RangeTakesMemory (set_of old) (undo_of old) segment offset len)
  pub locks : SameLocks old new
  pub same_len : image_len_of new ≡ image_len_of old
  pub same_handed : handed_of new ≡ handed_of old

-- what a write is answered, and what becomes of the image
pub record WritesBytes (d : Draft) (segment : ℕ) (image : List ℕ) (offset : ℕ) (bytes : List ℕ) (reply : Reply) (new : List ℕ) : Type 0 where
  pub no_image : length image ≢ image_len_of d → reply ≡ Refused Unknown
  pub answers : length image ≡ image_len_of d → (g : Geometry) (t : Transaction) → IsDraftOf g t d → reply ≡ refused_or (write_refusal g t segment offset bytes) Accepted
  pub written : reply ≡ Accepted → new ≡ put offset bytes image
  pub none : reply ≢ Accepted → new ≡ image

-- how a read is refused, or done, and what becomes of its buffer
pub record ReadsBytes (d : Draft) (segment : ℕ) (image : List ℕ) (offset : ℕ) (buffer : List ℕ) (done : Result (Unit {0}) Refusal) (new : List ℕ) : Type 0 where
  pub no_image : length image ≢ image_len_of d → done ≡ Err Unknown
  pub answers : length image ≡ image_len_of d → (g : Geometry) (t : Transaction) → IsDraftOf g t d → done ≡ done_or (read_refusal g t segment offset (length buffer))
  pub filled : OnOk done (new ≡ take (length buffer) (drop offset image))
  pub none : OnErr done (new ≡ buffer)
