-- What came of a call of C on a draft.
use Rattle.std.specs.Prelude.{◌≡◌, ◌≢◌, ℕ, Bool, true, false, List, [], Result, Ok, Err, length, slice_index}
use Rattle.std.specs.Option.{unwrap_or}
use Rattle.std.specs.declared.alloc.AllocError.{AllocError}
use Rattle.lc_range.specs.Undo.{kept}
use Rattle.lc_model.specs.declared.refusal.Refusal.{Refusal}
use Rattle.lc_model.specs.declared.refusal.Refusal.TheVariants.{Down}
use Rattle.lc_model.specs.declared.reply.Reply.{Reply}
use Rattle.lc_model.specs.declared.reply.Reply.TheVariants.{Bytes, Refused}
use Rattle.lc_changes.specs.Draft.{HasNothing, ReadsBytes, SetsRange, WritesBytes, image_len_of, reading_of, undo_of, writing_of}
use Rattle.lc_changes.specs.declared.draft.Draft.{Draft}
use Rattle.lc_c.specs.Answer.{answer_of, of_refusal, of_reply}
use Rattle.lc_c.specs.declared.answer.Answer.{Answer}
use Rattle.lc_c.specs.declared.draft_handle.DraftHandle.{DraftHandle}

-- no segment is locked
pub record LocksNone (d : Draft) : Type 0 where
  pub none_written : writing_of d ≡ []
  pub none_read : reading_of d ≡ []

-- a handle that holds a draft of images of so many bytes, with no locks
pub record IsNewDraft (image_len : ℕ) (new : DraftHandle) : Type 0 where
  pub held : new.held ≡ true
  pub locks : LocksNone new.value
  pub nothing : HasNothing new.value
  pub long : image_len_of new.value ≡ image_len

-- the draft of a handle that has one takes the range; a handle that has none refuses it as a store that is down
abbrev pub SetsIf : Bool → Draft → ℕ → List ℕ → ℕ → ℕ → Result Reply AllocError → Draft → Type 0
SetsIf true old segment image offset len said new = SetsRange old segment image offset len said new
SetsIf false old segment image offset len said new = said ≡ Ok (Refused Down)

pub record DraftSets (old : DraftHandle) (segment : ℕ) (image : List ℕ) (offset len : ℕ) (answer : Answer) (new : DraftHandle) : Type 0 where
  pub said : Result Reply AllocError
  pub sets : SetsIf old.held old.value segment image offset len said new.value
  pub answers : answer ≡ answer_of said
  pub held : new.held ≡ old.held

-- the same of a write
abbrev pub WritesIf : Bool → Draft → ℕ → List ℕ → ℕ → List ℕ → Reply → List ℕ → Type 0
WritesIf true d segment image offset bytes reply new = WritesBytes d segment image offset bytes reply new
WritesIf false d segment image offset bytes reply new = (reply ≡ Refused Down) × (new ≡ image)

pub record DraftWrites (old : DraftHandle) (segment : ℕ) (image : List ℕ) (offset : ℕ) (bytes later : List ℕ) (answer : Answer) (new : DraftHandle) : Type 0 where
  pub reply : Reply
  pub writes : WritesIf old.held old.value segment image offset bytes reply later
  pub answers : answer ≡ answer_of (Ok reply)
  pub same : new ≡ old

-- the same of a read
abbrev pub ReadsIf : Bool → Draft → ℕ → List ℕ → ℕ → List ℕ → Result (Unit {0}) Refusal → List ℕ → Type 0
ReadsIf true d segment image offset olds done news = ReadsBytes d segment image offset olds done news
ReadsIf false d segment image offset olds done news = (done ≡ Err Down) × (news ≡ olds)

-- bytes were read, or it is refused
abbrev pub answer_to_read : Result (Unit {0}) Refusal → Answer
answer_to_read (Ok its) = of_reply (Bytes [])
answer_to_read (Err refusal) = of_refusal refusal

pub record DraftFills (old : DraftHandle) (segment : ℕ) (image : List ℕ) (offset : ℕ) (olds news : List ℕ) (answer : Answer) (new : DraftHandle) : Type 0 where
  pub done : Result (Unit {0}) Refusal
  pub reads : ReadsIf old.held old.value segment image offset olds done news
  pub answers : answer ≡ answer_to_read done
  pub same : new ≡ old

-- an image gets back what was kept of it; an array of another length is none
pub record BringsBack (d : Draft) (segment : ℕ) (image new : List ℕ) : Type 0 where
  pub long : length new ≡ length image
  pub no_image : length image ≢ image_len_of d → new ≡ image
  pub bytes : length image ≡ image_len_of d → (k : ℕ) → slice_index new k ≡ unwrap_or (kept (undo_of d) segment k) (slice_index image k)

abbrev pub BringsBackIf : Bool → Draft → ℕ → List ℕ → List ℕ → Type 0
BringsBackIf true d segment image new = BringsBack d segment image new
BringsBackIf false d segment image new = new ≡ image
