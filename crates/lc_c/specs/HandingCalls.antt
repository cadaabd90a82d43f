-- What came of a call of C by which a draft begins with a transaction of a store, or goes to it.
use Rattle.std.specs.Prelude.{◌≡◌, ◌≢◌, ◌+◌, ◌<◌, ◌≤◌, ℕ, Bool, true, false, ◌&&◌, List, [], Option, None, Some, Result, Ok, Err, OnErr, OnOk, length, take, drop, slice_get}
use Rattle.std.specs.declared.alloc.AllocError.{AllocError}
use Rattle.lc_range.specs.declared.range.Range.{Range}
use Rattle.lc_tx.specs.declared.tx.Tx.{Tx}
use Rattle.lc_model.specs.declared.refusal.Refusal.{Refusal}
use Rattle.lc_model.specs.declared.refusal.Refusal.TheVariants.{Down, OutOfTurn, Unknown}
use Rattle.lc_model.specs.declared.reply.Reply.{Reply}
use Rattle.lc_model.specs.declared.reply.Reply.TheVariants.{Refused, Ok as IsDone}
use Rattle.lc_events.specs.Answered.{place_taken}
use Rattle.lc_events.specs.declared.call_fault.CallFault.{CallFault}
use Rattle.lc_events.specs.declared.call_fault.CallFault.TheVariants.{NoMemory, Refused as IsRefused}
use Rattle.lc_events.specs.declared.placement.Placement.{Placement}
use Rattle.lc_changes.specs.Draft.{HasNothing, IsSameBut, handed_of, image_len_of, reading_of, set_of, writing_of}
use Rattle.lc_changes.specs.declared.draft.Draft.{Draft}
use Rattle.lc_c.specs.Answer.{answer_of}
use Rattle.lc_c.specs.Beside.{IsSameBeside}
use Rattle.lc_c.specs.DraftCalls.{LocksNone}
use Rattle.lc_c.specs.Handing.{BeginsAgain, EndsStage, HandsStage, transaction_in}
use Rattle.lc_c.specs.SessionState.{replied}
use Rattle.lc_c.specs.declared.answer.Answer.{Answer}
use Rattle.lc_c.specs.declared.draft_handle.DraftHandle.{DraftHandle}
use Rattle.lc_c.specs.declared.handle.Handle.{Handle}
use Rattle.lc_c.specs.declared.session.Session.{Session}

-- it is done, refused, or there is no memory
abbrev pub answer_to : Result (Unit {0}) CallFault → Answer
answer_to (Ok its) = answer_of (Ok IsDone)
answer_to (Err (IsRefused refusal)) = answer_of (Ok (Refused refusal))
answer_to (Err NoMemory) = answer_of (Err (record {}))

-- the draft begins with the locks of the thread's open transaction, or with none
pub record LocksDraft (session : Session) (node thread : ℕ) (old : Draft) (result : Result (Unit {0}) AllocError) (new : Draft) : Type 0 where
  pub locks : (tx : Tx) → transaction_in session.stage node thread ≡ Some tx → OnOk result ((writing_of new ≡ tx.locked.items) × (reading_of new ≡ tx.reading.items))
  pub none : transaction_in session.stage node thread ≡ None → LocksNone new
  pub many : OnErr result (LocksNone new)
  pub nothing : HasNothing new
  pub long : image_len_of new ≡ image_len_of old

-- the next range of a draft is handed over, if there is one
pub record HandsNext (node thread : ℕ) (image : List ℕ) (old : Session) (draft : Draft) (result : Result (Unit {0}) CallFault) (new : Session) (later : Draft) : Type 0 where
  pub none : slice_get (set_of draft) (handed_of draft) ≡ None → (result ≡ Ok tt) × (new ≡ old)
  pub no_image : (range : Range) → slice_get (set_of draft) (handed_of draft) ≡ Some range → length image ≢ image_len_of draft → (result ≡ Err (IsRefused Unknown)) × (new ≡ old)
  pub hands : (range : Range) → slice_get (set_of draft) (handed_of draft) ≡ Some range → length image ≡ image_len_of draft
      → HandsStage node thread range (take range.len (drop range.offset image)) old.stage result new.stage
  pub beside : IsSameBeside old new
  pub one : (range : Range) → slice_get (set_of draft) (handed_of draft) ≡ Some range → OnOk result (handed_of later ≡ handed_of draft + 1)
  pub stays : OnErr result (later ≡ draft)
  pub same : IsSameBut draft later

-- the thread's transaction ends, once each range of the draft was handed over; the draft has no locks then
pub record EndsDraft (node thread : ℕ) (old : Session) (draft : Draft) (result : Result Placement CallFault) (new : Session) (later : Draft) : Type 0 where
  pub unhanded : handed_of draft < length (set_of draft) → (result ≡ Err (IsRefused OutOfTurn)) × (new ≡ old)
  pub ends : length (set_of draft) ≤ handed_of draft → EndsStage node thread old.stage result new.stage
  pub beside : IsSameBeside old new
  pub over : OnOk result (LocksNone later × HasNothing later)
  pub stays : OnErr result (later ≡ draft)
  pub long : image_len_of later ≡ image_len_of draft

-- the thread's transaction is dropped and begins again with the draft's locks, and the draft stays, with nothing handed over
pub record BeginsDraftAgain (node thread : ℕ) (old : Session) (draft : Draft) (reply : Reply) (new : Session) (later : Draft) : Type 0 where
  pub again : BeginsAgain node thread (writing_of draft) (reading_of draft) old.stage reply new.stage
  pub beside : IsSameBeside old new
  pub none_handed : handed_of later ≡ 0
  pub same : IsSameBut draft later

-- Of two handles: where one holds nothing it is refused as by a store that is down

abbrev pub HandsIf : Bool → ℕ → ℕ → List ℕ → Session → Draft → Result (Unit {0}) CallFault → Session → Draft → Type 0
HandsIf true node thread image old draft result new later = HandsNext node thread image old draft result new later
HandsIf false node thread image old draft result new later = result ≡ Err (IsRefused Down)

pub record HandsOver (node thread : ℕ) (image : List ℕ) (old : Handle) (draft : DraftHandle) (answer : Answer) (new : Handle) (later : DraftHandle) : Type 0 where
  pub result : Result (Unit {0}) CallFault
  pub hands : HandsIf (old.held && draft.held) node thread image old.value draft.value result new.value later.value
  pub answers : answer ≡ answer_to result
  pub held : new.held ≡ old.held
  pub draft_held : later.held ≡ draft.held

abbrev pub EndsIf : Bool → ℕ → ℕ → Session → Draft → Result Placement CallFault → Session → Draft → Type 0
EndsIf true node thread old draft result new later = EndsDraft node thread old draft result new later
EndsIf false node thread old draft result new later = result ≡ Err (IsRefused Down)

pub record EndsBy (node thread : ℕ) (old : Handle) (draft : DraftHandle) (answer : Answer) (new : Handle) (later : DraftHandle) : Type 0 where
  pub result : Result Placement CallFault
  pub ends : EndsIf (old.held && draft.held) node thread old.value draft.value result new.value later.value
  pub said : Result Reply AllocError
  pub says : replied said ≡ place_taken result
  pub answers : answer ≡ answer_of said
  pub held : new.held ≡ old.held
  pub draft_held : later.held ≡ draft.held

abbrev pub BeginsAgainIf : Bool → ℕ → ℕ → Session → Draft → Reply → Session → Draft → Type 0
BeginsAgainIf true node thread old draft reply new later = BeginsDraftAgain node thread old draft reply new later
BeginsAgainIf false node thread old draft reply new later = reply ≡ Refused Down

pub record BeginsAgainBy (node thread : ℕ) (old : Handle) (draft : DraftHandle) (answer : Answer) (new : Handle) (later : DraftHandle) : Type 0 where
  pub reply : Reply
  pub again : BeginsAgainIf (old.held && draft.held) node thread old.value draft.value reply new.value later.value
  pub answers : answer ≡ answer_of (Ok reply)
  pub held : new.held ≡ old.held
  pub draft_held : later.held ≡ draft.held

-- what the call that locks a draft answers
abbrev pub lock_status : Result (Unit {0}) AllocError → ℕ
lock_status (Ok its) = 0
lock_status (Err error) = 64

-- so it does, and this is the answer to C
pub record LocksBy (session : Session) (node thread : ℕ) (old : Draft) (status : ℕ) (new : Draft) : Type 0 where
  pub result : Result (Unit {0}) AllocError
  pub does : LocksDraft session node thread old result new
  pub answers : status ≡ lock_status result

-- the draft of a handle begins with the locks of the transaction that a thread has open in the session of the other
abbrev pub LocksIf : Bool → Session → ℕ → ℕ → Draft → ℕ → Draft → Type 0
LocksIf true session node thread old status new = LocksBy session node thread old status new
LocksIf false session node thread old status new = status ≡ 1
