-- What came of a call of C.
use Rattle.std.specs.Prelude.{◌≡◌, ◌⊎◌, [], ℕ, Bool, true, false, List, Option, Some, None, Result, Ok, Err, is_some, length}
use Rattle.std.specs.Option.{unwrap_or}
use Rattle.std.specs.declared.alloc.AllocError.{AllocError}
use Rattle.lc_model.specs.declared.event.Event.{Event}
use Rattle.lc_model.specs.declared.refusal.Refusal.TheVariants.{Down}
use Rattle.lc_model.specs.declared.reply.Reply.{Reply}
use Rattle.lc_model.specs.declared.reply.Reply.TheVariants.{Bytes, Refused, Ok as IsDone}
use Rattle.lc_record.specs.Geometry.{HasNumbers}
use Rattle.lc_record.specs.declared.geometry.Geometry.{Geometry}
use Rattle.lc_model.specs.declared.refusal.Refusal.{Refusal}
use Rattle.lc_c.specs.Answer.{answer_of}
use Rattle.lc_c.specs.BeginsFree.{BeginsFree}
use Rattle.lc_c.specs.Beside.{IsSameBeside}
use Rattle.lc_c.specs.LastCall.{call_of}
use Rattle.lc_c.specs.Mirrors.{window_in}
use Rattle.lc_c.specs.SessionState.{AreaAt, IsAdded, StartsStage, StepsStage, gathered, geometry_of, is_gathering}
use Rattle.lc_c.specs.declared.answer.Answer.{Answer}
use Rattle.lc_c.specs.declared.handle.Handle.{Handle}
use Rattle.lc_c.specs.declared.last_call.LastCall.{LastCall}
use Rattle.lc_c.specs.declared.mirror_area.MirrorArea.{MirrorArea}
use Rattle.lc_c.specs.declared.session.Session.{Session}

-- the session of a handle that has one takes the step; a handle that has none stays so, and refuses it as a store that is down
abbrev pub StepsIf : Bool → Session → Event → Result Reply AllocError → Session → Type 0
StepsIf true old event said new = StepsStage old.stage event said new.stage × IsSameBeside old new
StepsIf false old event said new = said ≡ Ok (Refused Down)

-- the event was asked of the handle's session, and this is the answer to C
pub record Steps (old : Handle) (event : Event) (answer : Answer) (new : Handle) : Type 0 where
  pub said : Result Reply AllocError
  pub steps : StepsIf old.held old.value event said new.value
  pub answers : answer ≡ answer_of said
  pub held : new.held ≡ old.held

-- the same of a begin by whatever thread has no transaction
abbrev pub BeginsIf : Bool → ℕ → List ℕ → List ℕ → Session → ℕ → Reply → Session → Type 0
BeginsIf true node writing reading old thread reply new = BeginsFree node writing reading old.stage thread reply new.stage × IsSameBeside old new
BeginsIf false node writing reading old thread reply new = (thread ≡ 0) × (reply ≡ Refused Down)

pub record BeginsBy (old : Handle) (node : ℕ) (writing reading : List ℕ) (thread : ℕ) (answer : Answer) (new : Handle) : Type 0 where
  pub reply : Reply
  pub begins : BeginsIf old.held node writing reading old.value thread reply new.value
  pub answers : answer ≡ answer_of (Ok reply)
  pub held : new.held ≡ old.held

-- the bytes of a read, where it is not refused
abbrev pub read_in : Reply → List ℕ → List ℕ
read_in (Bytes bytes) olds = bytes
read_in reply olds = olds

-- the same of a read, which fills a buffer or leaves it
pub record Fills (old : Handle) (event : Event) (olds news : List ℕ) (answer : Answer) (new : Handle) : Type 0 where
  pub reply : Reply
  pub steps : StepsIf old.held old.value event (Ok reply) new.value
  pub filled : news ≡ read_in reply olds
  pub answers : answer ≡ answer_of (Ok reply)
  pub held : new.held ≡ old.held

-- the area at this place of a handle's session, where there is one
abbrev pub AreaIf : Bool → Session → ℕ → Option MirrorArea → Type 0
AreaIf true session place area = AreaAt session.stage place area
AreaIf false session place area = area ≡ None

-- the last call of an area, or what was told before
abbrev pub call_in : Option MirrorArea → LastCall → LastCall
call_in None before = before
call_in (Some area) before = call_of area

pub record TellsCall (old : Handle) (place : ℕ) (found : Bool) (before call : LastCall) (new : Handle) : Type 0 where
  pub area : Option MirrorArea
  pub at : AreaIf old.held old.value place area
  pub found_is : found ≡ is_some area
  pub told : call ≡ call_in area before
  pub same : new ≡ old

pub record TellsBytes (old : Handle) (place at : ℕ) (found : Bool) (olds news : List ℕ) (new : Handle) : Type 0 where
  pub area : Option MirrorArea
  pub area_at : AreaIf old.held old.value place area
  pub found_is : found ≡ is_some (window_in area at (length olds))
  pub told : news ≡ unwrap_or (window_in area at (length olds)) olds
  pub same : new ≡ old

-- a handle that holds a session without areas, for a store of these numbers
pub record IsBegun (nodes threads segments pages words : ℕ) (new : Handle) : Type 0 where
  pub held : new.held ≡ true
  pub gathering : is_gathering new.value.stage ≡ true
  pub geometry : Geometry
  pub geometry_is : geometry_of new.value.stage ≡ Some geometry
  pub numbers : HasNumbers geometry nodes threads segments pages words
  pub none : gathered new.value.stage ≡ []
  pub truncation : new.value.truncation ≡ None

-- the area of a file was added, or nothing has changed: there was no memory, or the session had started
pub record Adds (old : Session) (bytes : List ℕ) (status : ℕ) (new : Session) : Type 0 where
  pub added : status ≡ 0 → IsAdded bytes (gathered old.stage) (gathered new.stage)
  pub gathering : is_gathering new.stage ≡ is_gathering old.stage
  pub geometry : geometry_of new.stage ≡ geometry_of old.stage
  pub none : (status ≡ 0 → ⊥) → gathered new.stage ≡ gathered old.stage
  pub closed : is_gathering old.stage ≡ false → (status ≡ 4) × (new ≡ old)
  pub refused : is_gathering old.stage ≡ true → (status ≡ 0) ⊎ (status ≡ 64)
  pub beside : IsSameBeside old new

abbrev pub AddsIf : Bool → Session → List ℕ → ℕ → Session → Type 0
AddsIf true old bytes status new = Adds old bytes status new
AddsIf false old bytes status new = status ≡ 1

-- it is done, or refused
abbrev pub done_in : Result (Unit {0}) Refusal → Reply
done_in (Ok its) = IsDone
done_in (Err refusal) = Refused refusal

abbrev pub StartsBy : Bool → Session → Result (Unit {0}) Refusal → Session → Type 0
StartsBy true old result new = StartsStage old.stage result new.stage × IsSameBeside old new
StartsBy false old result new = result ≡ Err Down

-- the handle's session was started, and this is the answer to C
pub record StartsIf (old : Handle) (answer : Answer) (new : Handle) : Type 0 where
  pub result : Result (Unit {0}) Refusal
  pub starts : StartsBy old.held old.value result new.value
  pub answers : answer ≡ answer_of (Ok (done_in result))
  pub held : new.held ≡ old.held
