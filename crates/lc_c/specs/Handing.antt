-- A transaction's draft goes to the store in which it is open.
use Rattle.std.specs.Prelude.{◌≡◌, ℕ, List, Option, None, Result, Ok, Err}
use Rattle.std.specs.declared.alloc.AllocError.{AllocError}
use Rattle.lc_range.specs.declared.range.Range.{Range}
use Rattle.lc_tx.specs.declared.tx.Tx.{Tx}
use Rattle.lc_model.specs.declared.event.Event.TheVariants.{Abort, Begin, SetRange, Write}
use Rattle.lc_model.specs.declared.refusal.Refusal.{Refusal}
use Rattle.lc_model.specs.declared.reply.Reply.{Reply}
use Rattle.lc_events.specs.Answered.{done, range_set}
use Rattle.lc_events.specs.declared.call_fault.CallFault.{CallFault}
use Rattle.lc_events.specs.declared.call_fault.CallFault.TheVariants.{Refused as IsRefused}
use Rattle.lc_events.specs.declared.placement.Placement.{Placement}
use Rattle.lc_core.specs.Answered.{ComesTo, Ends}
use Rattle.lc_core.specs.OpenTransactions.{open_transaction}
use Rattle.lc_core.specs.Truncating.{StepsTo}
use Rattle.lc_c.specs.SessionState.{SessionStore, StepsStage, refusal_of}
use Rattle.lc_c.specs.contracts.mirror_area.MirrorAreaArea.TheImpl.{ghosts}
use Rattle.lc_c.specs.declared.session_state.SessionState.{SessionState}
use Rattle.lc_c.specs.declared.session_state.SessionState.TheVariants.{Open}

-- the transaction that a thread of a node has open in a store that is up
abbrev pub transaction_in : SessionState → ℕ → ℕ → Option Tx
transaction_in (Open store) node thread = open_transaction ghosts store.phase node thread
transaction_in stage node thread = None

-- a call's refusal
abbrev pub refused_so : Result (Unit {0}) Refusal → Result (Unit {0}) CallFault
refused_so (Ok its) = Ok its
refused_so (Err refusal) = Err (IsRefused refusal)

-- what the range held is written, once it is set
abbrev pub WritesRange : ℕ → ℕ → Range → List ℕ → Result (Unit {0}) CallFault → SessionStore → Result (Unit {0}) CallFault → SessionStore → Type 0
WritesRange node thread range bytes (Err fault) mid result new = (result ≡ Err fault) × (new ≡ mid)
WritesRange node thread range bytes (Ok its) mid result new =
    (written : Result (Unit {0}) Refusal) × StepsTo ghosts mid (Write node thread range.segment range.offset bytes) (done written) new × (result ≡ refused_so written)

-- the range is set, and these bytes are written there
abbrev pub HandsRange : ℕ → ℕ → Range → List ℕ → SessionStore → Result (Unit {0}) CallFault → SessionStore → Type 0
HandsRange node thread range bytes old result new =
    (set : Result (Unit {0}) CallFault) × (mid : SessionStore) × ComesTo ghosts old (SetRange node thread range.segment range.offset range.len) (range_set set) mid
    × WritesRange node thread range bytes set mid result new

-- so it is in a store that is open; one that is not refuses it
abbrev pub HandsStage : ℕ → ℕ → Range → List ℕ → SessionState → Result (Unit {0}) CallFault → SessionState → Type 0
HandsStage node thread range bytes (Open store) result new = (after : SessionStore) × (new ≡ Open after) × HandsRange node thread range bytes store result after
HandsStage node thread range bytes stage result new = (result ≡ Err (IsRefused (refusal_of stage))) × (new ≡ stage)

-- the thread's transaction gets its place, and is closed there
abbrev pub EndsStage : ℕ → ℕ → SessionState → Result Placement CallFault → SessionState → Type 0
EndsStage node thread (Open store) result new = (after : SessionStore) × (new ≡ Open after) × Ends ghosts node thread store result after
EndsStage node thread stage result new = (result ≡ Err (IsRefused (refusal_of stage))) × (new ≡ stage)

-- the thread's transaction is dropped, and begins again with these locks; to that this is the reply
pub record BeginsAgain (node thread : ℕ) (writing reading : List ℕ) (old : SessionState) (reply : Reply) (new : SessionState) : Type 0 where
  pub dropped : Result Reply AllocError
  pub mid : SessionState
  pub aborts : StepsStage old (Abort node thread) dropped mid
  pub begins : StepsStage mid (Begin node thread writing reading) (Ok reply) new
