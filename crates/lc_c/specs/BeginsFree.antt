-- A transaction is begun by the lowest thread of a node that has none.
use Rattle.std.specs.Prelude.{◌≡◌, ℕ, ◌+◌, ◌-◌, zero, suc, Bool, true, false, List, Ok}
use Rattle.lc_model.specs.declared.event.Event.TheVariants.{Begin}
use Rattle.lc_model.specs.declared.refusal.Refusal.TheVariants.{OutOfTurn}
use Rattle.lc_model.specs.declared.reply.Reply.{Reply}
use Rattle.lc_model.specs.declared.reply.Reply.TheVariants.{Refused}
use Rattle.lc_core.specs.OpenTransactions.{threads_of}
use Rattle.lc_c.specs.SessionState.{StepsStage}
use Rattle.lc_c.specs.contracts.mirror_area.MirrorAreaArea.TheImpl.{ghosts}
use Rattle.lc_c.specs.declared.session_state.SessionState.{SessionState}
use Rattle.lc_c.specs.declared.session_state.SessionState.TheVariants.{Open}

-- how many threads each node of a store has that is up
abbrev pub threads_in : SessionState → ℕ
threads_in (Open store) = threads_of ghosts store.phase
threads_in stage = 0

-- a thread is asked at least, also of a store that is down
abbrev pub last_of : SessionState → ℕ
last_of stage = threads_in stage - 1

-- the thread that was asked has a transaction
abbrev pub is_taken : Reply → Bool
is_taken (Refused OutOfTurn) = true
is_taken reply = false

-- where it has, the next is asked; else it is the one that was looked for, and this the answer
abbrev pub GoesOn : Bool → (SessionState → ℕ → Reply → SessionState → Type 0) → ℕ → Reply → SessionState → ℕ → Reply → SessionState → Type 0
GoesOn true Next thread first mid found reply new = Next mid found reply new
GoesOn false Next thread first mid found reply new = (found ≡ thread) × (reply ≡ first) × (new ≡ mid)

-- the threads from this one on are asked, so many more of them at most
abbrev pub BeginsFrom : ℕ → ℕ → List ℕ → List ℕ → ℕ → SessionState → ℕ → Reply → SessionState → Type 0
BeginsFrom zero node writing reading thread old found reply new = (found ≡ thread) × StepsStage old (Begin node thread writing reading) (Ok reply) new
BeginsFrom (suc left) node writing reading thread old found reply new =
    (first : Reply) × (mid : SessionState) × StepsStage old (Begin node thread writing reading) (Ok first) mid
    × GoesOn (is_taken first) (BeginsFrom left node writing reading (thread + 1)) thread first mid found reply new

-- all of them are
abbrev pub BeginsFree : ℕ → List ℕ → List ℕ → SessionState → ℕ → Reply → SessionState → Type 0
BeginsFree node writing reading old found reply new = BeginsFrom (last_of old) node writing reading 0 old found reply new
