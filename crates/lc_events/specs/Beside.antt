-- Of nodes that run: what the other nodes need to know of a step of one node.
use Rattle.std.specs.Prelude.{◌≡◌, ◌≤◌, ℕ}
use Rattle.lc_record.specs.declared.part.Part.{Part}
use Rattle.lc_token.specs.declared.token.Token.{Token}
use Rattle.lc_model.specs.State.{At, Setting, State}
use Rattle.lc_settled.specs.Numbers.{Numbers, token_number}
use Rattle.lc_desk.specs.Slots.{Awaits, FitsToken, segment_to}
use Rattle.lc_desk.specs.Beside.{Beside}
use Rattle.lc_journal.specs.Beside.{BesideLogs}

-- of each other node's slots: what it has applied and what waits there; the records that waiting parts are of, and what a
-- segment is up to its numbers, which may grow; and of the tokens that are elsewhere, also of those on their way, all
pub record BesideSlots (m : Setting) (node : ℕ) (old : State) (x : Numbers) (new : State) (y : Numbers) : Type 0 where
  pub applied : (other segment : ℕ) → (other ≡ node → ⊥) → y.applied other segment ≡ x.applied other segment
  pub waiting : (other segment : ℕ) → (other ≡ node → ⊥) → y.waiting other segment ≡ x.waiting other segment
  pub rises : (segment : ℕ) → token_number old x segment ≤ token_number new y segment
  pub parts : (segment : ℕ) (part : Part) → Awaits m old x segment part → Awaits m new y segment part
  pub shown : (segment number : ℕ) → number ≤ token_number old x segment → segment_to m new y.disks segment number ≡ segment_to m old x.disks segment number
  pub number : (segment : ℕ) → (old.place segment ≡ At node → ⊥) → token_number new y segment ≡ token_number old x segment
  pub tokens : (segment : ℕ) (token : Token) → (old.place segment ≡ At node → ⊥) → FitsToken m segment token old x → FitsToken m segment token new y

-- what another node sees of a step of one node
pub record BesideNode (m : Setting) (node : ℕ) (old : State) (x : Numbers) (new : State) (y : Numbers) : Type 0 where
  pub desks : Beside m node old new
  pub logs : BesideLogs m node old x new y
  pub slots : BesideSlots m node old x new y
  pub known : (other segment : ℕ) → (other ≡ node → ⊥) → y.known other segment ≡ x.known other segment
