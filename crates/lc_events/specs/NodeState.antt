-- A node's desk and journal together beside the machine.
use Rattle.std.specs.Prelude.{vec_len, ◌≡◌, ◌≤◌, ℕ, Bool, nat_lt, List, Option, None, MatchOption, option_and_then, Result, Ok, Err}
use Rattle.lc_disk.specs.declared.area.Area.{Ghosts}
use Rattle.lc_token.specs.declared.token.Token.{Token}
use Rattle.lc_model.specs.Machine.{Row}
use Rattle.lc_model.specs.Refusals.{common_refusal}
use Rattle.lc_model.specs.Sound.{Sound}
use Rattle.lc_model.specs.State.{At, Travelling, Setting, State}
use Rattle.lc_model.specs.declared.event.Event.{Event}
use Rattle.lc_model.specs.declared.event.Event.TheVariants.{Reserve, Leave, Arrive}
use Rattle.lc_model.specs.declared.refusal.Refusal.{Refusal}
use Rattle.lc_model.specs.declared.reply.Reply.{Reply}
use Rattle.lc_model.specs.declared.reply.Reply.TheVariants.{Ok as Accepted, Refused}
use Rattle.lc_events.specs.Beside.{BesideNode}
use Rattle.lc_desk.specs.Desk.{FitsDesk}
use Rattle.lc_journal.specs.Follows.{FitsJournal}
use Rattle.lc_journal.specs.Logging.{end_of_records}
use Rattle.lc_settled.specs.Numbers.{Numbers}
use Rattle.lc_desk.specs.Prepares.{GetsPlace}
use Rattle.lc_settled.specs.Settled.{Settled, is_writing}
use Rattle.lc_desk.specs.Slots.{FitsSlots, FitsToken, besides_of}
use Rattle.lc_settled.specs.Turns.{Turns}
use Rattle.lc_token.specs.KnownClean.{Sees, known as known_of}
use Rattle.lc_desk.specs.declared.segment_copy.SegmentCopy.{SegmentCopy}
use Rattle.lc_events.specs.declared.node_state.NodeState.{NodeState}

-- the segment whose token leaves or arrives; there is no segment 0
abbrev pub moved_by : Event → Reply → ℕ
moved_by (Leave node segment) Accepted = segment
moved_by (Arrive node segment) Accepted = segment
moved_by event reply = 0

-- the `clean` of the token that stands in the slot is seen too
abbrev pub SeesStanding : Option SegmentCopy → List ℕ → List ℕ → Type 0
SeesStanding slot old new =
    MatchOption (option_and_then (λ (its : SegmentCopy). its.token.token) slot) (new ≡ old) (λ token. Sees old token new)

module _ {D : Type 0} (a : Ghosts D) where
  -- its desk, what stands in its slots, and its journal fit, its log is in its round, and it has seen the segments as clean as
  -- the numbers say
  pub record FitsNode (m : Setting) (n : ℕ) (node : NodeState D a) (s : State) (x : Numbers) : Type 0 where
    pub desk : FitsDesk m n node.desk.here node.desk.seats.items s
    pub slots : FitsSlots m n (besides_of node.desk.here) s x
    pub journal : FitsJournal a m n node.journal s x
    pub room : node.journal.group.room ≡ m.geometry.words
    pub round : node.journal.round ≡ x.round n
    pub known : (segment : ℕ) → 1 ≤ segment → segment ≤ m.geometry.segments → known_of node.known segment ≡ x.known n segment

  -- from a state and numbers that it fits to others: the reply is settled, and one that the event's row allows; no other node
  -- sees more than that
  pub record GoesOn (m : Setting) (n : ℕ) (event : Event) (s : State) (x : Numbers) (reply : Reply) (new : NodeState D a) : Type 0 where
    pub after : State
    pub next : Numbers
    pub row : Row m s event reply after
    pub settled : Settled m s x event reply
    pub turns : Turns m s x event reply next
    pub aside : BesideNode m n s x after next
    pub fits : FitsNode m n new after next
    -- it stays up, and no token moves but the event's own
    pub phase : after.phase ≡ s.phase
    pub places : (segment : ℕ) → (segment ≡ moved_by event reply → ⊥) → after.place segment ≡ s.place segment

  -- whatever sound state and numbers it fits where nothing refuses the event at once
  abbrev pub FollowsNode : ℕ → Event → NodeState D a → Reply → NodeState D a → Type 0
  FollowsNode n event old reply new =
      (m : Setting) (s : State) (x : Numbers) → Sound m.geometry s → common_refusal m.geometry s event ≡ None → FitsNode m n old s x
      → GoesOn m n event s x reply new

  -- where the node's log is sealed just when this is said of it
  abbrev pub FollowsReserve : ℕ → ℕ → Bool → NodeState D a → Reply → NodeState D a → Type 0
  FollowsReserve n thread is_sealed old reply new =
      (m : Setting) (s : State) (x : Numbers) → Sound m.geometry s → common_refusal m.geometry s (Reserve n thread) ≡ None → FitsNode m n old s x
      → is_sealed ≡ nat_lt 0 (x.reset n) → GoesOn m n (Reserve n thread) s x reply new

  -- the thread's transaction gets its place in each state and with the numbers that it fits
  abbrev pub WantsPlace : ℕ → ℕ → Bool → NodeState D a → Type 0
  WantsPlace n thread is_sealed old =
      (m : Setting) (s : State) (x : Numbers) → Sound m.geometry s → FitsNode m n old s x → is_sealed ≡ nat_lt 0 (x.reset n)
      → GetsPlace m n thread s x (end_of_records a old.journal)

  -- the token that left is on its way, and fits there; that a page of the segment is being written is told
  abbrev pub FollowsLeave : ℕ → Bool → NodeState D a → Result Token Refusal → NodeState D a → Type 0
  FollowsLeave segment writing old (Ok token) new =
      (m : Setting) (n : ℕ) (s : State) (x : Numbers) → Sound m.geometry s → common_refusal m.geometry s (Leave n segment) ≡ None → FitsNode m n old s x
      → writing ≡ is_writing m x segment
      → (goes : GoesOn m n (Leave n segment) s x Accepted new) × (goes.after.place segment ≡ Travelling) × FitsToken m segment token goes.after goes.next
  FollowsLeave segment writing old (Err refusal) new =
      (m : Setting) (n : ℕ) (s : State) (x : Numbers) → Sound m.geometry s → common_refusal m.geometry s (Leave n segment) ≡ None → FitsNode m n old s x
      → writing ≡ is_writing m x segment → GoesOn m n (Leave n segment) s x (Refused refusal) new

  -- of a token that is on its way; where it is refused it comes back
  abbrev pub FollowsArrive : Token → NodeState D a → Result (Unit {0}) (Token × Refusal) → NodeState D a → Type 0
  FollowsArrive token old (Ok done) new =
      (m : Setting) (n : ℕ) (s : State) (x : Numbers) → Sound m.geometry s → common_refusal m.geometry s (Arrive n token.segment) ≡ None → FitsNode m n old s x
      → s.place token.segment ≡ Travelling → FitsToken m token.segment token s x
      → (goes : GoesOn m n (Arrive n token.segment) s x Accepted new) × (goes.after.place token.segment ≡ At n)
  FollowsArrive token old (Err refused) new =
      (refused.0 ≡ token)
      × ((m : Setting) (n : ℕ) (s : State) (x : Numbers) → Sound m.geometry s → common_refusal m.geometry s (Arrive n token.segment) ≡ None → FitsNode m n old s x
      → s.place token.segment ≡ Travelling → FitsToken m token.segment token s x → GoesOn m n (Arrive n token.segment) s x (Refused refused.1) new)

  -- it has as many seats and slots
  pub record HasSameRoom (old new : NodeState D a) : Type 0 where
    pub seats : vec_len new.desk.seats ≡ vec_len old.desk.seats
    pub slots : vec_len new.desk.here.slots ≡ vec_len old.desk.here.slots

  -- whatever it fitted, it still fits
  abbrev pub StillFitsNode : NodeState D a → NodeState D a → Type 0
  StillFitsNode old new = (m : Setting) (n : ℕ) (s : State) (x : Numbers) → FitsNode m n old s x → FitsNode m n new s x
