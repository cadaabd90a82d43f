-- What it makes of a desk that a token leaves.
use Rattle.std.specs.Prelude.{◌≡◌, ◌≤◌, ℕ, ◌-◌, Bool, false, Option, Some, None, IsSome, MatchOption, Result, Ok, Err, slice_get}
use Rattle.std.specs.Option.{ForSome}
use Rattle.std.specs.Vec.{with_item}
use Rattle.lc_token.specs.declared.token.Token.{Token}
use Rattle.lc_token.specs.declared.fault.TokenFault.{TokenFault}
use Rattle.lc_model.specs.History.{reserved}
use Rattle.lc_model.specs.Machine.{Row, placed}
use Rattle.lc_model.specs.Sound.{Sound}
use Rattle.lc_model.specs.State.{Travelling, Setting, State}
use Rattle.lc_model.specs.declared.event.Event.TheVariants.{Leave}
use Rattle.lc_model.specs.declared.reply.Reply.TheVariants.{Ok as Accepted, Refused}
use Rattle.lc_tx.specs.declared.holders.Holders.TheVariants.{Free}
use Rattle.lc_desk.specs.declared.desk.Desk.{Desk}
use Rattle.lc_desk.specs.declared.segment_copy.SegmentCopy.{SegmentCopy}
use Rattle.lc_desk.specs.Desk.{FitsDesk}
use Rattle.lc_desk.specs.FollowsDesk.{StillFits}
use Rattle.lc_settled.specs.Numbers.{Numbers}
use Rattle.lc_settled.specs.Settled.{is_writing, leave_answer, open_answer}
use Rattle.lc_desk.specs.TokenRefused.{token_refusal}

-- a slot with this in its token's place
abbrev pub with_token : SegmentCopy → Option Token → SegmentCopy
with_token slot token = record slot { token = record slot.token { token = token } }

-- nothing has changed but what stands in the place of this slot's token
pub record HasToken (segment : ℕ) (slot : SegmentCopy) (token : Option Token) (old new : Desk) : Type 0 where
  pub at : slice_get old.here.slots.items (segment - 1) ≡ Some slot
  pub here : new.here ≡ record old.here { slots = with_item old.here.slots (segment - 1) (with_token slot token) }
  pub seats : new.seats ≡ old.seats

-- nothing has changed
pub record IsAsBefore (old new : Desk) : Type 0 where
  pub slots : new.here.slots.items ≡ old.here.slots.items
  pub spare : new.here.spare ≡ old.here.spare
  pub seats : new.seats ≡ old.seats
  pub fits : StillFits old new

-- the token stands in the slot, no transaction has the segment, no page of it is being written, and all that was reserved is
-- acknowledged
abbrev pub MayLeave : Bool → ℕ → ℕ → SegmentCopy → Type 0
MayLeave writing count stable slot = IsSome slot.token.token × (slot.image.holders ≡ Free) × (writing ≡ false) × (count ≤ stable)

-- the token that stood in the slot is away, and the desk fits the machine with it on its way; or the machine may refuse with
-- the refusal of the same name. Either answer is the one that is settled
abbrev pub Leaves : ℕ → Bool → ℕ → ℕ → Desk → Result Token TokenFault → Desk → Type 0
Leaves segment writing count stable old (Ok token) new =
    ((slot : SegmentCopy) × (slot.token.token ≡ Some token) × HasToken segment slot None old new)
    × ((m : Setting) (node : ℕ) (s : State) → Sound m.geometry s → segment ≤ m.geometry.segments
    → FitsDesk m node old.here old.seats.items s → count ≡ reserved node s.history → stable ≡ s.ack node
    → Row m s (Leave node segment) Accepted (placed s segment Travelling) × FitsDesk m node new.here new.seats.items (placed s segment Travelling)
    × ((x : Numbers) → writing ≡ is_writing m x segment → leave_answer m s x node segment ≡ Accepted))
Leaves segment writing count stable old (Err fault) new =
    IsAsBefore old new
    × MatchOption (token_refusal fault) ⊥ (λ refusal. (m : Setting) (node : ℕ) (s : State) → Sound m.geometry s → segment ≤ m.geometry.segments
    → FitsDesk m node old.here old.seats.items s → count ≡ reserved node s.history → stable ≡ s.ack node
    → Row m s (Leave node segment) (Refused refusal) s
    × ((x : Numbers) → writing ≡ is_writing m x segment → ForSome (open_answer m s x (Leave node segment)) (λ answer. Refused refusal ≡ answer)))
