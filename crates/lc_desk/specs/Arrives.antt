-- What it makes of a desk that a token comes to.
use Rattle.std.specs.Prelude.{◌≡◌, ◌≤◌, ◌<◌, ℕ, Some, length, Result, Ok, Err}
use Rattle.lc_record.specs.Content.{segment_of}
use Rattle.lc_record.specs.Geometry.{segment_len}
use Rattle.lc_token.specs.declared.token.Token.{Token}
use Rattle.lc_token.specs.declared.fault.TokenFault.{TokenFault}
use Rattle.lc_token.specs.declared.fault.TokenFault.TheVariants.{Behind}
use Rattle.lc_model.specs.History.{value}
use Rattle.lc_model.specs.Machine.{Row, placed}
use Rattle.lc_model.specs.State.{At, Travelling, Setting, State}
use Rattle.lc_model.specs.declared.event.Event.TheVariants.{Arrive}
use Rattle.lc_model.specs.declared.refusal.Refusal.TheVariants.{Behind as IsBehind}
use Rattle.lc_model.specs.declared.reply.Reply.TheVariants.{Ok as Accepted, Refused}
use Rattle.lc_tx.specs.declared.holders.Holders.TheVariants.{Free}
use Rattle.lc_desk.specs.declared.desk.Desk.{Desk}
use Rattle.lc_desk.specs.declared.segment_copy.SegmentCopy.{SegmentCopy}
use Rattle.lc_desk.specs.Desk.{FitsDesk}
use Rattle.lc_desk.specs.Leaves.{HasToken, IsAsBefore}

-- the slot of a segment whose token is on its way: no transaction has it, and where the node has applied all that the token
-- has seen, its image shows the content
pub record Waits (m : Setting) (token : Token) (slot : SegmentCopy) (s : State) : Type 0 where
  pub travels : s.place token.segment ≡ Travelling
  pub unheld : slot.image.holders ≡ Free
  pub size : length slot.image.bytes.items ≡ segment_len m.geometry
  pub shown : token.seq ≤ slot.parts.applied → slot.image.bytes.items ≡ segment_of token.segment (value m.start s.earlier s.history)

-- the token stands in the slot, and the desk fits the machine with it here; or, where the node is behind it, it comes back, and
-- nothing has changed
abbrev pub Arrives : Token → SegmentCopy → Desk → Result (Unit {0}) (Token × TokenFault) → Desk → Type 0
Arrives token slot old (Ok done) new =
    (token.seq ≤ slot.parts.applied) × HasToken token.segment slot (Some token) old new
    × ((m : Setting) (node : ℕ) (s : State) → FitsDesk m node old.here old.seats.items s → Waits m token slot s
    → Row m s (Arrive node token.segment) Accepted (placed s token.segment (At node)) × FitsDesk m node new.here new.seats.items (placed s token.segment (At node)))
Arrives token slot old (Err refused) new =
    (slot.parts.applied < token.seq) × (refused ≡ (token, Behind slot.parts.applied token.seq)) × IsAsBefore old new
    × ((m : Setting) (node : ℕ) (s : State) → s.place token.segment ≡ Travelling
    → Row m s (Arrive node token.segment) (Refused (IsBehind slot.parts.applied token.seq)) s)
