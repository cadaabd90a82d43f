-- Of a node: what a pump does with the messages of a peer.
use Rattle.lc_node.specs.declared.delivered.Delivered.{Delivered}
use Rattle.lc_node.specs.declared.message.Message.{Message}
use Rattle.lc_node.specs.declared.message.Message.TheVariants.{Record, Token}
use Rattle.lc_node.specs.declared.pumped.Pumped.{Pumped}
use Rattle.lc_node.specs.declared.pumped.Pumped.TheVariants.{Applied, HeldBack, Ignored, Arrived, Waiting, Empty}
use Rattle.lc_token.specs.declared.received.Received.{Received}
use Rattle.lc_token.specs.declared.received.Received.TheVariants.{Applied as IsApplied, HeldBack as IsHeldBack, Ignored as IsIgnored}
use Rattle.std.specs.Prelude.{Bool}

-- the answer of a pump that took a record in
abbrev pub answer_of : Received → Bool → Pumped
answer_of (IsApplied number) arrived = Applied number arrived
answer_of IsHeldBack arrived = HeldBack
answer_of IsIgnored arrived = Ignored

abbrev pub pumped_of : Delivered → Pumped
pumped_of done = answer_of done.first done.arrived

-- what a pump answers of a record, and of a token
abbrev pub IsOfRecord : Pumped → Type 0
IsOfRecord (Applied number arrived) = Unit {0}
IsOfRecord HeldBack = Unit {0}
IsOfRecord Ignored = Unit {0}
IsOfRecord Arrived = ⊥
IsOfRecord Waiting = ⊥
IsOfRecord Empty = ⊥

abbrev pub IsOfToken : Pumped → Type 0
IsOfToken Arrived = Unit {0}
IsOfToken Waiting = Unit {0}
IsOfToken (Applied number arrived) = ⊥
IsOfToken HeldBack = ⊥
IsOfToken Ignored = ⊥
IsOfToken Empty = ⊥

module _ {P : Type 0} where
  -- what is answered of a message
  abbrev pub IsOfMessage : Message P → Pumped → Type 0
  IsOfMessage (Record number words) pumped = IsOfRecord pumped
  IsOfMessage (Token token) pumped = IsOfToken pumped
