-- What a clause says of the ends of a line, and of a message that was refused.
use Rattle.std.specs.Prelude.{◌≡◌, List, ◌++◌, length, drop}
use Rattle.atomic_table.specs.Seated.{TableId}
use Rattle.atomic_table.specs.declared.badge.Badge.{Badge}
use Rattle.crossbeam_channel.specs.declared.flavors.array.Key.{Key}
use Rattle.crossbeam_channel.specs.Claims.{view}
use Rattle.lc_line.specs.declared.ends.SendEnd.{SendEnd}
use Rattle.lc_line.specs.declared.ends.RecvEnd.{RecvEnd}
use Rattle.lc_line.specs.declared.ends.Rest.{Rest}
use Rattle.lc_line.specs.declared.refused.Refused.{Refused}
use Rattle.lc_line.specs.declared.refused.Refused.TheVariants.{Full, Gone}

module _ {T : Type 0} where
  -- what was sent on the line, oldest first
  abbrev pub sent_on : SendEnd T → List T
  sent_on end = (view end.pass).sent

  -- what was taken from it
  abbrev pub taken_from : RecvEnd T → List T
  taken_from end = (view end.pass).taken

  -- of a line that is closed: what was sent and not yet taken
  abbrev pub rest_of : Rest T → List T
  rest_of rest = drop (length (view rest.pass).taken) (view rest.pass).sent

  -- which line it is that an end sends on, and that an end takes from
  abbrev pub line_to : SendEnd T → TableId × Badge (Key T)
  line_to end = (end.pass.table_id, end.pass.me.0.of)

  abbrev pub line_from : RecvEnd T → TableId × Badge (Key T)
  line_from end = (end.pass.table_id, end.pass.me.0.of)

  -- of the messages that were sent, 64 were not taken at one moment
  abbrev pub WasFull : SendEnd T → Type 0
  WasFull end = (taken : List T) × (waiting : List T) × (sent_on end ≡ taken ++ waiting) × (length waiting ≡ 64)

  -- the message that comes back
  abbrev pub message_of : Refused T → T
  message_of (Full message) = message
  message_of (Gone message) = message

  abbrev pub IsFull : Refused T → Type 0
  IsFull (Full _) = Unit {0}
  IsFull (Gone _) = ⊥
