-- Of a journal: which replies an event may get at all, whatever the store holds and whatever its areas are.
use Rattle.std.specs.Prelude.{Bool, true, false, ◌&&◌, nat_le}
use Rattle.lc_model.specs.declared.refusal.Refusal.TheVariants.{DeviceFault}
use Rattle.lc_model.specs.declared.reply.Reply.{Reply}
use Rattle.lc_model.specs.declared.reply.Reply.TheVariants.{Stepped, Acked, Nothing, Refused}

abbrev pub may_flush : Reply → Bool
may_flush (Stepped steps) = nat_le 1 steps && nat_le steps 3
may_flush (Acked count) = true
may_flush Nothing = true
may_flush reply = false

-- the same, or a device has failed
abbrev pub or_fault : (Reply → Bool) → Reply → Bool
or_fault may (Refused DeviceFault) = true
or_fault may reply = may reply
