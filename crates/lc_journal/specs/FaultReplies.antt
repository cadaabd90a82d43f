-- Of a journal: which replies tell that a device has failed, how often devices have failed then, and which replies
-- tell of something unknown.
use Rattle.std.specs.Prelude.{◌≡◌, ℕ, ◌+◌, Bool, true, false, length, Option, Some, option_map, if◌then◌else◌}
use Rattle.lc_disk.specs.declared.area.Area.{Ghosts}
use Rattle.lc_log.specs.OneCall.{IsOneCall}
use Rattle.lc_model.specs.declared.refusal.Refusal.{Refusal}
use Rattle.lc_model.specs.declared.refusal.Refusal.TheVariants.{DeviceFault, Unknown}
use Rattle.lc_model.specs.declared.reply.Reply.{Reply}
use Rattle.lc_model.specs.declared.reply.Reply.TheVariants.{Refused}
use Rattle.lc_journal.specs.Log.{area_of}
use Rattle.lc_journal.specs.declared.log.Log.{Log}

-- the refusal that names a device
abbrev pub is_device_fault : Refusal → Bool
is_device_fault DeviceFault = true
is_device_fault refusal = false

-- the reply tells of a failure
abbrev pub is_fault : Reply → Bool
is_fault (Refused refusal) = is_device_fault refusal
is_fault reply = false

-- the refusal that names what the store does not have
abbrev pub names_unknown : Refusal → Bool
names_unknown Unknown = true
names_unknown refusal = false

-- the reply tells so
abbrev pub is_unknown : Reply → Bool
is_unknown (Refused refusal) = names_unknown refusal
is_unknown reply = false

module _ {D : Type 0} (a : Ghosts D) where
  -- how often the device of a log has failed, while it is not taken out
  abbrev pub failures_of : Log D a → Option ℕ
  failures_of log = option_map a.failures (area_of a log)

  -- what stays of a device: whether it keeps to the model of a disk, and its length
  abbrev pub device_kind : D → Bool × ℕ
  device_kind area = (a.honest area, length (a.now area))

  -- of that of a log
  abbrev pub kind_of : Log D a → Option (Bool × ℕ)
  kind_of log = option_map device_kind (area_of a log)

  -- where there is to be a call of the area, one was made, and else none
  abbrev pub CallsIf : Bool → Option D → Option D → Type 0
  CallsIf true old new = (before : D) × (after : D) × (ok : Bool) × (old ≡ Some before) × (new ≡ Some after) × IsOneCall a ok before after
  CallsIf false old new = new ≡ old

  -- it is the same device, which is called or not, and has failed once more just where the reply tells of it; nothing is unknown
  pub record TellsFault (calls : Bool) (reply : Reply) (old new : Log D a) : Type 0 where
    pub known : is_unknown reply ≡ false
    pub failures : failures_of new ≡ (if is_fault reply then option_map (λ count. count + 1) (failures_of old) else failures_of old)
    pub kind : kind_of new ≡ kind_of old
    pub call : CallsIf calls (area_of a old) (area_of a new)
