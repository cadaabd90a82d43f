-- What a cluster at rest is as a state of the machine: its value, its soundness and its disks.
use Rattle.std.proofs.Common.{◌≡◌, List, [], sym, ◌∙◌, ap}
use Rattle.lc_record.specs.Transaction.{Transaction, effects}
use Rattle.lc_model.specs.History.{value}
use Rattle.lc_model.specs.Merging.{put_on}
use Rattle.lc_model.specs.Sound.{Sound}
use Rattle.lc_model.specs.Stored.{Fits}
use Rattle.lc_rest.specs.Found.{Found, IsConsistent, machine_disks, machine_setting, machine_state}
use Rattle.lc_rest.proofs.DisksFit.{disks-fit, put-effects}
use Rattle.lc_rest.proofs.SoundState.{sound, transactions-are}
use Rattle.lc_rest.proofs.Standing.{transactions_of}

pub value-is : (f : Found) → value f.base [] (machine_state f).history ≡ effects (transactions_of f.geometry f.records) f.base
value-is f = ap (λ (ts : List Transaction). effects ts f.base) (transactions-are f.geometry f.records)

pub value-put : (f : Found) → value f.base [] (machine_state f).history ≡ put_on f.records f.base
value-put f = value-is f ∙ sym (put-effects f.geometry f.records f.base)

pub sound-found : (f : Found) → IsConsistent f → Sound f.geometry (machine_state f)
sound-found f is = sound f.geometry f.records f.stable f.place is.tested

pub disks-found : (f : Found) → IsConsistent f → Fits (machine_setting f) (machine_state f) (machine_disks f)
disks-found f is = disks-fit f.geometry f.records f.stable f.dropped f.place f.numbers f.base f.pages f.clean f.known is.tested is.stored
