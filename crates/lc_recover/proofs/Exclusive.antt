-- A store that merges to a result is not refused.
use Rattle.std.proofs.Common.{◌≡◌, ℕ, List, map, refl}
use Rattle.lc_disk.specs.declared.area.Area.{Ghosts}
use Rattle.lc_record.specs.Content.{Content}
use Rattle.lc_record.specs.declared.geometry.Geometry.{Geometry}
use Rattle.lc_model.specs.Merge.{StoreText, MergeFault, MergesTo, Refuses, BadGeometry as IsOther, OutOfSegment as IsOutside, Twice as IsTwice, Gap as IsGap}
use Rattle.lc_model.proofs.Outcome.{fault-apart}
use Rattle.lc_recover.specs.Fault.{IsRefusal}
use Rattle.lc_recover.specs.Reads.{AreHonest, AreOfBytes, AllMergeTo, store_of}
use Rattle.lc_recover.specs.declared.fault.RecoverFault.{RecoverFault}
use Rattle.lc_recover.specs.declared.fault.RecoverFault.TheVariants.{BadGeometry, Gap, Twice, OutOfSegment, DeviceFault, NoMemory}
use Rattle.lc_recover.proofs.Images.{own-image}

pub not_refused : (store : StoreText) (fault : MergeFault) (content : Content) (numbers : ℕ → ℕ) → MergesTo store content numbers → Refuses store fault → ⊥
not_refused store fault content numbers merges refused = fault-apart store fault content numbers refused merges

-- so only memory can be wanted
pub memory-wanted : (store : StoreText) (fault : RecoverFault) (content : Content) (numbers : ℕ → ℕ) → MergesTo store content numbers → IsRefusal store fault → fault ≡ NoMemory
memory-wanted store (BadGeometry area) content numbers merges refused = absurd (not_refused store (IsOther area) content numbers merges refused)
memory-wanted store (Gap segment seq) content numbers merges refused = absurd (not_refused store (IsGap segment seq) content numbers merges refused)
memory-wanted store (Twice segment seq) content numbers merges refused = absurd (not_refused store (IsTwice segment seq) content numbers merges refused)
memory-wanted store (OutOfSegment area) content numbers merges refused = absurd (not_refused store (IsOutside area) content numbers merges refused)
memory-wanted store DeviceFault content numbers merges refused = absurd refused
memory-wanted store NoMemory content numbers merges refused = refl

-- what honest areas hold is one of their images
pub merge-accepted : {D : Type 0} (a : Ghosts D) (g : Geometry) (areas : List D) (fault : RecoverFault) (content : Content) (numbers : ℕ → ℕ) → AreHonest a areas → AreOfBytes a areas → AllMergeTo a g areas content numbers
    → IsRefusal (store_of g (map a.now areas)) fault → fault ≡ NoMemory
merge-accepted a g areas fault content numbers honest bytes merges =
    memory-wanted (store_of g (map a.now areas)) fault content numbers
    (merges (map a.now areas) (own-image a areas (λ k device is. bytes k device is (honest k device is))))
