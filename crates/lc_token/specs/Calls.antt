-- Calls of a hold-back, one after another.
use Rattle.std.specs.Prelude.{◌≡◌, ◌↔◌, List, [], ◌∷◌, Option, Some, None, Contains}
use Rattle.lc_record.specs.declared.part.Part.{Part}
use Rattle.lc_token.specs.declared.received.Received.{Received}
use Rattle.lc_token.specs.Backlog.{Backlog, HandsOut, Receives}

-- a part is received, and this is answered; or this is handed out
pub data Call : Type 0 where
  Receipt : Part → Received → Call
  Handing : Option Part → Call

-- the calls lead from one backlog to another
abbrev pub Follows : Backlog → List Call → Backlog → Type 0
Follows old [] new = new ≡ old
Follows old (Receipt part answer ∷ calls) new = (next : Backlog) × Receives part old answer next × Follows next calls new
Follows old (Handing given ∷ calls) new = (next : Backlog) × HandsOut old given next × Follows next calls new

-- the parts that were received, in the order of the calls
abbrev pub received : List Call → List Part
received [] = []
received (Receipt part answer ∷ calls) = part ∷ received calls
received (Handing given ∷ calls) = received calls

-- the parts that were handed out, in the order of the calls
abbrev pub handed : List Call → List Part
handed [] = []
handed (Receipt part answer ∷ calls) = handed calls
handed (Handing None ∷ calls) = handed calls
handed (Handing (Some part) ∷ calls) = part ∷ handed calls

-- one number names one part
abbrev pub NumbersName : List Part → Type 0
NumbersName parts = (part other : Part) → Contains parts part → Contains parts other → part.seq ≡ other.seq → part ≡ other

-- each part of one list is in the other, whatever the order and the repeats
abbrev pub AreSame : List Part → List Part → Type 0
AreSame parts others = (part : Part) → Contains parts part ↔ Contains others part
