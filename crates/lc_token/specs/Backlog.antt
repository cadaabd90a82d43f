-- The parts of records of one segment that wait at a node, and what one more receipt does.
use Rattle.std.specs.Prelude.{◌≡◌, ◌==◌, ℕ, zero, suc, ◌+◌, ◌<◌, nat_lt, nat_le, Bool, true, false, ◌||◌, if◌then◌else◌, Option, Some, None, is_some, List, [], ◌∷◌, ◌++◌, length, filter}
use Rattle.lc_record.specs.declared.part.Part.{Part}
use Rattle.lc_token.specs.declared.received.Received.{Received}
use Rattle.lc_token.specs.declared.received.Received.TheVariants.{Applied, HeldBack, Ignored}

-- what contracts see of a `HoldBack`: the number up to which all are applied, the applied parts that are to be handed
-- out, in the order of their numbers, and those after a hole, ascending by number
pub record Backlog : Type 0 where
  pub segment : ℕ
  pub applied : ℕ
  pub due : List Part
  pub kept : List Part

-- one that has received nothing
abbrev pub fresh : ℕ → ℕ → Backlog
fresh segment applied = record { segment = segment; applied = applied; due = []; kept = [] }

-- these ascend by number, and are above this one
abbrev pub Ascends : ℕ → List Part → Type 0
Ascends low [] = Unit {0}
Ascends low (part ∷ parts) = (low < part.seq) × Ascends part.seq parts

-- the first part with this number
abbrev pub numbered : ℕ → List Part → Option Part
numbered number [] = None
numbered number (part ∷ parts) = if part.seq == number then Some part else numbered number parts

-- these are the parts with the numbers after this one, up to the first number that no part has
abbrev pub AreDue : ℕ → List Part → List Part → Type 0
AreDue applied parts [] = numbered (applied + 1) parts ≡ None
AreDue applied parts (part ∷ due) = (numbered (applied + 1) parts ≡ Some part) × AreDue (applied + 1) parts due

-- a part, if there is one, and those after it
abbrev pub led_by : Option Part → List Part → List Part
led_by None parts = []
led_by (Some part) parts = part ∷ parts

-- the parts with the numbers after this one without a hole, of so many numbers at most
abbrev pub due_of : ℕ → ℕ → List Part → List Part
due_of zero applied parts = []
due_of (suc most) applied parts = led_by (numbered (applied + 1) parts) (due_of most (applied + 1) parts)

-- what parts make due after a number: that with the next number, if there is one, then that with the number after that,
-- and so on. There are no more than parts.
unfoldable pub due_behind : ℕ → List Part → List Part
due_behind applied parts = due_of (length parts) applied parts

-- the parts above a number
abbrev pub parts_above : ℕ → List Part → List Part
parts_above number parts = filter (λ part. nat_lt number part.seq) parts

-- with one more, in its place by number
abbrev pub put : Part → List Part → List Part
put part [] = part ∷ []
put part (other ∷ others) = if nat_lt part.seq other.seq then part ∷ other ∷ others else other ∷ put part others

-- without the one that has this number
abbrev pub without : ℕ → List Part → List Part
without number [] = []
without number (part ∷ parts) = if part.seq == number then parts else part ∷ without number parts

-- each part stands at its number
abbrev pub StandAtNumbers : List (ℕ × Part) → Type 0
StandAtNumbers [] = Unit {0}
StandAtNumbers (entry ∷ entries) = (entry.0 ≡ entry.1.seq) × StandAtNumbers entries

-- the first has the number after this one
abbrev pub is_next : ℕ → List Part → Bool
is_next applied [] = false
is_next applied (part ∷ parts) = part.seq == applied + 1

-- the first leaves, where it has the number after this one
abbrev pub TakesNext : ℕ → List Part → Option Part → List Part → Type 0
TakesNext applied old None new = (is_next applied old ≡ false) × (new ≡ old)
TakesNext applied old (Some part) new = (old ≡ part ∷ new) × (part.seq ≡ applied + 1)

-- those in front whose numbers follow on this one without a hole
abbrev pub run_of : ℕ → List Part → List Part
run_of applied [] = []
run_of applied (part ∷ parts) = if part.seq == applied + 1 then part ∷ run_of (applied + 1) parts else []

-- and the others
abbrev pub rest_of : ℕ → List Part → List Part
rest_of applied [] = []
rest_of applied (part ∷ parts) = if part.seq == applied + 1 then rest_of (applied + 1) parts else part ∷ parts

-- the number was applied, or is kept
abbrev pub is_known : Backlog → ℕ → Bool
is_known backlog number = nat_le number backlog.applied || is_some (numbered number backlog.kept)

-- these are due too, and all up to their last number are applied
abbrev pub advanced : Backlog → List Part → Backlog
advanced old run = record old {
  applied = old.applied + length run;
  due = old.due ++ run;
  kept = parts_above (old.applied + length run) old.kept;
}

-- one more part is kept
abbrev pub keeping : Backlog → Part → Backlog
keeping old part = record old { kept = put part old.kept }

-- the part with this number is kept no more
abbrev pub forgetting : Backlog → ℕ → Backlog
forgetting old number = record old { kept = without number old.kept }

-- all up to this number are applied, the last of them by the node itself
abbrev pub counted : Backlog → ℕ → Backlog
counted old number = record old { applied = number; kept = parts_above number old.kept }

-- what a receipt of a part answers, and what it leaves
abbrev pub Receives : Part → Backlog → Received → Backlog → Type 0
Receives part old (Applied number) new =
    (is_known old part.seq ≡ false) × (part.seq ≡ old.applied + 1) × (number ≡ new.applied)
    × (new ≡ advanced old (due_behind old.applied (part ∷ old.kept)))
Receives part old HeldBack new =
    (is_known old part.seq ≡ false) × (old.applied + 1 < part.seq) × (new ≡ keeping old part)
Receives part old Ignored new = (is_known old part.seq ≡ true) × (new ≡ old)

-- what is handed out, and what that leaves
abbrev pub HandsOut : Backlog → Option Part → Backlog → Type 0
HandsOut old None new = (old.due ≡ []) × (new ≡ old)
HandsOut old (Some part) new = old ≡ record new { due = part ∷ new.due }

-- the kept part with the next number is handed out, if there is one, and is applied
abbrev pub HandsOutKept : Backlog → Option Part → Backlog → Type 0
HandsOutKept old None new = (numbered (old.applied + 1) old.kept ≡ None) × (new ≡ old)
HandsOutKept old (Some part) new =
    (old.kept ≡ part ∷ new.kept) × (part.seq ≡ old.applied + 1) × (new ≡ record old { applied = part.seq; kept = new.kept })

-- the number is the next, and no part is due or kept
pub record IsNext (backlog : Backlog) (number : ℕ) : Type 0 where
  pub next : number ≡ backlog.applied + 1
  pub none_due : backlog.due ≡ []
  pub none_kept : backlog.kept ≡ []

-- a part with this number, whichever it is, is received, which is answered so, and handed out at once
abbrev pub PassesOn : ℕ → Backlog → Received → Backlog → Type 0
PassesOn number old answer new =
    (part : Part) → part.seq ≡ number → (between : Backlog) × Receives part old answer between × HandsOut between (Some part) new
