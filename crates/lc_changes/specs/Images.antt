-- Images of segments that a program keeps beside the machine. Each is changed by its writer alone, without a lock.
use Rattle.std.specs.Prelude.{◌≡◌, ◌≢◌, ℕ, List, [], ◌∷◌, Some, true, false}
use Rattle.lc_record.specs.Content.{put, segment_of}
use Rattle.lc_record.specs.Transaction.{Transaction, is_member, locks}
use Rattle.lc_record.specs.Marks.{ascending}
use Rattle.lc_record.specs.declared.geometry.Geometry.{Geometry}
use Rattle.lc_model.specs.History.{value}
use Rattle.lc_model.specs.Machine.{Step, seen}
use Rattle.lc_model.specs.State.{State, Setting, running_of}
use Rattle.lc_model.specs.declared.event.Event.{Event}
use Rattle.lc_model.specs.declared.event.Event.TheVariants.{Begin, Write, Abort, Reserve, Stop}
use Rattle.lc_model.specs.declared.reply.Reply.{Reply}
use Rattle.lc_model.specs.declared.reply.Reply.TheVariants.{Ended, Ok as Accepted}

-- the bytes of each segment
abbrev pub Images : Type 0
Images = ℕ → List ℕ

abbrev pub IsSame : Images → Images → Type 0
IsSame old new = (g : ℕ) → new g ≡ old g

-- nobody's open transaction writes the segment
abbrev pub IsUnwritten : State → ℕ → Type 0
IsUnwritten s g = (n k : ℕ) (t : Transaction) → running_of n k s ≡ Some t → locks t g ≡ true → ⊥

-- the image of a segment is what its writer sees, and what the history made of the segment is kept for an abort; if nobody writes the
-- segment, its image is what the history made of it
pub record FitsImages (m : Setting) (s : State) (images olds : Images) : Type 0 where
  pub written : (n k g : ℕ) (t : Transaction) → running_of n k s ≡ Some t → locks t g ≡ true → images g ≡ segment_of g (seen m.start s t)
  pub before : (n k g : ℕ) (t : Transaction) → running_of n k s ≡ Some t → locks t g ≡ true → olds g ≡ segment_of g (value m.start s.earlier s.history)
  pub unwritten : (g : ℕ) → IsUnwritten s g → images g ≡ segment_of g (value m.start s.earlier s.history)

-- what the program does at an event: a begin keeps the images of the segments that it may write, a write lays its bytes, an abort brings
-- back what was kept, and nothing else changes an image
abbrev pub Does : Geometry → State → Event → Reply → Images → Images → Images → Images → Type 0
Does g s (Begin n k segments reading) Accepted images olds later kept =
    IsSame images later × ((x : ℕ) → is_member x (ascending g segments) ≡ true → kept x ≡ images x) × ((x : ℕ) → is_member x (ascending g segments) ≡ false → kept x ≡ olds x)
Does g s (Write n k segment offset bytes) Accepted images olds later kept =
    (later segment ≡ put offset bytes (images segment)) × ((x : ℕ) → x ≢ segment → later x ≡ images x) × IsSame olds kept
Does g s (Abort n k) Accepted images olds later kept =
    ((t : Transaction) → running_of n k s ≡ Some t → ((x : ℕ) → locks t x ≡ true → later x ≡ olds x) × ((x : ℕ) → locks t x ≡ false → later x ≡ images x)) × IsSame olds kept
Does g s (Reserve n k) Ended images olds later kept =
    ((t : Transaction) → running_of n k s ≡ Some t → ((x : ℕ) → locks t x ≡ true → later x ≡ olds x) × ((x : ℕ) → locks t x ≡ false → later x ≡ images x)) × IsSame olds kept
Does g s event reply images olds later kept = IsSame images later × IsSame olds kept

-- an event that is no stop
abbrev pub IsNoStop : Event → Type 0
IsNoStop (Stop choices) = ⊥
IsNoStop event = Unit {0}

-- the machine may give these replies to these events, none of them a stop, and the program does what belongs to each
abbrev pub RunsWith : Setting → State → List Event → List Reply → Images → Images → State → Images → Images → Type 0
RunsWith m s [] [] images olds new later kept = (new ≡ s) × IsSame images later × IsSame olds kept
RunsWith m s (event ∷ events) (reply ∷ replies) images olds new later kept =
    (mid : State) × (between : Images) × (beside : Images) × IsNoStop event × Step m s event reply mid × Does m.geometry s event reply images olds between beside
    × RunsWith m mid events replies between beside new later kept
RunsWith m s [] (reply ∷ replies) images olds new later kept = ⊥
RunsWith m s (event ∷ events) [] images olds new later kept = ⊥
