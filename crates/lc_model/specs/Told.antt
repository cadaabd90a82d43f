-- What events and their replies tell by themselves: the open transactions, and those that were reserved.
use Rattle.std.specs.Prelude.{◌≡◌, ◌⊎◌, ℕ, Bool, nat_lt, List, [], ◌∷◌, ◌++◌, map, filter, if◌then◌else◌, Contains}
use Rattle.lc_record.specs.Transaction.{Transaction}
use Rattle.lc_record.specs.Marks.{ascending, beside, no_marks, marked, written}
use Rattle.lc_record.specs.declared.geometry.Geometry.{Geometry}
use Rattle.lc_model.specs.History.{Numbered, transactions, numbered}
use Rattle.lc_model.specs.State.{State, is_by, without}
use Rattle.lc_model.specs.Sound.{IsAcked}
use Rattle.lc_model.specs.declared.event.Event.{Event}
use Rattle.lc_model.specs.declared.event.Event.TheVariants.{Begin, SetRange, Write, Abort, Reserve, RecoverStep}
use Rattle.lc_model.specs.declared.reply.Reply.{Reply}
use Rattle.lc_model.specs.declared.reply.Reply.TheVariants.{Ok as Accepted, Reserved, Ended, Recovered}

-- the open transactions, and all that were reserved, in order
pub record Told : Type 0 where
  pub running : List Transaction
  pub reserved : List Transaction

-- the open transaction of a thread is changed
abbrev pub on_thread : ℕ → ℕ → (Transaction → Transaction) → List Transaction → List Transaction
on_thread node thread change ts = map (λ t. if is_by node thread t then change t else t) ts

-- with the transaction that a thread begins
abbrev pub with_begun : Geometry → ℕ → ℕ → List ℕ → List ℕ → List Transaction → List Transaction
with_begun g node thread segments reading ts = record {
  node = node;
  thread = thread;
  locked = ascending g segments;
  reading = ascending g (beside segments reading);
  marks = no_marks g;
  writes = [];
} ∷ ts

-- the open transactions after one more event, by its reply; a refusal changes nothing
abbrev pub running_by : Geometry → List Transaction → Event → Reply → List Transaction
running_by g running (Begin node thread segments reading) Accepted = with_begun g node thread segments reading running
running_by g running (SetRange node thread segment offset len) Accepted = on_thread node thread (λ t. marked t segment offset len) running
running_by g running (Write node thread segment offset bytes) Accepted = on_thread node thread (λ t. written t segment offset bytes) running
running_by g running (Abort node thread) Accepted = without node thread running
running_by g running (Reserve node thread) Ended = without node thread running
running_by g running (Reserve node thread) (Reserved place words) = without node thread running
running_by g running RecoverStep Recovered = []
running_by g running _ _ = running

-- the one that is reserved, where the reply says so
abbrev pub reserved_by : List Transaction → Event → Reply → List Transaction
reserved_by running (Reserve node thread) (Reserved place words) = filter (is_by node thread) running
reserved_by running _ _ = []

-- what one more event and its reply tell
abbrev pub told_by : Geometry → Told → Event → Reply → Told
told_by g told event reply = record {
  running = running_by g told.running event reply;
  reserved = told.reserved ++ reserved_by told.running event reply;
}

-- what all of these tell, one after another
abbrev pub told_by_all : Geometry → Told → List Event → List Reply → Told
told_by_all g told (event ∷ events) (reply ∷ replies) = told_by_all g (told_by g told event reply) events replies
told_by_all g told _ _ = told

-- those that recoveries kept, and those reserved since
abbrev pub committed : State → List Transaction
committed s = s.earlier ++ transactions s.history

-- what a state tells of what came before it
abbrev pub told_of : State → Told
told_of s = record { running = s.running; reserved = committed s }

-- the first list is the second less some of its items, in the same order
abbrev pub IsLess : List Transaction → List Transaction → Type 0
IsLess [] ys = Unit {0}
IsLess (x ∷ xs) [] = ⊥
IsLess (x ∷ xs) (y ∷ ys) = ((x ≡ y) × IsLess xs ys) ⊎ IsLess (x ∷ xs) ys

-- a recovery kept it, or it is acknowledged
abbrev pub IsAcknowledged : State → Transaction → Type 0
IsAcknowledged s t =
    Contains s.earlier t ⊎ ((x : Numbered) × Contains (numbered s.history) x × (x.transaction ≡ t) × IsAcked s.ack x)

-- the same as a test
abbrev pub is_acked : (ℕ → ℕ) → Numbered → Bool
is_acked ack x = nat_lt x.number (ack x.transaction.node)

-- all of these in their order: those that recoveries kept, and of those reserved since the acknowledged ones
abbrev pub acknowledged_of : State → List Transaction
acknowledged_of s = s.earlier ++ map (λ x. x.transaction) (filter (is_acked s.ack) (numbered s.history))
