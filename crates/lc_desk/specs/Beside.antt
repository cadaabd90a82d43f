-- Of a desk: what the other nodes need to know of a step of one node.
use Rattle.std.specs.Prelude.{◌≡◌, ℕ, false, map, length, find, Some, slice_get}
use Rattle.lc_record.specs.Content.{Content, segment_of}
use Rattle.lc_record.specs.Transaction.{Transaction}
use Rattle.lc_model.specs.History.{value, entries_of}
use Rattle.lc_model.specs.State.{At, Setting, State, running_of, has_unclosed, is_by}
use Rattle.lc_model.specs.Sound.{unclosed}
use Rattle.lc_model.specs.Refusals.{is_at}

-- the content that the history makes
abbrev pub content_of : Setting → State → Content
content_of m s = value m.start s.earlier s.history

-- at each other node: the tokens that are there stay, and no token comes; the content of their segments stays, and so do
-- its threads' transactions and reservations
pub record Beside (m : Setting) (node : ℕ) (old new : State) : Type 0 where
  pub shape : map length (content_of m new) ≡ map length (content_of m old)
  pub here : (other segment : ℕ) → (other ≡ node → ⊥) → old.place segment ≡ At other → new.place segment ≡ At other
  pub away : (other segment : ℕ) → (other ≡ node → ⊥) → is_at other (old.place segment) ≡ false → is_at other (new.place segment) ≡ false
  pub content : (other segment : ℕ) → (other ≡ node → ⊥) → old.place segment ≡ At other
      → segment_of segment (content_of m new) ≡ segment_of segment (content_of m old)
  pub running : (other thread : ℕ) → (other ≡ node → ⊥) → running_of other thread new ≡ running_of other thread old
  pub unclosed_is : (other thread : ℕ) → (other ≡ node → ⊥) → has_unclosed other thread new ≡ has_unclosed other thread old
  pub found : (other thread : ℕ) (t : Transaction) → (other ≡ node → ⊥)
      → find (is_by other thread) (unclosed old.history) ≡ Some t → find (is_by other thread) (unclosed new.history) ≡ Some t
  pub numbered : (other thread number : ℕ) (t : Transaction) → (other ≡ node → ⊥) → find (is_by other thread) (unclosed old.history) ≡ Some t
      → slice_get (entries_of other old.history) number ≡ Some (record { transaction = t; closed = false })
      → slice_get (entries_of other new.history) number ≡ Some (record { transaction = t; closed = false })
