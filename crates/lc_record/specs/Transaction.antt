-- What a transaction is, and what it does to the content of the segments (RVM: new values only).
use Rattle.std.specs.Prelude.{ℕ, zero, suc, Bool, true, false, ◌&&◌, ◌||◌, ◌==◌, List, [], ◌∷◌, length, All, IsTrue}
use Rattle.lc_record.specs.Content.{Content, put, on_segment, segment_of}

-- for each byte of each segment, whether the transaction set it
abbrev pub Marks : Type 0
Marks = List (List Bool)

-- one write of bytes
pub record ByteWrite : Type 0 where
  pub segment : ℕ
  pub offset : ℕ
  pub bytes : List ℕ

pub record Transaction : Type 0 where
  pub node : ℕ
  pub thread : ℕ
  -- the segments that it locked for writing
  pub locked : List ℕ
  -- those that it locked for reading
  pub reading : List ℕ
  pub marks : Marks
  -- in the order in which they were made
  pub writes : List ByteWrite

abbrev pub is_member : ℕ → List ℕ → Bool
is_member n [] = false
is_member n (x ∷ xs) = (x == n) || is_member n xs

-- it locked the segment for writing
abbrev pub locks : Transaction → ℕ → Bool
locks t segment = is_member segment t.locked

-- it locked it for writing or for reading
abbrev pub holds : Transaction → ℕ → Bool
holds t segment = locks t segment || is_member segment t.reading

-- whether all of a stretch is set: len positions from place on
abbrev pub all_set : ℕ → ℕ → List Bool → Bool
all_set place zero marks = true
all_set place (suc len) [] = false
all_set zero (suc len) (mark ∷ marks) = mark && all_set zero len marks
all_set (suc place) (suc len) (mark ∷ marks) = all_set place (suc len) marks

-- its set positions lie in segments locked for writing, and the bytes of each write at set positions
pub record IsWellFormed (t : Transaction) : Type 0 where
  pub set_locked : (segment place : ℕ) → IsTrue (all_set place 1 (segment_of segment t.marks)) → IsTrue (locks t segment)
  pub write_locked : All (λ w. IsTrue (locks t w.segment)) t.writes
  pub write_set : All (λ w. IsTrue (all_set w.offset (length w.bytes) (segment_of w.segment t.marks))) t.writes

abbrev pub writes_on : List ByteWrite → Content → Content
writes_on [] content = content
writes_on (w ∷ ws) content = writes_on ws (on_segment w.segment (put w.offset w.bytes) content)

-- the content after the transaction's writes, one after another
abbrev pub effect : Transaction → Content → Content
effect t content = writes_on t.writes content

-- the content after these transactions, the first of them first
abbrev pub effects : List Transaction → Content → Content
effects [] content = content
effects (t ∷ ts) content = effects ts (effect t content)

-- two transactions meet if they locked a common segment that at least one of them locked for writing
abbrev pub Meet : Transaction → Transaction → Type 0
Meet t u =
    (segment : ℕ) × IsTrue ((locks t segment && holds u segment) || (holds t segment && locks u segment))
