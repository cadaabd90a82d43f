-- What a log's area reads in each state of its calls, and what a stop may leave of it.
use Rattle.std.specs.Prelude.{◌≡◌, ◌≢◌, ◌⊎◌, ◌↔◌, ℕ, ◌+◌, ◌*◌, ◌%◌, ◌<◌, Bool, true, false, IsTrue, List, [], ◌∷◌, ◌++◌, length, drop, slice_index}
use Rattle.std.specs.List.{AllByRecursion}
use Rattle.lc_disk.specs.Area.{IsImage, BecomeDirty, IsClean, overlaid}
use Rattle.lc_disk.specs.declared.area.Area.{Ghosts}
use Rattle.lc_record.specs.Words.{words_of, bytes_of}
use Rattle.lc_record.specs.declared.record.Record.{Record}
use Rattle.lc_log.specs.LogText.{IsWhole, IsLogText, joined}

-- these words are one record or more
pub record IsGroup (words : List ℕ) (records : List Record) : Type 0 where
  pub text : words ≡ joined records
  pub whole : AllByRecursion IsWhole records
  pub some : 0 < length records

-- the bytes of records after their first gate
abbrev pub behind_gate : List Record → List ℕ
behind_gate records = drop 1 (bytes_of (joined records))

-- the stable records, and then a closed gate, none of it dirty
pub record IsAtRest (now : List ℕ) (dirty : ℕ → Bool) (end : ℕ) (stable : List Record) : Type 0 where
  pub gate : ℕ
  pub behind : List ℕ
  pub text : now ≡ bytes_of (joined stable) ++ gate ∷ behind
  pub closed : gate % 256 ≢ 165
  pub whole : AllByRecursion IsWhole stable
  pub size : length (joined stable) ≡ end
  pub clean : (k : ℕ) → k < 8 * end + 1 → dirty k ≡ false

-- the same, with a group of so many words behind the closed gate, and a closed gate after the group
pub record IsStaged (now : List ℕ) (dirty : ℕ → Bool) (end words : ℕ) (stable group : List Record) : Type 0 where
  pub at_rest : IsAtRest now dirty end stable
  pub next_gate : ℕ
  pub after : List ℕ
  pub behind : at_rest.behind ≡ behind_gate group ++ next_gate ∷ after
  pub next_closed : next_gate % 256 ≢ 165
  pub whole : AllByRecursion IsWhole group
  pub some : 0 < length group
  pub size : length (joined group) ≡ words

-- the stable records, a gate of this byte with the group after it, and a closed gate; of these the first gate alone may
-- be dirty
pub record IsOpening (gate : ℕ) (now : List ℕ) (dirty : ℕ → Bool) (end words : ℕ) (stable group : List Record) : Type 0 where
  pub next_gate : ℕ
  pub after : List ℕ
  pub text : now ≡ bytes_of (joined stable) ++ gate ∷ (behind_gate group ++ next_gate ∷ after)
  pub next_closed : next_gate % 256 ≢ 165
  pub stable_whole : AllByRecursion IsWhole stable
  pub whole : AllByRecursion IsWhole group
  pub some : 0 < length group
  pub stable_size : length (joined stable) ≡ end
  pub size : length (joined group) ≡ words
  pub clean : (k : ℕ) → k < 8 * (end + words) + 1 → k ≢ 8 * end → dirty k ≡ false

-- the words of each image have this
abbrev pub EachImage : List ℕ → (ℕ → Bool) → (List ℕ → Type 0) → Type 0
EachImage now dirty P = (image : List ℕ) → IsImage now dirty image → P (words_of image)

-- the words are the text of the stable records, or of these and the whole group
abbrev pub IsWithOrWithout : List Record → List Record → List ℕ → Type 0
IsWithOrWithout stable group words = IsLogText words stable ⊎ IsLogText words (stable ++ group)

-- the first gate reads closed, and each image is the text of all these records or of none
pub record IsShut (now : List ℕ) (dirty : ℕ → Bool) (records : List Record) : Type 0 where
  pub gate : ℕ
  pub behind : List ℕ
  pub text : now ≡ gate ∷ behind
  pub closed : gate % 256 ≢ 165
  pub images : EachImage now dirty (IsWithOrWithout [] records)

-- The same of an area that is honest; `a` is what contracts see of it.
module _ {D : Type 0} (a : Ghosts D) (area : D) where
  -- the words of whatever a stop leaves have this
  abbrev pub LeavesOnly : (List ℕ → Type 0) → Type 0
  LeavesOnly P = a.honest area ≡ true → EachImage (a.now area) (a.dirty area) P

  abbrev pub IsIdle : ℕ → List Record → Type 0
  IsIdle end stable = a.honest area ≡ true → IsAtRest (a.now area) (a.dirty area) end stable

  abbrev pub IsWritten : ℕ → ℕ → List Record → List Record → Type 0
  IsWritten end words stable group = a.honest area ≡ true → IsStaged (a.now area) (a.dirty area) end words stable group

  abbrev pub IsSynced : ℕ → ℕ → List Record → List Record → Type 0
  IsSynced end words stable group = a.honest area ≡ true → IsStaged (a.now area) (a.dirty area) end words stable group × IsClean (a.dirty area)

  abbrev pub IsOpened : ℕ → ℕ → List Record → List Record → Type 0
  IsOpened end words stable group = a.honest area ≡ true → IsOpening 165 (a.now area) (a.dirty area) end words stable group

  -- the words of whatever a stop leaves are the text of these records
  abbrev pub Holds : List Record → Type 0
  Holds records = LeavesOnly (λ words. IsLogText words records)

  -- whether its first gate reads open
  abbrev pub GateReads : Bool → Type 0
  GateReads is_open = a.honest area ≡ true → IsTrue is_open ↔ (slice_index (a.now area) 0 ≡ 165)

  abbrev pub IsClosing : List Record → Type 0
  IsClosing records = a.honest area ≡ true → IsShut (a.now area) (a.dirty area) records

  -- nothing that is read or dirty has changed since this area
  abbrev pub IsUntouched : D → Type 0
  IsUntouched old = a.honest area ≡ true → (a.now area ≡ a.now old) × ((k : ℕ) → a.dirty area k ≡ a.dirty old k)

-- the same device, later
pub record Continues {D : Type 0} (a : Ghosts D) (old new : D) : Type 0 where
  pub honest : a.honest new ≡ a.honest old
  pub same_length : length (a.now new) ≡ length (a.now old)

-- of an area that is honest, just these bytes were laid over it from this position on
abbrev pub Wrote : {D : Type 0} → Ghosts D → ℕ → List ℕ → D → D → Type 0
Wrote a at bytes old new = a.honest old ≡ true → (a.now new ≡ overlaid (a.now old) at bytes) × BecomeDirty at (length bytes) (a.dirty old) (a.dirty new)

-- of an area that is honest, nothing that is read has changed, and nothing is dirty
abbrev pub MadeStable : {D : Type 0} → Ghosts D → D → D → Type 0
MadeStable a old new = a.honest old ≡ true → (a.now new ≡ a.now old) × IsClean (a.dirty new)
