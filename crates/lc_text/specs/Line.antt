-- What each line of a script says.
use Rattle.std.specs.Prelude.{◌≡◌, ℕ, ◌+◌, ◌-◌, ◌*◌, ◌^◌, ◌==◌, nat_lt, nat_le, ◌&&◌, ◌||◌, Bool, true, false, if◌then◌else◌, List, [], ◌∷◌, length, codes, bytes_eq, filter, replicate, Option, Some, None, option_and_then, option_map}
use Rattle.std.specs.List.{slice_split, list_all}
use Rattle.lc_disk.specs.declared.choice.Choice.{Choice}
use Rattle.lc_disk.specs.declared.choice.Choice.TheVariants.{Keep, Stable, Byte}
use Rattle.lc_model.specs.declared.event.Event.TheVariants.{Begin, SetRange, Write, Read, Abort, Reserve, Close, FlushStep, Leave, Arrive, Deliver, Trim, PageStep, ResetStep, Stop, RecoverStep}
use Rattle.lc_text.specs.declared.command.Command.{Command}
use Rattle.lc_text.specs.declared.command.Command.TheVariants.{Step, End, Flush, Truncate, Recover, Log, Inspect, Show}
use Rattle.lc_text.specs.declared.command.Line.{Line}
use Rattle.lc_text.specs.declared.command.Line.TheVariants.{Skipped, Command as Asks, NotUnderstood}

-- Words

abbrev pub is_space : ℕ → Bool
is_space byte = byte == 32

abbrev pub is_some_text : List ℕ → Bool
is_some_text [] = false
is_some_text (byte ∷ bytes) = true

-- the longest pieces with no space in them
unfoldable pub words : List ℕ → List (List ℕ)
words line = filter is_some_text (slice_split is_space line)

-- What one word says

abbrev pub is_digit : ℕ → Bool
is_digit byte = nat_le 48 byte && nat_le byte 57

-- the number that goes on with these decimal digits
abbrev pub value_after : ℕ → List ℕ → ℕ
value_after n [] = n
value_after n (digit ∷ digits) = value_after (10 * n + (digit - 48)) digits

-- the number below a limit that the digits of n and these digits write
unfoldable pub number_after : ℕ → ℕ → List ℕ → Option ℕ
number_after limit n digits = if list_all is_digit digits && nat_lt (value_after n digits) limit then Some (value_after n digits) else None

-- a number below a limit, in 1 to 20 decimal digits
unfoldable pub number_of : ℕ → List ℕ → Option ℕ
number_of limit word = if nat_le 1 (length word) && nat_le (length word) 20 then number_after limit 0 word else None

infixl 10 ◌>>=◌
abbrev pub ◌>>=◌ : {A B : Type 0} → Option A → (A → Option B) → Option B
o >>= f = option_and_then f o

-- a hexadecimal digit in either case
unfoldable pub digit_of : ℕ → Option ℕ
digit_of byte =
    if nat_le 48 byte && nat_le byte 57 then Some (byte - 48)
    else if nat_le 97 byte && nat_le byte 102 then Some (byte - 87)
    else if nat_le 65 byte && nat_le byte 70 then Some (byte - 55)
    else None

-- the byte of two of them
unfoldable pub pair_of : ℕ → ℕ → Option ℕ
pair_of high low = do
  h ← digit_of high
  l ← digit_of low
  Some (16 * h + l)

-- a byte for each two of them
unfoldable pub bytes_of : List ℕ → Option (List ℕ)
bytes_of [] = Some []
bytes_of (digit ∷ []) = None
bytes_of (high ∷ low ∷ digits) = do
  byte ← pair_of high low
  bytes ← bytes_of digits
  Some (byte ∷ bytes)

-- What the words of a command say

-- what the first word says, and the words after it
abbrev pub first : {A : Type 0} → (List ℕ → Option A) → List (List ℕ) → Option (A × List (List ℕ))
first read [] = None
first read (word ∷ later) = option_map (λ x. (x, later)) (read word)

-- a node or a thread
abbrev pub u16_of : List (List ℕ) → Option (ℕ × List (List ℕ))
u16_of = first (number_of (2 ^ 16))

-- a segment, a page, an offset or a length
abbrev pub u32_of : List (List ℕ) → Option (ℕ × List (List ℕ))
u32_of = first (number_of (2 ^ 32))

-- how many records there were
abbrev pub u64_of : List (List ℕ) → Option (ℕ × List (List ℕ))
u64_of = first (number_of (2 ^ 64))

-- a segment that is locked, and whether it is for reading: that is said by an `r` in front of its number
unfoldable pub lock_of : List ℕ → Option (Bool × ℕ)
lock_of [] = None
lock_of (byte ∷ bytes) =
    if byte == 114 then option_map (λ n. (true, n)) (number_of (2 ^ 32) bytes)
    else option_map (λ n. (false, n)) (number_of (2 ^ 32) (byte ∷ bytes))

-- the segments for writing, and those for reading
abbrev pub Locks : Type 0
Locks = List ℕ × List ℕ

abbrev pub with_lock : Bool × ℕ → Locks → Locks
with_lock lock locks = if lock.0 then (locks.0, lock.1 ∷ locks.1) else (lock.1 ∷ locks.0, locks.1)

-- a lock of each word
unfoldable pub all_locks : List (List ℕ) → Option Locks
all_locks [] = Some ([], [])
all_locks (word ∷ later) = do
  lock ← lock_of word
  locks ← all_locks later
  Some (with_lock lock locks)

-- no word follows
abbrev pub no_more : List (List ℕ) → Option (Unit {0})
no_more [] = Some tt
no_more (word ∷ later) = None

-- a node and its thread
unfoldable pub thread_of : List (List ℕ) → Option ((ℕ × ℕ) × List (List ℕ))
thread_of fields = do
  node ← u16_of fields
  thread ← u16_of node.1
  Some ((node.0, thread.0), thread.1)

-- a node, its thread, a segment and an offset in it
unfoldable pub spot_of : List (List ℕ) → Option ((ℕ × ℕ × ℕ × ℕ) × List (List ℕ))
spot_of fields = do
  who ← thread_of fields
  segment ← u32_of who.1
  offset ← u32_of segment.1
  Some ((who.0.0, who.0.1, segment.0, offset.0), offset.1)

unfoldable pub begin_of : List (List ℕ) → Option Command
begin_of fields = do
  who ← thread_of fields
  locks ← all_locks who.1
  Some (Step (Begin who.0.0 who.0.1 locks.0 locks.1))

unfoldable pub range_of : List (List ℕ) → Option Command
range_of fields = do
  spot ← spot_of fields
  len ← u32_of spot.1
  end ← no_more len.1
  Some (Step (SetRange spot.0.0 spot.0.1 spot.0.2 spot.0.3 len.0))

unfoldable pub write_of : List (List ℕ) → Option Command
write_of fields = do
  spot ← spot_of fields
  bytes ← first bytes_of spot.1
  end ← no_more bytes.1
  Some (Step (Write spot.0.0 spot.0.1 spot.0.2 spot.0.3 bytes.0))

unfoldable pub read_of : List (List ℕ) → Option Command
read_of fields = do
  spot ← spot_of fields
  len ← u32_of spot.1
  end ← no_more len.1
  Some (Step (Read spot.0.0 spot.0.1 spot.0.2 spot.0.3 len.0))

-- a node and its thread alone
unfoldable pub thread_alone : List (List ℕ) → Option (ℕ × ℕ)
thread_alone fields = do
  who ← thread_of fields
  end ← no_more who.1
  Some who.0

-- a node and a segment alone
unfoldable pub segment_alone : List (List ℕ) → Option (ℕ × ℕ)
segment_alone fields = do
  node ← u16_of fields
  segment ← u32_of node.1
  end ← no_more segment.1
  Some (node.0, segment.0)

unfoldable pub deliver_of : List (List ℕ) → Option Command
deliver_of fields = do
  sender ← u16_of fields
  number ← u64_of sender.1
  segment ← u32_of number.1
  to ← u16_of segment.1
  end ← no_more to.1
  Some (Step (Deliver sender.0 number.0 segment.0 to.0))

-- a node, a segment and a page alone
unfoldable pub page_alone : List (List ℕ) → Option (ℕ × ℕ × ℕ)
page_alone fields = do
  node ← u16_of fields
  segment ← u32_of node.1
  page ← u32_of segment.1
  end ← no_more page.1
  Some (node.0, segment.0, page.0)

-- a node alone
unfoldable pub node_of : List (List ℕ) → Option ℕ
node_of fields = do
  node ← u16_of fields
  end ← no_more node.1
  Some node.0

-- of a line without fields
abbrev pub alone : Command → List (List ℕ) → Option Command
alone command fields = option_map (λ end. command) (no_more fields)

-- by the first word: what one thread does
unfoldable pub thread_command_of : List ℕ → List (List ℕ) → Option Command
thread_command_of keyword fields =
    if bytes_eq keyword (codes "begin") then begin_of fields
    else if bytes_eq keyword (codes "range") then range_of fields
    else if bytes_eq keyword (codes "write") then write_of fields
    else if bytes_eq keyword (codes "read") then read_of fields
    else if bytes_eq keyword (codes "abort") then option_map (λ who. Step (Abort who.0 who.1)) (thread_alone fields)
    else if bytes_eq keyword (codes "reserve") then option_map (λ who. Step (Reserve who.0 who.1)) (thread_alone fields)
    else if bytes_eq keyword (codes "close") then option_map (λ who. Step (Close who.0 who.1)) (thread_alone fields)
    else if bytes_eq keyword (codes "end") then option_map (λ who. End who.0 who.1) (thread_alone fields)
    else None

-- what a node does
unfoldable pub node_command_of : List ℕ → List (List ℕ) → Option Command
node_command_of keyword fields =
    if bytes_eq keyword (codes "step") then option_map (λ node. Step (FlushStep node)) (node_of fields)
    else if bytes_eq keyword (codes "flush") then option_map Flush (node_of fields)
    else if bytes_eq keyword (codes "truncate") then option_map Truncate (node_of fields)
    else if bytes_eq keyword (codes "leave") then option_map (λ token. Step (Leave token.0 token.1)) (segment_alone fields)
    else if bytes_eq keyword (codes "arrive") then option_map (λ token. Step (Arrive token.0 token.1)) (segment_alone fields)
    else if bytes_eq keyword (codes "deliver") then deliver_of fields
    else if bytes_eq keyword (codes "trim") then option_map (λ node. Step (Trim node)) (node_of fields)
    else if bytes_eq keyword (codes "page") then option_map (λ p. Step (PageStep p.0 p.1 p.2)) (page_alone fields)
    else if bytes_eq keyword (codes "reset") then option_map (λ node. Step (ResetStep node)) (node_of fields)
    else None

-- two digits
abbrev pub byte_choice : List ℕ → Option Choice
byte_choice [] = None
byte_choice (digit ∷ []) = None
byte_choice (high ∷ low ∷ []) = option_map Byte (pair_of high low)
byte_choice (high ∷ low ∷ digit ∷ digits) = None

-- what is found at each dirty position after a stop: what was read, what was stable, or a byte
unfoldable pub choice_of : List ℕ → Option Choice
choice_of word =
    if bytes_eq word (codes "keep") then Some Keep
    else if bytes_eq word (codes "stable") then Some Stable
    else byte_choice word

-- areas that a store may have: those of 8 logs and of 16 segments
abbrev pub most_areas : ℕ
most_areas = 24

-- the same choice for each area
unfoldable pub stop_of : List (List ℕ) → Option Command
stop_of fields = do
  choice ← first choice_of fields
  end ← no_more choice.1
  Some (Step (Stop (replicate most_areas (choice.0 ∷ []))))

-- what the whole store does
unfoldable pub store_command_of : List ℕ → List (List ℕ) → Option Command
store_command_of keyword fields =
    if bytes_eq keyword (codes "stop") then stop_of fields
    else if bytes_eq keyword (codes "rstep") then alone (Step RecoverStep) fields
    else if bytes_eq keyword (codes "recover") then alone Recover fields
    else None

-- what is shown
unfoldable pub shown_of : List ℕ → List (List ℕ) → Option Command
shown_of keyword fields =
    if bytes_eq keyword (codes "log") then option_map Log (node_of fields)
    else if bytes_eq keyword (codes "inspect") then option_map Inspect (node_of fields)
    else if bytes_eq keyword (codes "show") then option_map (λ p. Show p.0 p.1 p.2) (page_alone fields)
    else None

-- the first that is some
abbrev pub option_or : {A : Type 0} → Option A → Option A → Option A
option_or None other = other
option_or (Some x) other = Some x

unfoldable pub command_of : List (List ℕ) → Option Command
command_of [] = None
command_of (keyword ∷ fields) =
    option_or (thread_command_of keyword fields)
    (option_or (node_command_of keyword fields) (option_or (store_command_of keyword fields) (shown_of keyword fields)))

-- its fields take memory: a begin with a segment, a write with bytes, or a stop with a choice
abbrev pub is_open_ended : List (List ℕ) → Bool
is_open_ended [] = false
is_open_ended (keyword ∷ fields) =
    (bytes_eq keyword (codes "begin") && nat_lt 2 (length fields)) || (bytes_eq keyword (codes "write") && nat_lt 4 (length fields))
    || (bytes_eq keyword (codes "stop") && nat_lt 0 (length fields))

-- Lines

abbrev pub asked : Option Command → Line
asked None = NotUnderstood
asked (Some command) = Asks command

-- nothing, and what begins with a number sign
abbrev pub is_skipped : List ℕ → Bool
is_skipped [] = true
is_skipped (byte ∷ bytes) = byte == 35

-- the bytes of a line, without what ends it: nothing and what begins with a number sign are skipped
unfoldable pub line_of : List ℕ → Line
line_of [] = Skipped
line_of (byte ∷ bytes) = if byte == 35 then Skipped else asked (command_of (words (byte ∷ bytes)))

-- What reading gives

-- what was read, and the bytes that are left
abbrev pub Takes : {A : Type 0} → Option (A × List (List ℕ)) → Option A → List ℕ → Type 0
Takes read None rest = read ≡ None
Takes read (Some x) rest = read ≡ Some (x, words rest)
