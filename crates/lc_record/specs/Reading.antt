-- Reading a record from left to right.
use Rattle.std.specs.Prelude.{◌≡◌, ℕ, zero, suc, ◌+◌, ◌/◌, ◌%◌, ◌^◌, ◌≤◌, Bool, true, false, ◌&&◌, ◌==◌, nat_lt, nat_le, if◌then◌else◌, List, [], ◌∷◌, length, take, drop, Option, Some, None}
use Rattle.std.specs.List.{list_all, AllByRecursion}
use Rattle.lc_record.specs.Words.{bytes_of}
use Rattle.lc_record.specs.GrammarVersion.{end_of, number, of_number}
use Rattle.lc_record.specs.Layout.{data_len}
use Rattle.lc_record.specs.Record.{IsRange, span_of, version_of}
use Rattle.lc_record.specs.declared.grammar_version.GrammarVersion.{GrammarVersion}
use Rattle.lc_record.specs.declared.grammar_version.GrammarVersion.TheVariants.{First, Second}
use Rattle.lc_record.specs.declared.span.Span.{Span}
use Rattle.lc_record.specs.declared.parts.Head.{Head}
use Rattle.lc_record.specs.declared.record.Record.{Record}
use Rattle.lc_record.specs.declared.record.Lock.{Lock}
use Rattle.lc_record.specs.declared.record.RangeData.{RangeData}

-- a step, where there was one before it
infixl 10 ◌>>=◌
abbrev pub ◌>>=◌ : {A B : Type 0} → Option A → (A → Option B) → Option B
None >>= f = None
(Some x) >>= f = f x

-- what a function gave, seen by view, is what reading gives
abbrev pub Gives : {X Y : Type 0} → (X → Y) → Option X → Option Y → Type 0
Gives view None read = read ≡ None
Gives view (Some x) read = read ≡ Some (view x)

-- so many, one after another
unfoldable pub many : {A : Type 0} → (List ℕ → Option (A × List ℕ)) → ℕ → List ℕ → Option (List A × List ℕ)
many read zero words = Some ([], words)
many read (suc n) words = do
  first ← read words
  others ← many read n first.1
  Some (first.0 ∷ others.0, others.1)

-- The first two words

abbrev pub is_first : ℕ → Bool
is_first first =
    (first % 256 == 0xa5)
    && nat_le 1 (first / 2 ^ 16 % 2 ^ 16) && nat_le (first / 2 ^ 16 % 2 ^ 16) 64 && nat_le (first / 2 ^ 32) 4096

abbrev pub is_second : ℕ → Bool
is_second second =
    nat_lt second (2 ^ 32) && nat_le (second % 2 ^ 16) 7
    && nat_le 1 (second / 2 ^ 16 % 2 ^ 16) && nat_le (second / 2 ^ 16 % 2 ^ 16) 16

abbrev pub head_of : GrammarVersion → ℕ → ℕ → Head
head_of version first second = record { version = version; node = second % 2 ^ 16; locks = second / 2 ^ 16 % 2 ^ 16; ranges = first / 2 ^ 16 % 2 ^ 16; len = first / 2 ^ 32 }

unfoldable pub head_at : List ℕ → Option (Head × List ℕ)
head_at (first ∷ second ∷ rest) = do
  version ← of_number (first / 2 ^ 8 % 2 ^ 8)
  if is_first first && is_second second then Some (head_of version first second, rest) else None
head_at _ = None

-- Locks

unfoldable pub lock_at : List ℕ → Option (Lock × List ℕ)
lock_at (segment ∷ seq ∷ rest) = if nat_lt segment (2 ^ 32) then Some (record { segment = segment; seq = seq }, rest) else None
lock_at _ = None

abbrev pub locks_at : ℕ → List ℕ → Option (List Lock × List ℕ)
locks_at = many lock_at

abbrev pub is_lock : Lock → Bool
is_lock lock = nat_le 1 lock.segment && nat_le lock.segment 16 && nat_le 1 lock.seq && nat_le lock.seq (2 ^ 60)

-- locks that a record may have, with ascending segments above this one
abbrev pub ascend : ℕ → List Lock → Bool
ascend before [] = true
ascend before (lock ∷ locks) = is_lock lock && nat_lt before lock.segment && ascend lock.segment locks

-- Ranges

-- where a range stands: one word has its segment and its offset
unfoldable pub packed_at : List ℕ → Option (Span × List ℕ)
packed_at (place ∷ len ∷ rest) = Some (record { segment = place % 2 ^ 32; offset = place / 2 ^ 32; len = len }, rest)
packed_at _ = None

-- each has a word of its own
unfoldable pub apart_at : List ℕ → Option (Span × List ℕ)
apart_at (segment ∷ offset ∷ len ∷ rest) =
    if nat_lt segment (2 ^ 32) && nat_lt offset (2 ^ 32) then Some (record { segment = segment; offset = offset; len = len }, rest) else None
apart_at _ = None

abbrev pub place_at : GrammarVersion → List ℕ → Option (Span × List ℕ)
place_at First words = packed_at words
place_at Second words = apart_at words

-- the bytes of a range lie in a segment, and all of them are there
abbrev pub has_room : Span → List ℕ → Bool
has_room span rest = nat_le 1 span.len && nat_le (end_of span) 262144 && nat_le (data_len span.len) (length rest)

-- what stands after so many bytes is zero
abbrev pub is_padded : ℕ → List ℕ → Bool
is_padded len words = list_all (λ b. b == 0) (drop len (bytes_of words))

-- a range, of which these words are the data
abbrev pub range_of : Span → List ℕ → RangeData
range_of span words = record { segment = span.segment; offset = span.offset; bytes = take span.len (bytes_of words) }

-- the range that stands here, with its bytes in front of the rest
abbrev pub filled : Span → List ℕ → Option (RangeData × List ℕ)
filled span rest =
    if has_room span rest && is_padded span.len (take (data_len span.len) rest)
    then Some (range_of span (take (data_len span.len) rest), drop (data_len span.len) rest)
    else None

unfoldable pub range_at : GrammarVersion → List ℕ → Option (RangeData × List ℕ)
range_at version words = place_at version words >>= λ x. filled x.0 x.1

abbrev pub ranges_at : GrammarVersion → ℕ → List ℕ → Option (List RangeData × List ℕ)
ranges_at version = many (range_at version)

-- the ranges alone
abbrev pub items_at : GrammarVersion → ℕ → List ℕ → Option (List RangeData)
items_at version n words = ranges_at version n words >>= λ x. Some x.0

-- Ranges against locks

-- how far the ranges have come: where the last one ended, and the locks of which none came yet
pub record RangeProgress : Type 0 where
  pub segment : ℕ
  pub end : ℕ
  pub locks : List Lock

abbrev pub place : ℕ → ℕ → List Lock → RangeProgress
place segment end locks = record { segment = segment; end = end; locks = locks }

-- before the first range; nothing stands in segment 0 after this end
abbrev pub start : List Lock → RangeProgress
start locks = place 0 262144 locks

-- the next lock is of the segment
abbrev pub next_lock : ℕ → List Lock → Option (List Lock)
next_lock segment [] = None
next_lock segment (lock ∷ locks) = if lock.segment == segment then Some locks else None

-- one range more: of the same segment with a gap between, or of the segment of the next lock
abbrev pub step : RangeProgress → Span → Option RangeProgress
step before span =
    if span.segment == before.segment
    then if nat_lt before.end span.offset then Some (place span.segment (end_of span) before.locks) else None
    else next_lock span.segment before.locks >>= λ locks. Some (place span.segment (end_of span) locks)

abbrev pub holds : {A : Type 0} → Option A → (A → Bool) → Bool
holds None test = false
holds (Some x) test = test x

-- so do all of these, and none of the locks is left
abbrev pub follow : RangeProgress → List RangeData → Bool
follow before [] = length before.locks == 0
follow before (range ∷ ranges) = holds (step before (span_of range)) (λ after. follow after ranges)

-- what stands after ranges that follow, and that are of this version
abbrev pub walked : GrammarVersion → RangeProgress → Option (List RangeData × List ℕ) → Option (List ℕ)
walked version before read = read >>= λ ranges. if follow before ranges.0 && (number (version_of ranges.0) == number version) then Some ranges.1 else None

-- Records

-- the record that the words begin with ends with its length, and there the rest begins
abbrev pub is_closed : ℕ → List ℕ → List ℕ → Bool
is_closed len words [] = false
is_closed len words (last ∷ rest) = (last == len) && (length words == length rest + len)

-- all before the ranges
pub record Front : Type 0 where
  pub head : Head
  pub locks : List Lock
  pub rest : List ℕ

abbrev pub front : Head → List Lock → List ℕ → Front
front head locks rest = record { head = head; locks = locks; rest = rest }

unfoldable pub front_at : List ℕ → Option Front
front_at words = do
  head ← head_at words
  locks ← locks_at head.0.locks head.1
  if ascend 0 locks.0 then Some (front head.0 locks.0 locks.1) else None

-- the length of the record at the front
unfoldable pub len_at : List ℕ → Option ℕ
len_at words = do
  front ← front_at words
  rest ← walked front.head.version (start front.locks) (ranges_at front.head.version front.head.ranges front.rest)
  if is_closed front.head.len words rest then Some front.head.len else None

abbrev pub record_of : Front → List RangeData → Record
record_of front ranges = record { node = front.head.node; locks = front.locks; ranges = ranges }

-- the record at the front, where there is one
unfoldable pub record_at : List ℕ → Option Record
record_at words = do
  front ← front_at words
  ranges ← ranges_at front.head.version front.head.ranges front.rest
  Some (record_of front ranges.0)

-- what is tested of a record that is to be written
pub record Passes (its_node : ℕ) (locks : List Lock) (ranges : List RangeData) : Type 0 where
  pub node : its_node ≤ 7
  pub some_locks : 1 ≤ length locks
  pub few_locks : length locks ≤ 16
  pub some_ranges : 1 ≤ length ranges
  pub few_ranges : length ranges ≤ 64
  pub ascending : ascend 0 locks ≡ true
  pub each_range : AllByRecursion IsRange ranges
  pub following : follow (start locks) ranges ≡ true
