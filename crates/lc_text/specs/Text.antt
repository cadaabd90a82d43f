-- What is printed, as bytes. Each text ends with a line feed.
use Rattle.std.specs.Prelude.{ℕ, zero, suc, ◌/◌, ◌%◌, ◌-◌, ◌^◌, min, false, List, [], ◌∷◌, ◌++◌, take, drop, length, flat_map, codes, decimal, Some}
use Rattle.std.specs.List.{join_by}
use Rattle.std.specs.Fmt.{digit_glyph}
use Rattle.std.specs.Int.{w64, to_le_bytes}
use Rattle.lc_record.specs.Marks.{counting}
use Rattle.lc_record.specs.Record.{record_len}
use Rattle.lc_record.specs.declared.geometry.Geometry.{Geometry}
use Rattle.lc_record.specs.declared.record.Record.{Record}
use Rattle.lc_record.specs.declared.record.Lock.{Lock}
use Rattle.lc_record.specs.declared.record.RangeData.{RangeData}
use Rattle.lc_model.specs.declared.refusal.Refusal.{Refusal}
use Rattle.lc_model.specs.declared.refusal.Refusal.TheVariants.{Down as IsDown, Unknown, Halted, OutOfTurn, Busy, NotHere, NotLocked, EmptyRange, OutOfSegment, NoRange, TooManyRanges, SequenceSpent, TooLong, Sealed, Full, Held, Writing, Unflushed, Behind, Uncommitted, NotNewer, Unclean, RoundsSpent, DeviceFault, BadGeometry, Twice, Gap, ReadOnly}
use Rattle.lc_model.specs.declared.reply.Reply.{Reply}
use Rattle.lc_model.specs.declared.reply.Reply.TheVariants.{Ok as Accepted, Bytes, Reserved, Ended, Stepped, Acked, Nothing, Applied, HeldBack, Ignored, Trimmed, Written, Reset, Down, Recovered, Refused}

-- a number after a space
abbrev pub number_text : ℕ → List ℕ
number_text n = codes " " ++ decimal n

-- a line of words and numbers
unfoldable pub line : List ℕ → List ℕ → List ℕ
line words numbers = words ++ flat_map number_text numbers ++ codes "\n"

-- two lower case hexadecimal digits for each byte
abbrev pub byte_text : ℕ → List ℕ
byte_text byte = digit_glyph false (byte / 16) ∷ digit_glyph false (byte % 16) ∷ []

unfoldable pub hex_text : List ℕ → List ℕ
hex_text = flat_map byte_text

-- Replies

-- what is said of a refusal in front of its numbers
abbrev pub refusal_words : Refusal → List ℕ
refusal_words IsDown = codes "refused Down"
refusal_words Unknown = codes "refused Unknown"
refusal_words Halted = codes "refused Halted"
refusal_words OutOfTurn = codes "refused OutOfTurn"
refusal_words (Busy segment) = codes "refused Busy"
refusal_words (NotHere segment) = codes "refused NotHere"
refusal_words NotLocked = codes "refused NotLocked"
refusal_words EmptyRange = codes "refused EmptyRange"
refusal_words (OutOfSegment area) = codes "refused OutOfSegment"
refusal_words NoRange = codes "refused NoRange"
refusal_words TooManyRanges = codes "refused TooManyRanges"
refusal_words (SequenceSpent segment) = codes "refused SequenceSpent"
refusal_words (TooLong words) = codes "refused TooLong"
refusal_words Sealed = codes "refused Sealed"
refusal_words (Full tail need) = codes "refused Full"
refusal_words Held = codes "refused Held"
refusal_words Writing = codes "refused Writing"
refusal_words Unflushed = codes "refused Unflushed"
refusal_words (Behind applied seq) = codes "refused Behind"
refusal_words Uncommitted = codes "refused Uncommitted"
refusal_words NotNewer = codes "refused NotNewer"
refusal_words (Unclean segment seq) = codes "refused Unclean"
refusal_words RoundsSpent = codes "refused RoundsSpent"
refusal_words DeviceFault = codes "device fault"
refusal_words (BadGeometry area) = codes "refused BadGeometry"
refusal_words (Twice segment seq) = codes "refused Twice"
refusal_words (Gap segment seq) = codes "refused Gap"
refusal_words (ReadOnly segment) = codes "refused ReadOnly"

-- and these numbers
abbrev pub refusal_numbers : Refusal → List ℕ
refusal_numbers (Busy segment) = segment ∷ []
refusal_numbers (NotHere segment) = segment ∷ []
refusal_numbers (OutOfSegment (Some area)) = area ∷ []
refusal_numbers (SequenceSpent segment) = segment ∷ []
refusal_numbers (TooLong words) = words ∷ []
refusal_numbers (Full tail need) = tail ∷ need ∷ []
refusal_numbers (Behind applied seq) = applied ∷ seq ∷ []
refusal_numbers (Unclean segment seq) = segment ∷ seq ∷ []
refusal_numbers (BadGeometry area) = area ∷ []
refusal_numbers (Twice segment seq) = segment ∷ seq ∷ []
refusal_numbers (Gap segment seq) = segment ∷ seq ∷ []
refusal_numbers (ReadOnly segment) = segment ∷ []
refusal_numbers _ = []

abbrev pub refusal_text : Refusal → List ℕ
refusal_text refusal = line (refusal_words refusal) (refusal_numbers refusal)

-- `bytes`, and where there are some a space and their digits
abbrev pub bytes_text : List ℕ → List ℕ
bytes_text [] = line (codes "bytes") []
bytes_text (byte ∷ bytes) = codes "bytes " ++ hex_text (byte ∷ bytes) ++ codes "\n"

abbrev pub reply_text : Reply → List ℕ
reply_text Accepted = line (codes "ok") []
reply_text (Bytes bytes) = bytes_text bytes
reply_text (Reserved place words) = line (codes "reserved") (place ∷ words ∷ [])
reply_text Ended = line (codes "ended") []
reply_text (Stepped step) = line (codes "step") (step ∷ [])
reply_text (Acked count) = line (codes "acked") (count ∷ [])
reply_text Nothing = line (codes "nothing") []
reply_text (Applied seq) = line (codes "applied") (seq ∷ [])
reply_text HeldBack = line (codes "held back") []
reply_text Ignored = line (codes "ignored") []
reply_text (Trimmed count) = line (codes "trimmed") (count ∷ [])
reply_text (Written number) = line (codes "written") (number ∷ [])
reply_text Reset = line (codes "reset") []
reply_text Down = line (codes "down") []
reply_text Recovered = line (codes "recovered") []
reply_text (Refused refusal) = refusal_text refusal

-- Other answers of one line

abbrev pub closed_text : ℕ → ℕ → List ℕ
closed_text place words = line (codes "closed") (place ∷ words ∷ [])

-- the log of a node is empty, and in this round
abbrev pub truncated_text : ℕ → List ℕ
truncated_text round = line (codes "truncated") (round ∷ [])

-- in front of what a line of a script prints, where that is asked for
abbrev pub line_number_text : ℕ → List ℕ
line_number_text number = line (codes "line") (number ∷ [])

abbrev pub not_understood_text : ℕ → List ℕ
not_understood_text line = codes "line " ++ decimal line ++ codes ": not understood\n"

abbrev pub too_long_text : List ℕ
too_long_text = codes "script too long\n"

abbrev pub no_memory_text : List ℕ
no_memory_text = codes "refused NoMemory\n"

abbrev pub exists_text : List ℕ
exists_text = codes "refused Exists\n"

-- A recovery on its own

-- a segment and its number
abbrev pub segment_text : ℕ → ℕ → List ℕ
segment_text segment number = codes "segment " ++ decimal segment ++ codes " sequence " ++ decimal number ++ codes "\n"

-- each segment in ascending order, with its number
abbrev pub segments_text : Geometry → (ℕ → ℕ) → List ℕ
segments_text g numbers = flat_map (λ segment. segment_text segment (numbers segment)) (counting 1 g.segments)

-- and then that the store is recovered
abbrev pub recovered_text : Geometry → (ℕ → ℕ) → List ℕ
recovered_text g numbers = segments_text g numbers ++ reply_text Recovered

-- Logs and pages

-- the bytes of a word, the lowest first
abbrev pub word_text : ℕ → List ℕ
word_text word = hex_text (to_le_bytes w64 word) ++ codes "\n"

abbrev pub words_text : List ℕ → List ℕ
words_text = flat_map word_text

-- up to this many lines of 16 bytes each; the last may be shorter
abbrev pub lines_text : ℕ → List ℕ → List ℕ
lines_text zero bytes = []
lines_text (suc more) [] = []
lines_text (suc more) (byte ∷ bytes) = hex_text (take 16 (byte ∷ bytes)) ++ codes "\n" ++ lines_text more (drop 16 (byte ∷ bytes))

-- in lines of 16 bytes each; the last may be shorter
abbrev pub page_text : List ℕ → List ℕ
page_text bytes = lines_text (length bytes) bytes

-- Records

abbrev pub lock_text : Lock → List ℕ
lock_text lock = decimal lock.segment ++ codes ":" ++ decimal lock.seq

abbrev pub range_text : RangeData → List ℕ
range_text range = decimal range.segment ++ codes ":" ++ decimal range.offset ++ codes "+" ++ decimal (length range.bytes)

-- its place, its words as far as 64 bits can say, its node, its locks and its ranges
unfoldable pub record_text : ℕ → Record → List ℕ
record_text place r =
    decimal place ++ codes " " ++ decimal (min (record_len r) (2 ^ 64 - 1))
    ++ codes " node " ++ decimal r.node
    ++ codes " locks " ++ join_by lock_text (codes ",") r.locks
    ++ codes " ranges " ++ join_by range_text (codes ",") r.ranges ++ codes "\n"

abbrev pub records_text : List (ℕ × Record) → List ℕ
records_text = flat_map (λ e. record_text e.0 e.1)
