-- The lines of a script that are read one by one, each up to a limit of its own.
use Rattle.std.specs.Prelude.{ℕ, zero, suc, ◌==◌, List, [], ◌∷◌, ◌++◌, map, Option, None, Some, if◌then◌else◌}
use Rattle.std.specs.Str.Lines.{strip_carriage_return}
use Rattle.lc_text.specs.Lines.{last_line}

-- The lines of these bytes, of which so many may still come, the first of them with so many bytes more. Its first bytes
-- came before. Where a line or a byte more comes there is no line, and nothing after it is read.
abbrev pub lines_from : ℕ → ℕ → List ℕ → List ℕ → List (Option (List ℕ))
lines_from count room line [] = map Some (last_line line)
lines_from zero room line (byte ∷ bytes) = None ∷ []
lines_from (suc count) zero line (byte ∷ bytes) = None ∷ []
lines_from (suc count) (suc room) line (byte ∷ bytes) =
    if byte == 10 then Some (strip_carriage_return line) ∷ lines_from count 1048576 [] bytes else lines_from (suc count) room (line ++ byte ∷ []) bytes

-- so many lines at most, each with its end at most as long as the longest script
abbrev pub lines_within : ℕ → List ℕ → List (Option (List ℕ))
lines_within count script = lines_from count 1048576 [] script

-- all whose numbers are below 2^64 - 1
abbrev pub lines_followed : List ℕ → List (Option (List ℕ))
lines_followed script = lines_within 18446744073709551614 script
