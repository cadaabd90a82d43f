-- The lines of a script.
use Rattle.std.specs.Prelude.{ℕ, ◌==◌, List, [], ◌∷◌, ◌++◌, if◌then◌else◌}
use Rattle.std.specs.Str.Lines.{strip_carriage_return}

-- Each ends at a line feed, and one carriage return before it is dropped; the last line may lack its line feed. The first
-- bytes of a line are those that stand before.
abbrev pub last_line : List ℕ → List (List ℕ)
last_line [] = []
last_line (byte ∷ line) = (byte ∷ line) ∷ []

abbrev pub lines_behind : List ℕ → List ℕ → List (List ℕ)
lines_behind line [] = last_line line
lines_behind line (byte ∷ bytes) =
    if byte == 10 then strip_carriage_return line ∷ lines_behind [] bytes else lines_behind (line ++ byte ∷ []) bytes

abbrev pub script_lines : List ℕ → List (List ℕ)
script_lines script = lines_behind [] script
