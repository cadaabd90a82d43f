-- The lines of a script that a reader still has, as contracts see them.
use Rattle.std.specs.Prelude.{ℕ, List, Option}
use Rattle.std.specs.Io.Buffered.{reader_remaining}
use Rattle.lc_tool.specs.declared.script_lines.ScriptLines.{ScriptLines}

-- their bytes, where those that the reader has left are known
abbrev pub lines_left : {R : Type 0} → (R → Option (List ℕ)) → ScriptLines R → Option (List ℕ)
lines_left remaining lines = reader_remaining (λ source. remaining source.reader.now) lines.source
