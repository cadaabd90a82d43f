use Rattle.std.proofs.Common.{◌≡◌, ◌++◌, ℕ, List}
use Rattle.std.specs.Prelude.{flat_map}
use Rattle.std.specs.Io.KnownBytes.{Appends}
use Rattle.lc_text.specs.Text.{number_text}
use Rattle.lc_look.specs.Checks.{AreBehindIn}
use Rattle.lc_look.proofs.ChecksShown.{behind_head, none_of}
use Rattle.lc_look.proofs.checking.write_behind.Given as goal

abbrev pub invariant-loop-page : goal.invariant-loop-page
invariant-loop-page g l =
    (pages : List ℕ) × AreBehindIn l.page-counter l.forecast.store l.segment pages × (l.is_none ≡ none_of pages)
    × Appends (g.W.Write.contents l.fn.writer) (g.W.Write.contents l.writer) (behind_head l.segment ++ flat_map number_text pages)
