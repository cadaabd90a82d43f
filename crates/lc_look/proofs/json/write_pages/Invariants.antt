use Rattle.std.proofs.Common.{◌≡◌, ℕ, List}
use Rattle.std.specs.Io.KnownBytes.{Appends}
use Rattle.lc_look.specs.Checks.{AreBehindIn}
use Rattle.lc_look.specs.Json.{pages_json}
use Rattle.lc_look.proofs.ChecksShown.{none_of}
use Rattle.lc_look.proofs.json.write_pages.Given as goal

abbrev pub invariant-loop-page : goal.invariant-loop-page
invariant-loop-page g l =
    (pages : List ℕ) × AreBehindIn l.page-counter l.forecast.store l.segment pages × (l.is_first ≡ none_of pages)
    × Appends (g.W.Write.contents l.fn.writer) (g.W.Write.contents l.writer) (pages_json pages)
