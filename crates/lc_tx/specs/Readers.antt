-- Which threads read a segment: for each of them whether it does.
use Rattle.std.specs.Prelude.{Bool, false, ◌||◌, List, [], ◌∷◌}

-- some thread reads
abbrev pub some_reads : List Bool → Bool
some_reads [] = false
some_reads (reads ∷ threads) = reads || some_reads threads
