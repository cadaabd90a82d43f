-- Of a segment: how much parts take, and sides whose parts are folded where they take too much.
use Rattle.std.proofs.Common.{◌≡◌, ◌+◌, List, [], ◌∷◌, ◌++◌, arith}
use mathlib.Core.Logic.{dite}
use native.Mathlib.Decide.{dec_le}
use Rattle.lc_record.specs.declared.part.Part.{Part}
use Rattle.lc_segments.specs.Growing.{part_size, parts_size}

pub parts_size_more : (parts : List Part) (part : Part) → parts_size (parts ++ part ∷ []) ≡ parts_size parts + part_size part
parts_size_more [] part = omega arith
parts_size_more (p ∷ parts) part = let e = parts_size_more parts part in omega arith
