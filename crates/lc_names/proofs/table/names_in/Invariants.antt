use Rattle.std.proofs.Common.{◌≡◌, ℕ, map, take}
use Rattle.std.specs.Global.{Vec}
use Rattle.lc_names.specs.Table.{names_in}
use Rattle.lc_names.proofs.table.names_in.Given as goal

abbrev pub invariant-loop-entry : goal.invariant-loop-entry
invariant-loop-entry l = map (λ (name : Vec ℕ). name.items) l.names.items ≡ names_in (take l.entry-index l.entries)
