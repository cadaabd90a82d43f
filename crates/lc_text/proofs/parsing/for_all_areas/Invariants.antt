use Rattle.std.proofs.Common.{◌≡◌, [], ◌∷◌}
use Rattle.std.specs.Prelude.{replicate}
use Rattle.lc_text.proofs.parsing.for_all_areas.Given as goal

abbrev pub invariant-loop : goal.invariant-loop
invariant-loop l = l.choices.items ≡ replicate l.counter (l.fn.choice ∷ [])
