use Rattle.std.proofs.Common.{sym, ◌∙◌}
use Rattle.lc_range.proofs.PlaceLemmas.{last_tells}
use Rattle.lc_range.proofs.runs.are_before.Goals as goal

pub returns-in-Some : goal.returns-in-Some
returns-in-Some c =
    let is = last_tells c.args.runs.now c.args.range.now c.in-Some.last.now c.requires c.in-Some.ensures.value in
    (λ e. is.0 (sym c.is_before.ensures ∙ e), λ all. c.is_before.ensures ∙ is.1 all)
