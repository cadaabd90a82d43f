use Rattle.std.proofs.Common.{ℕ, ◌+◌, ◌<◌, List, length, ◌∷◌, sym, ◌∙◌, ap₂, arith}
use Rattle.std.proofs.lemmas.List.{take_rest}
use Rattle.lc_text.specs.Lines.{script_lines}
use Rattle.lc_text.proofs.LineLemmas.{one_line, cut_line}
use Rattle.lc_text.proofs.lines.first_line.Goals as goal

pub returns-then-end-script-clause-lines : goal.returns-then-end-script-clause-lines
returns-then-end-script-clause-lines c = one_line c.args.script.now c.requires (λ k h e. c.feed_at-end.ensures.before k (omega (arith, c.if-end-script.true)) e)

pub returns-clause-lines : goal.returns-clause-lines
returns-clause-lines c =
    let within : c.feed_at-end.result < length c.args.script.now = omega (arith, c.feed_at-end.ensures.within, c.if-end-script.false) in
    cut_line c.args.script.now c.feed_at-end.result within c.feed_at-end.ensures.before (c.feed_at-end.ensures.found within)
    ∙ ap₂ (λ (line rest : List ℕ). line ∷ script_lines rest) (sym c.without_return.ensures) (sym (take_rest c.args.script.now (c.feed_at-end.result + 1)))
