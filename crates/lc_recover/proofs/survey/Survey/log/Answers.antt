use Rattle.std.proofs.Common.{ℕ, List, length, ap, ◌∙◌, arith}
use Rattle.lc_recover.specs.Survey.{Surveyed}
use Rattle.lc_recover.proofs.AreasRead.{short-log}
use Rattle.lc_recover.proofs.survey.Survey.log.Goals as goal

pub extent_of-requires : goal.extent_of-requires
extent_of-requires c =
    let short = short-log c.self.inside.geometry c.self.invariant.bytes c.self.inside.read c.self.invariant.whole c.args.node c.index.result.now (omega (arith, c.requires, ap (λ (s : Surveyed). s.geometry.nodes) c.self.view_is)) in
    omega (arith, short, ap (λ (l : List ℕ). length l) (c.as_slice.ensures ∙ c.index.ensures))
