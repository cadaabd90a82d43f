use Rattle.std.proofs.Common.{List, ap, subst, arith, ◌≡◌}
use Rattle.lc_range.specs.Undo.{OldBytes, bytes_kept, first_bytes}
use Rattle.lc_range.proofs.CutLemmas.{bytes_in, first_all}
use Rattle.lc_range.proofs.undo.Undo.len.Goals as goal

pub returns-clause-bytes : goal.returns-clause-bytes
returns-clause-bytes c = omega (arith, c.len.ensures.value, bytes_in c.self.inside.ranges.items c.self.inside.bytes.items c.self.invariant.copies.whole, c.self.invariant.copies.whole, ap bytes_kept c.self.view_is)

pub returns-clause-all : goal.returns-clause-all
returns-clause-all c =
    subst (λ (l : List OldBytes). first_bytes c.len.result l ≡ l) c.self.view_is
    (first_all c.len.result c.self.inside.ranges.items c.self.inside.bytes.items c.self.invariant.copies (omega (arith, c.len.ensures.value)))
