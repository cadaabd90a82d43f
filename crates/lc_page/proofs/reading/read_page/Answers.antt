use Rattle.std.proofs.Common.{◌≡◌, ◌∙◌, Some, sym, arith, rules}
use Rattle.lc_page.specs.declared.slot.Slot.TheVariants.{First, Second}
use Rattle.lc_page.proofs.PageLemmas.{first_small, second_small}
use Rattle.lc_page.proofs.reading.read_page.Goals as goal
use Rattle.lc_page.proofs.reading.read_page.Goals.{in-Some-First, in-Some-Second, in-None}

pub returns-clause-small : goal.returns-clause-small
returns-clause-small c = elim c.match-slot.branch [
  | in-Some-First w ↦
      let here : c.present-slot.result ≡ Some First = search rules in
      omega (arith, w.seq-is, w.sequence-seq.ensures, first_small _ _ _ (sym c.present-slot.ensures ∙ here))
  | in-Some-Second w ↦
      let here : c.present-slot.result ≡ Some Second = search rules in
      omega (arith, w.seq-is, w.sequence-seq-in-Some-Second.ensures, second_small _ _ _ (sym c.present-slot.ensures ∙ here))
  | in-None w ↦ omega (arith, w.seq-is)
]
