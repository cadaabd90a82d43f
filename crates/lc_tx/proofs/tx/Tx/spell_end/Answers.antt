use Rattle.std.proofs.Common.{ℕ, ◌≤◌, List, sym, ap, subst, ◌∙◌, arith}
use Rattle.lc_range.specs.declared.range.Range.{Range}
use Rattle.lc_record.specs.Layout.{layout_len}
use Rattle.lc_record.specs.Record.{record_len, IsRecord}
use Rattle.lc_record.proofs.RecordLemmas.{record_length}
use Rattle.lc_tx.specs.Prepared.{AreUnspent, final_record}
use Rattle.lc_tx.specs.Walk.{locks_of}
use Rattle.lc_tx.proofs.EndLemmas.{laid, runs_inside, runs_from_one, is_record}
use Rattle.lc_tx.proofs.tx.Tx.spell_end.Given.{Over}
use Rattle.lc_tx.proofs.tx.Tx.spell_end.Goals as goal

pub spell-requires-clause-numbered : goal.spell-requires-clause-numbered
spell-requires-clause-numbered g c = runs_from_one g.I.Images c.args.images.now c.args.self.now c.ranges-runs.result.now c.ranges-runs.ensures.runs c.ranges-runs.ensures.canonical c.requires.runs c.requires.small

pub spell-requires-clause-unspent : goal.spell-requires-clause-unspent
spell-requires-clause-unspent g c =
    subst (λ (l : List Range). AreUnspent (locks_of g.I.Images c.args.images.now l)) (sym c.ranges-runs.ensures.runs) c.requires.loggable.unspent

pub spell-requires-clause-inside : goal.spell-requires-clause-inside
spell-requires-clause-inside g c = runs_inside g.I.Images c.args.images.now c.args.self.now c.ranges-runs.result.now c.ranges-runs.ensures.runs c.ranges-runs.ensures.canonical c.requires.runs

pub spell-requires-clause-laid : goal.spell-requires-clause-laid
spell-requires-clause-laid g c =
    c.requires.laid ∙ laid g.I.Images c.args.images.now c.args.self.now c.ranges-runs.result.now c.ranges-runs.ensures.runs c.ranges-runs.ensures.canonical c.requires.runs c.args.node

pub spell-requires-clause-short : goal.spell-requires-clause-short
spell-requires-clause-short g c =
    let short : record_len (final_record g.I.Images c.args.images.now c.args.self.now c.args.node) ≤ 4096 = c.requires.loggable.short in
    omega (arith, ap layout_len c.requires.laid, short)

-- the words are the record's

module _ (g : Over) (c : goal.After-new g) where
  logged : IsRecord (final_record g.I.Images c.args.images.now c.args.self.now c.args.node) c.new.result
  logged =
      subst (λ (l : List ℕ). IsRecord (final_record g.I.Images c.args.images.now c.args.self.now c.args.node) l) (sym c.new.ensures)
      (is_record g.I.Images c.args.images.now c.args.self.now c.ranges-runs.result.now c.ranges-runs.ensures.runs c.ranges-runs.ensures.canonical c.requires.runs c.requires.small c.args.node c.in_ok-words.words.items c.requires.node c.ranges-runs.ensures.few c.requires.loggable c.in_ok-words.ensures.words c.in_ok-words.ensures.fit)

pub returns-clause-record : goal.returns-clause-record
returns-clause-record g c = logged g c

pub returns-clause-len : goal.returns-clause-len
returns-clause-len g c = record_length (final_record g.I.Images c.args.images.now c.args.self.now c.args.node) c.new.result (logged g c)
