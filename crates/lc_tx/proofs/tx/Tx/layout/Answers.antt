use Rattle.std.proofs.Common.{◌≡◌, ℕ, length, Some, Ok, Err, sym, ap, ◌∙◌, arith}
use Rattle.std.proofs.lemmas.Bool.{eqb-false}
use Rattle.lc_tx.specs.declared.tx_fault.TxFault.TheVariants.{SequenceSpent, TooLong}
use Rattle.lc_tx.proofs.EndLemmas.{first_spent, spent_first, none_spent, unspent, not_unspent, laid, len, runs_short, runs_from_one}
use Rattle.lc_record.specs.declared.layout.Layout.{Layout}
use Rattle.lc_tx.proofs.RunLemmas.{count_of}
use Rattle.lc_tx.proofs.tx.Tx.layout.Goals as goal

pub returns-in-Some-clause-laid : goal.returns-in-Some-clause-laid
returns-in-Some-clause-laid g c = λ node words. (
  λ e. absurd cc,
  λ h. absurd (not_unspent g.I.Images c.args.images.now c.args.self.now c.ranges-runs.result.now c.ranges-runs.ensures.runs node c.first_spent.result c.first_spent.ensures c.in-Some.segment c.in-Some.is h.0.unspent),
)

pub returns-in-Some-clause-spent : goal.returns-in-Some-clause-spent
returns-in-Some-clause-spent g c = λ node s. (
  λ e. first_spent g.I.Images c.args.images.now c.args.self.now c.ranges-runs.result.now c.ranges-runs.ensures.runs node c.first_spent.result c.first_spent.ensures s (let same : c.in-Some.segment ≡ s = cc in c.in-Some.is ∙ ap (λ (n : ℕ). Some n) same),
  λ f. let is : c.first_spent.result ≡ Some s = spent_first g.I.Images c.args.images.now c.args.self.now c.ranges-runs.result.now c.ranges-runs.ensures.runs node c.first_spent.result c.first_spent.ensures s f in
      let same : c.in-Some.segment ≡ s = cc in ap (λ (n : ℕ). Err (SequenceSpent n)) same,
)

pub returns-in-Some-clause-too_long : goal.returns-in-Some-clause-too_long
returns-in-Some-clause-too_long g c = λ node words. (
  λ e. absurd cc,
  λ h. absurd (not_unspent g.I.Images c.args.images.now c.args.self.now c.ranges-runs.result.now c.ranges-runs.ensures.runs node c.first_spent.result c.first_spent.ensures c.in-Some.segment c.in-Some.is h.0),
)

pub layout_of-layout-requires-clause-short : goal.layout_of-layout-requires-clause-short
layout_of-layout-requires-clause-short g c = runs_short g.I.Images c.args.images.now c.args.self.now c.ranges-runs.result.now c.ranges-runs.ensures.runs c.ranges-runs.ensures.canonical c.requires.runs c.requires.small

pub layout_of-layout-requires-clause-numbered : goal.layout_of-layout-requires-clause-numbered
layout_of-layout-requires-clause-numbered g c = runs_from_one g.I.Images c.args.images.now c.args.self.now c.ranges-runs.result.now c.ranges-runs.ensures.runs c.ranges-runs.ensures.canonical c.requires.runs c.requires.small

pub returns-then-words-gt-MAX_WORDS-clause-laid : goal.returns-then-words-gt-MAX_WORDS-clause-laid
returns-then-words-gt-MAX_WORDS-clause-laid g c = λ node words. (
  λ e. absurd cc,
  λ h. absurd (omega (arith, h.0.short, len g.I.Images c.args.images.now c.args.self.now c.ranges-runs.result.now c.ranges-runs.ensures.runs c.ranges-runs.ensures.canonical c.requires.runs node, count_of c.words-words.result c.layout_of-layout.result c.ranges-runs.result.now c.words-words.ensures c.layout_of-layout.ensures.laid c.layout_of-layout.ensures.fits, c.if-words-gt-MAX_WORDS.true)),
)

pub returns-then-words-gt-MAX_WORDS-clause-spent : goal.returns-then-words-gt-MAX_WORDS-clause-spent
returns-then-words-gt-MAX_WORDS-clause-spent g c = λ node s. (λ e. absurd cc, λ f. absurd (none_spent g.I.Images c.args.images.now c.args.self.now c.ranges-runs.result.now c.ranges-runs.ensures.runs node c.first_spent.result c.first_spent.ensures c.in_default.is s f))

pub returns-then-words-gt-MAX_WORDS-clause-too_long : goal.returns-then-words-gt-MAX_WORDS-clause-too_long
returns-then-words-gt-MAX_WORDS-clause-too_long g c = λ node words.
    let is = len g.I.Images c.args.images.now c.args.self.now c.ranges-runs.result.now c.ranges-runs.ensures.runs c.ranges-runs.ensures.canonical c.requires.runs node in (
      λ e. let same : c.words-words.result ≡ words = cc in
          (unspent g.I.Images c.args.images.now c.args.self.now c.ranges-runs.result.now c.ranges-runs.ensures.runs node c.first_spent.result c.first_spent.ensures c.in_default.is, omega (arith, is, count_of c.words-words.result c.layout_of-layout.result c.ranges-runs.result.now c.words-words.ensures c.layout_of-layout.ensures.laid c.layout_of-layout.ensures.fits, c.if-words-gt-MAX_WORDS.true), omega (arith, same, is, count_of c.words-words.result c.layout_of-layout.result c.ranges-runs.result.now c.words-words.ensures c.layout_of-layout.ensures.laid c.layout_of-layout.ensures.fits)),
      λ h. let same : c.words-words.result ≡ words = omega (arith, h.2, is, count_of c.words-words.result c.layout_of-layout.result c.ranges-runs.result.now c.words-words.ensures c.layout_of-layout.ensures.laid c.layout_of-layout.ensures.fits) in ap (λ (n : ℕ). Err (TooLong n)) same,
    )

pub returns-clause-laid : goal.returns-clause-laid
returns-clause-laid g c = λ node layout.
    let is = laid g.I.Images c.args.images.now c.args.self.now c.ranges-runs.result.now c.ranges-runs.ensures.runs c.ranges-runs.ensures.canonical c.requires.runs node in
    let words = len g.I.Images c.args.images.now c.args.self.now c.ranges-runs.result.now c.ranges-runs.ensures.runs c.ranges-runs.ensures.canonical c.requires.runs node in
    let count = count_of c.words-words.result c.layout_of-layout.result c.ranges-runs.result.now c.words-words.ensures c.layout_of-layout.ensures.laid c.layout_of-layout.ensures.fits in (
      λ e. let same : c.layout_of-layout.result ≡ layout = cc in (
        record {
          some = λ none. eqb-false _ _ (sym c.is_empty.ensures ∙ c.if-is_empty.false) (ap length (c.ranges-runs.ensures.runs ∙ none));
          unspent = unspent g.I.Images c.args.images.now c.args.self.now c.ranges-runs.result.now c.ranges-runs.ensures.runs node c.first_spent.result c.first_spent.ensures c.in_default.is;
          short = omega (arith, words, count, c.if-words-gt-MAX_WORDS.false);
        },
        sym same ∙ c.layout_of-layout.ensures.laid ∙ sym is,
      ),
      λ h. ap (λ (x : Layout). Ok (Some x)) (c.layout_of-layout.ensures.laid ∙ sym is ∙ sym h.1),
    )

pub returns-clause-spent : goal.returns-clause-spent
returns-clause-spent g c = λ node s. (λ e. absurd cc, λ f. absurd (none_spent g.I.Images c.args.images.now c.args.self.now c.ranges-runs.result.now c.ranges-runs.ensures.runs node c.first_spent.result c.first_spent.ensures c.in_default.is s f))

pub returns-clause-too_long : goal.returns-clause-too_long
returns-clause-too_long g c = λ node words. (
  λ e. absurd cc,
  λ h. absurd (omega (arith, h.1, len g.I.Images c.args.images.now c.args.self.now c.ranges-runs.result.now c.ranges-runs.ensures.runs c.ranges-runs.ensures.canonical c.requires.runs node, count_of c.words-words.result c.layout_of-layout.result c.ranges-runs.result.now c.words-words.ensures c.layout_of-layout.ensures.laid c.layout_of-layout.ensures.fits, c.if-words-gt-MAX_WORDS.false)),
)
