use Rattle.std.proofs.Common.{rules, ◌≡◌, ℕ, ◌-◌, ◌^◌, ◌<◌, ◌≤◌, min, Some, Ok, Err, vec_capacity, refl, ap, ◌∙◌, arith}
use Rattle.std.proofs.lemmas.Result.{err_from_is_err_and}
use Rattle.lc_record.specs.Layout.{layout_len}
use Rattle.lc_record.specs.Record.{record_layout, record_len}
use Rattle.lc_record.specs.declared.layout.Layout.{Layout}
use Rattle.lc_tx.specs.declared.tx_fault.TxFault.{TxFault}
use Rattle.lc_tx.specs.declared.tx_fault.TxFault.TheVariants.{SequenceSpent, TooLong}
use Rattle.lc_tx.specs.Prepared.{IsLoggable, final_record}
use Rattle.lc_tx.proofs.EndLemmas.{handed_on, loggable}
use Rattle.lc_tx.proofs.RecordLemmas.{spent_not_unspent}
use Rattle.lc_tx.proofs.tx.Tx.prepare_end_in.Given.{Over}
use Rattle.lc_tx.proofs.tx.Tx.prepare_end_in.Goals as goal

-- it is refused as the layout is

pub returns-in_err-layout-clause-spent : goal.returns-in_err-layout-clause-spent
returns-in_err-layout-clause-spent g c =
    let p = err_from_is_err_and c.from_residual.result c.from_residual.ensures.1 in
    let is : c.from_residual.result ≡ Err c.in_err-layout.field-0.0 = p.1 ∙ ap (λ (f : TxFault). Err f) p.2 in
    λ x. handed_on c.layout.result c.from_residual.result c.in_err-layout.field-0.0 (SequenceSpent x) c.in_err-layout.was is (c.layout.ensures.spent c.args.node x)

pub returns-in_err-layout-clause-too_long : goal.returns-in_err-layout-clause-too_long
returns-in_err-layout-clause-too_long g c =
    let p = err_from_is_err_and c.from_residual.result c.from_residual.ensures.1 in
    let is : c.from_residual.result ≡ Err c.in_err-layout.field-0.0 = p.1 ∙ ap (λ (f : TxFault). Err f) p.2 in
    λ x. handed_on c.layout.result c.from_residual.result c.in_err-layout.field-0.0 (TooLong x) c.in_err-layout.was is (c.layout.ensures.too_long c.args.node x)

pub returns-in_err-layout-clause-ready : goal.returns-in_err-layout-clause-ready
returns-in_err-layout-clause-ready g c = λ may.
    let layout : Layout = record_layout (final_record g.I.Images c.args.images.now c.args.self.now c.args.node) in
    let told : c.layout.result ≡ Ok (Some layout) = (c.layout.ensures.laid c.args.node layout).1 (may, refl) in
    let was : c.layout.result ≡ Err c.in_err-layout.field-0.0 = c.in_err-layout.was in
    absurd cc

-- there is a record of at most 4096 words, laid out so

pub spell_end-requires-clause-loggable : goal.spell_end-requires-clause-loggable
spell_end-requires-clause-loggable g c = (loggable g.I.Images c.args.images.now c.args.self.now c.args.node c.layout.result c.in_ok-layout.field-0 c.in-Some.layout c.layout.ensures.laid c.in_ok-layout.was c.in-Some.is).0

pub spell_end-requires-clause-laid : goal.spell_end-requires-clause-laid
spell_end-requires-clause-laid g c = (loggable g.I.Images c.args.images.now c.args.self.now c.args.node c.layout.result c.in_ok-layout.field-0 c.in-Some.layout c.layout.ensures.laid c.in_ok-layout.was c.in-Some.is).1

pub returns-in_default-spell_end-clause-spent : goal.returns-in_default-spell_end-clause-spent
returns-in_default-spell_end-clause-spent g c = λ s. (
  λ e. absurd cc,
  λ f. absurd (spent_not_unspent g.I.Images (final_record g.I.Images c.args.images.now c.args.self.now c.args.node).locks s f
      (loggable g.I.Images c.args.images.now c.args.self.now c.args.node c.layout.result c.in_ok-layout.field-0 c.in-Some.layout c.layout.ensures.laid c.in_ok-layout.was c.in-Some.is).0.unspent),
)

pub returns-in_default-spell_end-clause-too_long : goal.returns-in_default-spell_end-clause-too_long
returns-in_default-spell_end-clause-too_long g c =
    let may : IsLoggable g.I.Images c.args.images.now c.args.self.now c.args.node = (loggable g.I.Images c.args.images.now c.args.self.now c.args.node c.layout.result c.in_ok-layout.field-0 c.in-Some.layout c.layout.ensures.laid c.in_ok-layout.was c.in-Some.is).0 in
    λ words. (λ e. absurd cc, λ h. absurd (omega (arith, h.1, may.short)))

-- no memory: the list has no room for the record, so nothing was taken of it

cramped : (had taken needed len : ℕ) → needed ≡ min len (2 ^ 64 - 1) → len ≤ 4096 → (needed ≤ had → taken ≡ had) → taken < len → (had < needed) × (had < len)
cramped had taken needed len is short takes less = grind arith

no_room : (g : Over) (c : goal.In_default-spell_end g) → (vec_capacity c.args.words.now < c.words.result) × (vec_capacity c.args.words.now < record_len (final_record g.I.Images c.args.images.now c.args.self.now c.args.node))
no_room g c =
    let told = loggable g.I.Images c.args.images.now c.args.self.now c.args.node c.layout.result c.in_ok-layout.field-0 c.in-Some.layout c.layout.ensures.laid c.in_ok-layout.was c.in-Some.is in
    let needed : c.words.result ≡ min (record_len (final_record g.I.Images c.args.images.now c.args.self.now c.args.node)) (2 ^ 64 - 1) =
    c.words.ensures ∙ ap (λ (layout : Layout). min (layout_len layout) (2 ^ 64 - 1)) told.1 in
    cramped (vec_capacity c.args.words.now) (vec_capacity c.take_memory-memory.result) c.words.result (record_len (final_record g.I.Images c.args.images.now c.args.self.now c.args.node))
    needed told.0.short (λ room. ap vec_capacity (c.take_memory-memory.ensures.taken room)) (search rules)

pub returns-in_default-spell_end-clause-refused : goal.returns-in_default-spell_end-clause-refused
returns-in_default-spell_end-clause-refused g c = c.take_memory-memory.ensures.kept (no_room g c).0

pub returns-in_default-spell_end-clause-no_memory : goal.returns-in_default-spell_end-clause-no_memory
returns-in_default-spell_end-clause-no_memory g c = λ e. (
  (loggable g.I.Images c.args.images.now c.args.self.now c.args.node c.layout.result c.in_ok-layout.field-0 c.in-Some.layout c.layout.ensures.laid c.in_ok-layout.was c.in-Some.is).0,
  (no_room g c).1,
)

-- the words are the record's

pub returns-clause-spent : goal.returns-clause-spent
returns-clause-spent g c =
    let may : IsLoggable g.I.Images c.args.images.now c.args.self.now c.args.node = (loggable g.I.Images c.args.images.now c.args.self.now c.args.node c.layout.result c.in_ok-layout.field-0 c.in-Some.layout c.layout.ensures.laid c.in_ok-layout.was c.in-Some.is).0 in
    λ s. (λ e. absurd cc, λ f. absurd (spent_not_unspent g.I.Images (final_record g.I.Images c.args.images.now c.args.self.now c.args.node).locks s f may.unspent))

pub returns-clause-too_long : goal.returns-clause-too_long
returns-clause-too_long g c =
    let may : IsLoggable g.I.Images c.args.images.now c.args.self.now c.args.node = (loggable g.I.Images c.args.images.now c.args.self.now c.args.node c.layout.result c.in_ok-layout.field-0 c.in-Some.layout c.layout.ensures.laid c.in_ok-layout.was c.in-Some.is).0 in
    λ words. (λ e. absurd cc, λ h. absurd (omega (arith, h.1, may.short)))
