use Rattle.std.proofs.Common.{ℕ, ◌+◌, [], ◌∷◌, ◌++◌, List, ap, sym, subst, ◌∙◌}
use Rattle.lc_record.specs.Record.{record_len}
use Rattle.lc_record.specs.declared.record.Record.{Record}
use Rattle.lc_record.proofs.ListLemmas.{OnErr_from as on_err}
use Rattle.lc_log.proofs.WalkLemmas.{Found, found_more}
use Rattle.lc_journal.specs.Kept.{kept_behind}
use Rattle.lc_journal.proofs.KeptWords.{found_first, found_whole, with_one_more}
use Rattle.lc_journal.proofs.records.Records.keep_all.Goals as goal

pub returns-in_err-keep-clause-err : goal.returns-in_err-keep-clause-err
returns-in_err-keep-clause-err c = on_err c.from_residual.result _ (λ records text.
    let h = c.loop-record.invariant in
    let first = found_first c.args.words.now h.0 c.loop-record.place records h.1 text in
    (first.0, c.in_err-keep.ensures.err ∙ h.2 ∙ ap (λ (rs : List Record). kept_behind rs c.args.self.now) first.1))

pub loop-record-preserved : goal.loop-record-preserved
loop-record-preserved c =
    let h = c.loop-record.invariant in
    let record_is = c.in-Some.record in
    let found = h.0 ++ (c.loop-record.place, record_is) ∷ [] in (
      found,
      subst (λ (n : ℕ). Found c.args.words.now found (c.loop-record.place + n)) (sym c.len-place.ensures) (found_more c.args.words.now h.0 c.loop-record.place record_is (record_len record_is) h.1 c.in-Some.ensures.found),
      with_one_more h.0 c.loop-record.place record_is c.words.result.now c.args.self.now c.loop-record.self c.keep.new.self c.words.ensures.spelled h.2 c.in_ok-keep.ensures.kept,
    )

pub returns-clause-kept : goal.returns-clause-kept
returns-clause-kept c = λ records text.
    let h = c.loop-record.invariant in
    h.2 ∙ ap (λ (rs : List Record). kept_behind rs c.args.self.now) (found_whole c.args.words.now h.0 c.loop-record.place records h.1 c.in_default.ensures.none text)
