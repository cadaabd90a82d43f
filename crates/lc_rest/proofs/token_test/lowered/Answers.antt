use Rattle.std.proofs.Common.{rules, ◌≡◌, ◌+◌, ◌∙◌, ap, sym, subst}
use Rattle.std.specs.Prelude.{None, slice_index_or}
use Rattle.std.proofs.lemmas.List.{get_or_default}
use Rattle.lc_record.specs.Part.{number_in}
use Rattle.lc_record.specs.declared.record.Record.{Record}
use Rattle.lc_rest.specs.Merge.{no_record}
use Rattle.lc_rest.specs.TokenTest.{IsLowered}
use Rattle.lc_rest.proofs.KeptTokens.{lowered-none, lowered-some}
use Rattle.lc_rest.proofs.token_test.lowered.Goals.{in-Some, in_default}
use Rattle.lc_rest.proofs.token_test.lowered.Goals as goal

pub loop-place-preserved : goal.loop-place-preserved
loop-place-preserved c =
    let item : slice_index_or c.args.log.now c.loop-place.place no_record ≡ c.index-log-place.result =
    sym (c.index-log-place.is ∙ get_or_default c.args.log.now c.loop-place.place c.index-log-place.result no_record c.loop-place-test.true) in
    let found : number_in c.args.segment (slice_index_or c.args.log.now c.loop-place.place no_record).locks ≡ c.number_in.result = ap (λ (r : Record). number_in c.args.segment r.locks) item ∙ sym c.number_in.ensures in
    elim c.match-number_in.branch [
      | in-Some w ↦
          subst (λ n. IsLowered c.args.segment c.args.log.now c.args.from (c.loop-place.place + 1) c.args.most n) (sym (w.least-is ∙ w.min-least.ensures))
          (lowered-some c.args.segment c.args.log.now c.args.from c.loop-place.place c.args.most c.loop-place.least w.in-Some.number c.loop-place.auto.place c.loop-place-test.true (found ∙ w.in-Some.is) c.loop-place.invariant)
      | in_default w ↦
          let none : c.number_in.result ≡ None = search rules in
          subst (λ n. IsLowered c.args.segment c.args.log.now c.args.from (c.loop-place.place + 1) c.args.most n) (sym w.least-is)
          (lowered-none c.args.segment c.args.log.now c.args.from c.loop-place.place c.args.most c.loop-place.least (found ∙ none) c.loop-place.invariant)
    ]
