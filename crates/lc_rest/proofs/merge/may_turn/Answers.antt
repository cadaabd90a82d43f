use Rattle.std.proofs.Common.{◌≡◌, ◌∙◌, ap, sym, List}
use Rattle.std.specs.Prelude.{slice_index_or}
use Rattle.std.specs.List.{list_all}
use Rattle.std.proofs.lemmas.List.{get_or_default}
use Rattle.lc_record.specs.declared.record.Lock.{Lock}
use Rattle.lc_record.specs.declared.record.Record.{Record}
use Rattle.lc_rest.specs.Merge.{is_next_lock, no_record, number_at}
use Rattle.lc_rest.proofs.Merges.{are-next, next-are}
use Rattle.lc_rest.proofs.merge.may_turn.Goals as goal

pub returns-then-done-log : goal.returns-then-done-log
returns-then-done-log c =
    let r : Record = slice_index_or c.args.log.now c.args.done no_record in
    let locks : c.as_slice.result.now ≡ r.locks = c.as_slice.ensures ∙ ap (λ (q : Record). q.locks) (get_or_default c.args.log.now c.args.done c.index-log-done.result no_record c.if-done-log.true) in
    let test : c.are_next.result ≡ list_all (is_next_lock (number_at c.args.numbers.now)) r.locks = c.are_next.ensures ∙ ap (λ (ls : List Lock). list_all (is_next_lock (number_at c.args.numbers.now)) ls) locks in (
      λ e. (c.if-done-log.true, are-next (number_at c.args.numbers.now) r.locks (sym test ∙ e)),
      λ both. test ∙ next-are (number_at c.args.numbers.now) r.locks both.1,
    )
