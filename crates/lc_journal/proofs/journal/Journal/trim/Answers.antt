use Rattle.std.proofs.Common.{ℕ, ◌+◌, ap, sym, ◌∙◌}
use Rattle.lc_model.specs.State.{update}
use Rattle.lc_model.proofs.Seats.{update-own}
use Rattle.lc_journal.proofs.journal.Journal.trim.Goals as goal

pub returns-clause-trims : goal.returns-clause-trims
returns-clause-trims g c = λ m node s x h. c.forget.ensures.still m node s (record x { trimmed = update x.trimmed node (x.trimmed node + c.args.count) }) (record {
  words = h.words;
  marks = h.marks;
  all_closed = h.all_closed;
  whole = h.whole;
  stands = h.stands;
  halted = h.halted;
  dropped_is = h.dropped_is;
  trimmed_is = ap (λ (n : ℕ). n + c.args.count) h.trimmed_is ∙ sym (update-own x.trimmed node (x.trimmed node + c.args.count));
  acked_is = h.acked_is;
  taken_is = h.taken_is;
  reset_is = h.reset_is;
})
