use Rattle.std.proofs.Common.{◌+◌, ℕ, refl, sym, ap, subst, ◌∙◌, inl}
use Rattle.lc_model.proofs.Seats.{update-own}
use Rattle.lc_journal.specs.Log.{Unseals}
use Rattle.lc_settled.specs.Turns.{reset_done}
use Rattle.lc_journal.proofs.ResetRows.{all_under_way, emptied_works, ends_fits, settled_last}
use Rattle.lc_journal.proofs.journal.Journal.end_reset.Goals as goal

pub returns-clause-follows : goal.returns-clause-follows
returns-clause-follows g c = λ node known m s x sound common h round knows.
    let w = c.args.self.now in
    let unseals : Unseals g.D.Area w.log c.unseal.result = subst (λ log. Unseals g.D.Area log c.unseal.result) c.replace-log.ensures.value c.unseal.ensures in
    record {
      after = s;
      next = reset_done s x node;
      row = inl (refl, refl);
      settled = settled_last m s x node (all_under_way g.D.Area w.log (x.reset node) h.reset_is c.requires.emptied);
      turns = refl;
      same = inl refl;
      fits = c.forget.ensures.still m node s (reset_done s x node)
          (ends_fits g.D.Area m node s x w.records w.dropped w.trimmed w.taken w.acked w.log c.unseal.result h (emptied_works g.D.Area w.log c.requires.emptied) unseals);
      round = c.forget.ensures.round ∙ ap (λ (n : ℕ). n + 1) round ∙ sym (update-own x.round node (x.round node + 1));
    }
