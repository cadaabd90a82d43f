use Rattle.std.proofs.Common.{[], refl, sym, ◌∙◌}
use Rattle.lc_tests_threads.proofs.rounds.emptied.Goals as goal

pub returns-clause-empty : goal.returns-clause-empty
returns-clause-empty g c = let closing = c.in-Ok.ensures in let synced = c.in-Ok-reset_sync.ensures in (
  synced.end,
  λ honest. let was = sym (closing.device).honest ∙ (sym (synced.device).honest ∙ honest) in let h = c.requires.idle was in
      ([], synced.empty h.0 (closing.closing h.0 (λ _. h.1)) honest, refl),
)
