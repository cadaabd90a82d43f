use Rattle.std.proofs.Common.{◌≡◌, ◌∙◌, sym, true, Bool, ap, subst}
use Rattle.lc_log.proofs.StateLemmas.{gate_done, gate_failed, opening_image}
use Rattle.std.specs.Prelude.{is_ok}
use Rattle.lc_log.specs.OneCall.{IsOneCall}
use Rattle.lc_log.proofs.OneCalls.{write_call}
use Rattle.lc_log.proofs.synced.Synced.open_gate.Goals as goal

pub returns-in-Ok-clause-opened : goal.returns-in-Ok-clause-opened
returns-in-Ok-clause-opened g c stable records synced honest =
    let was : g.D.Area.honest c.args.self.area ≡ true = sym c.write_at.ensures.honest ∙ honest in
    let h = c.in-Ok.ensures in
    gate_done _ _ _ _ c.args.self.end stable c.args.self.words records (synced was).0 (synced was).1 (h.written was) (h.dirtied was)

pub returns-in-Ok-clause-images : goal.returns-in-Ok-clause-images
returns-in-Ok-clause-images g c stable records synced honest =
    let was : g.D.Area.honest c.args.self.area ≡ true = sym c.write_at.ensures.honest ∙ honest in
    let h = c.write_at.ensures in
    opening_image _ _ _ c.args.self.end _ stable records
    (gate_failed _ _ _ _ c.args.self.end stable c.args.self.words records (synced was).0 (synced was).1 (h.torn was) (h.dirtied was))

pub returns-in-Err-clause-failed : goal.returns-in-Err-clause-failed
returns-in-Err-clause-failed g c stable records synced honest =
    let was : g.D.Area.honest c.args.self.area ≡ true = sym c.write_at.ensures.honest ∙ honest in
    let h = c.write_at.ensures in
    opening_image _ _ _ c.args.self.end _ stable records
    (gate_failed _ _ _ _ c.args.self.end stable c.args.self.words records (synced was).0 (synced was).1 (h.torn was) (h.dirtied was))

pub returns-in-Ok-clause-call : goal.returns-in-Ok-clause-call
returns-in-Ok-clause-call g c =
    subst (λ (ok : Bool). IsOneCall g.D.Area ok c.args.self.area c.write_at.new.self) (ap is_ok c.in-Ok.is)
    (write_call g.D.Area c.args.self.area c.write_at.new.self c.write_at.result _ _ c.write_at.ensures.honest c.write_at.ensures.len c.write_at.ensures.called c.write_at.ensures.counted c.write_at.ensures.written c.write_at.ensures.torn c.write_at.ensures.dirtied)

pub returns-in-Err-clause-call : goal.returns-in-Err-clause-call
returns-in-Err-clause-call g c =
    subst (λ (ok : Bool). IsOneCall g.D.Area ok c.args.self.area c.write_at.new.self) (ap is_ok c.in-Err.is)
    (write_call g.D.Area c.args.self.area c.write_at.new.self c.write_at.result _ _ c.write_at.ensures.honest c.write_at.ensures.len c.write_at.ensures.called c.write_at.ensures.counted c.write_at.ensures.written c.write_at.ensures.torn c.write_at.ensures.dirtied)
