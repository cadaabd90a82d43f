use Rattle.std.proofs.Common.{◌≡◌, ℕ, List, length, drop, ◌∙◌, sym, ap, subst, true, arith, Bool}
use Rattle.std.proofs.lemmas.List.{take_rest}
use Rattle.lc_record.proofs.GroupLemmas.{length-group}
use Rattle.lc_log.specs.NodeLog.{IsStaged}
use Rattle.lc_log.proofs.StateLemmas.{write_done, write_failed, rest_image}
use Rattle.std.specs.Prelude.{is_ok}
use Rattle.lc_log.specs.OneCall.{IsOneCall}
use Rattle.lc_log.proofs.OneCalls.{write_call}
use Rattle.lc_log.proofs.idle.Idle.write_group.Goals as goal

pub slice_bounds-write_at-count : goal.slice_bounds-write_at-count
slice_bounds-write_at-count g c = omega (arith, ap length c.bytes.ensures, length-group c.args.group.now.words)

pub slice_bounds-write_at-start : goal.slice_bounds-write_at-start
slice_bounds-write_at-start g c = omega (arith, ap length c.bytes.ensures, length-group c.args.group.now.words)

pub write_at-requires : goal.write_at-requires
write_at-requires g c = omega (arith, ap length c.bytes.ensures, length-group c.args.group.now.words, c.requires.fits)

pub returns-in-Ok-clause-written : goal.returns-in-Ok-clause-written
returns-in-Ok-clause-written g c stable records idle is honest =
    let was : g.D.Area.honest c.args.self.area ≡ true = sym c.write_at.ensures.honest ∙ honest in
    let h = c.in-Ok.ensures in
    subst (λ (n : ℕ). IsStaged (g.D.Area.now c.write_at.new.self) (g.D.Area.dirty c.write_at.new.self) c.args.self.end n stable records) (sym c.len.ensures)
    (write_done _ _ _ _ c.args.self.end stable c.args.group.now.words _ records (idle was) is
    (take_rest c.bytes.result.now 1 ∙ ap (λ (l : List ℕ). drop 1 l) c.bytes.ensures) (h.written was) (h.dirtied was))

pub returns-in-Ok-clause-images : goal.returns-in-Ok-clause-images
returns-in-Ok-clause-images g c stable idle honest =
    let was : g.D.Area.honest c.args.self.area ≡ true = sym c.write_at.ensures.honest ∙ honest in
    let h = c.write_at.ensures in
    rest_image _ _ _ stable (write_failed _ _ _ _ c.args.self.end stable _ (idle was) (h.torn was) (h.dirtied was))

pub returns-in-Err-clause-failed : goal.returns-in-Err-clause-failed
returns-in-Err-clause-failed g c stable idle honest =
    let was : g.D.Area.honest c.args.self.area ≡ true = sym c.write_at.ensures.honest ∙ honest in
    let h = c.write_at.ensures in
    rest_image _ _ _ stable (write_failed _ _ _ _ c.args.self.end stable _ (idle was) (h.torn was) (h.dirtied was))

pub returns-in-Ok-clause-call : goal.returns-in-Ok-clause-call
returns-in-Ok-clause-call g c =
    subst (λ (ok : Bool). IsOneCall g.D.Area ok c.args.self.area c.write_at.new.self) (ap is_ok c.in-Ok.is)
    (write_call g.D.Area c.args.self.area c.write_at.new.self c.write_at.result _ _ c.write_at.ensures.honest c.write_at.ensures.len c.write_at.ensures.called c.write_at.ensures.counted c.write_at.ensures.written c.write_at.ensures.torn c.write_at.ensures.dirtied)

pub returns-in-Err-clause-call : goal.returns-in-Err-clause-call
returns-in-Err-clause-call g c =
    subst (λ (ok : Bool). IsOneCall g.D.Area ok c.args.self.area c.write_at.new.self) (ap is_ok c.in-Err.is)
    (write_call g.D.Area c.args.self.area c.write_at.new.self c.write_at.result _ _ c.write_at.ensures.honest c.write_at.ensures.len c.write_at.ensures.called c.write_at.ensures.counted c.write_at.ensures.written c.write_at.ensures.torn c.write_at.ensures.dirtied)
