use Rattle.std.proofs.Common.{◌≡◌, ◌∙◌, ◌<◌, length, true, sym, arith}
use Rattle.lc_record.proofs.ListLemmas.{OnOk_then as on_ok}
use Rattle.lc_log.proofs.ResetLemmas.{reset_torn, reset_written}
use Rattle.lc_log.proofs.OneCalls.{write_call}
use Rattle.lc_log.proofs.first_gate.close_first_gate.Goals as goal

pub returns-clause-closing : goal.returns-clause-closing
returns-clause-closing g c =
    on_ok c.write_at.result c.write_at.ensures.written (λ written records reads holds honest.
    let was : g.D.Area.honest c.args.area.now ≡ true = sym c.write_at.ensures.honest ∙ honest in
    let h = c.write_at.ensures in
    let long : 0 < length (g.D.Area.now c.args.area.now) = omega (arith, c.requires.room) in
    reset_written _ _ _ _ records (holds was) long c.args.is_open (reads was) _ c.closing_bytes.ensures (h.torn was) (h.dirtied was) (g.met.D.Area.reads_bytes c.args.area.now was) (written was))

pub returns-clause-images : goal.returns-clause-images
returns-clause-images g c records reads holds honest =
    let was : g.D.Area.honest c.args.area.now ≡ true = sym c.write_at.ensures.honest ∙ honest in
    let h = c.write_at.ensures in
    let long : 0 < length (g.D.Area.now c.args.area.now) = omega (arith, c.requires.room) in
    reset_torn _ _ _ _ records (holds was) long c.args.is_open (reads was) _ c.closing_bytes.ensures (h.torn was) (h.dirtied was)

pub returns-clause-call : goal.returns-clause-call
returns-clause-call g c = write_call g.D.Area c.args.area.now c.write_at.new.self c.write_at.result _ _ c.write_at.ensures.honest c.write_at.ensures.len c.write_at.ensures.called c.write_at.ensures.counted c.write_at.ensures.written c.write_at.ensures.torn c.write_at.ensures.dirtied
