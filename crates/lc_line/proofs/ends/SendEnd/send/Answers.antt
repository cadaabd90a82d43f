use Rattle.lc_line.proofs.Keeps.{sends, ends}
use Rattle.lc_line.proofs.ends.SendEnd.send.Goals as goal

pub try_send_as-requires-clause-rule : goal.try_send_as-requires-clause-rule
try_send_as-requires-clause-rule g c = (sends _ _ _ _ c.args.self.now.room c.args.self.now.sends, ends _ _ c.args.self.now.sends)
