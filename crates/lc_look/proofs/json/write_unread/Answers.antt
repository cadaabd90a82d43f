use Rattle.std.proofs.KnownBytes.{Appends-trans}
use Rattle.std.proofs.lemmas.Result.{on_ok_weaker}
use Rattle.lc_look.specs.Json.{logs_front, stop_json}
use Rattle.lc_look.proofs.json.write_unread.Goals as goal

pub returns : goal.returns
returns g c = on_ok_weaker c.write_stop.result (λ end. Appends-trans _ _ _ logs_front (stop_json c.args.fault) c.in_ok-write_logs_front.ensures end) c.write_stop.ensures
