use Rattle.std.proofs.Common.{refl}
use Rattle.std.specs.Io.KnownBytes.{Appends}
use Rattle.lc_look.specs.Json.{TellsUnread, unread_json}
use Rattle.lc_look.specs.Printed.{Adds}
use Rattle.lc_look.proofs.AreasRecovered.{ended_with}
use Rattle.lc_look.proofs.json.refuse_json.Goals as goal

pub returns : goal.returns
returns g c = record {
  tells =
      let held = g.W.Write.contents c.args.writer.now in
      let holds = g.W.Write.contents c.write_unread.new.writer in
      ended_with c.write_unread.result c.ended.result c.status_of.result c.ended.ensures (Appends held holds (unread_json c.args.fault))
      (λ status. Adds (TellsUnread c.args.fault) held holds status) c.write_unread.ensures
      (λ shown. (unread_json c.args.fault, (refl, c.status_of.ensures), shown));
}
