use Rattle.std.proofs.Common.{◌++◌, refl, inl, inr}
use Rattle.std.specs.Io.KnownBytes.{Appends}
use Rattle.std.proofs.KnownBytes.{Appends-trans}
use Rattle.std.proofs.lemmas.Result.{IfOk-weaker}
use Rattle.lc_look.proofs.AreasRecovered.{ended_with}
use Rattle.lc_look.specs.Printed.{Adds}
use Rattle.lc_tool.specs.CheckedJson.{TellsJson, found_json, unsized_json}
use Rattle.lc_tool.proofs.checking_json.show.Goals as goal

pub returns-in-Ok : goal.returns-in-Ok
returns-in-Ok g c = record {
  tells =
      IfOk-weaker c.show_files.result _ _ (λ status told. (
        found_json c.args.found.now ++ told.0,
        inr (c.args.found.now, told.0, refl, inl (c.in-Ok.geometry, c.in-Ok.ensures.taken, told.1)),
        Appends-trans _ _ _ _ _ c.in_ok-write_found.ensures told.2,
      )) c.show_files.ensures.tells;
}

pub returns-in-Err : goal.returns-in-Err
returns-in-Err g c = record {
  tells =
      let held = g.W.Write.contents c.args.writer.now in
      let mid = g.W.Write.contents c.write_found.new.writer in
      let holds = g.W.Write.contents c.write_unsized.new.writer in
      ended_with c.write_unsized.result c.ended.result c.in-Err.status c.ended.ensures (Appends mid holds unsized_json)
      (λ status. Adds (TellsJson c.args.size.now) held holds status) c.write_unsized.ensures
      (λ shown. (
        found_json c.args.found.now ++ unsized_json,
        inr (c.args.found.now, unsized_json, refl, inr (c.in-Err.ensures.none.0, refl, c.in-Err.ensures.none.1)),
        Appends-trans held mid holds _ _ c.in_ok-write_found.ensures shown,
      ));
}
