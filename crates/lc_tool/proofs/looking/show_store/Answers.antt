use Rattle.std.proofs.Common.{◌++◌}
use Rattle.std.proofs.KnownBytes.{Appends-trans}
use Rattle.std.proofs.lemmas.Result.{IfOk-weaker}
use Rattle.lc_tool.specs.StoreReport.{front_text}
use Rattle.lc_tool.proofs.Views.{tells_none, tells_shown}
use Rattle.lc_tool.proofs.looking.show_store.Goals as goal

pub returns-in-Ok : goal.returns-in-Ok
returns-in-Ok g c = record {
  tells =
      IfOk-weaker c.show_files.result _ _ (λ status told. (
        front_text c.args.found c.args.view ++ told.0,
        tells_shown c.args.view c.args.found c.in-Ok.geometry told.0 status c.in-Ok.ensures.taken told.1,
        Appends-trans (g.W.Write.contents c.args.writer.now) (g.W.Write.contents c.write_front.new.writer) (g.W.Write.contents c.show_files.new.writer) _ _ c.in_ok-write_front.ensures told.2,
      )) c.show_files.ensures.tells;
}

pub returns-in-Err : goal.returns-in-Err
returns-in-Err g c = record {
  tells = (
    front_text c.args.found c.args.view,
    tells_none c.args.view c.args.found c.in-Err.status c.in-Err.ensures.none,
    c.in_ok-write_front.ensures,
  );
}
