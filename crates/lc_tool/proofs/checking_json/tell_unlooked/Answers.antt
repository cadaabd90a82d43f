use Rattle.std.proofs.Common.{◌++◌, refl, subst}
use Rattle.std.proofs.KnownBytes.{Appends-trans}
use Rattle.std.proofs.lemmas.Result.{IfOk-weaker}
use Rattle.lc_recover.specs.declared.fault.RecoverFault.{RecoverFault}
use Rattle.lc_look.specs.Json.{TellsUnread}
use Rattle.lc_tool.specs.CheckedJson.{unlooked_json}
use Rattle.lc_tool.proofs.checking_json.tell_unlooked.Goals as goal

pub returns : goal.returns
returns g c = record {
  tells =
      IfOk-weaker c.refuse_json.result _ _ (λ status told. (
        unlooked_json ++ told.0,
        (c.args.fault, told.0, refl, subst (λ (f : RecoverFault). TellsUnread f told.0 status) c.folder_fault.ensures told.1),
        Appends-trans _ _ _ _ _ c.in_ok-write_unlooked.ensures told.2,
      )) c.refuse_json.ensures.tells;
}
