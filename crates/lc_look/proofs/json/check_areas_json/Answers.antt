use Rattle.std.proofs.Common.{◌≡◌, refl, sym, ◌∙◌, subst, inl, inr}
use Rattle.std.proofs.lemmas.Result.{IfErr-at_err, IfOk-weaker}
use Rattle.lc_model.specs.Merge.{StoreText}
use Rattle.lc_recover.specs.declared.fault.RecoverFault.{RecoverFault}
use Rattle.lc_recover.specs.declared.fault.RecoverFault.TheVariants.{BadGeometry}
use Rattle.lc_look.specs.Json.{ShowsJson, TellsUnread}
use Rattle.lc_look.proofs.json.check_areas_json.Goals as goal

pub returns-in-Ok-clause-checks : goal.returns-in-Ok-clause-checks
returns-in-Ok-clause-checks g c =
    IfOk-weaker c.show.result _ _ (λ status told lengths honest.
    (told.0, inr (subst (λ (s : StoreText). ShowsJson c.args.geometry.now s told.0 status) (c.in-Ok.ensures.read honest) told.1), told.2)) c.show.ensures.shows

pub returns-in-Ok-clause-wrong : goal.returns-in-Ok-clause-wrong
returns-in-Ok-clause-wrong g c = IfOk-weaker c.show.result _ _ (λ status told area wrong. absurd (wrong.is (c.in-Ok.ensures.right area))) c.show.ensures.shows

pub returns-in-Ok-clause-tells : goal.returns-in-Ok-clause-tells
returns-in-Ok-clause-tells g c = IfOk-weaker c.show.result _ _ (λ status told. (told.0, inl (c.in-Ok.survey.store, told.1), told.2)) c.show.ensures.shows

pub returns-in-Err-clause-checks : goal.returns-in-Err-clause-checks
returns-in-Err-clause-checks g c =
    IfOk-weaker c.refuse_json.result _ _ (λ status told lengths honest.
    (told.0, inl (c.in-Err.fault, c.in-Err.ensures.fault lengths, told.1), told.2)) c.refuse_json.ensures.tells

pub returns-in-Err-clause-wrong : goal.returns-in-Err-clause-wrong
returns-in-Err-clause-wrong g c =
    IfOk-weaker c.refuse_json.result _ _ (λ status told area wrong.
    let is : BadGeometry area ≡ c.in-Err.fault = IfErr-at_err (λ (f : RecoverFault). f ≡ c.in-Err.fault) (sym c.in-Err.is ∙ c.read.ensures.wrong area wrong) refl in
    (told.0, subst (λ (f : RecoverFault). TellsUnread f told.0 status) (sym is) told.1, told.2)) c.refuse_json.ensures.tells

pub returns-in-Err-clause-tells : goal.returns-in-Err-clause-tells
returns-in-Err-clause-tells g c = IfOk-weaker c.refuse_json.result _ _ (λ status told. (told.0, inr (c.in-Err.fault, told.1), told.2)) c.refuse_json.ensures.tells
