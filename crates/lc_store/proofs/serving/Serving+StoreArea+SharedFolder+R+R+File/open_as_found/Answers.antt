use Rattle.std.proofs.lemmas.Result.{IfOk-weaker}
use Rattle.lc_store.proofs.serving.Serving+StoreArea+SharedFolder+R+R+File.open_as_found.Goals as goal

pub returns-clause-runs : goal.returns-clause-runs
returns-clause-runs g c = IfOk-weaker c.open.result _ _ (λ made runs. (c.in_ok-found.field-0, c.in_ok-found.ensures.threads, runs)) c.open.ensures.runs
