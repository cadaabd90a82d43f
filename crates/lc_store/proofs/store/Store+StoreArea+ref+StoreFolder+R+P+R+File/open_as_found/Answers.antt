use Rattle.std.proofs.lemmas.Result.{IfOk-weaker}
use Rattle.lc_store.proofs.store.Store+StoreArea+ref+StoreFolder+R+P+R+File.open_as_found.Goals as goal

pub returns-clause-geometry : goal.returns-clause-geometry
returns-clause-geometry g c = IfOk-weaker c.open.result _ _ (λ store is. (c.in_ok-found.field-0, is, c.in_ok-found.ensures.threads)) c.open.ensures.geometry

pub returns-clause-opens : goal.returns-clause-opens
returns-clause-opens g c = IfOk-weaker c.open.result _ _ (λ store opens. (c.in_ok-found.field-0, c.in_ok-found.ensures.threads, opens)) c.open.ensures.opens
