use Rattle.std.proofs.Common.{rules}
use Rattle.std.proofs.lemmas.Result.{IfOk-weaker, MatchResult-weaker}
use Rattle.lc_log.proofs.StateLemmas.{rest_image}
use Rattle.lc_log.proofs.ResetLemmas.{gate_reads}
use Rattle.lc_log.proofs.idle.Idle.reset_write.Goals as goal

pub returns-clause-closing : goal.returns-clause-closing
returns-clause-closing g c =
    IfOk-weaker c.begin.result _ _ (λ log closing stable idle.
    closing stable (λ honest. gate_reads _ _ _ stable (idle honest) _ (search rules)) (λ honest. rest_image _ _ _ stable (idle honest)))
    c.begin.ensures.closing

pub returns-clause-images : goal.returns-clause-images
returns-clause-images g c =
    IfOk-weaker c.begin.result _ _ (λ log closing stable idle.
    closing stable (λ honest. gate_reads _ _ _ stable (idle honest) _ (search rules)) (λ honest. rest_image _ _ _ stable (idle honest)))
    c.begin.ensures.images

pub returns-clause-failed : goal.returns-clause-failed
returns-clause-failed g c =
    MatchResult-weaker c.begin.result c.begin.ensures.failed (λ _ t. t) (λ f closing stable idle.
    closing stable (λ honest. gate_reads _ _ _ stable (idle honest) _ (search rules)) (λ honest. rest_image _ _ _ stable (idle honest)))
