-- Of the store: why a cluster at rest is not adopted, handed on.
use Rattle.std.proofs.Common.{◌≡◌, ap, ◌∙◌}
use Rattle.std.specs.Prelude.{Err, IsErrAnd, Result}
use Rattle.std.proofs.lemmas.Result.{err_from_is_err_and}
use Rattle.lc_rest.specs.declared.adopt_fault.AdoptFault.{AdoptFault}

-- what is answered is what a call answered
pub same_fault : {A B : Type 0} (res : Result A AdoptFault) (fault other : AdoptFault) → IsErrAnd res (λ y. y ≡ fault) → res ≡ Err other → ◌≡◌ {A = Result B AdoptFault} (Err fault) (Err other)
same_fault res fault other is are =
    let p = err_from_is_err_and res is in
    let first : res ≡ Err fault = p.1 ∙ ap (λ (f : AdoptFault). Err f) p.2 in
    let same : fault ≡ other = cc in
    ap (λ (f : AdoptFault). Err f) same
