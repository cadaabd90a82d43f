use Rattle.std.proofs.Common.{◌≡◌, false, IsTrue, subst, Bool, rules}
use Rattle.lc_folder.proofs.sizing.agrees.Goals as goal

pub returns-clause-other : goal.returns-clause-other
returns-clause-other g c = λ area same honest.
    let e : area ≡ c.first_difference.result = cc in
    rw e (
      c.in-Some.stated,
      c.in_ok-stated.ensures.said c.in-Some.stated c.in-Some.is honest,
      (λ equal. let bad : IsTrue false = subst (λ (b : Bool). IsTrue b) c.if-is_same_size.false (c.is_same_size.ensures.1 equal) in search rules),
      c.first_difference.ensures,
    )
