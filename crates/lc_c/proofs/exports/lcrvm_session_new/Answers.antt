use Rattle.std.proofs.Common.{◌≡◌, ◌∙◌, [], true, refl, subst, sym, inl}
use Rattle.std.specs.Prelude.{None, Some}
use Rattle.lc_c.specs.SessionState.{gathered, geometry_of, is_gathering}
use Rattle.lc_c.specs.declared.session.Session.{Session}
use Rattle.lc_c.proofs.exports.lcrvm_session_new.Goals as goal

pub returns-in-Ok-clause-begun : goal.returns-in-Ok-clause-begun
returns-in-Ok-clause-begun c none fits =
    let made = sym (c.of.ensures.value ∙ c.in-Ok.ensures.ok) in let g = c.in-Some.geometry in
    inl (
      refl,
      record {
        held = c.of.ensures.held;
        gathering = subst (λ (s : Session). is_gathering s.stage ≡ true) made c.new-2.ensures.gathering;
        geometry = g;
        geometry_is = subst (λ (s : Session). geometry_of s.stage ≡ Some g) made c.new-2.ensures.geometry;
        numbers = c.in-Some.ensures.value;
        none = subst (λ (s : Session). gathered s.stage ≡ []) made c.new-2.ensures.none;
        truncation = subst (λ (s : Session). s.truncation ≡ None) made c.new-2.ensures.truncation;
      },
    )
