-- What a session has beside its store.
use Rattle.std.specs.Prelude.{◌≡◌}
use Rattle.lc_c.specs.declared.session.Session.{Session}

-- the same truncation is under way
pub record IsSameBeside (old new : Session) : Type 0 where
  pub truncation : new.truncation ≡ old.truncation
