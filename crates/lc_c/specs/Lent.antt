-- A handle whose session is lent out.
use Rattle.std.specs.Borrow.{Lends, MutBor, Fml}
use Rattle.lc_c.specs.declared.session.Session.{Session}
use Rattle.lc_c.specs.contracts.session.Session.{the_row as session_row}
use Rattle.lc_c.specs.declared.handle.Handle.{Handle}
use Rattle.lc_c.specs.contracts.handle.Handle.{the_row}

-- the handle with this session in it
abbrev pub with_session : Handle → Session → Handle
with_session h s = record h { value = s }

abbrev pub LendsSession : MutBor Handle → MutBor Session → Fml
LendsSession h r = Lends the_row session_row h r (with_session h.now)
