-- A reader or a writer that remembers why it failed, as contracts see it.
use Rattle.std.specs.Prelude.{Option, ◌≡◌, ◌≢◌}
use Rattle.std.specs.Option.{IsSomeAnd}
use Rattle.std.specs.IoError.{error_kind}
use Rattle.std.specs.declared.io.Error.{Error}
use Rattle.std.specs.declared.io.ErrorKind.TheVariants.{Interrupted}
use Rattle.lc_tool.specs.declared.noted.Noted.{Noted}

-- what it reads from, or writes into
abbrev pub noted_inner : {T : Type 0} → Noted T → T
noted_inner noted = noted.inner

-- the error that it remembers, if any
abbrev pub noted_error : {T : Type 0} → Noted T → Option Error
noted_error noted = noted.error

-- an error that is no interrupted call, which is made again
abbrev pub IsFault : Option Error → Type 0
IsFault error = IsSomeAnd error (λ met. error_kind met ≢ Interrupted)

-- what is remembered after a call, of what was before and what the call met: a fault stays, and all else gives way
abbrev pub Notes : Option Error → Option Error → Option Error → Type 0
Notes old met new = (IsFault old → new ≡ old) × ((IsFault old → ⊥) → new ≡ met)
