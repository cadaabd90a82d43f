-- What came of a call of C by which a log is emptied.
use Rattle.std.specs.Prelude.{◌≡◌, ℕ, Bool, true, false, Ok}
use Rattle.lc_model.specs.declared.refusal.Refusal.TheVariants.{Down}
use Rattle.lc_model.specs.declared.reply.Reply.{Reply}
use Rattle.lc_model.specs.declared.reply.Reply.TheVariants.{Refused}
use Rattle.lc_c.specs.Answer.{answer_of}
use Rattle.lc_c.specs.Truncating.{Truncates}
use Rattle.lc_c.specs.declared.answer.Answer.{Answer}
use Rattle.lc_c.specs.declared.handle.Handle.{Handle}
use Rattle.lc_c.specs.declared.session.Session.{Session}

-- the session of a handle that has one makes a step of a truncation; a handle that has none refuses it as a store that is down
abbrev pub TruncatesIf : Bool → ℕ → Session → Reply → Session → Type 0
TruncatesIf true node old reply new = Truncates node old reply new
TruncatesIf false node old reply new = reply ≡ Refused Down

pub record IsTruncated (old : Handle) (node : ℕ) (answer : Answer) (new : Handle) : Type 0 where
  pub reply : Reply
  pub truncates : TruncatesIf old.held node old.value reply new.value
  pub answers : answer ≡ answer_of (Ok reply)
  pub held : new.held ≡ old.held
