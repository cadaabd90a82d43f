-- Of nodes that run: pieces of work that follow one another, up to the first refusal.
use Rattle.std.specs.Prelude.{None}
use Rattle.std.proofs.Common.{◌≡◌, refl}
use Rattle.lc_model.specs.declared.refusal.Refusal.{Refusal}
use Rattle.lc_model.specs.declared.reply.Reply.{Reply}
use Rattle.lc_model.specs.declared.reply.Reply.TheVariants.{Ok as IsDone, Bytes, Reserved, Ended, Stepped, Acked, Nothing, Applied, HeldBack, Ignored, Trimmed, Written, Reset, Down as IsDown, Recovered, Refused}
use Rattle.lc_events.specs.Truncating.{refusal_in}

pub not_refused : (reply : Reply) → ((refusal : Refusal) → reply ≡ Refused refusal → ⊥) → refusal_in reply ≡ None
not_refused (Refused refusal) not = absurd (not refusal refl)
not_refused IsDone not = refl
not_refused (Bytes bytes) not = refl
not_refused (Reserved place words) not = refl
not_refused Ended not = refl
not_refused (Stepped calls) not = refl
not_refused (Acked count) not = refl
not_refused Nothing not = refl
not_refused (Applied number) not = refl
not_refused HeldBack not = refl
not_refused Ignored not = refl
not_refused (Trimmed count) not = refl
not_refused (Written number) not = refl
not_refused Reset not = refl
not_refused IsDown not = refl
not_refused Recovered not = refl
