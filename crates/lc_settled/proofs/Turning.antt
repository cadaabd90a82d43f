-- The next numbers are determined.
use Rattle.std.proofs.Common.{◌≡◌, ◌≢◌, ℕ, [], refl, sym, ◌∙◌, arith}
use Rattle.lc_model.specs.Merge.{Page}
use Rattle.lc_model.specs.State.{Setting, State}
use Rattle.lc_model.specs.declared.event.Event.{Event}
use Rattle.lc_model.specs.declared.event.Event.TheVariants.{Begin, SetRange, Write, Read, Abort, Reserve, Close, FlushStep, Leave, Arrive, Deliver, Trim, PageStep, ResetStep, Stop, RecoverStep}
use Rattle.lc_model.specs.declared.reply.Reply.{Reply}
use Rattle.lc_model.specs.declared.reply.Reply.TheVariants.{Ok as Accepted, Bytes, Reserved, Ended, Stepped, Acked, Nothing, Applied, HeldBack, Ignored, Trimmed, Written, Reset, Down, Recovered, Refused}
use Rattle.lc_settled.specs.Numbers.{Numbers, recovered_numbers}
use Rattle.lc_settled.specs.Turns.{numbers_after, kept_numbers, Turns}

pub some-numbers : (m : Setting) (s : State) (x : Numbers) (event : Event) (reply : Reply) → (next : Numbers) × Turns m s x event reply next
some-numbers m s x (Begin node thread segments reading) reply = (numbers_after m s x (Begin node thread segments reading) reply, refl)
some-numbers m s x (SetRange node thread segment offset len) reply = (numbers_after m s x (SetRange node thread segment offset len) reply, refl)
some-numbers m s x (Write node thread segment offset bytes) reply = (numbers_after m s x (Write node thread segment offset bytes) reply, refl)
some-numbers m s x (Read node thread segment offset len) reply = (numbers_after m s x (Read node thread segment offset len) reply, refl)
some-numbers m s x (Abort node thread) reply = (numbers_after m s x (Abort node thread) reply, refl)
some-numbers m s x (Reserve node thread) reply = (numbers_after m s x (Reserve node thread) reply, refl)
some-numbers m s x (Close node thread) reply = (numbers_after m s x (Close node thread) reply, refl)
some-numbers m s x (FlushStep node) reply = (numbers_after m s x (FlushStep node) reply, refl)
some-numbers m s x (Leave node segment) reply = (numbers_after m s x (Leave node segment) reply, refl)
some-numbers m s x (Arrive node segment) reply = (numbers_after m s x (Arrive node segment) reply, refl)
some-numbers m s x (Deliver sender number segment to) reply = (numbers_after m s x (Deliver sender number segment to) reply, refl)
some-numbers m s x (Trim node) reply = (numbers_after m s x (Trim node) reply, refl)
some-numbers m s x (PageStep node segment page) reply = (numbers_after m s x (PageStep node segment page) reply, refl)
some-numbers m s x (ResetStep node) reply = (numbers_after m s x (ResetStep node) reply, refl)
some-numbers m s x (Stop choices) reply = (numbers_after m s x (Stop choices) reply, refl)
some-numbers m s x RecoverStep Accepted = (numbers_after m s x RecoverStep (Accepted), refl)
some-numbers m s x RecoverStep (Bytes bytes) = (numbers_after m s x RecoverStep (Bytes bytes), refl)
some-numbers m s x RecoverStep (Reserved place words) = (numbers_after m s x RecoverStep (Reserved place words), refl)
some-numbers m s x RecoverStep Ended = (numbers_after m s x RecoverStep (Ended), refl)
some-numbers m s x RecoverStep (Stepped steps) = (numbers_after m s x RecoverStep (Stepped steps), refl)
some-numbers m s x RecoverStep (Acked count) = (numbers_after m s x RecoverStep (Acked count), refl)
some-numbers m s x RecoverStep Nothing = (numbers_after m s x RecoverStep (Nothing), refl)
some-numbers m s x RecoverStep (Applied last) = (numbers_after m s x RecoverStep (Applied last), refl)
some-numbers m s x RecoverStep HeldBack = (numbers_after m s x RecoverStep (HeldBack), refl)
some-numbers m s x RecoverStep Ignored = (numbers_after m s x RecoverStep (Ignored), refl)
some-numbers m s x RecoverStep (Trimmed count) = (numbers_after m s x RecoverStep (Trimmed count), refl)
some-numbers m s x RecoverStep (Written number) = (numbers_after m s x RecoverStep (Written number), refl)
some-numbers m s x RecoverStep Reset = (numbers_after m s x RecoverStep (Reset), refl)
some-numbers m s x RecoverStep Down = (numbers_after m s x RecoverStep (Down), refl)
some-numbers m s x RecoverStep (Refused refusal) = (numbers_after m s x RecoverStep (Refused refusal), refl)
some-numbers m s x RecoverStep Recovered =
    (let pages : ℕ → ℕ → Page = λ segment page. record { sequence = 0; bytes = [] } in
    (recovered_numbers m.geometry (kept_numbers s.phase s x) pages x.texts, (pages, x.texts, λ segment page first last inside. omega arith, refl)))

pub one-numbers : (m : Setting) (s : State) (x next others : Numbers) (event : Event) (reply : Reply) → Turns m s x event reply next → Turns m s x event reply others → reply ≢ Recovered → next ≡ others
one-numbers m s x next others (Begin node thread segments reading) reply first second differ = first ∙ sym second
one-numbers m s x next others (SetRange node thread segment offset len) reply first second differ = first ∙ sym second
one-numbers m s x next others (Write node thread segment offset bytes) reply first second differ = first ∙ sym second
one-numbers m s x next others (Read node thread segment offset len) reply first second differ = first ∙ sym second
one-numbers m s x next others (Abort node thread) reply first second differ = first ∙ sym second
one-numbers m s x next others (Reserve node thread) reply first second differ = first ∙ sym second
one-numbers m s x next others (Close node thread) reply first second differ = first ∙ sym second
one-numbers m s x next others (FlushStep node) reply first second differ = first ∙ sym second
one-numbers m s x next others (Leave node segment) reply first second differ = first ∙ sym second
one-numbers m s x next others (Arrive node segment) reply first second differ = first ∙ sym second
one-numbers m s x next others (Deliver sender number segment to) reply first second differ = first ∙ sym second
one-numbers m s x next others (Trim node) reply first second differ = first ∙ sym second
one-numbers m s x next others (PageStep node segment page) reply first second differ = first ∙ sym second
one-numbers m s x next others (ResetStep node) reply first second differ = first ∙ sym second
one-numbers m s x next others (Stop choices) reply first second differ = first ∙ sym second
one-numbers m s x next others RecoverStep Accepted first second differ = first ∙ sym second
one-numbers m s x next others RecoverStep (Bytes bytes) first second differ = first ∙ sym second
one-numbers m s x next others RecoverStep (Reserved place words) first second differ = first ∙ sym second
one-numbers m s x next others RecoverStep Ended first second differ = first ∙ sym second
one-numbers m s x next others RecoverStep (Stepped steps) first second differ = first ∙ sym second
one-numbers m s x next others RecoverStep (Acked count) first second differ = first ∙ sym second
one-numbers m s x next others RecoverStep Nothing first second differ = first ∙ sym second
one-numbers m s x next others RecoverStep (Applied last) first second differ = first ∙ sym second
one-numbers m s x next others RecoverStep HeldBack first second differ = first ∙ sym second
one-numbers m s x next others RecoverStep Ignored first second differ = first ∙ sym second
one-numbers m s x next others RecoverStep (Trimmed count) first second differ = first ∙ sym second
one-numbers m s x next others RecoverStep (Written number) first second differ = first ∙ sym second
one-numbers m s x next others RecoverStep Reset first second differ = first ∙ sym second
one-numbers m s x next others RecoverStep Down first second differ = first ∙ sym second
one-numbers m s x next others RecoverStep (Refused refusal) first second differ = first ∙ sym second
one-numbers m s x next others RecoverStep Recovered first second differ = absurd (differ refl)
