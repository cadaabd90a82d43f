-- Of nodes that run: what a call of a store hands out is the reply to its event.
use Rattle.std.proofs.Common.{◌≡◌, ℕ, true, Some, None, refl, sym, ap}
use Rattle.lc_model.specs.declared.event.Event.{Event}
use Rattle.lc_model.specs.declared.event.Event.TheVariants.{Begin, SetRange, Write, Abort, Reserve, Close, FlushStep, Leave, Arrive, Deliver, Trim, PageStep, ResetStep}
use Rattle.lc_model.specs.declared.reply.Reply.{Reply}
use Rattle.lc_model.specs.declared.reply.Reply.TheVariants.{Ok as Accepted, Reserved, Ended, Stepped, Acked, Nothing, Applied, HeldBack, Ignored, Trimmed, Written, Reset}
use Rattle.lc_events.specs.Answered.{StandsFor, is_done_or_not}
use Rattle.lc_events.specs.MayReply.{may_reply}
use Rattle.lc_events.specs.Truncating.{refusal_in}

-- Which reply it is where the others are not

pub is_done : (event : Event) (reply : Reply) → is_done_or_not event ≡ true → refusal_in reply ≡ None → may_reply event reply ≡ true → reply ≡ Accepted
is_done event Accepted done plain may = refl
is_done (Begin node thread segments reading) reply done plain may = absurd cc
is_done (Write node thread segment offset bytes) reply done plain may = absurd cc
is_done (Abort node thread) reply done plain may = absurd cc
is_done (Close node thread) reply done plain may = absurd cc
is_done (Leave node segment) reply done plain may = absurd cc
is_done (Arrive node segment) reply done plain may = absurd cc
is_done event reply done plain may = absurd cc

pub is_set : (node thread segment offset len : ℕ) (reply : Reply) → refusal_in reply ≡ None → may_reply (SetRange node thread segment offset len) reply ≡ true → reply ≡ Accepted
is_set node thread segment offset len Accepted plain may = refl
is_set node thread segment offset len reply plain may = absurd cc

pub is_over : (node thread : ℕ) (reply : Reply) → refusal_in reply ≡ None → ((place words : ℕ) → reply ≡ Reserved place words → ⊥) → may_reply (Reserve node thread) reply ≡ true → reply ≡ Ended
is_over node thread Ended plain other may = refl
is_over node thread (Reserved place words) plain other may = absurd (other place words refl)
is_over node thread reply plain other may = absurd cc

pub is_ignored : (sender number segment to : ℕ) (reply : Reply) → refusal_in reply ≡ None → ((count : ℕ) → reply ≡ Applied count → ⊥) → (reply ≡ HeldBack → ⊥)
    → may_reply (Deliver sender number segment to) reply ≡ true → reply ≡ Ignored
is_ignored sender number segment to Ignored plain applied held may = refl
is_ignored sender number segment to (Applied count) plain applied held may = absurd (applied count refl)
is_ignored sender number segment to HeldBack plain applied held may = absurd (held refl)
is_ignored sender number segment to reply plain applied held may = absurd cc

pub is_trimmed : (node : ℕ) (reply : Reply) → refusal_in reply ≡ None → ((count : ℕ) → reply ≡ Trimmed count → ⊥) → may_reply (Trim node) reply ≡ true → ⊥
is_trimmed node (Trimmed count) plain other may = other count refl
is_trimmed node reply plain other may = absurd cc

pub is_nothing : (node : ℕ) (reply : Reply) → refusal_in reply ≡ None → ((calls : ℕ) → reply ≡ Stepped calls → ⊥) → ((count : ℕ) → reply ≡ Acked count → ⊥)
    → may_reply (FlushStep node) reply ≡ true → reply ≡ Nothing
is_nothing node Nothing plain stepped acked may = refl
is_nothing node (Stepped calls) plain stepped acked may = absurd (stepped calls refl)
is_nothing node (Acked count) plain stepped acked may = absurd (acked count refl)
is_nothing node reply plain stepped acked may = absurd cc

pub is_page_call : (node segment page : ℕ) (reply : Reply) → refusal_in reply ≡ None → ((calls : ℕ) → reply ≡ Stepped calls → ⊥) → ((number : ℕ) → reply ≡ Written number → ⊥)
    → may_reply (PageStep node segment page) reply ≡ true → ⊥
is_page_call node segment page (Stepped calls) plain stepped written may = stepped calls refl
is_page_call node segment page (Written number) plain stepped written may = written number refl
is_page_call node segment page reply plain stepped written may = absurd cc

pub is_empty_log : (node : ℕ) (reply : Reply) → refusal_in reply ≡ None → ((steps : ℕ) → reply ≡ Stepped steps → ⊥) → (reply ≡ Reset → ⊥) → may_reply (ResetStep node) reply ≡ true → reply ≡ Nothing
is_empty_log node Nothing plain stepped reset may = refl
is_empty_log node (Stepped steps) plain stepped reset may = absurd (stepped steps refl)
is_empty_log node Reset plain stepped reset may = absurd (reset refl)
is_empty_log node reply plain stepped reset may = absurd cc

-- The reply that is handed out

pub same_stands : (event : Event) (answer reply : Reply) → answer ≡ reply → StandsFor event (Some answer) reply
same_stands event answer reply same may = ap (λ (r : Reply). Some r) same

pub rest_stands : (event : Event) (answer reply : Reply) → (may_reply event reply ≡ true → reply ≡ answer) → StandsFor event (Some answer) reply
rest_stands event answer reply is may = ap (λ (r : Reply). Some r) (sym (is may))
