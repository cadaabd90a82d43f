-- Of nodes that run: which replies an event may get at all, kind by kind.
use Rattle.std.proofs.Common.{◌≡◌, ℕ, Bool, true, false, ◌&&◌, nat_le, Some, refl, sym, ap, ◌∙◌}
use Rattle.std.specs.Prelude.{is_some}
use Rattle.std.proofs.lemmas.Bool.{or_right, or_left}
use Rattle.lc_page.specs.Writing.{calls_of}
use Rattle.lc_page.specs.declared.writing.Writing.{Writing}
use Rattle.lc_page.specs.declared.writing.Writing.TheVariants.{AtClosing, AtClosed, AtFilling, AtFilled, AtOpening}
use Rattle.lc_token.specs.declared.fault.TokenFault.{TokenFault}
use Rattle.lc_token.specs.declared.fault.TokenFault.TheVariants.{Behind as IsBehind}
use Rattle.lc_model.specs.Refusals.{named}
use Rattle.lc_model.specs.declared.event.Event.{Event}
use Rattle.lc_model.specs.declared.event.Event.TheVariants.{Stop, RecoverStep}
use Rattle.lc_model.specs.declared.refusal.Refusal.{Refusal}
use Rattle.lc_model.specs.declared.refusal.Refusal.TheVariants.{Behind}
use Rattle.lc_model.specs.declared.reply.Reply.{Reply}
use Rattle.lc_model.specs.declared.reply.Reply.TheVariants.{Refused}
use Rattle.lc_journal.specs.FaultReplies.{is_device_fault}
use Rattle.lc_events.specs.MayReply.{is_common, may_answer, may_refuse_arrive, may_reply, refuses_common}
use Rattle.lc_events.specs.Stepping.{is_plain}
use Rattle.lc_desk.specs.TokenRefused.{token_refusal}
use Rattle.lc_journal.proofs.OwnReplies.{no_device}
use Rattle.lc_desk.proofs.Names.{refused_as}

-- what is refused at once is no failure of a device
pub common_quiet : (refusal : Refusal) → is_common refusal ≡ true → is_device_fault refusal ≡ false
common_quiet = no_device is_common refl

pub of_arrive : (fault : TokenFault) (applied seq : ℕ) → fault ≡ IsBehind applied seq → (refusal : Refusal) → token_refusal fault ≡ Some refusal → may_refuse_arrive refusal ≡ true
of_arrive fault applied seq behind refusal is = refused_as may_refuse_arrive (Behind applied seq) refusal refl (sym (ap token_refusal behind) ∙ is)

-- a page write that is under way has made 1 to 5 calls
pub few_calls : (write : Writing) → (nat_le 1 (calls_of write) && nat_le (calls_of write) 5) ≡ true
few_calls (AtClosing w) = refl
few_calls (AtClosed w) = refl
few_calls (AtFilling w) = refl
few_calls (AtFilled w) = refl
few_calls (AtOpening w) = refl

-- What an event may be replied

-- what it answers
pub answers_may : (event : Event) (reply : Reply) → may_answer event reply ≡ true → may_reply event reply ≡ true
answers_may event reply is = or_left (may_answer event reply) (is_some (named event) && refuses_common reply) is

-- and, where a node acts, the refusals that are common to all
pub common_may : (event : Event) (refusal : Refusal) → is_some (named event) ≡ true → is_common refusal ≡ true → may_reply event (Refused refusal) ≡ true
common_may event refusal acts common = or_right (may_answer event (Refused refusal)) (is_some (named event) && is_common refusal) (ap (λ (b : Bool). b && is_common refusal) acts ∙ common)

pub plain_acts : (event : Event) → is_plain event ≡ true → is_some (named event) ≡ true
plain_acts (Stop choices) plain = absurd cc
plain_acts RecoverStep plain = absurd cc
plain_acts event plain = refl
