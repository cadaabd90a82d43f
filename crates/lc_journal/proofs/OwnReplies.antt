-- What the names of its replies say of a reply: it tells of no failure, and of nothing unknown, where these refusals are not among them.
use Rattle.std.proofs.Common.{◌≡◌, Bool, true, false, refl, sym, ◌∙◌, true≢false}
use Rattle.lc_model.specs.declared.refusal.Refusal.{Refusal}
use Rattle.lc_model.specs.declared.refusal.Refusal.TheVariants.{DeviceFault, Unknown}
use Rattle.lc_model.specs.declared.reply.Reply.{Reply}
use Rattle.lc_model.specs.declared.reply.Reply.TheVariants.{Refused}
use Rattle.lc_journal.specs.FaultReplies.{is_device_fault, is_fault, is_unknown, names_unknown}

pub no_device : (may : Refusal → Bool) → may DeviceFault ≡ false → (refusal : Refusal) → may refusal ≡ true → is_device_fault refusal ≡ false
no_device may none DeviceFault is = absurd (true≢false (sym is ∙ none))
no_device may none refusal is = refl

none_unknown : (may : Refusal → Bool) → may Unknown ≡ false → (refusal : Refusal) → may refusal ≡ true → names_unknown refusal ≡ false
none_unknown may none Unknown is = absurd (true≢false (sym is ∙ none))
none_unknown may none refusal is = refl

-- no failure
pub own_no_fault : (may : Reply → Bool) → may (Refused DeviceFault) ≡ false → (reply : Reply) → may reply ≡ true → is_fault reply ≡ false
own_no_fault may none (Refused refusal) is = no_device (λ (r : Refusal). may (Refused r)) none refusal is
own_no_fault may none reply is = refl

-- and nothing unknown
pub own_known : (may : Reply → Bool) → may (Refused Unknown) ≡ false → (reply : Reply) → may reply ≡ true → is_unknown reply ≡ false
own_known may none (Refused refusal) is = none_unknown (λ (r : Refusal). may (Refused r)) none refusal is
own_known may none reply is = refl
