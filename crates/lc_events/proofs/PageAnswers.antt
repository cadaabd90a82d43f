-- The answers to the steps of a page write, by what stands against the first and by how many calls are made.
use Rattle.std.proofs.Common.{◌≡◌, ℕ, zero, suc, ◌+◌, ◌<◌, ◌≤◌, nat_le, true, false, Option, Some, None, refl, sym, ap, subst, ◌∙◌, inl, inr, arith, eq-eqb, le-leb}
use Rattle.std.specs.Prelude.{is_some, if◌then◌else◌}
use Rattle.std.specs.List.{list_any}
use Rattle.std.proofs.lemmas.Bool.{and_from, le-ltb, lt-ltb}
use Rattle.std.proofs.lemmas.Option.{same_Some as same_some}
use Rattle.lc_model.specs.Machine.{Row, halting}
use Rattle.lc_model.specs.Refusals.{common_refusal, is_at}
use Rattle.lc_model.specs.Sound.{holders}
use Rattle.lc_model.specs.State.{Place, At, Setting, State}
use Rattle.lc_model.specs.declared.event.Event.{Event}
use Rattle.lc_model.specs.declared.event.Event.TheVariants.{PageStep}
use Rattle.lc_model.specs.declared.refusal.Refusal.{Refusal}
use Rattle.lc_model.specs.declared.refusal.Refusal.TheVariants.{DeviceFault, NotHere, NotNewer, Uncommitted, Unflushed}
use Rattle.lc_model.specs.declared.reply.Reply.{Reply}
use Rattle.lc_model.specs.declared.reply.Reply.TheVariants.{Refused, Stepped, Written}
use Rattle.lc_settled.specs.Numbers.{Numbers, sets_on, stable, token_number}
use Rattle.lc_settled.specs.Settled.{IsAnswer, Settled, begun_number, is_unflushed, page_answer, page_call}

module _ (m : Setting) (s : State) (x : Numbers) (n segment page : ℕ) where
  abbrev event : Event
  event = PageStep n segment page

  settled_as : (reply : Reply) → IsAnswer event (page_answer s x n segment page) reply → Settled m s x event reply
  settled_as reply h = (
    λ answer is. behind (common_refusal m.geometry s event) answer is,
    λ recovers. absurd cc,
  )
    where
      behind : (o : Option Refusal) (answer : Reply) → (if is_some o then None else Some (page_answer s x n segment page)) ≡ Some answer → IsAnswer event answer reply
      behind None answer is = subst (λ (r : Reply). IsAnswer event r reply) (same_some _ _ is) h
      behind (Some refusal) answer is = absurd cc

  -- the token is elsewhere
  pub settled_away : is_at n (s.place segment) ≡ false → Settled m s x event (Refused (NotHere segment))
  settled_away away = settled_as (Refused (NotHere segment))
      (inl (sym (ap (λ b. if b then page_call s x n segment page (x.calls segment page) else Refused (NotHere segment)) away)))

  -- it is here, and so many calls are made
  module _ (here : s.place segment ≡ At n) (calls : ℕ) (made : x.calls segment page ≡ calls) where
    here_answer : page_answer s x n segment page ≡ page_call s x n segment page calls
    here_answer =
        ap (λ (p : Place). if is_at n p then page_call s x n segment page (x.calls segment page) else Refused (NotHere segment)) here
        ∙ ap (λ b. if b then page_call s x n segment page (x.calls segment page) else Refused (NotHere segment)) (eq-eqb n n refl)
        ∙ ap (page_call s x n segment page) made

    pub settled_here : (reply : Reply) → page_call s x n segment page calls ≡ reply → Settled m s x event reply
    settled_here reply is = settled_as reply (inl (sym (here_answer ∙ is)))

    pub settled_fault : (answer : Reply) → page_call s x n segment page calls ≡ answer → IsAnswer event answer (Refused DeviceFault) → Settled m s x event (Refused DeviceFault)
    settled_fault answer is fault = settled_as (Refused DeviceFault) (subst (λ (r : Reply). IsAnswer event r (Refused DeviceFault)) (sym (here_answer ∙ is)) fault)

  -- What stands against the first call

  pub first_uncommitted : list_any (sets_on segment page) (holders s) ≡ true → page_call s x n segment page 0 ≡ Refused Uncommitted
  first_uncommitted held = rw held refl

  module _ (free : list_any (sets_on segment page) (holders s) ≡ false) where
    pub first_unflushed : is_unflushed s n ≡ true → page_call s x n segment page 0 ≡ Refused Unflushed
    first_unflushed is = rw (free, is) refl

    module _ (flushed : is_unflushed s n ≡ false) where
      pub first_old : token_number s x segment ≤ stable x segment page → page_call s x n segment page 0 ≡ Refused NotNewer
      first_old old = (let is = le-leb (token_number s x segment) (stable x segment page) old in rw (free, flushed, is) refl)

      pub first_call : nat_le (token_number s x segment) (stable x segment page) ≡ false → page_call s x n segment page 0 ≡ Stepped 1
      first_call newer = rw (free, flushed, newer) refl

  -- the calls after it
  pub later_call : (calls : ℕ) → 1 ≤ calls → calls < 5 → page_call s x n segment page calls ≡ Stepped (calls + 1)
  later_call zero some few = absurd (omega (arith, some))
  later_call (suc k) some few =
      ap (λ b. if b then Stepped (suc k + 1) else Written (begun_number (x.disks.begun segment page))) (lt-ltb k 4 (omega (arith, few)))

  pub last_call : (calls : ℕ) → calls ≡ 5 → page_call s x n segment page calls ≡ Written (begun_number (x.disks.begun segment page))
  last_call zero five = absurd (omega (arith, five))
  last_call (suc k) five =
      ap (λ b. if b then Stepped (suc k + 1) else Written (begun_number (x.disks.begun segment page))) (le-ltb k 4 (omega (arith, five)))

  -- The row

  pub stepped_row : (calls : ℕ) → 1 ≤ calls → calls ≤ 5 → Row m s event (Stepped calls) s
  stepped_row calls some few = inl (and_from (nat_le 1 calls) (nat_le calls 5) (le-leb 1 calls some) (le-leb calls 5 few), refl)

  pub fault_row : Row m s event (Refused DeviceFault) (halting s n)
  fault_row = inr (refl, refl)
