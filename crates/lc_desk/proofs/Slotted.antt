-- Of a desk: what stands in a node's slots, where the machine goes on and tokens leave and come.
use Rattle.std.proofs.Common.{◌≡◌, ℕ, ◌≤◌, get_or, Some, sym, ap, ◌∙◌, arith}
use Rattle.lc_record.specs.declared.part.Part.{Part}
use Rattle.lc_token.specs.declared.token.Token.{Token}
use Rattle.lc_model.specs.State.{Setting, State}
use Rattle.lc_settled.specs.Numbers.{Numbers, token_number}
use Rattle.lc_desk.specs.Slots.{Besides, segment_to, Awaits, FitsToken, FitsSlot}

-- a slot of one node, where the others see a step of another
pub slot_kept : (m : Setting) (n segment : ℕ) (b : Besides) (s : State) (x : Numbers) (after : State) (y : Numbers)
    → y.applied n segment ≡ x.applied n segment → y.waiting n segment ≡ x.waiting n segment → token_number s x segment ≤ token_number after y segment
    → ((part : Part) → Awaits m s x segment part → Awaits m after y segment part)
    → ((number : ℕ) → number ≤ token_number s x segment → segment_to m after y.disks segment number ≡ segment_to m s x.disks segment number)
    → ((token : Token) → b.0.token ≡ Some token → (token_number after y segment ≡ token_number s x segment) × (FitsToken m segment token s x → FitsToken m segment token after y))
    → FitsSlot m n segment b s x → FitsSlot m n segment b after y
slot_kept m n segment b s x after y applied waiting rises parts shown tokens h = record {
  applied = h.applied ∙ sym applied;
  within = (let least = h.within in omega (arith, applied, least, rises));
  waiting = h.waiting ∙ sym waiting;
  ascends = h.ascends;
  parts = λ k d k_in. parts (get_or b.1.kept k d) (h.parts k d k_in);
  token = λ token is. (let old = h.token token is in let its = tokens token is in (its.1 old.0, applied ∙ old.1 ∙ sym its.0));
  image = λ image is. (let old = h.image image is in (old.0, old.1 ∙ sym (ap (segment_to m after y.disks segment) applied ∙ shown (x.applied n segment) h.within)));
}
