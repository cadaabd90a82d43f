use Rattle.std.proofs.Common.{◌≡◌, ◌∙◌, Bool, true, false, ap, refl, sym, true≢false, ne_eqb}
use Rattle.lc_page.specs.declared.page_text.PageText.{PageText}
use Rattle.lc_rest.proofs.token_test.is_same_text.Goals.{then-one-other, else-one-other}
use Rattle.lc_rest.proofs.token_test.is_same_text.Goals as goal
use lib.Pointwise.{pointwise_decides}
use mathlib.Core.Bool.{beq}

same-text : (one other : PageText) → one.seq ≡ other.seq → one.slot ≡ other.slot → one.gates ≡ other.gates → one ≡ other
same-text one other seq slot gates =
    ap (λ s. record { seq = s; slot = one.slot; gates = one.gates }) seq ∙ ap (λ s. record { seq = other.seq; slot = s; gates = one.gates }) slot ∙ ap (λ g. record { seq = other.seq; slot = other.slot; gates = g }) gates

same-bit : (x y : Bool) → (beq x y ≡ true → x ≡ y) × (x ≡ y → beq x y ≡ true)
same-bit true true = (λ e. refl, λ e. refl)
same-bit true false = (λ e. sym e, λ e. sym e)
same-bit false true = (λ e. e, λ e. e)
same-bit false false = (λ e. refl, λ e. refl)

pub returns-then-is_same_slot : goal.returns-then-is_same_slot
returns-then-is_same_slot c =
    let gates = pointwise_decides same-bit c.args.one.now.gates c.args.other.now.gates in (
      λ e. elim c.if-one-other.branch [
        | then-one-other w ↦ same-text c.args.one.now c.args.other.now w.if-one-other.true (w.is_same_slot.ensures.0 (sym w.value-is ∙ c.if-is_same_slot.true)) (gates.0 (sym c.eq.ensures ∙ e))
        | else-one-other w ↦ absurd (true≢false (sym c.if-is_same_slot.true ∙ w.value-is ∙ ne_eqb c.args.one.now.seq c.args.other.now.seq w.if-one-other.false))
      ],
      λ same. c.eq.ensures ∙ gates.1 (ap (λ (text : PageText). text.gates) same),
    )
