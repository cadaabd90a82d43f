use Rattle.std.proofs.Common.{◌≡◌, ◌∙◌, ◌<◌, ◌%◌, ℕ, List, sym, ap, subst, slice_index, slice_get, length, Some, None, Option, arith, eq-eqb, eqb-true}
use Rattle.lc_log.proofs.ResetLemmas.{first_word, front_some, front_none}
use Rattle.lc_log.proofs.first_gate.begins_open.Goals as goal

pub returns-in-Some : goal.returns-in-Some
returns-in-Some c bytes fits long is =
    let w = first_word bytes c.args.words.now fits long is in
    let front : slice_index c.args.words.now 0 ≡ c.in-Some.word.now = front_some c.args.words.now c.in-Some.word.now w.0 (sym c.in-Some.ensures.value) in
    let same : c.gate.result ≡ slice_index bytes 0 = c.gate.ensures ∙ ap (λ (n : ℕ). n % 256) (sym front) ∙ w.1 in
    ((λ e. sym same ∙ eqb-true c.gate.result 165 e), (λ e. eq-eqb c.gate.result 165 (same ∙ e)))

pub returns-in-None : goal.returns-in-None
returns-in-None c bytes fits long is =
    let w = first_word bytes c.args.words.now fits long is in
    absurd (front_none c.args.words.now w.0 (sym c.in-None.ensures.value))
