use Rattle.std.proofs.Common.{rules, ◌≡◌, ℕ, List, None, Some, sym, subst, ◌∙◌, ap, length}
use Rattle.lc_log_side.specs.Among.{IsAmong}
use Rattle.lc_committer.proofs.ReadBack.{absent, present}
use Rattle.lc_committer.proofs.reading.copy_record.Goals as goal

pub returns-in_default : goal.returns-in_default
returns-in_default g c = λ index record_words among long.
    let none : c.stable_at.result ≡ None = search rules in
    absurd (absent (λ words. words.now) c.stable_at.result record_words none (c.stable_at.ensures index record_words (subst (λ (place : ℕ). IsAmong c.args.log.now.stable index place record_words) (sym c.place.ensures) among)))

pub returns-in-Some : goal.returns-in-Some
returns-in-Some g c = λ index record_words among long.
    let is : c.stable_at.result ≡ Some c.in-Some.found = search rules in
    let one : c.in-Some.found.now ≡ record_words =
    present (λ words. words.now) c.stable_at.result c.in-Some.found record_words is (c.stable_at.ensures index record_words (subst (λ (place : ℕ). IsAmong c.args.log.now.stable index place record_words) (sym c.place.ensures) among)) in
    c.append.ensures (ap (λ (l : List ℕ). length l) one ∙ (sym long ∙ sym c.words.ensures)) ∙ one
