use Rattle.std.proofs.Common.{◌≡◌, ◌++◌, ◌∙◌, ap, sym, arith, None, Some}
use Rattle.std.specs.Prelude.{Ok}
use Rattle.std.specs.Result.{result_ok}
use Rattle.std.proofs.lemmas.Fmt.{parse-decimal}
use Rattle.lc_folder.proofs.SizeLines.{cut_in_two, uncut}
use Rattle.lc_folder.proofs.size_text.number_in.Goals as goal

pub returns-in_err-number : goal.returns-in_err-number
returns-in_err-number c = λ n rest small whole.
    let stripped : c.args.text.now ≡ c.args.words.now ++ c.in_ok-strip_prefix.field-0.now =
    c.in_ok-strip_prefix.ensures.cases.1.1 ∙ ap (λ left. c.args.words.now ++ left) (sym c.in_ok-strip_prefix.ensures.cases.2) in
    absurd (uncut n c.args.words.now c.args.text.now c.in_ok-strip_prefix.field-0.now rest c.split_once.result small whole stripped c.split_once.ensures.cases c.in_err-number.was)

pub returns-in_err-ok : goal.returns-in_err-ok
returns-in_err-ok c = λ n rest small whole.
    let stripped : c.args.text.now ≡ c.args.words.now ++ c.in_ok-strip_prefix.field-0.now =
    c.in_ok-strip_prefix.ensures.cases.1.1 ∙ ap (λ left. c.args.words.now ++ left) (sym c.in_ok-strip_prefix.ensures.cases.2) in
    let cut = cut_in_two n c.args.words.now c.args.text.now c.in_ok-strip_prefix.field-0.now rest c.split_once.result c.in_ok-number.number c.in_ok-number.rest small whole stripped c.split_once.ensures.cases c.in_ok-number.was in
    let parsed : c.parse.result ≡ Ok n = parse-decimal 32 n c.in_ok-number.number.now c.parse.result small (omega arith) cut.0 c.parse.ensures.value.0 in
    let told : c.ok.result ≡ Some n = c.ok.ensures.value ∙ ap result_ok parsed in
    let none : c.ok.result ≡ None = c.in_err-ok.was in
    absurd (cc)

pub returns : goal.returns
returns c = λ n rest small whole.
    let stripped : c.args.text.now ≡ c.args.words.now ++ c.in_ok-strip_prefix.field-0.now =
    c.in_ok-strip_prefix.ensures.cases.1.1 ∙ ap (λ left. c.args.words.now ++ left) (sym c.in_ok-strip_prefix.ensures.cases.2) in
    let cut = cut_in_two n c.args.words.now c.args.text.now c.in_ok-strip_prefix.field-0.now rest c.split_once.result c.in_ok-number.number c.in_ok-number.rest small whole stripped c.split_once.ensures.cases c.in_ok-number.was in
    let parsed : c.parse.result ≡ Ok n = parse-decimal 32 n c.in_ok-number.number.now c.parse.result small (omega arith) cut.0 c.parse.ensures.value.0 in
    let told : c.ok.result ≡ Some n = c.ok.ensures.value ∙ ap result_ok parsed in
    let some : c.ok.result ≡ Some c.in_ok-ok.field-0 = c.in_ok-ok.was in
    ((cc), cut.1)
