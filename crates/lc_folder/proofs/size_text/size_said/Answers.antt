use Rattle.std.proofs.Common.{◌≡◌, ◌∙◌, sym}
use Rattle.lc_folder.specs.SizeText.{IsSameSize, size_file_text}
use Rattle.lc_folder.proofs.SizeLines.{same_text, the_number, told_apart}
use Rattle.lc_folder.proofs.size_text.size_said.Goals as goal

pub returns-clause-none : goal.returns-clause-none
returns-clause-none c = λ none g said.
    let same : IsSameSize c.in-Some.geometry g = the_number c.size_in.result (λ found. IsSameSize found g) c.in-Some.geometry (c.size_in.ensures.found g said) c.in-Some.is in
    let text : c.as_bytes.result.now ≡ size_file_text c.in-Some.geometry = c.as_bytes.ensures.value ∙ c.in_ok-text.ensures.ok in
    told_apart c.as_bytes.result.now c.args.bytes.now (sym c.eq.ensures ∙ c.if-eq.false) (text ∙ same_text c.in-Some.geometry g same ∙ sym said)
