use Rattle.std.proofs.Common.{◌∙◌, ap, Some}
use Rattle.clap.proofs.WalkLemmas.{first_value-rows}
use Rattle.clap.specs.Words.{found_of}
use Rattle.lc_words.proofs.options.text_of.Goals as goal

pub returns-in_ok-from_str-in-Some : goal.returns-in_ok-from_str-in-Some
returns-in_ok-from_str-in-Some c =
    let made = c.in_ok-from_str-in-Some.ensures.ok in
    ap Some made ∙ c.in-Some.ensures ∙ first_value-rows (found_of c.args.options.now) c.args.name.now

pub returns-in-None : goal.returns-in-None
returns-in-None c = c.in-None.ensures ∙ first_value-rows (found_of c.args.options.now) c.args.name.now
