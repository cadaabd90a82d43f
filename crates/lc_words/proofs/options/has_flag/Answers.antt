use Rattle.std.proofs.Common.{◌∙◌, ap}
use Rattle.clap.specs.Words.{found_of}
use Rattle.lc_words.specs.CommandLine.{comes_from_words}
use Rattle.lc_words.proofs.OptionNumbers.{source_read}
use Rattle.lc_words.proofs.options.has_flag.Goals as goal

pub returns-in-Some-CommandLine : goal.returns-in-Some-CommandLine
returns-in-Some-CommandLine c =
    let source = rw c.in-Some-CommandLine.field-0-is at c.in-Some-CommandLine.ensures in
    ap comes_from_words (source ∙ source_read (found_of c.args.options.now) c.args.name.now)

pub returns-in-Some-DefaultValue : goal.returns-in-Some-DefaultValue
returns-in-Some-DefaultValue c =
    let source = rw c.in-Some-DefaultValue.field-0-is at c.in-Some-DefaultValue.ensures in
    ap comes_from_words (source ∙ source_read (found_of c.args.options.now) c.args.name.now)

pub returns-in-None : goal.returns-in-None
returns-in-None c = ap comes_from_words (c.in-None.ensures ∙ source_read (found_of c.args.options.now) c.args.name.now)
