use Rattle.std.specs.Str.Parse.{ParsesUnsigned, ExplainsUnsignedError, HasUnsignedDigitsIfOk}
use Rattle.clap.specs.Words.{found_of}
use Rattle.lc_words.proofs.OptionNumbers.{reads_number}
use Rattle.lc_words.proofs.options.number_of.Goals as goal

pub returns : goal.returns
returns c = reads_number _ (λ bs r. ParsesUnsigned 32 10 bs r × ExplainsUnsignedError 10 bs r × HasUnsignedDigitsIfOk bs r) (found_of c.args.options.now) c.args.name.now c.get_one.result c.get_one.ensures.none c.get_one.ensures.value (λ u x g. g.0)
