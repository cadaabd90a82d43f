use Rattle.std.proofs.Common.{◌≡◌}
use Rattle.lc_words.specs.declared.size.Size.TheVariants.{AsFound}
use Rattle.lc_tool.proofs.looking.taken_of.Goals as goal

pub returns-in-Some-clause-taken : goal.returns-in-Some-clause-taken
returns-in-Some-clause-taken c =
    let size : c.in-Check-AsFound.field-0 ≡ AsFound c.in-Check-AsFound.wanted = rw c.in-Check-AsFound.is at c.in-Check-AsFound.field-0-is in
    rw (c.in-Check-AsFound.is, size) (c.in-Ok.found, c.in-Some.ensures.value)
