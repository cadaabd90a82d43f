use Rattle.std.proofs.Common.{◌≡◌, map, take}
use Rattle.lc_page.specs.PageVector.{new_entry}
use Rattle.lc_page.proofs.page_vector.PageVector.new.Given as goal

abbrev pub invariant-loop-text : goal.invariant-loop-text
invariant-loop-text l = l.entries.items ≡ map new_entry (take l.text-index l.texts)
