-- What contracts see of the words that wait to be added to a group: the words.
use Rattle.std.specs.Prelude.{ℕ, ◌≤◌, List, take}
use Rattle.lc_stage.specs.declared.pending.Pending.TheInside.{Inside}

abbrev pub pending_words : Inside → List ℕ
pending_words p = take p.len p.chunk

abbrev pub IsPending : Inside → Type 0
IsPending p = p.len ≤ 64
