use Rattle.lc_rest.proofs.Played.{bytes-put, number-counted, replayed-own}
use Rattle.lc_rest.proofs.laws.played_pages.Goals as goal

pub returns-clause-replayed : goal.returns-clause-replayed
returns-clause-replayed c = replayed-own

pub returns-clause-bytes : goal.returns-clause-bytes
returns-clause-bytes c = bytes-put

pub returns-clause-number : goal.returns-clause-number
returns-clause-number c = number-counted
