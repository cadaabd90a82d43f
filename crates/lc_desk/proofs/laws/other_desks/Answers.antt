use Rattle.lc_desk.proofs.laws.other_desks.Goals as goal
use Rattle.lc_desk.proofs.Others.{desk_beside, beside_open, beside_logged, beside_appended, beside_closed, beside_placed}

pub returns-clause-stays : goal.returns-clause-stays
returns-clause-stays c = λ m node other s after here seats differ beside runs h. desk_beside m node other s after differ beside here seats h runs

pub returns-clause-open : goal.returns-clause-open
returns-clause-open c = beside_open

pub returns-clause-logged : goal.returns-clause-logged
returns-clause-logged c = beside_logged

pub returns-clause-reserved : goal.returns-clause-reserved
returns-clause-reserved c = beside_appended

pub returns-clause-closed : goal.returns-clause-closed
returns-clause-closed c = beside_closed

pub returns-clause-placed : goal.returns-clause-placed
returns-clause-placed c = λ m node segment place s. beside_placed m node segment place s
