use Rattle.lc_token.proofs.CleanLemmas.{token-written, token-appended, token-closed, token-opened, token-fewer, all-on_pages}
use Rattle.lc_token.proofs.NumberLemmas.{token-number}
use Rattle.lc_token.proofs.laws.clean_pages.Goals as goal

pub returns-clause-written : goal.returns-clause-written
returns-clause-written c = token-written

pub returns-clause-reserved : goal.returns-clause-reserved
returns-clause-reserved c = token-appended

pub returns-clause-closed : goal.returns-clause-closed
returns-clause-closed c = token-closed

pub returns-clause-opened : goal.returns-clause-opened
returns-clause-opened c = token-opened

pub returns-clause-fewer : goal.returns-clause-fewer
returns-clause-fewer c = token-fewer

pub returns-clause-may_reset : goal.returns-clause-may_reset
returns-clause-may_reset c = all-on_pages

pub returns-clause-token_number : goal.returns-clause-token_number
returns-clause-token_number c = token-number
