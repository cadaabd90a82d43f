use Rattle.lc_model.proofs.Moves.{keeps-aside, keeps-marks, keeps-appended, keeps-acknowledged, keeps-opening, keeps-begun, keeps-settled, keeps-reset, keeps-dropped, stands-now, token-stable}
use Rattle.lc_model.proofs.Steps.{step-keeps}
use Rattle.lc_model.proofs.disks.kept_by_moves.Goals as goal

pub returns-clause-aside : goal.returns-clause-aside
returns-clause-aside c = keeps-aside

pub returns-clause-marks : goal.returns-clause-marks
returns-clause-marks c = keeps-marks

pub returns-clause-reserved : goal.returns-clause-reserved
returns-clause-reserved c = keeps-appended

pub returns-clause-acked : goal.returns-clause-acked
returns-clause-acked c = keeps-acknowledged

pub returns-clause-page_opened : goal.returns-clause-page_opened
returns-clause-page_opened c = keeps-opening

pub returns-clause-page_begun : goal.returns-clause-page_begun
returns-clause-page_begun c = keeps-begun

pub returns-clause-page_settled : goal.returns-clause-page_settled
returns-clause-page_settled c = keeps-settled

pub returns-clause-page_now : goal.returns-clause-page_now
returns-clause-page_now c = λ m s d segment page node sound here all_acked. stands-now m s d segment page sound (token-stable m s d segment node sound here all_acked)

pub returns-clause-reset_written : goal.returns-clause-reset_written
returns-clause-reset_written c = keeps-reset

pub returns-clause-reset_done : goal.returns-clause-reset_done
returns-clause-reset_done c = keeps-dropped

pub returns-clause-step : goal.returns-clause-step
returns-clause-step c = λ m s new d event reply. step-keeps m s d event reply new
