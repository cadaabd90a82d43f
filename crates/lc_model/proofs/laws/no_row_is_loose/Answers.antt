use Rattle.lc_model.proofs.Choices.{refusals-change_nothing, down-all, some_answer, one_answer, reserve-nothing, flush_step-one, leave-one, leave-ok, leave-unflushed}
use Rattle.lc_model.proofs.laws.no_row_is_loose.Goals as goal

pub returns-clause-some_answer : goal.returns-clause-some_answer
returns-clause-some_answer c = some_answer

pub returns-clause-one_answer : goal.returns-clause-one_answer
returns-clause-one_answer c = one_answer

pub returns-clause-reserve_nothing : goal.returns-clause-reserve_nothing
returns-clause-reserve_nothing c = reserve-nothing

pub returns-clause-flush_step : goal.returns-clause-flush_step
returns-clause-flush_step c = flush_step-one

pub returns-clause-leave : goal.returns-clause-leave
returns-clause-leave c = leave-one

pub returns-clause-leave_ok : goal.returns-clause-leave_ok
returns-clause-leave_ok c = leave-ok

pub returns-clause-leave_unflushed : goal.returns-clause-leave_unflushed
returns-clause-leave_unflushed c = leave-unflushed

pub returns-clause-refusals_change_nothing : goal.returns-clause-refusals_change_nothing
returns-clause-refusals_change_nothing c = refusals-change_nothing

pub returns-clause-down : goal.returns-clause-down
returns-clause-down c = down-all
