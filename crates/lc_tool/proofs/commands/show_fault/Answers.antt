use Rattle.std.proofs.Common.{ap}
use Rattle.lc_model.specs.declared.refusal.Refusal.TheVariants.{DeviceFault, Unknown}
use Rattle.lc_tool.specs.Shown.{refusal_to}
use Rattle.lc_tool.proofs.commands.show_fault.Goals as goal

pub returns-in_ok-show-in-Unknown-clause-shown : goal.returns-in_ok-show-in-Unknown-clause-shown
returns-in_ok-show-in-Unknown-clause-shown g c =
    let shown = c.in_ok-show-in-Unknown.ensures.shown in
    (Unknown, ap refusal_to c.in-Unknown.is, shown.0, shown.1)

pub returns-in_ok-show-in-DeviceFault-clause-shown : goal.returns-in_ok-show-in-DeviceFault-clause-shown
returns-in_ok-show-in-DeviceFault-clause-shown g c =
    let shown = c.in_ok-show-in-DeviceFault.ensures.shown in
    (DeviceFault, ap refusal_to c.in-DeviceFault.is, shown.0, shown.1)
