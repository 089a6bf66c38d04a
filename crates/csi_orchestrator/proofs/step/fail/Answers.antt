-- The use is stopped.
use Rattle.csi_orchestrator.proofs.Words.{◌≡◌, Some, sym, ◌∙◌, ap, Use, failed, row_shown}
use Rattle.csi_orchestrator.proofs.step.fail.Goals as goal

pub returns-in-Use : goal.returns-in-Use
returns-in-Use c =
    let wanted : c.args.row.now.goal ≡ Some (Use c.in-Use.field-0) = c.in-Some.is ∙ ap Some c.in-Use.is in
    c.stop_use.ensures.goal (Use c.in-Use.field-0) wanted ∙ sym (ap (failed (row_shown c.args.row.now)) wanted)
