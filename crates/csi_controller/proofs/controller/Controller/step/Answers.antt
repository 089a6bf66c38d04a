-- A reply changes nothing.
use Rattle.std.proofs.Common.{map, subst}
use Rattle.csi_controller.specs.Model.Core.{ControllerParts}
use Rattle.csi_controller.specs.Public.Core.{IsCurrent}
use Rattle.csi_controller.specs.Public.Names.{by_text}
use Rattle.csi_controller.proofs.RecordRules.{current-kept}
use Rattle.csi_controller.proofs.controller.Controller.step.Goals as goal

pub returns-in_default-clause-current : goal.returns-in_default-clause-current
returns-in_default-clause-current c =
    let kept = c.self.inside.rows in
    subst (λ (parts : ControllerParts). IsCurrent parts.session parts.rows) c.self.view_is
    (current-kept kept.table.config.nodes (map by_text kept.table.ids.entries) kept.table.counts kept.table.next_id kept.session kept.rows.items kept.empty c.self.invariant)
