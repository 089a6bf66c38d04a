-- By the rules of the rows as they are shown.
use Rattle.std.proofs.Common.{map, subst}
use Rattle.csi_controller.specs.Model.Core.{ControllerParts}
use Rattle.csi_controller.specs.Public.Names.{by_text}
use Rattle.csi_controller.specs.Public.Core.{IsCurrent}
use Rattle.csi_controller.proofs.RecordRules.{current-kept}
use Rattle.csi_controller.proofs.controller.current_law.Goals as goal

pub returns : goal.returns
returns c =
    let kept = c.controller.inside.rows in
    let table = kept.table in
    subst (λ (parts : ControllerParts). IsCurrent parts.session parts.rows) c.controller.view_is (current-kept table.config.nodes (map by_text table.ids.entries) table.counts table.next_id kept.session kept.rows.items kept.empty c.controller.invariant)
