-- By the rules of the rows as they are shown.
use Rattle.std.proofs.Common.{map, subst}
use Rattle.csi_controller.specs.Model.Core.{ControllerParts}
use Rattle.csi_controller.specs.Public.Names.{by_text}
use Rattle.csi_controller.specs.Public.Core.{AreSoundRows}
use Rattle.csi_controller.proofs.RecordRules.{sound-kept}
use Rattle.csi_controller.proofs.controller.sound_law.Goals as goal

pub returns : goal.returns
returns c =
    let kept = c.controller.inside.rows in
    let table = kept.table in
    subst (λ (parts : ControllerParts). AreSoundRows parts.next_id parts.rows) c.controller.view_is (sound-kept table.config.nodes (map by_text table.ids.entries) table.counts table.next_id kept.session kept.rows.items kept.empty c.controller.invariant)
