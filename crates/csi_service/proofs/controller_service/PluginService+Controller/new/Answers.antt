-- A new controller has a head alone.
use Rattle.std.proofs.Common.{◌≡◌, List, [], ◌∷◌, map, Some, ap, refl, ◌∙◌}
use Rattle.csi_controller.specs.declared.row.ControllerRow.{ControllerRow}
use Rattle.csi_controller.specs.Model.Core.{ControllerParts, Shows}
use Rattle.csi_controller.specs.Model.Shown.{volume_of_row}
use Rattle.csi_controller.specs.Model.State.{empty_controller}
use Rattle.csi_records.specs.Public.Spelling.{present, controller_head, volume_part, volume_row}
use Rattle.csi_service.specs.Public.Plugins.{record_parts}
use Rattle.csi_service.specs.Public.Services.{controller_view}
use Rattle.csi_service.proofs.controller_service.PluginService+Controller.new.Goals as goal

-- it has no rows
no-parts : (rows : List ControllerRow) → map volume_of_row rows ≡ [] → map (volume_part present) (map volume_row rows) ≡ []
no-parts [] none = refl
no-parts (row ∷ rows) none = absurd cc

-- nor a number but the first
empty-parts : (controller : ControllerParts) → Shows controller empty_controller → record_parts controller_view controller ≡ controller_head present 1 (Some 0) ∷ []
empty-parts controller shown = λ i. controller_head present (shown.shows.next i) (Some (shown.session i)) ∷ no-parts controller.rows shown.shows.volumes i

pub returns-clause-parts : goal.returns-clause-parts
returns-clause-parts c = ap (record_parts controller_view) c.service_of.ensures.plugin ∙ empty-parts c.new.result c.new.ensures.empty
