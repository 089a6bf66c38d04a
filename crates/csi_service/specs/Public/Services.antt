-- The plugins that are served, each as it is seen: the parts of their records in the present version, what an answer changed of them, and how
-- they answer. This profile's own.
use Rattle.std.specs.Prelude.{ℕ, List, map, Option, Some, is_some}
use Rattle.std.specs.List.{AllByRecursion}
use Rattle.csi_types.specs.Model.Config.{Config}
use Rattle.csi_types.specs.Model.Frame.{Frame}
use Rattle.csi_controller.specs.declared.row.ControllerRow.{ControllerRow}
use Rattle.csi_controller.specs.Model.State.{ControllerState}
use Rattle.csi_controller.specs.Model.Fenced.{controller_with}
use Rattle.csi_controller.specs.Model.Core.{ControllerParts, Shows}
use Rattle.csi_controller.specs.Public.Raised.{raised}
use Rattle.csi_node.specs.Model.Fenced.{node_at}
use Rattle.csi_node.specs.Model.OneRow.{NodeRowShown}
use Rattle.csi_node.specs.Model.Record.{NodeParts, parts, Shows as NodeShows}
use Rattle.csi_node.specs.Model.State.{NodeState}
use Rattle.csi_node.specs.Public.Raised.{raised as node_raised}
use Rattle.csi_records.specs.Public.Spelling.{present, VolumeRow, volume_row, controller_head, volume_part, node_head, answered_part}
use Rattle.csi_records.specs.Public.Records.{IsVolumeRow, IsAnsweredRow}
use Rattle.csi_stores.specs.Public.Part.{StoredPart, StoredChange}
use Rattle.csi_service.specs.Public.Plugins.{ServedPlugin, View, service_parts, service_changes, ServiceAnswers}

-- ---- the controller

-- a controller: its head has the next id and the session, and the rows of deleted volumes are forgotten
abbrev pub controller_view : View ControllerParts Config VolumeRow ControllerState
controller_view = record {
  own = λ controller. controller.config;
  machine = controller_with;
  numbers = λ controller. (controller.next_id, controller.session);
  rows = λ controller. map volume_row controller.rows;
  last = λ row. row.volume.kept.number;
  stays = λ row. row.volume.is_live;
  head = λ config numbers. (controller_head present numbers.0 (Some numbers.1)).value;
  part = volume_part present;
  IsRow = IsVolumeRow present;
  Shows = Shows;
  raised = raised;
}

-- one that is served
abbrev pub ControllerService : Type 0
ControllerService = ServedPlugin ControllerParts

-- the parts of its record
abbrev pub controller_service_parts : ControllerService → List StoredPart
controller_service_parts = service_parts controller_view

-- what its last answer changed
abbrev pub controller_service_changes : ControllerService → List StoredChange
controller_service_changes = service_changes controller_view

-- how it answers
abbrev pub ControllerAnswers : ControllerService → Frame → Option Frame → ControllerService → Type 0
ControllerAnswers = ServiceAnswers controller_view

-- all that rows have is within its limits
abbrev pub AreFitControllerRows : List ControllerRow → Type 0
AreFitControllerRows rows = AllByRecursion (IsVolumeRow present) (map volume_row rows)

-- ---- a node

-- a node: its head has its id and the session, and the rows of volumes that aren't staged are forgotten
abbrev pub node_view : View NodeParts (List ℕ) NodeRowShown NodeState
node_view = record {
  own = λ node. node.id;
  machine = node_at;
  numbers = λ node. (0, node.session);
  rows = λ node. parts node.rows;
  last = λ row. row.kept.number;
  stays = λ row. is_some row.staged;
  head = λ id numbers. (node_head present id (Some numbers.1)).value;
  part = answered_part present;
  IsRow = IsAnsweredRow present;
  Shows = NodeShows;
  raised = node_raised;
}

-- one that is served
abbrev pub NodeService : Type 0
NodeService = ServedPlugin NodeParts

-- the parts of its record
abbrev pub node_service_parts : NodeService → List StoredPart
node_service_parts = service_parts node_view

-- what its last answer changed
abbrev pub node_service_changes : NodeService → List StoredChange
node_service_changes = service_changes node_view

-- how it answers
abbrev pub NodeServiceAnswers : NodeService → Frame → Option Frame → NodeService → Type 0
NodeServiceAnswers = ServiceAnswers node_view

-- all that rows have is within its limits
abbrev pub AreFitNodeRows : List NodeRowShown → Type 0
AreFitNodeRows rows = AllByRecursion (IsAnsweredRow present) rows
