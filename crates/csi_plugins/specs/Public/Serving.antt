-- How each plugin answers while it is served: as it does by itself, and to the parts of a record. This profile's own.
use Rattle.std.specs.Prelude.{◌≡◌, ℕ, List, map, Option, Some, None}
use Rattle.csi_types.specs.Model.Frame.{Frame}
use Rattle.csi_types.specs.Model.Config.{Config}
use Rattle.csi_controller.specs.Public.Views.{RecordParts}
use Rattle.csi_node.specs.Model.OneRow.{node_row_shown}
use Rattle.csi_node.specs.Model.Record.{NodeParts, parts}
use Rattle.csi_records.specs.Public.Spelling.{present, volume_row}
use Rattle.csi_records.specs.Public.Records.{controller_layout, node_layout, AreParts}
use Rattle.csi_service.specs.Public.Answering.{AnswersInRecord}
use Rattle.csi_service.specs.Public.Plugins.{IsFrom}
use Rattle.csi_service.specs.Public.Services.{ControllerService, controller_service_parts, AreFitControllerRows, ControllerAnswers, NodeService, node_service_parts, AreFitNodeRows, NodeServiceAnswers}

-- ---- a controller

-- all that a controller's record has is within its limits
abbrev pub IsFitController : ControllerService → Type 0
IsFitController service = AreFitControllerRows service.plugin.rows

-- the controller under this configuration, whose record is within its limits
abbrev pub IsControllerUnder : Config → ControllerService → Type 0
IsControllerUnder config service = (service.plugin.config ≡ config) × IsFitController service

-- its answers, which lead from record to record
abbrev pub ControllerServes : ControllerService → Frame → Option Frame → ControllerService → Type 0
ControllerServes =
    AnswersInRecord IsFitController (λ (kept : RecordParts) parts. AreParts (controller_layout present) (record { own = kept.next_id; session = Some kept.session }) (map volume_row kept.rows) parts)
    controller_service_parts ControllerAnswers

-- ---- a node

-- all that a node's record has is within its limits
abbrev pub IsFitNode : NodeService → Type 0
IsFitNode service = AreFitNodeRows (parts service.plugin.rows)

-- the node of this id, which heard of this session, that of its joining, or of a later one, and whose record is within its limits
abbrev pub IsNodeJoined : List ℕ → ℕ → NodeService → Type 0
IsNodeJoined id session service = (service.plugin.id ≡ id) × IsFrom session service.plugin.session × IsFitNode service

-- its answers, which lead from record to record
abbrev pub NodeServes : NodeService → Frame → Option Frame → NodeService → Type 0
NodeServes =
    AnswersInRecord IsFitNode (λ (kept : NodeParts) parts. AreParts (node_layout present None) (record { own = kept.id; session = Some kept.session }) (map node_row_shown kept.rows) parts)
    node_service_parts NodeServiceAnswers
