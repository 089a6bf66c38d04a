-- Which parts are a record, and the first part that is refused. This profile's own.
use Rattle.std.specs.Prelude.{◌≡◌, ◌⊎◌, ℕ, ◌≤◌, Bool, true, false, List, [], ◌∷◌, ◌++◌, length, map, Option, Some, None, IfSome}
use Rattle.std.specs.List.{AllByRecursion}
use Rattle.csi_types.specs.declared.capability.Capability.{Capability}
use Rattle.csi_types.specs.Public.Limits.{IsWord, IsNumber, IsCapability, IsReply}
use Rattle.csi_types.specs.Public.Text.{IsName, IsNodeId, IsTarget}
use Rattle.csi_types.specs.Public.VolumeId.{IsVolumeId}
use Rattle.csi_fence.specs.Model.Fence.{Kept}
use Rattle.csi_records.specs.declared.version.RecordVersion.{RecordVersion}
use Rattle.csi_records.specs.Public.Version.{modes_of, has_session}
use Rattle.csi_frames.specs.Public.Version.{has_mode}
use Rattle.csi_controller.specs.declared.row.ControllerRow.{ControllerRow}
use Rattle.csi_controller.specs.declared.row.NodeHolding.{NodeHolding}
use Rattle.csi_controller.specs.Public.Core.{AreSoundRows}
use Rattle.csi_controller.specs.Public.Judging.{AreRecorded}
use Rattle.csi_controller.specs.Public.Views.{RecordParts}
use Rattle.csi_controller.specs.Public.WithoutSession.{without_session}
use Rattle.csi_node.specs.declared.row.NodeTarget.{NodeTarget}
use Rattle.csi_node.specs.declared.row.NodeRow.{NodeRow}
use Rattle.csi_node.specs.Model.OneRow.{NodeRowShown, node_row_shown}
use Rattle.csi_node.specs.Public.Judging.{KeepRules as KeepNodeRules}
use Rattle.csi_node.specs.Model.Record.{NodeParts}
use Rattle.csi_node.specs.Public.WithoutSession.{without_session as node_without_session}
use Rattle.csi_stores.specs.Public.Part.{StoredPart}
use Rattle.csi_records.specs.Public.Spelling.{VolumeRow, volume_row, controller_head, volume_part, node_head, answered_part}

-- ---- the limits of what stands in a part, each by itself

-- a capability, in a mode that the version has
pub record IsCapabilityIn (version : RecordVersion) (capability : Capability) : Type 0 where
  pub fits : IsCapability capability
  pub in_mode : has_mode (modes_of version) capability.mode ≡ true

-- a kept call is within its limits
pub record IsKeptCall (kept : Kept) : Type 0 where
  pub number : IsNumber kept.number
  pub reply : IsReply kept.reply

-- so is where a volume is held
pub record IsHolding (version : RecordVersion) (holding : NodeHolding) : Type 0 where
  pub node : IsNodeId holding.node
  pub capability : IsCapabilityIn version holding.capability

-- so is a controller's row
pub record IsVolumeRow (version : RecordVersion) (row : VolumeRow) : Type 0 where
  pub id : IsVolumeId row.volume.id
  pub name : IsName row.volume.name
  pub capacity : IsWord row.volume.capacity
  pub capability_count : length row.volume.capabilities ≤ 8
  pub capabilities : AllByRecursion (IsCapabilityIn version) row.volume.capabilities
  pub count : length row.holdings ≤ 64
  pub holdings : AllByRecursion (IsHolding version) row.holdings
  pub kept : IsKeptCall row.volume.kept

-- so is how a volume is staged, if it is
abbrev pub IsStagedSo : RecordVersion → Option Capability → Type 0
IsStagedSo version staged = IfSome staged (IsCapabilityIn version)

-- so is a target
abbrev pub IsTargetRow : NodeTarget → Type 0
IsTargetRow target = IsTarget target.target

-- so is a node's row
pub record IsAnsweredRow (version : RecordVersion) (row : NodeRowShown) : Type 0 where
  pub id : IsVolumeId row.id
  pub staged : IsStagedSo version row.staged
  pub count : length row.targets ≤ 16
  pub targets : AllByRecursion IsTargetRow row.targets
  pub kept : IsKeptCall row.kept

-- ---- heads

-- what a head tells: what is the plugin's own, and the greatest session that came, where the version has it
pub record Head (X : Type 0) : Type 0 where
  pub own : X
  pub session : Option ℕ

-- the session that a head has, if its version has one
abbrev pub IsSessionIf : Bool → Option ℕ → Type 0
IsSessionIf true (Some session) = IsWord session
IsSessionIf true None = ⊥
IsSessionIf false (Some session) = ⊥
IsSessionIf false None = Unit {0}

-- a head of the version, whose own field fits
pub record IsHead {X : Type 0} (Fits : X → Type 0) (version : RecordVersion) (head : Head X) : Type 0 where
  pub own : Fits head.own
  pub session : IsSessionIf (has_session version) head.session

-- ---- records: a head, and rows by rising key

-- How a plugin's record is laid out: its head as a part, its rows as parts; the limits of each; and which rows a record may have,
-- as the plugin's own record has it.
pub record Layout (H R : Type 0) : Type 1 where
  pub head : H → StoredPart
  pub row : R → StoredPart
  pub is_head : H → Type 0
  pub is_row : R → Type 0
  pub are_rows : H → List R → Type 0

-- these are the parts of the record with this head and these rows
pub record AreParts {H R : Type 0} (layout : Layout H R) (first : H) (rows : List R) (parts : List StoredPart) : Type 0 where
  pub head_fits : layout.is_head first
  pub rows_fit : AllByRecursion layout.is_row rows
  pub rules : layout.are_rows first rows
  pub are : parts ≡ layout.head first ∷ map layout.row rows

-- these are the parts of a record
pub record IsRecordOf {H R : Type 0} (layout : Layout H R) (parts : List StoredPart) : Type 0 where
  pub first : H
  pub rows : List R
  pub spelled : AreParts layout first rows parts

-- the controller's: the next id, and the rows of its volumes, which keep a controller's rules, by the session too where the head has one
abbrev pub AreControllerRows : ℕ → Option ℕ → List ControllerRow → Type 0
AreControllerRows next_id None rows = AreSoundRows next_id rows
AreControllerRows next_id (Some session) rows = AreRecorded next_id session rows

-- rows that keep a controller's rules, as they are spelled
abbrev pub AreVolumeRows : Head ℕ → List VolumeRow → Type 0
AreVolumeRows head shown = (rows : List ControllerRow) × (map volume_row rows ≡ shown) × AreControllerRows head.own head.session rows

-- how a controller's record is laid out
abbrev pub controller_layout : RecordVersion → Layout (Head ℕ) VolumeRow
controller_layout version = record {
  head = λ head. controller_head version head.own head.session;
  row = volume_part version;
  is_head = IsHead IsWord version;
  is_row = IsVolumeRow version;
  are_rows = AreVolumeRows;
}

-- a node's: its id, which may be asked for, and the rows of the volumes for which it answered a call, which keep a node's rules, by the
-- session too where the head has one
abbrev pub IsAskedNode : Option (List ℕ) → List ℕ → Type 0
IsAskedNode wanted node = IsNodeId node × IfSome wanted (λ id. node ≡ id)

-- how a node's record is laid out
abbrev pub node_layout : RecordVersion → Option (List ℕ) → Layout (Head (List ℕ)) NodeRowShown
node_layout version wanted = record {
  head = λ head. node_head version head.own head.session;
  row = answered_part version;
  is_head = IsHead (IsAskedNode wanted) version;
  is_row = IsAnsweredRow version;
  are_rows = λ head rows. KeepNodeRules head.session rows;
}

-- ---- the record of a head and rows: with the head's session, or without one

-- the record of a head and its rows; without a session it is that of the rows' last calls
abbrev pub controller_record_of : ℕ → Option ℕ → List ControllerRow → RecordParts
controller_record_of next_id (Some session) rows = record { next_id = next_id; session = session; rows = rows }
controller_record_of next_id None rows = without_session next_id rows

-- the same of a node's
abbrev pub node_record_of : List ℕ → Option ℕ → List NodeRow → NodeParts
node_record_of id (Some session) rows = record { id = id; session = session; rows = rows }
node_record_of id None rows = node_without_session id rows

-- the controller's record that these parts, of this version, are read as
pub record IsControllerOf (version : RecordVersion) (parts : List StoredPart) (kept : RecordParts) : Type 0 where
  pub head : Head ℕ
  pub rows : List ControllerRow
  pub spelled : AreParts (controller_layout version) head (map volume_row rows) parts
  pub is : kept ≡ controller_record_of head.own head.session rows

-- the node's record that these parts, of this version, are read as
pub record IsNodeOf (version : RecordVersion) (wanted : Option (List ℕ)) (parts : List StoredPart) (kept : NodeParts) : Type 0 where
  pub head : Head (List ℕ)
  pub rows : List NodeRow
  pub spelled : AreParts (node_layout version wanted) head (map node_row_shown rows) parts
  pub is : kept ≡ node_record_of head.own head.session rows

-- ---- records of any version: all version bytes of one are alike, since all its parts are of one version

-- these are the parts of a record, in some version
pub record IsInSome (Is : RecordVersion → List StoredPart → Type 0) (parts : List StoredPart) : Type 0 where
  pub version : RecordVersion
  pub there : Is version parts

-- these are the parts of a controller's record
abbrev pub IsControllerRecord : List StoredPart → Type 0
IsControllerRecord = IsInSome (λ version. IsRecordOf (controller_layout version))

-- these are the parts of a node's record, of the node that may be asked for
abbrev pub IsNodeRecord : Option (List ℕ) → List StoredPart → Type 0
IsNodeRecord wanted = IsInSome (λ version. IsRecordOf (node_layout version wanted))

-- ---- the first part that is refused

-- nothing yet, or a record
abbrev pub Begins : (List StoredPart → Type 0) → List StoredPart → Type 0
Begins Is parts = (parts ≡ []) ⊎ Is parts

-- The part at this place, from 0, is the first that is refused: those before it are a record, if there are any, and with it they
-- are none.
pub record IsRefusedAt (Is : List StoredPart → Type 0) (parts : List StoredPart) (place : ℕ) : Type 0 where
  pub before : List StoredPart
  pub part : StoredPart
  pub after : List StoredPart
  pub are : parts ≡ before ++ part ∷ after
  pub here : length before ≡ place
  pub begins : Begins Is before
  pub refused : Is (before ++ part ∷ []) → ⊥
