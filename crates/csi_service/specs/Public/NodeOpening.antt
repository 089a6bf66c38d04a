-- What opening a node's store finds and leaves: no parts become the head of a node that joins with its session; a record stays, or becomes one
-- in the present version; and a record of an earlier session than that of the joining is refused, and stays as it is. This profile's own.
use Rattle.std.specs.Prelude.{ℕ, ◌<◌, List, Some, Result, Ok, Err}
use Rattle.csi_node.specs.Model.Record.{NodeParts}
use Rattle.csi_stores.specs.Public.Keeping.{IsForeignFault}
use Rattle.csi_stores.specs.Public.Part.{StoredPart}
use Rattle.csi_stores.specs.Public.Stores.{Store}
use Rattle.csi_records.specs.declared.version.RecordVersion.{RecordVersion}
use Rattle.csi_records.specs.Public.Records.{IsNodeOf}
use Rattle.csi_records.specs.Public.Spelling.{present, node_head}
use Rattle.csi_service.specs.declared.node_unopened.NodeUnopened.{NodeUnopened}
use Rattle.csi_service.specs.declared.node_unopened.NodeUnopened.TheVariants.{Keep, EarlierSession}
use Rattle.csi_service.specs.Public.Opening.{node_records, HasRecord, IsOpenFault, LeavesOpened}
use Rattle.csi_service.specs.Public.Services.{NodeService, node_service_parts}
use Rattle.csi_service.specs.Public.StoreOpening.{StaysFor}

-- the head of a node that joins with this session
abbrev pub joined_head : List ℕ → ℕ → StoredPart
joined_head id session = node_head present id (Some session)

-- the node of this id with the record that was there, or with that head alone, in the present version; and the store has its record alone
abbrev pub HasNode : List ℕ → ℕ → Store → Store → NodeService → Type 0
HasNode id session before after = HasRecord (node_records id) node_service_parts before after (joined_head id session)

-- the parts are read as the record of this node, in some version, and the greatest session that it heard of is earlier than this one; where the
-- version has no session, that is the greatest of its rows' last calls
pub record IsOfEarlierSession (id : List ℕ) (session : ℕ) (content : List StoredPart) : Type 0 where
  pub version : RecordVersion
  pub kept : NodeParts
  pub was : IsNodeOf version (Some id) content kept
  pub earlier : kept.session < session

-- why the node of this id, which joined with this session, isn't opened from a store; where the record is of an earlier session, nothing is changed
abbrev pub IsNodeUnopened : List ℕ → ℕ → Store → Store → NodeUnopened → Type 0
IsNodeUnopened id session before after (Keep fault) = IsOpenFault (node_records id) before after (joined_head id session) fault
IsNodeUnopened id session before after EarlierSession = StaysFor (IsOfEarlierSession id session) before after

-- whether it is opened or not, what is left is what was there, or what the commit of opening makes
abbrev pub LeavesNode : List ℕ → ℕ → Store → Store → Type 0
LeavesNode id session before after = LeavesOpened (node_records id) before after (joined_head id session)

-- where a store has no list of parts, that is refused
abbrev pub RefusesForeign : {A : Type 0} → ℕ → Result A NodeUnopened → Type 0
RefusesForeign place (Ok a) = ⊥
RefusesForeign place (Err (Keep fault)) = IsForeignFault place fault
RefusesForeign place (Err EarlierSession) = ⊥
