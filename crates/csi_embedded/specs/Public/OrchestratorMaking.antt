-- Orchestrators that are made: a new one, that of a record's bytes, and either in a session that is named; and what the store has to be given of them.
-- This profile's own.
use Rattle.std.specs.Prelude.{◌≡◌, ◌⊎◌, ℕ, List, [], ◌∷◌, length, map, None, Some, Ok}
use Rattle.std.specs.Str.{IsUtf8}
use Rattle.csi_types.specs.declared.config.NodeSlots.{NodeSlots}
use Rattle.csi_types.specs.Model.Config.{Config}
use Rattle.csi_json.specs.Public.Configs.{text_config}
use Rattle.csi_orchestrator.specs.declared.fault.OrchFault.{OrchFault}
use Rattle.csi_orchestrator.specs.declared.fault.OrchFault.TheVariants as refusals
use Rattle.csi_orchestrator.specs.Model.History.{new_history}
use Rattle.csi_orchestrator.specs.Model.Shown.{Shows}
use Rattle.csi_orchestrator.specs.Public.Laws.{opened_parts}
use Rattle.csi_orchestrator.specs.Public.Record.{RecordParts, AreNodesFit}
use Rattle.csi_stores.specs.Public.Part.{put_all}
use Rattle.csi_records.specs.declared.version.RecordVersion.{RecordVersion}
use Rattle.csi_records.specs.Public.OrchestratorRecords.{orchestrator_layout, IsOrchestratorOf}
use Rattle.csi_records.specs.Public.OrchestratorSpelling.{orchestrator_head}
use Rattle.csi_records.specs.Public.Places.{AreBytesOf, IsBadAt}
use Rattle.csi_records.specs.Public.Records.{IsRecordOf}
use Rattle.csi_records.specs.Public.Spelling.{present}
use Rattle.csi_service.specs.Public.OrchestratorOpening.{new_record, raised_before, opening_refusal}
use Rattle.csi_service.specs.Public.OrchestratorServices.{ServedOrchestrator, session_changes}
use Rattle.csi_embedded.specs.declared.ending.CallEnding.{CallEnding}
use Rattle.csi_embedded.specs.declared.ending.CallEnding.TheVariants.{NoMemory, BadName, BadRecord, Refused, NodeInUse}
use Rattle.csi_embedded.specs.declared.embedded.Embedded.{Embedded}
use Rattle.csi_embedded.specs.declared.plugin.HeldPlugin.TheVariants.{Orchestrator}
use Rattle.csi_embedded.specs.Public.Calls.{told_changes}

-- the ids of a configuration's nodes, in order
abbrev pub node_ids : List NodeSlots → List (List ℕ)
node_ids nodes = map (λ node. node.id) nodes

-- the text says a configuration, and these are its nodes' ids
abbrev pub AreNodesOf : List ℕ → List (List ℕ) → Type 0
AreNodesOf text nodes = (config : Config) × (text_config text ≡ Ok config) × (nodes ≡ node_ids config.nodes)

-- the orchestrator of these nodes that did nothing, in session 1; the store has to be given its head, which is its record
pub record IsNewOrchestrator (text : List ℕ) (made : Embedded) : Type 0 where
  pub service : ServedOrchestrator
  pub is : made.plugin ≡ Orchestrator service
  pub nodes : List (List ℕ)
  pub said : AreNodesOf text nodes
  pub has : service.orchestrator ≡ opened_parts new_record nodes
  pub shows : Shows service.orchestrator (new_history nodes)
  pub told : told_changes made ≡ put_all (orchestrator_head present 1 nodes ∷ [])

-- the bytes are those of this orchestrator's record, in some version
abbrev pub IsOrchestratorRecord : List ℕ → RecordParts → Type 0
IsOrchestratorRecord bytes kept =
    (version : RecordVersion) × AreBytesOf (λ v. IsRecordOf (orchestrator_layout v)) (λ v. IsOrchestratorOf v) version bytes kept

-- the orchestrator of a record, as a restart with these nodes leaves it: in the next session, without the names that are forgotten. The store has to
-- be given its head, or, where names were forgotten, the whole record.
pub record IsReopened (kept : RecordParts) (nodes : List (List ℕ)) (made : Embedded) : Type 0 where
  pub service : ServedOrchestrator
  pub is : made.plugin ≡ Orchestrator service
  pub has : service.orchestrator ≡ opened_parts kept nodes
  pub unrefused : opening_refusal kept nodes ≡ None
  pub told : told_changes made ≡ session_changes (length kept.rows) (opened_parts kept nodes)

-- that of the record whose bytes these are, with the nodes that the text says
pub record IsReadOrchestrator (text bytes : List ℕ) (made : Embedded) : Type 0 where
  pub kept : RecordParts
  pub read : IsOrchestratorRecord bytes kept
  pub nodes : List (List ℕ)
  pub said : AreNodesOf text nodes
  pub reopened : IsReopened kept nodes made

-- the record whose bytes these are; no bytes stand for one before the first session
abbrev pub IsRecordIfAny : List ℕ → RecordParts → Type 0
IsRecordIfAny bytes kept = ((bytes ≡ []) × (kept ≡ new_record)) ⊎ IsOrchestratorRecord bytes kept

-- that of such a record, with the nodes that the text says: in the next session, or in this one, where that is later
pub record IsOpenedOrchestrator (text bytes : List ℕ) (session : ℕ) (made : Embedded) : Type 0 where
  pub kept : RecordParts
  pub read : IsRecordIfAny bytes kept
  pub nodes : List (List ℕ)
  pub said : AreNodesOf text nodes
  pub reopened : IsReopened (raised_before session kept) nodes made

-- why no nodes are said
abbrev pub IsNoNodes : List ℕ → CallEnding → Type 0
IsNoNodes text NoMemory = Unit {0}
IsNoNodes text BadName = IsUtf8 text → (nodes : List (List ℕ)) → AreNodesOf text nodes → ⊥
IsNoNodes text _ = ⊥

-- why there is no new orchestrator: none are said, or no orchestrator has them
abbrev pub IsNoOrchestrator : List ℕ → CallEnding → Type 0
IsNoOrchestrator text NoMemory = Unit {0}
IsNoOrchestrator text BadName = IsUtf8 text → (nodes : List (List ℕ)) → AreNodesOf text nodes → AreNodesFit nodes → ⊥
IsNoOrchestrator text _ = ⊥

-- a record after which no session begins with the nodes that the text says, for this reason
pub record IsRefusedAfter (fault : OrchFault) (text bytes : List ℕ) : Type 0 where
  pub nodes : List (List ℕ)
  pub said : AreNodesOf text nodes
  pub kept : RecordParts
  pub read : IsOrchestratorRecord bytes kept
  pub refused : opening_refusal kept nodes ≡ Some fault

-- why there is none of a record: no nodes are said that an orchestrator has; or the bytes are no orchestrator's record in any version; or no session is
-- left; or a volume may be attached at a node that the text leaves out
abbrev pub IsNoReadOrchestrator : List ℕ → List ℕ → CallEnding → Type 0
IsNoReadOrchestrator text bytes NoMemory = Unit {0}
IsNoReadOrchestrator text bytes BadName = IsNoOrchestrator text BadName
IsNoReadOrchestrator text bytes BadRecord = (place : ℕ) × IsBadAt (λ v. IsRecordOf (orchestrator_layout v)) bytes place
IsNoReadOrchestrator text bytes Refused = IsRefusedAfter refusals.NumbersSpent text bytes
IsNoReadOrchestrator text bytes NodeInUse = IsRefusedAfter refusals.NodeInUse text bytes
IsNoReadOrchestrator text bytes _ = ⊥

-- such a record, after which no session begins so with the nodes that the text says, for this reason
pub record IsUnopenedAfter (fault : OrchFault) (text bytes : List ℕ) (session : ℕ) : Type 0 where
  pub nodes : List (List ℕ)
  pub said : AreNodesOf text nodes
  pub kept : RecordParts
  pub read : IsRecordIfAny bytes kept
  pub refused : opening_refusal (raised_before session kept) nodes ≡ Some fault

-- why there is none in a session that is named: as of a record
abbrev pub IsNotOpened : List ℕ → List ℕ → ℕ → CallEnding → Type 0
IsNotOpened text bytes session NoMemory = Unit {0}
IsNotOpened text bytes session BadName = IsNoOrchestrator text BadName
IsNotOpened text bytes session BadRecord = (place : ℕ) × IsBadAt (λ v. IsRecordOf (orchestrator_layout v)) bytes place
IsNotOpened text bytes session Refused = IsUnopenedAfter refusals.NumbersSpent text bytes session
IsNotOpened text bytes session NodeInUse = IsUnopenedAfter refusals.NodeInUse text bytes session
IsNotOpened text bytes session _ = ⊥
