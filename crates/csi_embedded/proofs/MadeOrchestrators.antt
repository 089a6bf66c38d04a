-- Why no orchestrator is made.
use Rattle.std.proofs.Common.{◌≡◌, ◌∙◌, ℕ, List, Result, Ok, Err, ap, sym, subst}
use Rattle.csi_types.specs.Model.Config.{Config}
use Rattle.csi_embedded.specs.declared.ending.CallEnding.{CallEnding}
use Rattle.csi_embedded.specs.declared.ending.CallEnding.TheVariants.{NoMemory, BadName, BadRecord, Refused, NodeInUse}
use Rattle.csi_orchestrator.specs.Public.Record.{RecordParts, AreNodesFit}
use Rattle.csi_embedded.specs.Public.Making.{IsNoConfig}
use Rattle.csi_service.specs.Public.OrchestratorOpening.{raised_before}
use Rattle.csi_embedded.specs.Public.OrchestratorMaking.{node_ids, AreNodesOf, IsOrchestratorRecord, IsRecordIfAny, IsNoNodes, IsNoOrchestrator, IsNoReadOrchestrator, IsNotOpened}
use Rattle.csi_embedded.specs.Private.OrchestratorMaking.{IsNoRecord, IsNotReopened}

-- where no configuration is said, no nodes are
pub no-nodes : (text : List ℕ) (ending : CallEnding) → IsNoConfig text ending → IsNoNodes text ending
no-nodes text NoMemory none = tt
no-nodes text BadName none = λ utf8 nodes said. none utf8 said.0 said.1
no-nodes text _ none = none

-- where no nodes are said, no orchestrator is
pub no-orchestrator : (text : List ℕ) (ending : CallEnding) → IsNoNodes text ending → IsNoOrchestrator text ending
no-orchestrator text NoMemory none = tt
no-orchestrator text BadName none = λ utf8 nodes said fit. none utf8 nodes said
no-orchestrator text _ none = none

-- nor is one of a record
pub no-nodes-read : (text bytes : List ℕ) (ending : CallEnding) → IsNoNodes text ending → IsNoReadOrchestrator text bytes ending
no-nodes-read text bytes NoMemory none = tt
no-nodes-read text bytes BadName none = λ utf8 nodes said fit. none utf8 nodes said
no-nodes-read text bytes _ none = absurd none

-- nor where the bytes are none
pub no-record-read : (text bytes : List ℕ) (ending : CallEnding) → IsNoRecord bytes ending → IsNoReadOrchestrator text bytes ending
no-record-read text bytes NoMemory none = tt
no-record-read text bytes BadRecord none = none
no-record-read text bytes _ none = absurd none

-- the configuration that was read
abbrev config_in : {E : Type 0} → Config → Result Config E → Config
config_in default (Ok config) = config
config_in default (Err fault) = default

-- a text says one list of nodes
pub same-nodes : (text : List ℕ) (one other : List (List ℕ)) → AreNodesOf text one → AreNodesOf text other → one ≡ other
same-nodes text one other said also =
    let config : said.0 ≡ also.0 = ap (config_in said.0) (sym said.1 ∙ also.1) in
    said.2 ∙ ap (λ (c : Config). node_ids c.nodes) config ∙ sym also.2

-- nor where no session begins with these nodes
pub none-reopened : (text bytes : List ℕ) (nodes : List (List ℕ)) (kept : RecordParts) (ending : CallEnding) → AreNodesOf text nodes → IsOrchestratorRecord bytes kept → IsNotReopened kept nodes ending
    → IsNoReadOrchestrator text bytes ending
none-reopened text bytes nodes kept NoMemory said read none = tt
none-reopened text bytes nodes kept BadName said read none = λ utf8 others also fit. none (subst AreNodesFit (same-nodes text others nodes also said) fit)
none-reopened text bytes nodes kept Refused said read none = record { nodes = nodes; said = said; kept = kept; read = read; refused = none }
none-reopened text bytes nodes kept NodeInUse said read none = record { nodes = nodes; said = said; kept = kept; read = read; refused = none }
none-reopened text bytes nodes kept _ said read none = absurd none

-- ---- in a session that is named

-- where no nodes are said, none is opened
pub no-nodes-opened : (text bytes : List ℕ) (session : ℕ) (ending : CallEnding) → IsNoNodes text ending → IsNotOpened text bytes session ending
no-nodes-opened text bytes session NoMemory none = tt
no-nodes-opened text bytes session BadName none = λ utf8 nodes said fit. none utf8 nodes said
no-nodes-opened text bytes session _ none = absurd none

-- nor where the bytes are no record
pub no-record-opened : (text bytes : List ℕ) (session : ℕ) (ending : CallEnding) → IsNoRecord bytes ending → IsNotOpened text bytes session ending
no-record-opened text bytes session NoMemory none = tt
no-record-opened text bytes session BadRecord none = none
no-record-opened text bytes session _ none = absurd none

-- nor where no session begins with these nodes
pub none-opened : (text bytes : List ℕ) (session : ℕ) (nodes : List (List ℕ)) (kept : RecordParts) (ending : CallEnding) → AreNodesOf text nodes → IsRecordIfAny bytes kept → IsNotReopened (raised_before session kept) nodes ending
    → IsNotOpened text bytes session ending
none-opened text bytes session nodes kept NoMemory said read none = tt
none-opened text bytes session nodes kept BadName said read none = λ utf8 others also fit. none (subst AreNodesFit (same-nodes text others nodes also said) fit)
none-opened text bytes session nodes kept Refused said read none = record { nodes = nodes; said = said; kept = kept; read = read; refused = none }
none-opened text bytes session nodes kept NodeInUse said read none = record { nodes = nodes; said = said; kept = kept; read = read; refused = none }
none-opened text bytes session nodes kept _ said read none = absurd none
