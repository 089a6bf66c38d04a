-- The records of what handles have, and an orchestrator that is made of them. This profile's own.
use Rattle.std.specs.Prelude.{◌≡◌, ℕ, ◌+◌, ◌^◌, Bool, false, List, [], ◌∷◌, Option, Some, None}
use Rattle.csi_types.specs.Model.Members.{IsAmong}
use Rattle.csi_controller.specs.Model.Core.{Shows}
use Rattle.csi_controller.specs.Model.State.{ControllerState}
use Rattle.csi_controller.specs.Public.Views.{RecordParts}
use Rattle.csi_node.specs.Model.Record.{NodeParts, Shows as NodeShows}
use Rattle.csi_node.specs.Model.State.{NodeState}
use Rattle.csi_orchestrator.specs.declared.fault.OrchFault.{OrchFault}
use Rattle.csi_orchestrator.specs.Public.Laws.{opened_parts}
use Rattle.csi_orchestrator.specs.Public.Record.{RecordParts as OrchestratorKept, AreNodesFit}
use Rattle.csi_stores.specs.Public.Part.{put_all}
use Rattle.csi_recovery.specs.declared.fault.RecoveryFault.{RecoveryFault}
use Rattle.csi_recovery.specs.declared.fault.RecoveryFault.TheVariants as faults
use Rattle.csi_recovery.specs.Public.Judged.{IsKeptOf, AreGiven, IsRecoveryRefusal}
use Rattle.csi_recovery.specs.Public.Recovered.{GivenNode, recovered, MayRecover}
use Rattle.csi_service.specs.Public.OrchestratorOpening.{opening_refusal}
use Rattle.csi_service.specs.Public.OrchestratorServices.{ServedOrchestrator}
use Rattle.csi_embedded.specs.declared.ending.CallEnding.{CallEnding}
use Rattle.csi_embedded.specs.declared.ending.CallEnding.TheVariants.{NoMemory, Empty, BadName, Refused, OtherKind, SameNode, NotLater, Disagrees, BadRow}
use Rattle.csi_embedded.specs.declared.embedded.Embedded.{Embedded}
use Rattle.csi_embedded.specs.declared.plugin.HeldPlugin.{HeldPlugin}
use Rattle.csi_embedded.specs.declared.plugin.HeldPlugin.TheVariants.{Controller, Node, Orchestrator}
use Rattle.csi_embedded.specs.Public.Calls.{told_changes}
use Rattle.csi_embedded.specs.Public.Plugins.{plugin_parts}
use Rattle.csi_embedded.specs.Public.Recovering.{is_node}

-- ---- records

-- it is the controller's record: of each state that the controller shows
abbrev pub IsControllerRecord : HeldPlugin → RecordParts → Type 0
IsControllerRecord (Controller service) kept = (state : ControllerState) → Shows service.plugin state → IsKeptOf kept state
IsControllerRecord (Node service) kept = ⊥
IsControllerRecord (Orchestrator service) kept = ⊥

-- it is the node's record: of its id, and of each state that the node shows
abbrev pub IsNodeRecord : HeldPlugin → NodeParts → Type 0
IsNodeRecord (Controller service) kept = ⊥
IsNodeRecord (Node service) kept = (kept.id ≡ service.plugin.id) × ((state : NodeState) → NodeShows service.plugin state → NodeShows kept state)
IsNodeRecord (Orchestrator service) kept = ⊥

-- why there is none: it is of another kind, or memory ran out
abbrev pub IsUnkept : (HeldPlugin → Bool) → HeldPlugin → CallEnding → Type 0
IsUnkept is plugin NoMemory = Unit {0}
IsUnkept is plugin OtherKind = is plugin ≡ false
IsUnkept is plugin _ = ⊥

-- ---- the same of handles

-- what the handle has has such a record
abbrev pub HasRecord : {Kept : Type 0} → (HeldPlugin → Kept → Type 0) → Option Embedded → Kept → Type 0
HasRecord Is None kept = ⊥
HasRecord Is (Some embedded) kept = Is embedded.plugin kept

-- why there is none: it has nothing, or none of that kind
abbrev pub HasNoRecord : (HeldPlugin → Bool) → Option Embedded → CallEnding → Type 0
HasNoRecord is None ending = ending ≡ Empty
HasNoRecord is (Some embedded) ending = IsUnkept is embedded.plugin ending

-- the nodes that the handles have have these records, one by one
abbrev pub HaveRecords : List (Option Embedded) → List NodeParts → Type 0
HaveRecords [] [] = Unit {0}
HaveRecords [] (kept ∷ others) = ⊥
HaveRecords (handle ∷ handles) [] = ⊥
HaveRecords (handle ∷ handles) (kept ∷ others) = HasRecord IsNodeRecord handle kept × HaveRecords handles others

-- why not all have one: some handle has nothing, or no node
abbrev pub HaveNoRecords : List (Option Embedded) → CallEnding → Type 0
HaveNoRecords handles NoMemory = Unit {0}
HaveNoRecords handles Empty = IsAmong None handles
HaveNoRecords handles OtherKind = (embedded : Embedded) × IsAmong (Some embedded) handles × (is_node embedded.plugin ≡ false)
HaveNoRecords handles _ = ⊥

-- ---- an orchestrator of records

-- this is so of each state and of all nodes of which the records are
abbrev pub OfRecords : RecordParts → List NodeParts → (ControllerState → List GivenNode → Type 0) → Type 0
OfRecords controller given Is = (state : ControllerState) (known : List GivenNode) → IsKeptOf controller state → AreGiven given known → Is state known

-- the orchestrator of these nodes, recovered of the records, in the session after this one; the store has to be given its whole record
pub record IsMadeOf (nodes : List (List ℕ)) (session : ℕ) (controller : RecordParts) (given : List NodeParts) (made : Embedded) : Type 0 where
  pub service : ServedOrchestrator
  pub is : made.plugin ≡ Orchestrator service
  pub may : OfRecords controller given (λ state known. MayRecover nodes session state known)
  pub has : OfRecords controller given (λ state known. service.orchestrator ≡ recovered nodes (session + 1) state known)
  pub told : told_changes made ≡ put_all (plugin_parts made.plugin)

-- why there is none
abbrev pub IsUnmadeOf : List (List ℕ) → ℕ → RecordParts → List NodeParts → ℕ → CallEnding → Type 0
IsUnmadeOf nodes session controller given place NoMemory = Unit {0}
IsUnmadeOf nodes session controller given place BadName = OfRecords controller given (λ state known. IsRecoveryRefusal nodes session state known faults.BadNodes)
IsUnmadeOf nodes session controller given place SameNode = OfRecords controller given (λ state known. IsRecoveryRefusal nodes session state known (faults.SameNode place))
IsUnmadeOf nodes session controller given place NotLater = OfRecords controller given (λ state known. IsRecoveryRefusal nodes session state known faults.NotLater)
IsUnmadeOf nodes session controller given place Disagrees = OfRecords controller given (λ state known. IsRecoveryRefusal nodes session state known (faults.Disagrees place))
IsUnmadeOf nodes session controller given place BadRow = OfRecords controller given (λ state known. IsRecoveryRefusal nodes session state known (faults.BadRow place))
IsUnmadeOf nodes session controller given place Refused = OfRecords controller given (λ state known. session + 1 ≡ 2 ^ 64)
IsUnmadeOf nodes session controller given place _ = ⊥

-- how a call ends for which nothing was recovered, and the place that it tells
abbrev pub EndsUnrecovered : RecoveryFault → ℕ → CallEnding → Type 0
EndsUnrecovered (faults.SameNode at) place ending = (ending ≡ SameNode) × (place ≡ at)
EndsUnrecovered faults.NotLater place ending = ending ≡ NotLater
EndsUnrecovered (faults.Disagrees at) place ending = (ending ≡ Disagrees) × (place ≡ at)
EndsUnrecovered faults.BadNodes place ending = ending ≡ BadName
EndsUnrecovered (faults.BadRow at) place ending = (ending ≡ BadRow) × (place ≡ at)
EndsUnrecovered faults.NoMemory place ending = ending ≡ NoMemory

-- the orchestrator of a record that no store has yet, with these nodes: the store has to be given all of it
pub record IsOpenedNew (kept : OrchestratorKept) (nodes : List (List ℕ)) (made : Embedded) : Type 0 where
  pub service : ServedOrchestrator
  pub is : made.plugin ≡ Orchestrator service
  pub has : service.orchestrator ≡ opened_parts kept nodes
  pub told : told_changes made ≡ put_all (plugin_parts made.plugin)

-- why there is none
abbrev pub IsNotOpenedNew : OrchestratorKept → List (List ℕ) → CallEnding → Type 0
IsNotOpenedNew kept nodes NoMemory = Unit {0}
IsNotOpenedNew kept nodes BadName = AreNodesFit nodes → ⊥
IsNotOpenedNew kept nodes Refused = (fault : OrchFault) × (opening_refusal kept nodes ≡ Some fault)
IsNotOpenedNew kept nodes _ = ⊥
