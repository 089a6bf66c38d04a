-- An orchestrator that is made of what the plugins of handles keep, after its own store was lost; and the session of a recovery. This profile's own.
use Rattle.std.specs.Prelude.{◌≡◌, ◌⊎◌, ℕ, ◌+◌, ◌^◌, Bool, true, false, List, [], ◌∷◌, map, Option, Some, None}
use Rattle.csi_types.specs.Model.Members.{IsAmong}
use Rattle.csi_controller.specs.Model.Core.{Shows}
use Rattle.csi_controller.specs.Model.State.{ControllerState}
use Rattle.csi_node.specs.Model.Record.{Shows as NodeShows}
use Rattle.csi_stores.specs.Public.Part.{put_all}
use Rattle.csi_recovery.specs.declared.fault.RecoveryFault.{RecoveryFault}
use Rattle.csi_recovery.specs.declared.fault.RecoveryFault.TheVariants as faults
use Rattle.csi_recovery.specs.Public.Judged.{IsRecoveryRefusal}
use Rattle.csi_recovery.specs.Public.Recovered.{GivenNode, recovered, MayRecover}
use Rattle.csi_recovery.specs.Public.Session.{recovery_session}
use Rattle.csi_service.specs.Public.OrchestratorServices.{ServedOrchestrator}
use Rattle.csi_embedded.specs.declared.ending.CallEnding.{CallEnding}
use Rattle.csi_embedded.specs.declared.ending.CallEnding.TheVariants.{Done, NoMemory, Empty, BadName, Refused, OtherKind, SameNode, NotLater, Disagrees, BadRow}
use Rattle.csi_embedded.specs.declared.embedded.Embedded.{Embedded}
use Rattle.csi_embedded.specs.declared.handle.Handle.{Handle}
use Rattle.csi_embedded.specs.declared.plugin.HeldPlugin.{HeldPlugin}
use Rattle.csi_embedded.specs.declared.plugin.HeldPlugin.TheVariants.{Controller, Node, Orchestrator}
use Rattle.csi_embedded.specs.Public.Calls.{told_changes}
use Rattle.csi_embedded.specs.Public.Endings.{ending_number}
use Rattle.csi_embedded.specs.Public.OrchestratorMaking.{AreNodesOf, IsNoNodes}
use Rattle.csi_embedded.specs.Public.Plugins.{plugin_parts}

-- ---- what the handles have

-- what the handles of a list have, in order
abbrev pub had_by : List Handle → List (Option Embedded)
had_by handles = map (λ handle. handle.held.embedded) handles

-- whether it is a controller
abbrev pub is_controller : HeldPlugin → Bool
is_controller (Controller service) = true
is_controller (Node service) = false
is_controller (Orchestrator service) = false

-- whether it is a node
abbrev pub is_node : HeldPlugin → Bool
is_node (Controller service) = false
is_node (Node service) = true
is_node (Orchestrator service) = false

-- it is a controller of this state
abbrev pub ShowsController : HeldPlugin → ControllerState → Type 0
ShowsController (Controller service) state = Shows service.plugin state
ShowsController (Node service) state = ⊥
ShowsController (Orchestrator service) state = ⊥

-- it is this node
abbrev pub ShowsNode : HeldPlugin → GivenNode → Type 0
ShowsNode (Controller service) node = ⊥
ShowsNode (Node service) node = (node.id ≡ service.plugin.id) × NodeShows service.plugin node.state
ShowsNode (Orchestrator service) node = ⊥

-- the handle has it
abbrev pub HasController : Option Embedded → ControllerState → Type 0
HasController None state = ⊥
HasController (Some embedded) state = ShowsController embedded.plugin state

-- the handle has this node
abbrev pub HasNode : Option Embedded → GivenNode → Type 0
HasNode None node = ⊥
HasNode (Some embedded) node = ShowsNode embedded.plugin node

-- the handles have these nodes, one by one
abbrev pub HaveNodes : List (Option Embedded) → List GivenNode → Type 0
HaveNodes [] [] = Unit {0}
HaveNodes [] (node ∷ nodes) = ⊥
HaveNodes (handle ∷ handles) [] = ⊥
HaveNodes (handle ∷ handles) (node ∷ nodes) = HasNode handle node × HaveNodes handles nodes

-- this is so of all of them
abbrev pub OfThese : Option Embedded → List (Option Embedded) → (ControllerState → List GivenNode → Type 0) → Type 0
OfThese controller nodes Is = (state : ControllerState) (given : List GivenNode) → HasController controller state → HaveNodes nodes given → Is state given

-- some handle has nothing
abbrev pub IsSomeEmpty : Option Embedded → List (Option Embedded) → Type 0
IsSomeEmpty controller nodes = (controller ≡ None) ⊎ IsAmong None nodes

-- some handle has something else: the one no controller, or another no node
abbrev pub IsSomeOther : Option Embedded → List (Option Embedded) → Type 0
IsSomeOther controller nodes =
    (embedded : Embedded) × (((controller ≡ Some embedded) × (is_controller embedded.plugin ≡ false)) ⊎ (IsAmong (Some embedded) nodes × (is_node embedded.plugin ≡ false)))

-- ---- the session

-- that of the recovery, by all that was heard of; or there is none left
abbrev pub TellsSession : ℕ → Option Embedded → List (Option Embedded) → ℕ → CallEnding → Type 0
TellsSession known controller nodes session Done = OfThese controller nodes (λ state given. recovery_session known state given ≡ Some session)
TellsSession known controller nodes session Refused = OfThese controller nodes (λ state given. recovery_session known state given ≡ None)
TellsSession known controller nodes session NoMemory = Unit {0}
TellsSession known controller nodes session Empty = IsSomeEmpty controller nodes
TellsSession known controller nodes session OtherKind = IsSomeOther controller nodes
TellsSession known controller nodes session _ = ⊥

-- and the number is that of the ending
pub record HasSession (known : ℕ) (controller : Option Embedded) (nodes : List (Option Embedded)) (session number : ℕ) : Type 0 where
  pub ending : CallEnding
  pub is : number ≡ ending_number ending
  pub tells : TellsSession known controller nodes session ending

-- ---- the orchestrator

-- The orchestrator of the nodes that the text says, recovered of what the handles have, in the session after this one; nothing is in the way of
-- that. The store has to be given its whole record.
pub record IsRecovered (text : List ℕ) (session : ℕ) (controller : Option Embedded) (nodes : List (Option Embedded)) (made : Embedded) : Type 0 where
  pub service : ServedOrchestrator
  pub is : made.plugin ≡ Orchestrator service
  pub listed : List (List ℕ)
  pub said : AreNodesOf text listed
  pub may : OfThese controller nodes (λ state given. MayRecover listed session state given)
  pub has : OfThese controller nodes (λ state given. service.orchestrator ≡ recovered listed (session + 1) state given)
  pub told : told_changes made ≡ put_all (plugin_parts made.plugin)

-- why none is recovered: this, by what the handles have and the nodes that the text says
pub record IsRecoveryRefused (fault : RecoveryFault) (text : List ℕ) (session : ℕ) (controller : Option Embedded) (nodes : List (Option Embedded)) : Type 0 where
  pub listed : List (List ℕ)
  pub said : AreNodesOf text listed
  pub refused : OfThese controller nodes (λ state given. IsRecoveryRefusal listed session state given fault)

-- or no nodes are said; or some handle hasn't what it should; or the session is the last one
abbrev pub IsNotRecovered : List ℕ → ℕ → Option Embedded → List (Option Embedded) → ℕ → CallEnding → Type 0
IsNotRecovered text session controller nodes place NoMemory = Unit {0}
IsNotRecovered text session controller nodes place BadName = IsNoNodes text BadName ⊎ IsRecoveryRefused faults.BadNodes text session controller nodes
IsNotRecovered text session controller nodes place Empty = IsSomeEmpty controller nodes
IsNotRecovered text session controller nodes place OtherKind = IsSomeOther controller nodes
IsNotRecovered text session controller nodes place SameNode = IsRecoveryRefused (faults.SameNode place) text session controller nodes
IsNotRecovered text session controller nodes place NotLater = IsRecoveryRefused faults.NotLater text session controller nodes
IsNotRecovered text session controller nodes place Disagrees = IsRecoveryRefused (faults.Disagrees place) text session controller nodes
IsNotRecovered text session controller nodes place BadRow = IsRecoveryRefused (faults.BadRow place) text session controller nodes
IsNotRecovered text session controller nodes place Refused = OfThese controller nodes (λ state given. session + 1 ≡ 2 ^ 64)
IsNotRecovered text session controller nodes place _ = ⊥
