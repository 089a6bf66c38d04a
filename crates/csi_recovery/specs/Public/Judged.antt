-- What a recovery is made of, by the states that the plugins' records show, and why it is refused. This profile's own.
use Rattle.std.specs.Prelude.{◌≡◌, ◌≢◌, ℕ, ◌-◌, ◌<◌, ◌≤◌, List, [], ◌∷◌, length, take, slice_get, true, false, Some}
use Rattle.std.specs.List.{list_any}
use Rattle.csi_types.specs.Model.Members.{IsAmong, EachTwo}
use Rattle.csi_types.specs.Public.Places.{AtMostOne}
use Rattle.csi_types.specs.Model.Same.{same_text}
use Rattle.csi_controller.specs.Model.State.{ControllerState}
use Rattle.csi_controller.specs.Model.Shown.{RowsShow}
use Rattle.csi_controller.specs.Public.Views as controller
use Rattle.csi_node.specs.Model.Record.{NodeParts, Shows}
use Rattle.csi_orchestrator.specs.declared.thing.Known.TheVariants.{No}
use Rattle.csi_orchestrator.specs.Model.Shown.{NodeEntryShown, RowShown, OrchestratorParts}
use Rattle.csi_orchestrator.specs.Public.Judging.{IsFirstRefused}
use Rattle.csi_orchestrator.specs.Public.Record.{RecordParts, AreNodesFit}
use Rattle.csi_orchestrator.specs.Public.Restored.{AreRestorable}
use Rattle.csi_recovery.specs.Public.Recovered.{GivenNode, is_maybe, recovered_rows, Agree}
use Rattle.csi_recovery.specs.declared.fault.RecoveryFault.{RecoveryFault}
use Rattle.csi_recovery.specs.declared.fault.RecoveryFault.TheVariants.{SameNode, NotLater, Disagrees, BadNodes, BadRow, NoMemory}

-- the controller's record is of this state
pub record IsKeptOf (kept : controller.RecordParts) (state : ControllerState) : Type 0 where
  pub shows : RowsShow kept.next_id kept.rows state
  pub session : kept.session ≡ state.session

-- a node's record is of this node
pub record IsGiven (kept : NodeParts) (node : GivenNode) : Type 0 where
  pub id : node.id ≡ kept.id
  pub shows : Shows kept node.state

-- the nodes' records are of these nodes, one by one
abbrev pub AreGiven : List NodeParts → List GivenNode → Type 0
AreGiven [] [] = Unit {0}
AreGiven [] (node ∷ nodes) = ⊥
AreGiven (kept ∷ others) [] = ⊥
AreGiven (kept ∷ others) (node ∷ nodes) = IsGiven kept node × AreGiven others nodes

-- an orchestrator's record, from which one with these parts is opened
abbrev pub record_of : OrchestratorParts → RecordParts
record_of parts = record { nodes = parts.nodes; session = parts.last.session; rows = parts.rows }

-- no two stores are of one node
abbrev pub HaveDistinctNodes : List GivenNode → Type 0
HaveDistinctNodes given = EachTwo (λ (a b : GivenNode). same_text a.id b.id ≡ false) given

-- the session is later than the controller's, and than each node's
pub record IsLater (session : ℕ) (controller : ControllerState) (given : List GivenNode) : Type 0 where
  pub after_controller : controller.session < session
  pub after_nodes : (node : GivenNode) → IsAmong node given → node.state.session < session

-- each store agrees with the controller's
abbrev pub DoAgree : ControllerState → List GivenNode → Type 0
DoAgree controller given = (node : GivenNode) → IsAmong node given → Agree controller node

-- the stores are fit for a recovery in this session, whatever the rows are
pub record AreFit (session : ℕ) (controller : ControllerState) (given : List GivenNode) : Type 0 where
  pub apart : HaveDistinctNodes given
  pub later : IsLater session controller given
  pub agree : DoAgree controller given

-- the store at this place, counted from 1: those before it keep this rule, and with it they don't
pub record IsFirst (Rule : List GivenNode → Type 0) (given : List GivenNode) (place : ℕ) : Type 0 where
  pub from : 1 ≤ place
  pub to : place ≤ length given
  pub before : Rule (take (place - 1) given)
  pub refused : Rule (take place given) → ⊥

-- a row of a volume that an orchestrator may have, where the stores are fit: the volume is staged at listed nodes only, and staged and
-- published nowhere at one of them at most
pub record IsFreeRow (nodes : List (List ℕ)) (row : RowShown) : Type 0 where
  pub listed : (entry : NodeEntryShown) → IsAmong entry row.node_entries → entry.staged ≢ No → list_any (same_text entry.node) nodes ≡ true
  pub once : AtMostOne (λ (entry : NodeEntryShown). is_maybe entry.staged) row.node_entries

-- the row at this place, counted from 1, isn't one
pub record IsNotFree (nodes : List (List ℕ)) (rows : List RowShown) (place : ℕ) : Type 0 where
  pub row : RowShown
  pub there : slice_get rows (place - 1) ≡ Some row
  pub not_free : IsFreeRow nodes row → ⊥

-- why the stores are unfit for it: the first of these that holds
abbrev pub IsUnfit : ℕ → ControllerState → List GivenNode → RecoveryFault → Type 0
IsUnfit session controller given (SameNode place) = IsFirst HaveDistinctNodes given place
IsUnfit session controller given NotLater = HaveDistinctNodes given × (IsLater session controller given → ⊥)
IsUnfit session controller given (Disagrees place) = HaveDistinctNodes given × IsLater session controller given × IsFirst (DoAgree controller) given place
IsUnfit session controller given BadNodes = ⊥
IsUnfit session controller given (BadRow place) = ⊥
IsUnfit session controller given NoMemory = ⊥

-- why nothing is recovered: the stores are unfit; or they are fit, and the nodes or the rows aren't an orchestrator's; an allocation may be
-- refused for any that are fit
abbrev pub IsRecoveryRefusal : List (List ℕ) → ℕ → ControllerState → List GivenNode → RecoveryFault → Type 0
IsRecoveryRefusal nodes session controller given (SameNode place) = IsUnfit session controller given (SameNode place)
IsRecoveryRefusal nodes session controller given NotLater = IsUnfit session controller given NotLater
IsRecoveryRefusal nodes session controller given (Disagrees place) = IsUnfit session controller given (Disagrees place)
IsRecoveryRefusal nodes session controller given BadNodes = AreFit session controller given × (AreNodesFit nodes → ⊥)
IsRecoveryRefusal nodes session controller given (BadRow place) =
    AreFit session controller given × AreNodesFit nodes × IsFirstRefused (AreRestorable nodes) (recovered_rows controller given) place
    × IsNotFree nodes (recovered_rows controller given) place
IsRecoveryRefusal nodes session controller given NoMemory = AreFit session controller given
