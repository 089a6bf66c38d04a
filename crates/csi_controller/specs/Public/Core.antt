-- How a controller's parts are a state, and the rules of its rows.
use Rattle.std.specs.Prelude.{◌≡◌, ℕ, ◌<◌, ◌≤◌, ◌^◌, ◌==◌, List, [], ◌∷◌, length, true, false, if◌then◌else◌, IsTrue}
use Rattle.std.specs.List.{AllByRecursion}
use Rattle.csi_types.specs.Public.Places.{AtMostOne}
use Rattle.csi_types.specs.declared.rows.TheConstants.{MAX_ROWS}
use Rattle.csi_types.specs.declared.holding.Holding.{Holding}
use Rattle.csi_types.specs.declared.number.Number.{Number}
use Rattle.csi_types.specs.declared.call.Call.{Call}
use Rattle.csi_types.specs.declared.call.Call.TheVariants as calls
use Rattle.csi_types.specs.declared.call.Party.TheVariants.{Controller}
use Rattle.csi_types.specs.declared.status.Status.TheVariants.{Ok}
use Rattle.csi_types.specs.Public.Call.{is_party_of}
use Rattle.csi_types.specs.Model.Config.{Config}
use Rattle.csi_types.specs.Model.Holding.{is_compatible}
use Rattle.csi_types.specs.Public.Reply.{has_id_by_rule}
use Rattle.csi_types.specs.Model.Same.{same_text, has_capability}
use Rattle.csi_controller.specs.declared.row.NodeHolding.{NodeHolding}
use Rattle.csi_controller.specs.declared.row.ControllerRow.{ControllerRow}
use Rattle.csi_controller.specs.Model.State.{ControllerState}
use Rattle.csi_controller.specs.Model.Table.{controller_row}
use Rattle.csi_controller.specs.Public.Fenced.{in_session}
use Rattle.csi_controller.specs.Public.Laws.{IsLetThrough}
use Rattle.csi_controller.specs.Model.Shown.{volume_of_row}

-- the next id, where 0 stands for 2^64
abbrev pub next_shown : ℕ → ℕ
next_shown n = if n == 0 then 2 ^ 64 else n

-- each id is below the later ones
abbrev pub AreRisingRows : List ControllerRow → Type 0
AreRisingRows [] = Unit {0}
AreRisingRows (row ∷ rows) = AllByRecursion (λ (later : ControllerRow). row.id < later.id) rows × AreRisingRows rows

-- a holding of a row, as the volume's
abbrev pub volume_holding : ℕ → NodeHolding → Holding
volume_holding id held = record { volume = id; node = held.node; capability = held.capability; readonly = held.readonly }

-- each can be held with each earlier one
abbrev pub AreCompatible : List NodeHolding → Type 0
AreCompatible [] = Unit {0}
AreCompatible (held ∷ later) = AllByRecursion (λ (other : NodeHolding). is_compatible (volume_holding 1 other) (volume_holding 1 held) ≡ true) later × AreCompatible later

-- the rules of one row
pub record IsSoundRow (next_id : ℕ) (row : ControllerRow) : Type 0 where
  pub below : row.id < next_shown next_id
  pub party : IsTrue (is_party_of row.kind Controller)
  pub reply : IsTrue (has_id_by_rule row.kind row.reply)
  pub apart : (node : List ℕ) → AtMostOne (λ (held : NodeHolding). same_text held.node node) row.holdings.items
  pub compatible : AreCompatible row.holdings.items
  pub gone : row.live ≡ false → row.holdings.items ≡ []
  pub capacity_from : 1 ≤ row.capacity
  pub capacity_to : row.capacity < 2 ^ 63
  pub capable : 1 ≤ length row.capabilities
  pub listed : AllByRecursion (λ (held : NodeHolding). IsTrue (has_capability row.capabilities held.capability)) row.holdings.items
  pub limit : length row.holdings.items ≤ 64

-- the rules of all rows
pub record AreSoundRows (next_id : ℕ) (rows : List ControllerRow) : Type 0 where
  pub limit : length rows ≤ MAX_ROWS
  pub each : AllByRecursion (IsSoundRow next_id) rows
  pub rising : AreRisingRows rows
  pub names : (name : List ℕ) → AtMostOne (λ (row : ControllerRow). same_text row.name name) rows

-- a row's last call is of no later session than the greatest that came; and of that one, where the volume was deleted
pub record IsCurrentRow (session : ℕ) (row : ControllerRow) : Type 0 where
  pub before : row.last.session ≤ session
  pub gone : row.live ≡ false → row.last.session ≡ session

-- the rules of all rows, by the greatest session that came
abbrev pub IsCurrent : ℕ → List ControllerRow → Type 0
IsCurrent session rows = AllByRecursion (IsCurrentRow session) rows

-- a refusal leaves a row so
pub record IsSameRow (old new : ControllerRow) : Type 0 where
  pub volume : volume_of_row new ≡ volume_of_row old
  pub items : new.holdings.items ≡ old.holdings.items

-- the calls that take no memory where they are answered 0
abbrev pub IsUndoing : Call → Type 0
IsUndoing (calls.CreateVolume name required limit capabilities) = ⊥
IsUndoing (calls.DeleteVolume id) = Unit {0}
IsUndoing (calls.ControllerPublishVolume id node capability readonly) = ⊥
IsUndoing (calls.ControllerUnpublishVolume id node) = Unit {0}
IsUndoing (calls.NodeStageVolume id capability) = ⊥
IsUndoing (calls.NodeUnstageVolume id) = ⊥
IsUndoing (calls.NodePublishVolume id target capability readonly) = ⊥
IsUndoing (calls.NodeUnpublishVolume id target) = ⊥

-- the table answers the call with 0, in the state in which it is judged
abbrev pub IsAnsweredOk : Config → ControllerState → Number → Call → Type 0
IsAnsweredOk config state number call =
    IsLetThrough config state number call × ((controller_row config (in_session config number state) call).reply.status ≡ Ok)
