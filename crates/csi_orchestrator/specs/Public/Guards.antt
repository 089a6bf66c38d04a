-- Which calls may be sent: CSI's spec.md, "Volume Lifecycle" and the calls' own sections (each call comes after
-- the success of the one before it, and before the undoing of that one).
use Rattle.std.specs.Prelude.{◌≡◌, ◌≢◌, ℕ, List, Some, None}
use Rattle.csi_types.specs.declared.capability.Capability.{Capability}
use Rattle.csi_types.specs.declared.holding.Holding.{Holding}
use Rattle.csi_types.specs.declared.call.Call.{Call}
use Rattle.csi_types.specs.declared.call.Call.TheVariants as calls
use Rattle.csi_types.specs.declared.call.Party.{Party}
use Rattle.csi_types.specs.declared.call.Party.TheVariants.{Controller, Node}
use Rattle.csi_types.specs.Public.Holding.{CanHoldBoth}
use Rattle.csi_orchestrator.specs.declared.thing.Thing.TheVariants.{Exists, Attached, Staged, Published}
use Rattle.csi_orchestrator.specs.declared.thing.Known.TheVariants.{Yes, No}
use Rattle.csi_orchestrator.specs.Model.History.{Held, History}
use Rattle.csi_orchestrator.specs.Model.Readings.{known, id_of, held, open_call}

-- how a volume is held at a node, as a holding
abbrev pub holding_by : ℕ → List ℕ → Held → Holding
holding_by id node held = record { volume = id; node = node; capability = held.capability; readonly = held.readonly }

-- wherever else the volume may be attached, it is held so that it can be held here too
abbrev pub CanBeHeldToo : History → List ℕ → ℕ → List ℕ → Held → Type 0
CanBeHeldToo history name id node here =
    (other : List ℕ) (there : Held) → other ≢ node → known history (Attached name other) ≢ No → held history name other ≡ Some there
    → CanHoldBoth (holding_by id other there) (holding_by id node here)

-- what a call of a name needs, beside its id: CreateVolume
pub record MayCreate (history : History) (name create : List ℕ) : Type 0 where
  pub own_name : create ≡ name
  pub not_made : known history (Exists name) ≢ Yes
  pub no_id : id_of history name ≡ None

-- DeleteVolume
pub record MayDelete (history : History) (name : List ℕ) : Type 0 where
  pub made : known history (Exists name) ≢ No
  pub detached : (node : List ℕ) → known history (Attached name node) ≡ No

-- ControllerPublishVolume
pub record MayAttach (history : History) (name : List ℕ) (id : ℕ) (node : List ℕ) (here : Held) : Type 0 where
  pub made : known history (Exists name) ≡ Yes
  pub not_attached : known history (Attached name node) ≢ Yes
  pub shared : CanBeHeldToo history name id node here

-- ControllerUnpublishVolume
pub record MayDetach (history : History) (name node : List ℕ) : Type 0 where
  pub not_staged : known history (Staged name node) ≡ No

-- NodeStageVolume
pub record MayStage (history : History) (name node : List ℕ) (capability : Capability) : Type 0 where
  pub attached : known history (Attached name node) ≡ Yes
  pub not_staged : known history (Staged name node) ≢ Yes
  pub as_held : (here : Held) × (held history name node ≡ Some here) × (here.capability ≡ capability)

-- NodeUnstageVolume
pub record MayUnstage (history : History) (name node : List ℕ) : Type 0 where
  pub not_published : (target : List ℕ) → known history (Published name node target) ≡ No

-- NodePublishVolume
pub record MayPublish (history : History) (name node target : List ℕ) (here : Held) : Type 0 where
  pub staged : known history (Staged name node) ≡ Yes
  pub not_published : known history (Published name node target) ≢ Yes
  pub as_held : held history name node ≡ Some here

-- the id that the call carries is the volume's
abbrev pub HasId : History → List ℕ → ℕ → Type 0
HasId history name id = id_of history name ≡ Some id

-- what a call to this plugin needs, its id included
abbrev pub IsGuarded : History → List ℕ → Party → Call → Type 0
IsGuarded history name Controller (calls.CreateVolume create required limit capabilities) = MayCreate history name create
IsGuarded history name Controller (calls.DeleteVolume id) = HasId history name id × MayDelete history name
IsGuarded history name Controller (calls.ControllerPublishVolume id node capability readonly) =
    HasId history name id × MayAttach history name id node (record { capability = capability; readonly = readonly })
IsGuarded history name Controller (calls.ControllerUnpublishVolume id node) = HasId history name id × MayDetach history name node
IsGuarded history name (Node node) (calls.NodeStageVolume id capability) = HasId history name id × MayStage history name node capability
IsGuarded history name (Node node) (calls.NodeUnstageVolume id) = HasId history name id × MayUnstage history name node
IsGuarded history name (Node node) (calls.NodePublishVolume id target capability readonly) =
    HasId history name id × MayPublish history name node target (record { capability = capability; readonly = readonly })
IsGuarded history name (Node node) (calls.NodeUnpublishVolume id target) = HasId history name id
IsGuarded history name party call = ⊥

-- no call of the name is open, and the call is guarded
pub record MayIssue (history : History) (name : List ℕ) (party : Party) (call : Call) : Type 0 where
  pub none_open : open_call history name ≡ None
  pub guarded : IsGuarded history name party call
