-- The controller's table: what it answers to a call that it carries out, and what changes. CSI's spec.md,
-- "CreateVolume", "DeleteVolume", "ControllerPublishVolume" and "ControllerUnpublishVolume", their error
-- tables and what they say of calls that come again. The limits and the details are this profile's own.
use Rattle.std.specs.Prelude.{ℕ, ◌+◌, ◌^◌, ◌==◌, List, [], ◌∷◌, ◌++◌, map, filter, find, length, Bool, true, false, not, ◌&&◌, ◌||◌, nat_lt, nat_le, Option, Some, None, if◌then◌else◌, codes}
use Rattle.std.specs.List.{list_all, list_any}
use Rattle.csi_types.specs.declared.rows.TheConstants.{MAX_ROWS}
use Rattle.csi_types.specs.declared.capability.Capability.{Capability}
use Rattle.csi_types.specs.declared.holding.Holding.{Holding}
use Rattle.csi_types.specs.declared.call.Call.{Call}
use Rattle.csi_types.specs.declared.call.Call.TheVariants as calls
use Rattle.csi_types.specs.declared.status.Status.{Status}
use Rattle.csi_types.specs.declared.status.Status.TheVariants.{InvalidArgument, NotFound, AlreadyExists, ResourceExhausted, FailedPrecondition, OutOfRange, Unimplemented}
use Rattle.csi_types.specs.declared.reply.Reply.{Reply}
use Rattle.csi_types.specs.Model.Capacity.{is_bad_range, is_empty_range, capacity_wanted}
use Rattle.csi_types.specs.Model.Config.{Config, has_node}
use Rattle.csi_fence.specs.Model.Fence.{Kept}
use Rattle.csi_types.specs.Model.Holding.{same_holding, is_compatible}
use Rattle.csi_types.specs.Model.Replies.{plain_reply, ok_reply, ok_reply_with}
use Rattle.csi_types.specs.Model.Same.{same_text, has_capability}
use Rattle.csi_controller.specs.Model.State.{Volume, ControllerState, volume_named, live_volume, holdings_of, is_held_at, holding_at, held_count_at}

-- what a call changes: nothing, or one thing
pub data Change : Type 0 where
  Stays : Change
  Makes : (name : List ℕ) (capacity : ℕ) (capabilities : List Capability) → Change
  Ends : (id : ℕ) → Change
  Attaches : (holding : Holding) → Change
  Detaches : (id : ℕ) (node : List ℕ) → Change

-- what the table answers, and what changes
pub record Outcome : Type 0 where
  pub reply : Reply
  pub change : Change

-- a status other than OK changes nothing
abbrev pub refused : Status → List ℕ → Outcome
refused status detail = record { reply = plain_reply status detail; change = Stays }

-- done already
abbrev pub met : Outcome
met = record { reply = ok_reply; change = Stays }

-- carried out, with this change
abbrev pub done : Change → Outcome
done change = record { reply = ok_reply; change = change }

-- a volume serves a request: its capacity is in the range, and it has each capability
abbrev pub serves : Volume → ℕ → ℕ → List Capability → Bool
serves volume required limit capabilities =
    nat_le required volume.capacity && ((limit == 0) || nat_le volume.capacity limit)
    && list_all (has_capability volume.capabilities) capabilities

-- what is wrong with the arguments of a CreateVolume, if anything is
abbrev pub argument_fault : ℕ → ℕ → List Capability → Option Outcome
argument_fault required limit [] = Some (refused InvalidArgument (codes "capabilities"))
argument_fault required limit (capability ∷ others) =
    if is_bad_range required limit then Some (refused InvalidArgument (codes "capacity"))
    else if is_empty_range required limit then Some (refused OutOfRange (codes "range"))
    else None

-- a fault, or else this
abbrev pub unless : Option Outcome → Outcome → Outcome
unless (Some fault) outcome = fault
unless None outcome = outcome

-- a new name, by the greatest capacity, how many volumes there are, and the id of the next one
abbrev pub create_new : ℕ → ℕ → ℕ → List ℕ → ℕ → ℕ → List Capability → Outcome
create_new greatest count next name required limit capabilities =
    if nat_lt greatest (capacity_wanted required limit) then refused OutOfRange (codes "range")
    else if nat_le MAX_ROWS count || nat_le (2 ^ 64) next then refused ResourceExhausted (codes "volumes")
    else record { reply = ok_reply_with next; change = Makes name (capacity_wanted required limit) capabilities }

-- good arguments: by the volume of the name, if there is one
abbrev pub create_named : Config → ControllerState → List ℕ → ℕ → ℕ → List Capability → Option Volume → Outcome
create_named config state name required limit capabilities (Some volume) =
    if not volume.is_live then refused AlreadyExists (codes "name")
    else if serves volume required limit capabilities then record { reply = ok_reply_with volume.id; change = Stays }
    else refused AlreadyExists (codes "name")
create_named config state name required limit capabilities None =
    create_new config.greatest (length state.volumes) state.next_id name required limit capabilities

-- CreateVolume, by its arguments
abbrev pub create : Config → ControllerState → List ℕ → ℕ → ℕ → List Capability → Outcome
create config state name required limit capabilities =
    unless (argument_fault required limit capabilities) (create_named config state name required limit capabilities (volume_named name state))

-- a live volume, by where it is attached
abbrev pub delete_live : ℕ → List Holding → Outcome
delete_live id (holding ∷ others) = refused FailedPrecondition holding.node
delete_live id [] = done (Ends id)

-- DeleteVolume, by where the volume is attached, and the live volume of the id
abbrev pub delete : ℕ → List Holding → Option Volume → Outcome
delete id held None = met
delete id held (Some volume) = delete_live id held

-- at a node that is configured, by whether it is full, where the volume is held, and the first holding that can't be held with it
abbrev pub attach : Bool → List Holding → Holding → Option Holding → Outcome
attach is_full held holding (Some other) = refused FailedPrecondition other.node
attach is_full held holding None =
    if is_full || nat_le 64 (length held) then refused ResourceExhausted (codes "slots")
    else done (Attaches holding)

-- by the holding that the volume has at that node
abbrev pub publish_held : Bool → List Holding → Holding → Option Holding → Outcome
publish_held is_full held holding (Some there) =
    if same_holding there holding then met else refused AlreadyExists (codes "held otherwise")
publish_held is_full held holding None =
    attach is_full held holding (find (λ other. not (is_compatible holding other)) held)

-- ControllerPublishVolume, by the live volume of the id
abbrev pub publish : Config → Bool → ControllerState → Holding → Option Volume → Outcome
publish config is_full state holding None = refused NotFound (codes "volume")
publish config is_full state holding (Some volume) =
    if not (has_node holding.node config.nodes) then refused NotFound (codes "node")
    else if not (has_capability volume.capabilities holding.capability) then refused InvalidArgument (codes "capability")
    else publish_held is_full (holdings_of holding.volume state) holding (holding_at holding.volume holding.node state)

-- ControllerUnpublishVolume, by the holding at that node
abbrev pub unpublish : ℕ → List ℕ → Option Holding → Outcome
unpublish id node (Some held) = done (Detaches id node)
unpublish id node None = met

-- the table, by which nodes are full: what it asks else of a state is of the call's volume, but where that is made. Its last four
-- lines make it total: no frame for the controller has a node's call
abbrev pub lifecycle_row : Config → (List ℕ → Bool) → ControllerState → Call → Outcome
lifecycle_row config is_full state (calls.CreateVolume name required limit capabilities) = create config state name required limit capabilities
lifecycle_row config is_full state (calls.DeleteVolume id) = delete id (holdings_of id state) (live_volume id state)
lifecycle_row config is_full state (calls.ControllerPublishVolume id node capability readonly) =
    publish config (is_full node) state (record { volume = id; node = node; capability = capability; readonly = readonly }) (live_volume id state)
lifecycle_row config is_full state (calls.ControllerUnpublishVolume id node) = unpublish id node (holding_at id node state)
lifecycle_row config is_full state (calls.NodeStageVolume id capability) = refused Unimplemented []
lifecycle_row config is_full state (calls.NodeUnstageVolume id) = refused Unimplemented []
lifecycle_row config is_full state (calls.NodePublishVolume id target capability readonly) = refused Unimplemented []
lifecycle_row config is_full state (calls.NodeUnpublishVolume id target) = refused Unimplemented []

-- the node takes no more volumes, if it is configured
abbrev pub is_full : Config → ControllerState → List ℕ → Bool
is_full config state node =
    list_any (λ entry. same_text entry.id node && nat_le entry.slots (held_count_at node state)) config.nodes

-- the table
abbrev pub controller_row : Config → ControllerState → Call → Outcome
controller_row config state call = lifecycle_row config (is_full config state) state call

-- the volume, deleted if it is the one of this id
abbrev pub ended_volume : ℕ → Volume → Volume
ended_volume id volume = if volume.id == id then record volume { is_live = false } else volume

-- the state after a change; a volume that is made keeps the call that made it
abbrev pub changed : ControllerState → Kept → Change → ControllerState
changed state kept Stays = state
changed state kept (Makes name capacity capabilities) =
    let volume : Volume = record { id = state.next_id; name = name; capacity = capacity; capabilities = capabilities; is_live = true; kept = kept } in
    record state { volumes = state.volumes ++ volume ∷ []; next_id = state.next_id + 1 }
changed state kept (Ends id) =
    record state { volumes = map (ended_volume id) state.volumes }
changed state kept (Attaches holding) = record state { holdings = state.holdings ++ holding ∷ [] }
changed state kept (Detaches id node) = record state { holdings = filter (λ holding. not (is_held_at id node holding)) state.holdings }
