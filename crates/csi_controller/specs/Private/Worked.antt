-- Worked examples of the controller's table and fence, which the checker computes.
use Rattle.std.specs.Prelude.{◌≡◌, ℕ, List, [], ◌∷◌, ◌++◌, length, Bool, true, false, Option, Some, None, codes}
use Rattle.csi_types.specs.declared.number.Number.{Number}
use Rattle.csi_types.specs.declared.mode.Mode.{Mode}
use Rattle.csi_types.specs.declared.mode.Mode.TheVariants.{SingleNodeWriter, MultiNodeReaderOnly, MultiNodeSingleWriter}
use Rattle.csi_types.specs.declared.capability.Capability.{Capability}
use Rattle.csi_types.specs.declared.capability.Access.TheVariants.{Block}
use Rattle.csi_types.specs.declared.call.Call.{Call}
use Rattle.csi_types.specs.declared.call.Call.TheVariants.{CreateVolume, DeleteVolume, ControllerPublishVolume, ControllerUnpublishVolume}
use Rattle.csi_types.specs.declared.call.Party.TheVariants.{Controller}
use Rattle.csi_types.specs.declared.config.NodeSlots.{NodeSlots}
use Rattle.csi_types.specs.declared.reply.Reply.{Reply}
use Rattle.csi_types.specs.declared.status.Status.TheVariants.{NotFound, AlreadyExists, ResourceExhausted, FailedPrecondition, Aborted}
use Rattle.csi_types.specs.declared.frame.Body.{Body}
use Rattle.csi_types.specs.declared.frame.Body.TheVariants as bodies
use Rattle.csi_types.specs.Model.Config.{Config}
use Rattle.csi_types.specs.Model.Frame.{Frame}
use Rattle.csi_types.specs.Model.Replies.{plain_reply, ok_reply, ok_reply_with, call_frame}
use Rattle.csi_fence.specs.Public.Lawful.{after_call}
use Rattle.csi_controller.specs.Model.State.{ControllerState, empty_controller, holding_at}
use Rattle.csi_controller.specs.Model.Fenced.{fenced}
use Rattle.csi_controller.specs.Public.Fenced.{after_frames}
use Rattle.csi_controller.specs.Model.Shown.{RowsShow}
use Rattle.csi_controller.specs.Public.Laws.{ControllerTableLaw, plugin_with}

-- a block capability
abbrev pub block : Mode → Capability
block mode = record { access = Block; mode = mode }

-- a node with its slots
abbrev pub slots : List ℕ → ℕ → NodeSlots
slots id count = record { id = id; slots = count }

-- greatest 1,000, and nodes n1 to n4 with 4 slots each
abbrev pub four_nodes : Config
four_nodes = record { greatest = 1000; nodes = slots (codes "n1") 4 ∷ slots (codes "n2") 4 ∷ slots (codes "n3") 4 ∷ slots (codes "n4") 4 ∷ [] }

-- greatest 1,000, and node n1 with 1 slot
abbrev pub one_slot : Config
one_slot = record { greatest = 1000; nodes = slots (codes "n1") 1 ∷ [] }

-- the call of this number of a session
abbrev pub call_in_session : ℕ → ℕ → Call → Frame
call_in_session session call_number call = call_frame (record { session = session; call = call_number }) Controller call

-- of session 1
abbrev pub first_session_call : ℕ → Call → Frame
first_session_call call_number call = call_in_session 1 call_number call

-- the reply in a frame
abbrev pub reply_in_body : Body → List Reply
reply_in_body (bodies.Call call) = []
reply_in_body (bodies.Reply kind reply) = reply ∷ []

-- the reply in a frame, if there is one
abbrev pub reply_in : Option Frame → List Reply
reply_in None = []
reply_in (Some frame) = reply_in_body frame.body

-- the replies of a controller in this state to these frames, in order
abbrev pub replies_from : Config → ControllerState → List Frame → List Reply
replies_from config state [] = []
replies_from config state (frame ∷ frames) = reply_in (fenced config state frame).reply ++ replies_from config (fenced config state frame).state frames

-- the replies of a new controller
abbrev pub replies : Config → List Frame → List Reply
replies config frames = replies_from config empty_controller frames

-- creates v with 10 bytes and these capabilities
abbrev pub create_v : List Capability → Call
create_v capabilities = CreateVolume (codes "v") 10 0 capabilities

-- publishes volume 1
abbrev pub publish_call : List ℕ → Capability → Bool → Call
publish_call node capability readonly = ControllerPublishVolume 1 node capability readonly

-- in a mode for one node: a second node is refused, and told the first
pub record OneNodeRow : Type 0 where
  pub second_node : replies four_nodes (first_session_call 1 (create_v (block SingleNodeWriter ∷ [])) ∷ first_session_call 2 (publish_call (codes "n1") (block SingleNodeWriter) false) ∷ first_session_call 3 (publish_call (codes "n2") (block SingleNodeWriter) false) ∷ [])
      ≡ ok_reply_with 1 ∷ ok_reply ∷ plain_reply FailedPrecondition (codes "n1") ∷ []

-- the mode in which it is held counts too
pub record BothModesRow : Type 0 where
  pub second_node : replies four_nodes (first_session_call 1 (create_v (block SingleNodeWriter ∷ block MultiNodeReaderOnly ∷ [])) ∷ first_session_call 2 (publish_call (codes "n1") (block SingleNodeWriter) false) ∷ first_session_call 3 (publish_call (codes "n2") (block MultiNodeReaderOnly) false) ∷ [])
      ≡ ok_reply_with 1 ∷ ok_reply ∷ plain_reply FailedPrecondition (codes "n1") ∷ []

-- one writer among several nodes: the second is refused, and told the first
abbrev pub single_writer : Capability
single_writer = block MultiNodeSingleWriter

-- so it is among four nodes
pub record SingleWriterRow : Type 0 where
  pub second_writer : replies four_nodes (first_session_call 1 (create_v (single_writer ∷ [])) ∷ first_session_call 2 (publish_call (codes "n1") single_writer true) ∷ first_session_call 3 (publish_call (codes "n2") single_writer true)
      ∷ first_session_call 4 (publish_call (codes "n3") single_writer false) ∷ first_session_call 5 (publish_call (codes "n4") single_writer false) ∷ [])
      ≡ ok_reply_with 1 ∷ ok_reply ∷ ok_reply ∷ ok_reply ∷ plain_reply FailedPrecondition (codes "n3") ∷ []

-- the only slot is taken, and a node that isn't configured
pub record SlotsRow : Type 0 where
  pub second_volume : replies one_slot (first_session_call 1 (create_v (block SingleNodeWriter ∷ [])) ∷ first_session_call 2 (publish_call (codes "n1") (block SingleNodeWriter) false)
      ∷ first_session_call 3 (CreateVolume (codes "w") 10 0 (block SingleNodeWriter ∷ [])) ∷ first_session_call 4 (ControllerPublishVolume 2 (codes "n1") (block SingleNodeWriter) false) ∷ [])
      ≡ ok_reply_with 1 ∷ ok_reply ∷ ok_reply_with 2 ∷ plain_reply ResourceExhausted (codes "slots") ∷ []
  pub unknown_node : replies one_slot (first_session_call 1 (create_v (block SingleNodeWriter ∷ [])) ∷ first_session_call 2 (publish_call (codes "n2") (block SingleNodeWriter) false) ∷ [])
      ≡ ok_reply_with 1 ∷ plain_reply NotFound (codes "node") ∷ []

-- a name that was created is found again where it serves, and is spent for its session once it is deleted
pub record NameRow : Type 0 where
  pub created_again : replies four_nodes (first_session_call 1 (create_v (block SingleNodeWriter ∷ [])) ∷ first_session_call 2 (CreateVolume (codes "v") 5 20 (block SingleNodeWriter ∷ []))
      ∷ first_session_call 3 (CreateVolume (codes "v") 11 0 (block SingleNodeWriter ∷ [])) ∷ first_session_call 4 (DeleteVolume 1) ∷ first_session_call 5 (create_v (block SingleNodeWriter ∷ [])) ∷ [])
      ≡ ok_reply_with 1 ∷ ok_reply_with 1 ∷ plain_reply AlreadyExists (codes "name") ∷ ok_reply ∷ plain_reply AlreadyExists (codes "name") ∷ []

-- an earlier number is stale, the last one gets the kept reply, and neither does anything
pub record FenceRow : Type 0 where
  pub repeated : replies four_nodes (first_session_call 1 (create_v (block SingleNodeWriter ∷ [])) ∷ first_session_call 2 (publish_call (codes "n1") (block SingleNodeWriter) false)
      ∷ first_session_call 2 (ControllerUnpublishVolume 1 (codes "n1")) ∷ first_session_call 1 (create_v (block SingleNodeWriter ∷ [])) ∷ first_session_call 3 (DeleteVolume 1) ∷ [])
      ≡ ok_reply_with 1 ∷ ok_reply ∷ ok_reply ∷ plain_reply Aborted (codes "stale") ∷ plain_reply FailedPrecondition (codes "n1") ∷ []

-- v was deleted in session 1, and session 2 has begun with another volume
abbrev pub two_sessions : List Frame
two_sessions = call_in_session 1 1 (create_v (block SingleNodeWriter ∷ [])) ∷ call_in_session 1 2 (DeleteVolume 1) ∷ call_in_session 2 1 (CreateVolume (codes "w") 10 0 (block SingleNodeWriter ∷ [])) ∷ []

-- v is forgotten then: a call of session 1 is stale, though it was the last one for v, and v is made anew under the next id
pub record SessionRow : Type 0 where
  pub one_volume : length (after_frames four_nodes empty_controller two_sessions).volumes ≡ 1
  pub session : (after_frames four_nodes empty_controller two_sessions).session ≡ 2
  pub made_anew : replies four_nodes (two_sessions ++ call_in_session 1 2 (DeleteVolume 1) ∷ call_in_session 2 2 (create_v (block SingleNodeWriter ∷ [])) ∷ [])
      ≡ ok_reply_with 1 ∷ ok_reply ∷ ok_reply_with 2 ∷ plain_reply Aborted (codes "stale") ∷ ok_reply_with 3 ∷ []

-- a controller that has answered nothing is shown by a record without rows, whose next id is 1
abbrev pub EmptyIsShown : Type 0
EmptyIsShown = RowsShow 1 [] empty_controller

-- v was made, to be used by a single writer at several nodes
abbrev pub made_v : List Frame
made_v = first_session_call 1 (create_v (single_writer ∷ [])) ∷ []

-- the second call of session 1
abbrev pub second : Number
second = record { session = 1; call = 2 }

-- publishes v readonly
abbrev pub publish_v : Call
publish_v = publish_call (codes "n1") single_writer true

-- what the laws tell of a publish of the new volume: it is held as asked
abbrev pub LawsTellPublish : Type 0
LawsTellPublish =
    ControllerTableLaw
    → holding_at 1 (codes "n1") (after_call (plugin_with four_nodes) (after_frames four_nodes empty_controller made_v) second publish_v)
    ≡ Some (record { volume = 1; node = codes "n1"; capability = single_writer; readonly = true })
