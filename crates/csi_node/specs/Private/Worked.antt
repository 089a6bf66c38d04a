-- Worked examples of the node's table and fence, which the checker computes, and the law of a full node.
use Rattle.std.specs.Prelude.{◌≡◌, ◌≤◌, ℕ, List, [], ◌∷◌, ◌++◌, map, length, Bool, true, false, Option, Some, None, codes, replicate}
use Rattle.std.specs.List.{range_with_len}
use Rattle.csi_types.specs.declared.rows.TheConstants.{MAX_ROWS}
use Rattle.csi_types.specs.declared.number.Number.{Number}
use Rattle.csi_types.specs.declared.mode.Mode.{Mode}
use Rattle.csi_types.specs.declared.mode.Mode.TheVariants.{SingleNodeWriter, MultiNodeMultiWriter}
use Rattle.csi_types.specs.declared.capability.Capability.{Capability}
use Rattle.csi_types.specs.declared.capability.Access.TheVariants.{Block}
use Rattle.csi_types.specs.declared.call.Call.{Call}
use Rattle.csi_types.specs.declared.call.Call.TheVariants.{NodeStageVolume, NodeUnstageVolume, NodePublishVolume}
use Rattle.csi_types.specs.declared.call.Kind.TheVariants as kinds
use Rattle.csi_types.specs.declared.call.Party.TheVariants.{Node}
use Rattle.csi_types.specs.declared.reply.Reply.{Reply}
use Rattle.csi_types.specs.declared.status.Status.TheVariants.{InvalidArgument, AlreadyExists, ResourceExhausted, FailedPrecondition, Aborted}
use Rattle.csi_types.specs.declared.frame.Body.{Body}
use Rattle.csi_types.specs.declared.frame.Body.TheVariants as bodies
use Rattle.csi_types.specs.Model.Call.{kind_of}
use Rattle.csi_types.specs.Model.Frame.{Frame}
use Rattle.csi_types.specs.Model.Replies.{plain_reply, ok_reply, call_frame, reply_frame}
use Rattle.csi_node.specs.Model.State.{NodeState, AnsweredVolume, joined_node, staged_of, published_at, row_for}
use Rattle.csi_node.specs.Public.View.{empty_node}
use Rattle.csi_node.specs.Model.Fenced.{fenced}
use Rattle.csi_node.specs.Public.Fenced.{after_frames}
use Rattle.csi_node.specs.Model.Shown.{RowsShow}
use Rattle.csi_node.specs.Public.Laws.{NodeTableLaw}
use Rattle.csi_node.specs.Private.Laws.{state_after}

-- a block capability
abbrev pub block : Mode → Capability
block mode = record { access = Block; mode = mode }

-- the number of a call of session 1
abbrev pub number : ℕ → Number
number call = record { session = 1; call = call }

-- the call of this number of session 1, for node n1
abbrev pub first_session_call : ℕ → Call → Frame
first_session_call call_number call = call_frame (number call_number) (Node (codes "n1")) call

-- the first call of session 2, for node n1
abbrev pub second_session : Call → Frame
second_session call = call_frame (record { session = 2; call = 1 }) (Node (codes "n1")) call

-- the kind and the reply in a frame
abbrev pub reply_in_body : Body → List Reply
reply_in_body (bodies.Call call) = []
reply_in_body (bodies.Reply kind reply) = reply ∷ []

-- the reply in a frame, if there is one
abbrev pub reply_in : Option Frame → List Reply
reply_in None = []
reply_in (Some frame) = reply_in_body frame.body

-- the replies of node n1 in this state to these frames, in order
abbrev pub replies_from : NodeState → List Frame → List Reply
replies_from state [] = []
replies_from state (frame ∷ frames) =
    reply_in (fenced (codes "n1") state frame).reply ++ replies_from (fenced (codes "n1") state frame).state frames

-- the replies of a new node n1
abbrev pub replies : List Frame → List Reply
replies frames = replies_from empty_node frames

-- volume 1
abbrev pub publish_call : List ℕ → Mode → Bool → Call
publish_call target mode readonly = NodePublishVolume 1 target (block mode) readonly

-- in a mode for one node: the same target again, with other arguments, and another target
pub record OneTargetRow : Type 0 where
  pub answers : replies (first_session_call 1 (NodeStageVolume 1 (block SingleNodeWriter)) ∷ first_session_call 2 (publish_call (codes "/a") SingleNodeWriter false)
      ∷ first_session_call 2 (publish_call (codes "/a") SingleNodeWriter false) ∷ first_session_call 3 (publish_call (codes "/a") SingleNodeWriter false)
      ∷ first_session_call 4 (publish_call (codes "/a") SingleNodeWriter true) ∷ first_session_call 5 (publish_call (codes "/b") SingleNodeWriter false)
      ∷ first_session_call 6 (publish_call (codes "b") SingleNodeWriter false) ∷ first_session_call 7 (NodeUnstageVolume 1) ∷ [])
      ≡ ok_reply ∷ ok_reply ∷ ok_reply ∷ ok_reply ∷ plain_reply AlreadyExists (codes "published otherwise")
      ∷ plain_reply FailedPrecondition (codes "/a") ∷ plain_reply InvalidArgument (codes "target") ∷ plain_reply FailedPrecondition (codes "/a") ∷ []

-- in a mode for several nodes a second target is fine
pub record TwoTargetsRow : Type 0 where
  pub answers : replies (first_session_call 1 (NodeStageVolume 1 (block MultiNodeMultiWriter)) ∷ first_session_call 2 (publish_call (codes "/a") MultiNodeMultiWriter false)
      ∷ first_session_call 3 (publish_call (codes "/b") MultiNodeMultiWriter false) ∷ [])
      ≡ ok_reply ∷ ok_reply ∷ ok_reply ∷ []

-- the calls that publish volume 1 at 17 targets, under numbers 97 to 113
abbrev pub seventeen_targets : List Frame
seventeen_targets = map (λ byte. first_session_call byte (publish_call (47 ∷ byte ∷ []) MultiNodeMultiWriter false)) (range_with_len 97 17)

-- sixteen targets are given, and the next one is refused
pub record ManyTargetsRow : Type 0 where
  pub answers : replies (first_session_call 1 (NodeStageVolume 1 (block MultiNodeMultiWriter)) ∷ seventeen_targets)
      ≡ ok_reply ∷ replicate 16 ok_reply ++ plain_reply ResourceExhausted (codes "targets") ∷ []

-- an undoing call opens a row, so that the call which it undid does nothing when it comes late
abbrev pub late_stage : List Frame
late_stage = first_session_call 6 (NodeUnstageVolume 1) ∷ first_session_call 3 (NodeStageVolume 1 (block SingleNodeWriter)) ∷ []

-- so it is with a NodeStageVolume that comes after its NodeUnstageVolume
pub record LateStageRow : Type 0 where
  pub answers : replies late_stage ≡ ok_reply ∷ plain_reply Aborted (codes "stale") ∷ []
  pub not_staged : staged_of 1 (after_frames (codes "n1") empty_node late_stage) ≡ None

-- a refusal opens a row too, and keeps its reply: the same number gets it whatever comes with it, with the
-- kind of the call that was refused
abbrev pub not_staged : Reply
not_staged = plain_reply FailedPrecondition (codes "not staged")

-- node n1 after that refusal
abbrev pub refused_publish : NodeState
refused_publish = after_frames (codes "n1") empty_node (first_session_call 1 (NodePublishVolume 7 (codes "/a") (block SingleNodeWriter) false) ∷ [])

-- so it is of a NodePublishVolume: the same number gets that refusal, whatever comes with it
pub record KeptRefusalRow : Type 0 where
  pub refused : replies (first_session_call 1 (NodePublishVolume 7 (codes "/a") (block SingleNodeWriter) false) ∷ []) ≡ not_staged ∷ []
  pub other_target : replies_from refused_publish (first_session_call 1 (NodePublishVolume 7 (codes "/b") (block SingleNodeWriter) false) ∷ []) ≡ not_staged ∷ []
  pub other_call : (fenced (codes "n1") refused_publish (first_session_call 1 (NodeStageVolume 7 (block SingleNodeWriter)))).reply
      ≡ Some (reply_frame (number 1) (Node (codes "n1")) kinds.NodePublishVolume not_staged)

-- a frame for another node gets no answer and changes nothing
abbrev pub OtherNodeRow : Type 0
OtherNodeRow = fenced (codes "n1") empty_node (call_frame (number 1) (Node (codes "n2")) (NodeUnstageVolume 1)) ≡ record { reply = None; state = empty_node }

-- volume 1 was staged and unstaged in session 1, and a call of session 2 came, whichever it was
abbrev pub forgotten : Call → List Frame
forgotten call = first_session_call 1 (NodeStageVolume 1 (block SingleNodeWriter)) ∷ first_session_call 2 (NodeUnstageVolume 1) ∷ second_session call ∷ []

-- the row of volume 1 is forgotten then, and still its old staging does nothing when it comes late: it is stale, and there are no more
-- rows than that call has left
pub record ForgottenRow (call : Call) : Type 0 where
  pub late : (fenced (codes "n1") (after_frames (codes "n1") empty_node (forgotten call)) (first_session_call 1 (NodeStageVolume 1 (block SingleNodeWriter)))).reply
      ≡ Some (reply_frame (number 1) (Node (codes "n1")) kinds.NodeStageVolume (plain_reply Aborted (codes "stale")))
  pub few : length (after_frames (codes "n1") empty_node (forgotten call ++ first_session_call 1 (NodeStageVolume 1 (block SingleNodeWriter)) ∷ [])).rows ≤ 1

-- so it is of every call
abbrev pub ForgottenRows : Type 0
ForgottenRows = (call : Call) → ForgottenRow call

-- a node with 4,096 rows refuses each call of its session of a volume without one, and changes nothing: the same call gets the same
-- answer again
abbrev pub FullNodeRefuses : Type 0
FullNodeRefuses =
    (node : List ℕ) (state : NodeState) (call_number : Number) (call : Call) → call_number.session ≡ state.session → length state.rows ≡ MAX_ROWS → row_for call state ≡ None
    → fenced node state (call_frame call_number (Node node) call)
    ≡ record { reply = Some (reply_frame call_number (Node node) (kind_of call) (plain_reply ResourceExhausted (codes "rows"))); state = state }

-- a node with 4,096 rows, none of them of a volume that is staged, answers the call of a later session, and has the row of its
-- volume alone then
abbrev pub FullNodeForgets : Type 0
FullNodeForgets =
    (rows : List AnsweredVolume) (id : ℕ) → length rows ≡ MAX_ROWS
    → fenced (codes "n1") (record { rows = rows; session = 1; staged = []; published = [] }) (second_session (NodeUnstageVolume id))
    ≡ record {
      reply = Some (reply_frame (record { session = 2; call = 1 }) (Node (codes "n1")) kinds.NodeUnstageVolume ok_reply);
      state = record {
        rows = (record { id = id; kept = record { number = record { session = 2; call = 1 }; kind = kinds.NodeUnstageVolume; reply = ok_reply } }) ∷ [];
        session = 2;
        staged = [];
        published = [];
      };
    }

-- the calls that were sent to node n1 before it was lost: to stage volume 1, and to publish it
abbrev pub lost_stage : Frame
lost_stage = first_session_call 3 (NodeStageVolume 1 (block SingleNodeWriter))

-- and to publish it there
abbrev pub lost_publish : Frame
lost_publish = first_session_call 4 (publish_call (codes "/a") SingleNodeWriter false)

-- node n1 was lost in session 1, and joins again with session 2: what was under way all the time is stale, and changes nothing; calls of session
-- 2 are answered by the table, and those of session 1 are stale then too. A node that heard of session 1 alone would stage the volume
pub record LateAtJoinedRow : Type 0 where
  pub late : fenced (codes "n1") (joined_node 2) lost_publish
      ≡ record { reply = Some (reply_frame (number 4) (Node (codes "n1")) kinds.NodePublishVolume (plain_reply Aborted (codes "stale"))); state = joined_node 2 }
  pub later : replies_from (joined_node 2) (lost_stage ∷ second_session (NodeStageVolume 1 (block SingleNodeWriter)) ∷ lost_publish ∷ [])
      ≡ plain_reply Aborted (codes "stale") ∷ ok_reply ∷ plain_reply Aborted (codes "stale") ∷ []
  pub untold : replies_from (joined_node 1) (lost_stage ∷ lost_publish ∷ []) ≡ ok_reply ∷ ok_reply ∷ []

-- a node that has answered nothing is shown by a record without rows
abbrev pub EmptyIsShown : Type 0
EmptyIsShown = (session : ℕ) → RowsShow [] (joined_node session)

-- what the laws tell of a publish of a staged volume: it is published as asked
abbrev pub staged_v : List Frame
staged_v = first_session_call 1 (NodeStageVolume 1 (block MultiNodeMultiWriter)) ∷ []

-- publishes volume 1 readonly
abbrev pub publish_v : Call
publish_v = publish_call (codes "/a") MultiNodeMultiWriter true

-- the laws of the table tell this of that call
abbrev pub LawsTellPublish : Type 0
LawsTellPublish =
    NodeTableLaw
    → published_at 1 (codes "/a") (state_after (codes "n1") (after_frames (codes "n1") empty_node staged_v) (number 2) publish_v)
    ≡ Some (record { volume = 1; target = codes "/a"; capability = block MultiNodeMultiWriter; readonly = true })
