-- Laws that the node's table keeps, in the words of CSI's spec.md ("idempotent" calls, and what each call
-- ensures), apart from what is kept of the last calls.
use Rattle.std.specs.Prelude.{◌≡◌, ◌⊎◌, ℕ, ◌==◌, List, [], ◌∷◌, ◌++◌, map, filter, Bool, true, not, Option, Some, None}
use Rattle.csi_types.specs.declared.call.Call.{Call}
use Rattle.csi_types.specs.declared.call.Call.TheVariants as calls
use Rattle.csi_types.specs.declared.reply.Reply.{Reply}
use Rattle.csi_fence.specs.Public.Lawful.{PluginMachine, TableLaw}
use Rattle.csi_node.specs.Model.State.{NodeState, AnsweredVolume, PublishedVolume, joined_node, staged_of, published_at, volume_of}
use Rattle.csi_node.specs.Model.Table.{node_row}
use Rattle.csi_node.specs.Model.Fenced.{node_at}

-- the table's reply to a call, and the state after it
abbrev pub table_reply : NodeState → Call → Reply
table_reply state call = (node_row state call).reply

-- the volumes that have a row
abbrev pub ids_in : List AnsweredVolume → List ℕ
ids_in rows = map (λ row. row.id) rows

-- the rows are of the same volumes, in the same order, but for one that may be new and then stands last
abbrev pub HasAtMostOneMore : List AnsweredVolume → List AnsweredVolume → Type 0
HasAtMostOneMore old new = (ids_in new ≡ ids_in old) ⊎ ((id : ℕ) × (ids_in new ≡ ids_in old ++ id ∷ []))

-- the two differ in nothing but what is kept of the last calls, and a row that may be new for it
pub record IsSameApart (old new : NodeState) : Type 0 where
  pub rows : HasAtMostOneMore old.rows new.rows
  pub session : old.session ≡ new.session
  pub staged : old.staged ≡ new.staged
  pub published : old.published ≡ new.published

-- after status 0 what the call does holds, and what it undoes doesn't
abbrev pub IsDone : NodeState → Call → Type 0
IsDone state (calls.NodeStageVolume id capability) = staged_of id state ≡ Some capability
IsDone state (calls.NodeUnstageVolume id) = staged_of id state ≡ None
IsDone state (calls.NodePublishVolume id target capability readonly) =
    let published : PublishedVolume = record { volume = id; target = target; capability = capability; readonly = readonly } in
    published_at id target state ≡ Some published
IsDone state (calls.NodeUnpublishVolume id target) = published_at id target state ≡ None
IsDone state (calls.CreateVolume name required limit capabilities) = ⊥
IsDone state (calls.DeleteVolume id) = ⊥
IsDone state (calls.ControllerPublishVolume id node capability readonly) = ⊥
IsDone state (calls.ControllerUnpublishVolume id node) = ⊥

-- another volume than the call's
abbrev pub is_another : Option ℕ → ℕ → Bool
is_another None id = true
is_another (Some volume) id = not (id == volume)

-- the other volumes' rows, stagings and targets are as they were
pub record LeavesOthers (old new : NodeState) (call : Call) : Type 0 where
  pub rows : filter (λ row. is_another (volume_of call) row.id) new.rows ≡ filter (λ row. is_another (volume_of call) row.id) old.rows
  pub staged : filter (λ staged. is_another (volume_of call) staged.volume) new.staged ≡ filter (λ staged. is_another (volume_of call) staged.volume) old.staged
  pub published : filter (λ published. is_another (volume_of call) published.volume) new.published ≡ filter (λ published. is_another (volume_of call) published.volume) old.published

-- the node of this id, for the laws of its table
abbrev pub plugin_at : List ℕ → PluginMachine NodeState
plugin_at node =
    record {
      machine = node_at node;
      reply_at = table_reply;
      is_same = IsSameApart;
      is_done = λ state reply call. IsDone state call;
      leaves_others = LeavesOthers;
    }

-- the laws, for every state that frames reach and every call that the table answers there
abbrev pub NodeTableLaw : Type 0
NodeTableLaw = (node : List ℕ) (session : ℕ) → TableLaw (plugin_at node) (joined_node session)
