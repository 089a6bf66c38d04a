-- The things of a node, and the rows that tell what is kept for them.
use Rattle.std.proofs.Common.{◌≡◌, ◌⊎◌, ℕ, List, Bool, true, false, cond, refl, ◌∙◌, ap, inl, inr}
use Rattle.std.specs.Prelude.{Option, Some, None, IsTrue}
use Rattle.std.proofs.lemmas.Bool.{false≢true}
use Rattle.csi_types.proofs.Equality.{same_text-tells}
use Rattle.csi_types.specs.declared.call.Call.{Call}
use Rattle.csi_types.specs.declared.call.Call.TheVariants as calls
use Rattle.csi_types.specs.declared.call.Party.TheVariants.{Node}
use Rattle.csi_types.specs.Model.Call.{kind_of}
use Rattle.csi_types.specs.Public.Call.{is_node_kind, is_party_of}
use Rattle.csi_fence.specs.Model.Fence.{Kept}
use Rattle.csi_types.specs.Public.PluginThing.{PluginThing, Exists, Attached, Staged, Published}
use Rattle.csi_types.specs.Model.Same.{same_text}
use Rattle.csi_node.specs.Model.State.{NodeState, volume_of}
use Rattle.csi_node.specs.Model.Fenced.{keep}
use Rattle.csi_node.specs.Public.View.{held_on, kept_in_row, kept_on, thing_of, empty_node}
use Rattle.csi_node.proofs.LastCalls.{keep-either}

-- a node is itself
pub here : (node : List ℕ) → same_text node node ≡ true
here node = (same_text-tells node node).1 refl

-- the volume whose row tells what is kept for a thing, if the thing is on this node
abbrev pub row_id : List ℕ → PluginThing → Option ℕ
row_id node (Exists name) = None
row_id node (Attached id there) = None
row_id node (Staged id there) = cond (same_text there node) (Some id) None
row_id node (Published id there target) = cond (same_text there node) (Some id) None

-- what is kept in the row of a volume, if one is named
abbrev pub kept_at : Option ℕ → NodeState → Option Kept
kept_at None state = None
kept_at (Some id) state = kept_in_row id state

-- a row is looked at where the thing is on this node
kept_where : (b : Bool) (id : ℕ) (state : NodeState) → cond b (kept_in_row id state) None ≡ kept_at (cond b (Some id) None) state
kept_where true id state = refl
kept_where false id state = refl

-- what is kept for a thing is what the row that tells it keeps
pub kept_on-at : (node : List ℕ) (state : NodeState) (thing : PluginThing) → kept_on node state thing ≡ kept_at (row_id node thing) state
kept_on-at node state (Exists name) = refl
kept_on-at node state (Attached id there) = refl
kept_on-at node state (Staged id there) = kept_where (same_text there node) id state
kept_on-at node state (Published id there target) = kept_where (same_text there node) id state

-- a call to a node is about a thing there, and a volume whose row tells what is kept for both
pub record IsFor (node : List ℕ) (call : Call) (thing : PluginThing) : Type 0 where
  pub is_thing : thing_of node call ≡ Some thing
  pub volume : ℕ
  pub is_volume : volume_of call ≡ Some volume
  pub is_row : row_id node thing ≡ Some volume
  pub is_own : is_node_kind (kind_of call) ≡ true

-- a call of a volume is for a thing of which the volume's row tells what is kept
thing_for : (node : List ℕ) (call : Call) (thing : PluginThing) (id : ℕ) → thing_of node call ≡ Some thing → volume_of call ≡ Some id → row_id node thing ≡ Some id → is_node_kind (kind_of call) ≡ true → IsFor node call thing
thing_for node call thing id is_thing is_volume is_row is_own = record { is_thing = is_thing; volume = id; is_volume = is_volume; is_row = is_row; is_own = is_own }

-- a controller's call isn't for a node
pub is_for : (node : List ℕ) (call : Call) → IsTrue (is_party_of (kind_of call) (Node node)) → (thing : PluginThing) × IsFor node call thing
is_for node (calls.CreateVolume name required limit capabilities) party = absurd (false≢true party)
is_for node (calls.DeleteVolume id) party = absurd (false≢true party)
is_for node (calls.ControllerPublishVolume id there capability readonly) party = absurd (false≢true party)
is_for node (calls.ControllerUnpublishVolume id there) party = absurd (false≢true party)
is_for node (calls.NodeStageVolume id capability) party = (Staged id node, thing_for node (calls.NodeStageVolume id capability) (Staged id node) id refl refl (rw (here node) refl) party)
is_for node (calls.NodeUnstageVolume id) party = (Staged id node, thing_for node (calls.NodeUnstageVolume id) (Staged id node) id refl refl (rw (here node) refl) party)
is_for node (calls.NodePublishVolume id target capability readonly) party =
    (Published id node target, thing_for node (calls.NodePublishVolume id target capability readonly) (Published id node target) id refl refl (rw (here node) refl) party)
is_for node (calls.NodeUnpublishVolume id target) party = (Published id node target, thing_for node (calls.NodeUnpublishVolume id target) (Published id node target) id refl refl (rw (here node) refl) party)

-- what is kept of a call isn't one of the things
pub keep-held : (node : List ℕ) (volume : Option ℕ) (kept : Kept) (state : NodeState) (thing : PluginThing) → held_on node (keep volume kept state) thing ≡ held_on node state thing
keep-held node None kept state thing = refl
keep-held node (Some id) kept state (Exists name) = refl
keep-held node (Some id) kept state (Attached volume there) = refl
keep-held node (Some id) kept state (Staged volume there) = refl
keep-held node (Some id) kept state (Published volume there target) = refl

-- what is kept is what was kept before, or is looked for in the volume's row
pub kept_either : (volume : ℕ) (kept : Kept) (state : NodeState) (o : Option ℕ) → (kept_at o (keep (Some volume) kept state) ≡ kept_at o state) ⊎ (o ≡ Some volume)
kept_either volume kept state None = inl refl
kept_either volume kept state (Some id) = by (keep-either volume id kept state)
  where
    by : (kept_in_row id (keep (Some volume) kept state) ≡ kept_in_row id state) ⊎ (id ≡ volume) → (kept_at (Some id) (keep (Some volume) kept state) ≡ kept_at (Some id) state) ⊎ (Some id ≡ Some volume)
    by (inl same) = inl same
    by (inr e) = inr (ap Some e)

-- a node that has answered nothing keeps nothing for any thing
pub kept_none : (node : List ℕ) (thing : PluginThing) → kept_on node empty_node thing ≡ None
kept_none node thing = kept_on-at node empty_node thing ∙ by (row_id node thing)
  where
    by : (o : Option ℕ) → kept_at o empty_node ≡ None
    by None = refl
    by (Some id) = refl

-- a choice between a value and itself is that value
either_way : {X : Type 0} (b : Bool) (x : X) → cond b x x ≡ x
either_way true x = refl
either_way false x = refl

-- a node that has answered nothing holds no thing
pub held_none : (node : List ℕ) (thing : PluginThing) → held_on node empty_node thing ≡ None
held_none node (Exists name) = refl
held_none node (Attached id there) = refl
held_none node (Staged id there) = either_way (same_text there node) None
held_none node (Published id there target) = either_way (same_text there node) None
