-- A row of a controller by its parts, what it shows of the state by itself, and what a call changes there. Only private functions cite it.
use Rattle.std.specs.Prelude.{◌≡◌, ℕ, ◌<◌, List, [], find, length, Bool, true, false, not, is_some, Option, Some, None, IsTrue, if◌then◌else◌}
use Rattle.csi_types.specs.declared.holding.Holding.{Holding}
use Rattle.csi_types.specs.declared.node_use.NodeUse.{NodeUse}
use Rattle.csi_types.specs.Model.Holding.{is_compatible}
use Rattle.csi_types.specs.Model.Same.{same_text, has_capability}
use Rattle.csi_types.specs.Public.Lent.{lent_capability}
use Rattle.csi_types.specs.Public.Reply.{has_id_by_rule}
use Rattle.csi_types.specs.declared.call.Kind.{Kind}
use Rattle.csi_types.specs.declared.status.Status.TheVariants.{Ok}
use Rattle.csi_fence.specs.declared.line.Line.{Line}
use Rattle.csi_fence.specs.declared.line.Line.TheVariants.{Refused, Met, Done}
use Rattle.csi_fence.specs.Public.Line.{told_by}
use Rattle.csi_controller.specs.declared.row.NodeHolding.{NodeHolding}
use Rattle.csi_controller.specs.Model.Table.{Change, Stays, Makes, Ends, Attaches, Detaches, Outcome, refused, done}
use Rattle.csi_controller.specs.Public.Core.{volume_holding}
use Rattle.csi_controller.specs.Public.OneRow.{RowShown}
use Rattle.csi_controller.specs.declared.row.ControllerRow.{ControllerRow}

-- a use of a volume at a node, as a row holds it
abbrev pub held_so : NodeUse → NodeHolding
held_so there = record { node = there.node.now; capability = lent_capability there.capability; readonly = there.readonly }

-- the table's outcome, where this is the call's change
abbrev pub outcome_shown : Change → Line → Outcome
outcome_shown change (Refused status detail) = refused status detail.now
outcome_shown change (Met id) = record { reply = (told_by (Met id)).reply; change = Stays }
outcome_shown change Done = done change

-- the table's outcome for a call of this kind, where this is the call's change, is told by this line; what it replies has an id exactly where
-- it must, and an `Ok` has no detail
pub record IsLine (kind : Kind) (change : Change) (outcome : Outcome) (answer : Line) : Type 0 where
  pub line : outcome ≡ outcome_shown change answer
  pub id : IsTrue (has_id_by_rule kind (told_by answer).reply)
  pub plain : (told_by answer).reply.status ≡ Ok → (told_by answer).reply.detail ≡ []

-- how the row's volume is held at a node, if it is
abbrev pub held_of_row : RowShown → List ℕ → Option NodeHolding
held_of_row row node = find (λ (held : NodeHolding). same_text held.node node) row.items

-- the volume can be held so too
pub record HasRoomFor (row : RowShown) (holding : Holding) : Type 0 where
  pub own : holding.volume ≡ row.volume.id
  pub live : row.volume.is_live ≡ true
  pub free : held_of_row row holding.node ≡ None
  pub beside : find (λ (other : NodeHolding). not (is_compatible holding (volume_holding row.volume.id other))) row.items ≡ None
  pub listed : IsTrue (has_capability row.volume.capabilities holding.capability)
  pub limit : length row.items < 64

-- the change can be made to the row
abbrev pub CanChange : RowShown → Change → Type 0
CanChange row Stays = Unit {0}
CanChange row (Makes name capacity capabilities) = ⊥
CanChange row (Ends id) = (id ≡ row.volume.id) × (row.items ≡ [])
CanChange row (Attaches holding) = HasRoomFor row holding
CanChange row (Detaches id node) = (id ≡ row.volume.id) × (is_some (held_of_row row node) ≡ true)

-- the node at which the volume comes to be held, or ceases to be
abbrev pub moved : Change → Option (List ℕ × Bool)
moved (Attaches holding) = Some (holding.node, true)
moved (Detaches id node) = Some (node, false)
moved change = None

-- id and capacity of the row's volume, unless it was deleted
abbrev pub row_if_live : Option ControllerRow → Option (ℕ × ℕ)
row_if_live None = None
row_if_live (Some row) = if row.live then Some (row.id, row.capacity) else None
