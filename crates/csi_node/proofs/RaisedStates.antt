-- A node whose session was raised shows the raised state.
use Rattle.std.proofs.Common.{◌≡◌, ℕ, Bool, true, false, cond, sym, subst}
use Rattle.std.specs.Prelude.{nat_lt}
use Rattle.csi_fence.specs.Public.Rows as rows_of
use Rattle.csi_fence.specs.Public.Raised.{raised_rows}
use Rattle.csi_node.specs.Model.Fenced.{begun}
use Rattle.csi_node.specs.Model.Record.{NodeParts, Shows}
use Rattle.csi_node.specs.Model.State.{NodeState}
use Rattle.csi_node.specs.Public.Plan.{node_plan}
use Rattle.csi_node.specs.Public.Raised.{raised}
use Rattle.csi_node.proofs.ChangedRows.{state_of}
use Rattle.csi_node.proofs.RowsMachine.{AreRowsSound, NodeRows, RowsShowAll, begun-shows}
use Rattle.csi_node.proofs.ShownAfter.{all-from_shows, shows-from_all}

pub raised-shown : (session : ℕ) (old new : NodeParts) (state : NodeState) → AreRowsSound (state_of old) → state_of new ≡ raised_rows node_plan session (state_of old) → Shows old state
    → Shows new (raised session state)
raised-shown session old new state sound is shown =
    record { shows = shows-from_all new.rows (raised session state) after.rows; session = after.session }
  where
    was : RowsShowAll (state_of old) state
    was = record { rows = all-from_shows old.rows state shown.shows; session = shown.session }

    by : (b : Bool) → RowsShowAll (cond b (rows_of.begun node_plan session (state_of old)) (state_of old)) (cond b (begun session state) state)
    by true = begun-shows session (state_of old) state sound was
    by false = was

    after : RowsShowAll (state_of new) (raised session state)
    after =
        subst (λ (rows : NodeRows). RowsShowAll rows (raised session state)) (sym is)
        (subst (λ (n : ℕ). RowsShowAll (raised_rows node_plan session (state_of old)) (cond (nat_lt n session) (begun session state) state)) shown.session (by (nat_lt old.session session)))
