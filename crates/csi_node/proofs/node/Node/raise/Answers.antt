-- By what the rows show.
use Rattle.std.proofs.Common.{None, subst}
use Rattle.csi_node.specs.Model.Record.{NodeParts, Shows}
use Rattle.csi_node.specs.Public.Changes.{ChangesAt}
use Rattle.csi_node.specs.Public.Plan.{node_plan}
use Rattle.csi_node.specs.Public.Raised.{raised}
use Rattle.csi_fence.proofs.RaisedRows.{raised-puts}
use Rattle.csi_node.proofs.ChangedRows.{changes-at, state_of}
use Rattle.csi_node.proofs.RaisedStates.{raised-shown}
use Rattle.csi_node.proofs.RowsMachine.{parts-sound}
use Rattle.csi_node.proofs.node.Node.raise.Goals as goal

pub returns-clause-state : goal.returns-clause-state
returns-clause-state c = λ state shown.
    let was = c.self.inside.rows in
    let is = c.raise.new.self in
    let old : NodeParts = record { id = was.table.id; session = was.session; rows = was.rows.items } in
    let new : NodeParts = record { id = is.table.id; session = is.session; rows = is.rows.items } in
    subst (λ (parts : NodeParts). Shows parts state → Shows new (raised c.args.session state)) c.self.view_is
    (raised-shown c.args.session old new state (parts-sound was.session was.rows.items was.empty c.self.invariant) c.raise.ensures.raised) shown

pub returns-clause-changes : goal.returns-clause-changes
returns-clause-changes c =
    let was = c.self.inside.rows in
    let is = c.raise.new.self in
    let old : NodeParts = record { id = was.table.id; session = was.session; rows = was.rows.items } in
    let new : NodeParts = record { id = is.table.id; session = is.session; rows = is.rows.items } in
    subst (λ (parts : NodeParts). ChangesAt None (record { session = c.args.session; call = 0 }) parts new) c.self.view_is
    (changes-at None (record { session = c.args.session; call = 0 }) old new (raised-puts node_plan c.args.session (state_of old) (state_of new) c.raise.ensures.raised))
