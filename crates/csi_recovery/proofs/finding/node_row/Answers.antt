-- At its place.
use Rattle.std.proofs.Common.{List, sym, ◌∙◌, subst}
use Rattle.std.specs.Prelude.{◌==◌}
use Rattle.csi_types.proofs.Searches.{find-no_place}
use Rattle.csi_node.specs.declared.row.NodeRow.{NodeRow}
use Rattle.csi_node.specs.Model.Record.{parts}
use Rattle.csi_node.specs.Public.Record.{AreSoundRows}
use Rattle.csi_recovery.proofs.Found.{placed-found, node-rise}
use Rattle.csi_recovery.proofs.finding.node_row.Goals as goal

pub place_of_row-requires : goal.place_of_row-requires
place_of_row-requires c =
    node-rise c.rows-rows.result.now (subst (λ (l : List NodeRow). AreSoundRows (parts l)) (sym c.rows-rows.ensures.value) c.rows-rows.ensures.rules)

pub returns-in-Some : goal.returns-in-Some
returns-in-Some c =
    rw c.rows-rows.ensures.value at
    (placed-found (λ (row : NodeRow). row.id == c.args.id) c.rows-rows.result.now c.in-Some.place c.index-rows-place.result (sym c.place_of_row.ensures ∙ c.in-Some.is) c.index-rows-place.is)

pub returns-in-None : goal.returns-in-None
returns-in-None c =
    rw c.rows-rows.ensures.value at (sym (find-no_place (λ (row : NodeRow). row.id == c.args.id) c.rows-rows.result.now (sym c.place_of_row.ensures ∙ c.in-None.is)))
