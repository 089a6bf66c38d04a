-- The row at the place of an id is the one that is found by it.
use Rattle.std.proofs.Common.{◌∙◌, List, subst, sym}
use Rattle.std.specs.Prelude.{◌==◌}
use Rattle.csi_types.proofs.Searches.{find-no_place}
use Rattle.csi_node.specs.declared.row.NodeRow.{NodeRow}
use Rattle.csi_node.specs.Model.OneRow.{NodeRowShown, node_row_shown}
use Rattle.csi_node.specs.Model.Record.{parts}
use Rattle.csi_node.specs.Public.Record.{AreSoundRows}
use Rattle.csi_node.proofs.CopiedRows.{there-found, there-sound}
use Rattle.csi_node.proofs.RecordRules.{places-rise}
use Rattle.csi_node.proofs.node.Node.row_with_id.Goals as goal

pub place_of-requires : goal.place_of-requires
place_of-requires c =
    let rules = subst (λ (l : List NodeRow). AreSoundRows (parts l)) (sym c.rows-rows.ensures.value) c.rows-rows.ensures.rules in
    record { rising = places-rise (parts c.rows-rows.result.now) rules.rising }

pub returns-in-Some-clause-row : goal.returns-in-Some-clause-row
returns-in-Some-clause-row c =
    rw c.rows-rows.ensures.value at (sym (there-found c.rows-rows.result.now c.args.id c.in-Some.place c.index-rows-place.result c.index-rows-place.is (sym c.in-Some.is ∙ c.place_of.ensures)))

pub returns-in-Some-clause-rules : goal.returns-in-Some-clause-rules
returns-in-Some-clause-rules c =
    let rules = subst (λ (l : List NodeRow). AreSoundRows (parts l)) (sym c.rows-rows.ensures.value) c.rows-rows.ensures.rules in
    there-sound (parts c.rows-rows.result.now) c.args.id (node_row_shown c.index-rows-place.result) rules.each
    (there-found c.rows-rows.result.now c.args.id c.in-Some.place c.index-rows-place.result c.index-rows-place.is (sym c.in-Some.is ∙ c.place_of.ensures))

pub returns-in-None-clause-row : goal.returns-in-None-clause-row
returns-in-None-clause-row c =
    rw c.rows-rows.ensures.value at (sym (find-no_place (λ (row : NodeRowShown). row.id == c.args.id) (parts c.rows-rows.result.now) (sym c.place_of.ensures ∙ c.in-None.is)))
