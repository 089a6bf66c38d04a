use Rattle.std.proofs.Common.{ap, rules}
use Rattle.std.specs.Prelude.{List, not}
use Rattle.std.proofs.lemmas.Fn.{filter_same}
use Rattle.csi_types.specs.Model.Same.{same_text}
use Rattle.csi_node.specs.declared.row.NodeTarget.{NodeTarget}
use Rattle.csi_node.specs.Model.OneRow.{NodeRowShown, node_row_shown}
use Rattle.csi_node.proofs.changes.unpublish.Goals as goal

pub returns : goal.returns
returns c =
    ap (λ (targets : List NodeTarget). let row : NodeRowShown = record (node_row_shown c.args.row.now) { targets = targets } in row)
    (filter_same _ (λ (there : NodeTarget). not (same_text there.target c.args.target.now)) _ (λ x b f called. search rules) _ _ c.retain.ensures.filtered)
