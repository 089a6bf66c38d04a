use Rattle.std.proofs.Common.{refl}
use Rattle.csi_types.specs.Model.Same.{same_text}
use Rattle.csi_types.proofs.Places.{AtMostOne-set}
use Rattle.csi_plugin_tests.specs.declared.shelf.ShelfRow.{ShelfRow}
use Rattle.csi_fence.proofs.RowsThere.{at-got}
use Rattle.csi_plugin_tests.proofs.shelf.ShelfTable.change.Goals as goal

pub returns-clause-agrees : goal.returns-clause-agrees
returns-clause-agrees c = λ rows place names at name.
    AtMostOne-set (λ (r : ShelfRow). same_text r.name name) rows place c.args.row.now _ (at-got rows place c.args.row.now at) refl (names name)
