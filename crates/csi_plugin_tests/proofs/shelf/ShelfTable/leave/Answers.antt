use Rattle.std.proofs.Common.{refl}
use Rattle.csi_types.specs.Model.Same.{same_text}
use Rattle.csi_types.proofs.Places.{AtMostOne-filter}
use Rattle.csi_fence.specs.Public.Rows.{stays_in}
use Rattle.csi_plugin_tests.specs.declared.shelf.ShelfRow.{ShelfRow}
use Rattle.csi_plugin_tests.specs.Private.Shelf.{shelf}
use Rattle.csi_plugin_tests.proofs.shelf.ShelfTable.leave.Goals as goal

pub returns-clause-agrees : goal.returns-clause-agrees
returns-clause-agrees c = λ name. AtMostOne-filter (λ (r : ShelfRow). same_text r.name name) (stays_in shelf c.args._session) _ (c.requires.agrees name)
