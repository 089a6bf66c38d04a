use Rattle.csi_types.specs.Model.Call.{kind_of}
use Rattle.csi_plugin_tests.specs.Private.Shelf.{key_of}
use Rattle.csi_plugin_tests.proofs.ShelfRows.{names-put}
use Rattle.csi_plugin_tests.proofs.shelf.ShelfTable.enter.Goals as goal

pub returns-clause-agrees : goal.returns-clause-agrees
returns-clause-agrees c = λ rows number call names rising sound none made. names-put c.args.self.now.next_id rows number (kind_of call) (key_of call) c.args._row.now names none made
