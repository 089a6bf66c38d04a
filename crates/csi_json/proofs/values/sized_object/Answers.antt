use Rattle.std.proofs.Common.{arith}
use Rattle.csi_json.specs.Public.Json.{sized_object}
use Rattle.csi_json.proofs.Items.{members_in_view}
use Rattle.csi_json.proofs.values.sized_object.Goals as goal

pub returns-in-Some-clause-read : goal.returns-in-Some-clause-read
unfolding sized_object
returns-in-Some-clause-read c = grind (arith, members_in_view)
