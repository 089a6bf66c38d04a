-- What the tests of equality tell.
use Rattle.csi_types.proofs.Equality.{same_text-tells, same_capability-tells, same_number-tells, same_kind-tells, same_party-tells, same_holding-tells, same_plugin_thing-tells}
use Rattle.csi_types.proofs.worked.equality.Goals as goal

pub returns : goal.returns
returns c = record { texts = same_text-tells; capabilities = same_capability-tells; numbers = same_number-tells; kinds = same_kind-tells; parties = same_party-tells; holdings = same_holding-tells; things = same_plugin_thing-tells }
