-- What was read leads to the record.
use Rattle.std.proofs.Common.{map}
use Rattle.csi_stores.specs.Public.Part.{all_stored_in, part_change}
use Rattle.csi_service.proofs.ReadRecords.{node-read_as}
use Rattle.csi_service.proofs.renewed.renewed_node.Goals as goal

pub returns-in_ok-renewal-in-Ok-clause-read : goal.returns-in_ok-renewal-in-Ok-clause-read
returns-in_ok-renewal-in-Ok-clause-read c =
    node-read_as (all_stored_in c.args.parts.now) (map part_change c.in_ok-renewal-in-Ok.renewal.items) c.in-Ok.field-0.version c.in-Ok.field-0.kept c.in-Ok.ensures c.in_ok-renewal-in-Ok.ensures
