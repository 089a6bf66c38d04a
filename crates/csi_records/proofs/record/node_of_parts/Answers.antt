use Rattle.std.proofs.Common.{sym}
use Rattle.std.specs.Option.{option_copied}
use Rattle.csi_stores.specs.Public.Part.{all_stored_in}
use Rattle.csi_records.specs.Public.Records.{node_layout, IsNodeOf}
use Rattle.csi_records.proofs.Versions.{no-version, stopped-in}
use Rattle.csi_records.proofs.PluginLayouts.{node_kind}
use Rattle.csi_records.proofs.record.node_of_parts.Goals as goal

pub returns-in_default : goal.returns-in_default
returns-in_default c =
    let wanted = option_copied c.args.wanted in
    no-version (λ version. node_layout version wanted) (node_kind wanted) (λ version. IsNodeOf version wanted) (all_stored_in c.args.parts.now) (sym c.in_default.ensures)

pub returns-in-Err : goal.returns-in-Err
returns-in-Err c =
    let wanted = option_copied c.args.wanted in
    stopped-in (λ version. node_layout version wanted) (node_kind wanted) (λ version. IsNodeOf version wanted) c.in-Some.version (all_stored_in c.args.parts.now) c.in-Err.stop (sym c.in-Some.ensures) c.in-Err.ensures
