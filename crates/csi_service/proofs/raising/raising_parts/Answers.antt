-- What is to be committed leads to the raised record.
use Rattle.std.proofs.Common.{subst}
use Rattle.std.specs.List.{AllByRecursion}
use Rattle.csi_types.specs.Public.VolumeId.{IsVolumeId}
use Rattle.csi_service.proofs.RaisedSessions.{raise-leads}
use Rattle.csi_service.proofs.raising.raising_parts.Goals as goal

pub returns-clause-leads : goal.returns-clause-leads
returns-clause-leads g c =
    raise-leads g.P.Plugin.view c.args.session c.args.plugin.now c.plugin_law.ensures.rising (subst (AllByRecursion IsVolumeId) c.in_ok-gone.ensures.ids c.in_ok-gone.ensures.limits)
