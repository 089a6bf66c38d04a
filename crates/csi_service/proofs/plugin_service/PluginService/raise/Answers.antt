-- The plugin's record is the raised one.
use Rattle.std.proofs.Common.{subst}
use Rattle.csi_service.specs.Public.Plugins.{ServedPlugin}
use Rattle.csi_service.specs.Public.Raising.{IsRaised}
use Rattle.csi_service.proofs.RaisedSessions.{is-raised}
use Rattle.csi_service.proofs.plugin_service.PluginService.raise.Goals as goal

pub returns-clause-raised : goal.returns-clause-raised
returns-clause-raised g c =
    let view = g.P.Plugin.view in
    let old = c.self.inside.plugin in
    let new = c.raise.new.self in
    subst (λ (seen : ServedPlugin _). IsRaised view c.args.session seen.plugin new) c.self.view_is
    (is-raised view c.args.session old c.plugin_law.ensures.rising new c.raise.ensures c.plugin_law-2.ensures.rising)
