-- A frame that is no call for the plugin gets nothing.
use Rattle.std.proofs.Common.{sym, ap, subst, refl, arith, false, Ok}
use Rattle.std.specs.Prelude.{None}
use Rattle.csi_fence.specs.Model.Fenced.{Fenced}
use Rattle.csi_service.specs.Public.Plugins.{ServedPlugin, ServiceAnswers}
use Rattle.csi_service.specs.Private.Calls.{IsNoCallFor}
use Rattle.csi_service.specs.Private.Plugins.{machine_of, party_of}
use Rattle.csi_service.specs.Public.Telling.{TellsFrame}
use Rattle.csi_service.proofs.AnsweredFrames.{passed}
use Rattle.csi_service.proofs.ToldFrames.{tells-passed}
use Rattle.csi_service.proofs.plugin_service.PluginService.pass.Goals as goal

pub returns-clause-answered : goal.returns-clause-answered
returns-clause-answered g c = λ frame.
    let view = g.P.Plugin.view in
    let plugin = c.self.inside.plugin in
    subst (λ (seen : ServedPlugin _). IsNoCallFor (party_of view seen.plugin) frame → ServiceAnswers view seen frame None (record { plugin = plugin; changed = c.nothing.result })) c.self.view_is (λ none. record {
      own = refl;
      session = (omega arith, c.plugin_law.ensures.session);
      gets = λ state shown. sym (ap (λ (f : Fenced _). f.reply) (passed (machine_of view plugin) state frame none));
      leads = λ state shown. subst (view.Shows plugin) (sym (ap (λ (f : Fenced _). f.state) (passed (machine_of view plugin) state frame none))) shown;
    })

pub returns-clause-told : goal.returns-clause-told
returns-clause-told g c = λ frame.
    let view = g.P.Plugin.view in
    let plugin = c.self.inside.plugin in
    subst (λ (seen : ServedPlugin _). TellsFrame view seen (record { plugin = plugin; changed = c.nothing.result }) frame (Ok false)) c.self.view_is
    (tells-passed view plugin c.self.inside.changed c.nothing.result c.nothing.ensures.head c.nothing.ensures.forgotten c.nothing.ensures.row frame)
