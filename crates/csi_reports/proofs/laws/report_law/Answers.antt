-- By what the plugins show, which are the world's.
use Rattle.std.proofs.Common.{List, subst}
use Rattle.std.specs.List.{AllByRecursion}
use Rattle.csi_controller.specs.Model.Core.{Shows, ControllerParts}
use Rattle.csi_controller.specs.Model.State.{ControllerState}
use Rattle.csi_node.specs.Model.Record.{NodeParts}
use Rattle.csi_reports.specs.Private.Laws.{ShowsAState}
use Rattle.csi_reports.proofs.OneReport.{one-report}
use Rattle.csi_reports.proofs.laws.report_law.Goals as goal

pub returns : goal.returns
returns c =
    let shows : ControllerParts → Type 0 = λ parts. (state : ControllerState) × Shows parts state in
    let all : List NodeParts → Type 0 = λ nodes. AllByRecursion ShowsAState nodes in
    one-report c.args.world.now (subst shows c.controller.ensures c.showing_law.ensures) (subst all c.nodes.ensures c.nodes_show.ensures)
