-- A node carries out a call as any plugin does.
use Rattle.std.proofs.Common.{ap, map}
use Rattle.csi_node.specs.Public.Changes.{ChangesAt}
use Rattle.std.proofs.lemmas.Result.{on_err_weaker}
use Rattle.csi_service.specs.Public.Services.{node_view}
use Rattle.csi_service.specs.Private.Plugins.{RowsChange}
use Rattle.csi_service.proofs.AnsweredFrames.{answer-weaker, refusal-both}
use Rattle.csi_service.proofs.NodeRows.{node-changes}
use Rattle.csi_service.proofs.node_service.NodePlugin.carry_out.Goals as goal

pub returns : goal.returns
returns c =
    let old = c.args.self.now in
    let new = c.answer.new.self in
    let number = c.args.number in
    let result = c.answer.result in
    let told = c.answer.ensures in
    record {
      own = told.id;
      gets = λ state shown. told.reply state shown c.requires.allowed c.requires.texts;
      leads = λ state shown. told.state state shown c.requires.allowed c.requires.texts;
      allowed = told.allowed;
      changes = answer-weaker (λ a. ChangesAt a.row number old new) (λ a. RowsChange node_view a.row number old new) result (λ a changes. node-changes a.row number old new changes) told.changes;
      err_shows = told.err;
      err = on_err_weaker result (λ same. (λ i. record { key = 0; value = node_view.head (told.id i) (0, same.1 i) }, ap (map node_view.part) same.0)) (refusal-both _ _ result told.err_rows told.err_session);
    }
