use Rattle.std.proofs.Common.{rules}
use Rattle.csi_embedded.specs.Public.Making.{IsNewController, EndsDone, IsNoConfig}
use Rattle.csi_embedded.proofs.Handles.{full-made, put-made}
use Rattle.csi_embedded.proofs.exports.tufayon_controller_new.Goals as goal

pub returns-then-is_full : goal.returns-then-is_full
returns-then-is_full c = full-made (λ made ending. IsNewController c.args.config.now made × EndsDone ending) (IsNoConfig c.args.config.now) c.args.plugin.now.held.embedded c.number.result (search rules) c.number.ensures

pub returns : goal.returns
returns c = put-made (λ made ending. IsNewController c.args.config.now made × EndsDone ending) (IsNoConfig c.args.config.now) c.args.plugin.now.held.embedded c.put.new.plugin.held.embedded c.put.result c.new_controller.result (search rules) c.new_controller.ensures.made c.new_controller.ensures.refused tt c.put.ensures
