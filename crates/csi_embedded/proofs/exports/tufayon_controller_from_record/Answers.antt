use Rattle.std.proofs.Common.{rules}
use Rattle.csi_embedded.specs.Public.Making.{IsReadController, IsNoReadController}
use Rattle.csi_embedded.proofs.Handles.{full-made, put-made}
use Rattle.csi_embedded.proofs.exports.tufayon_controller_from_record.Goals as goal

pub returns-then-is_full : goal.returns-then-is_full
returns-then-is_full c = full-made (IsReadController c.args.config.now c.args.bytes.now) (IsNoReadController c.args.config.now c.args.bytes.now) c.args.plugin.now.held.embedded c.number.result (search rules) c.number.ensures

pub returns : goal.returns
returns c = put-made (IsReadController c.args.config.now c.args.bytes.now) (IsNoReadController c.args.config.now c.args.bytes.now) c.args.plugin.now.held.embedded c.put.new.plugin.held.embedded c.put.result c.read_controller.result (search rules) c.read_controller.ensures.made c.read_controller.ensures.refused tt c.put.ensures
