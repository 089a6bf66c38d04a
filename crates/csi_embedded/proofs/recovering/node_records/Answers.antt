use Rattle.std.proofs.Common.{◌≡◌, ◌∙◌, ◌<◌, length, rules, arith}
use Rattle.csi_embedded.specs.Public.Recovering.{had_by}
use Rattle.csi_embedded.proofs.HandleRecords.{put-back, next-record, none-at}
use Rattle.csi_embedded.proofs.recovering.node_records.Goals as goal

pub returns-in_err-kept-clause-same : goal.returns-in_err-kept-clause-same
returns-in_err-kept-clause-same c =
    put-back c.loop-index.nodes c.loop-index.index c.index-nodes-index.result c.node_record.new.handle c.node_record.ensures.same ∙ c.loop-index.invariant.0

pub returns-in_err-kept-clause-none : goal.returns-in_err-kept-clause-none
returns-in_err-kept-clause-none c =
    let within : c.loop-index.index < length c.loop-index.nodes = omega arith in
    let none = none-at c.loop-index.nodes (had_by c.args.nodes.now) c.loop-index.index c.index-nodes-index.result c.in_err-kept.field-0.0 within c.loop-index.invariant.0 c.in_err-kept.ensures.none in search rules

pub returns-in-Err-clause-same : goal.returns-in-Err-clause-same
returns-in-Err-clause-same c =
    put-back c.loop-index.nodes c.loop-index.index c.index-nodes-index.result c.node_record.new.handle c.node_record.ensures.same ∙ c.loop-index.invariant.0

pub loop-index-preserved : goal.loop-index-preserved
loop-index-preserved c =
    let within : c.loop-index.index < length c.loop-index.nodes = omega arith in (
      put-back c.loop-index.nodes c.loop-index.index c.index-nodes-index.result c.node_record.new.handle c.node_record.ensures.same ∙ c.loop-index.invariant.0,
      next-record c.loop-index.nodes (had_by c.args.nodes.now) c.loop-index.index c.index-nodes-index.result c.loop-index.given.items c.push.new.self.items c.in_ok-kept.kept within c.loop-index.invariant.0 c.loop-index.invariant.1 c.in_ok-kept.ensures.kept c.in-Ok.ensures.items,
    )
