use Rattle.std.proofs.Common.{refl, rules}
use Rattle.csi_embedded.proofs.MadeOrchestrators.{no-nodes-read, none-reopened}
use Rattle.csi_embedded.proofs.orchestrator_making.read_orchestrator.Goals as goal

pub returns-in-Ok-clause-made : goal.returns-in-Ok-clause-made
returns-in-Ok-clause-made c = (
  record {
    kept = c.in_ok-kept.kept;
    read = c.in_ok-kept.ensures.read;
    nodes = c.in_ok-nodes.nodes.items;
    said = c.in_ok-nodes.ensures.made;
    reopened = c.in-Ok.ensures.made;
  },
  refl,
)

pub returns-in-Err-clause-refused : goal.returns-in-Err-clause-refused
returns-in-Err-clause-refused c =
    none-reopened c.args.config.now c.args.bytes.now c.in_ok-nodes.nodes.items c.in_ok-kept.kept c.in-Err.ending c.in_ok-nodes.ensures.made c.in_ok-kept.ensures.read c.in-Err.ensures.refused

pub returns-in_err-nodes-clause-refused : goal.returns-in_err-nodes-clause-refused
returns-in_err-nodes-clause-refused c = let none = no-nodes-read c.args.config.now c.args.bytes.now c.in_err-nodes.field-0.0 c.in_err-nodes.ensures.refused in search rules
