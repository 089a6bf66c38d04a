-- Stores that weren't called stay; and where all were read, what is made of them is told.
use Rattle.std.proofs.Common.{inr, map, subst, List, string_bytes}
use Rattle.std.proofs.lemmas.Result.{IfErr-weaker, IfOk-weaker}
use Rattle.csi_node.specs.Model.Record.{NodeParts}
use Rattle.csi_plugins.specs.Public.Rebuilding.{IsNoRebuilding}
use Rattle.csi_plugins.specs.Private.Rebuilding.{IsRebuildingPlan}
use Rattle.csi_plugins.specs.Private.Recovering.{changes_of}
use Rattle.csi_plugins.proofs.GivenStores.{unchanged-same}
use Rattle.csi_plugins.proofs.RecoveredStores.{all-same}
use Rattle.csi_plugins.proofs.RebuiltStores.{sources-read}
use Rattle.csi_plugins.proofs.rebuilding.made.Goals as goal

pub returns-in-Err-clause-kept : goal.returns-in-Err-clause-kept
returns-in-Err-clause-kept g c = record { orchestrator = unchanged-same (g.K.Keep.store c.args.orchestrator.now); nodes = all-same g.K.Keep.store c.args.nodes.now }

pub returns-in-Err-orchestrator_in-clause-kept : goal.returns-in-Err-orchestrator_in-clause-kept
returns-in-Err-orchestrator_in-clause-kept g c = record { orchestrator = c.orchestrator_in.ensures.unchanged; nodes = all-same g.K.Keep.store c.args.nodes.now }

pub returns-in-Ok-nodes_in-clause-ready : goal.returns-in-Ok-nodes_in-clause-ready
returns-in-Ok-nodes_in-clause-ready g c =
    let given = c.in-Ok-nodes_in.given in
    IfOk-weaker c.planned.result _ _
    (λ plan is. record {
      orchestrators = c.in-Ok-orchestrator_in.kept;
      given = given.kept.items;
      read = sources-read g.K.Keep.store
          (record { new = c.args.new.now; orchestrator = c.args.orchestrator.now; nodes = c.args.nodes.now })
          (record { new = c.look_at_new.new.keep; orchestrator = c.orchestrator_in.new.keep; nodes = c.nodes_in.new.keeps })
          c.in-Ok-orchestrator_in.kept given.kept.items (map changes_of given.renewals.items) c.in-Ok-orchestrator_in.ensures.read c.in-Ok-nodes_in.ensures.read;
      kept = record { orchestrator = c.orchestrator_in.ensures.unchanged; nodes = c.nodes_in.ensures.unchanged };
      new = c.in-Ok.ensures.new;
      new_unchanged = c.look_at_new.ensures.unchanged;
      planned = subst (λ (l : List NodeParts). IsRebuildingPlan c.args.next_id c.in-Ok-orchestrator_in.kept l (changes_of plan.new) (string_bytes plan.line)) c.deref.ensures.value is;
    })
    c.planned.ensures.planned

pub returns-in-Ok-nodes_in-clause-refused : goal.returns-in-Ok-nodes_in-clause-refused
returns-in-Ok-nodes_in-clause-refused g c =
    let given = c.in-Ok-nodes_in.given in
    IfErr-weaker c.planned.result _ _
    (λ ending why. inr (
      c.in-Ok-orchestrator_in.kept,
      given.kept.items,
      sources-read g.K.Keep.store
          (record { new = c.args.new.now; orchestrator = c.args.orchestrator.now; nodes = c.args.nodes.now })
          (record { new = c.look_at_new.new.keep; orchestrator = c.orchestrator_in.new.keep; nodes = c.nodes_in.new.keeps })
          c.in-Ok-orchestrator_in.kept given.kept.items (map changes_of given.renewals.items) c.in-Ok-orchestrator_in.ensures.read c.in-Ok-nodes_in.ensures.read,
      subst (λ (l : List NodeParts). IsNoRebuilding c.args.next_id c.in-Ok-orchestrator_in.kept l ending) c.deref.ensures.value why,
    ))
    c.planned.ensures.refused
