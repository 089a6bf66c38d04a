-- The entry stands where the node's is, or last.
use Rattle.csi_orchestrator.proofs.Words.{◌≡◌, refl, ◌∙◌, ap, map, rules, None, No, NodeEntry, entry_for, node_entry_shown}
use Rattle.csi_orchestrator.proofs.Lemmas.{map-set_same, on_ok_weaker, on_err_weaker}
use Rattle.csi_orchestrator.proofs.UseEntries.{added-there, added-last}
use Rattle.csi_orchestrator.proofs.entries.add_node.Goals as goal

pub returns-in-Some : goal.returns-in-Some
returns-in-Some c =
    record {
      ok =
          on_ok_weaker c.add_to.result (added-there c.args.usage.now c.args.entries.now.items c.in-Some.index c.index_mut.result.now c.add_to.new.entry (cc) c.index_mut.ensures.value) c.add_to.ensures.ok;
      err =
          on_err_weaker c.add_to.result
          (λ same. map-set_same node_entry_shown c.args.entries.now.items c.in-Some.index c.add_to.new.entry c.index_mut.result.now (same ∙ ap node_entry_shown c.index_mut.ensures.value))
          c.add_to.ensures.err;
    }

pub returns-in_ok-push-in-None : goal.returns-in_ok-push-in-None
returns-in_ok-push-in-None c =
    let made : NodeEntry =
    record {
      node = c.in_ok-node-in-None.node;
      capability = c.in_ok-capability-in-None.capability;
      readonly = c.args.usage.now.readonly;
      attached = No;
      staged = No;
      target_entries = c.add_target.new.target_entries;
    } in
    let shown : node_entry_shown made ≡ entry_for c.args.usage.now None = search rules in
    record { ok = ap (map node_entry_shown) c.in_ok-push-in-None.ensures.items ∙ added-last c.args.usage.now c.args.entries.now.items made (cc) shown; err = tt }
