-- What is found of the entries as they are shown is what is found of them.
use Rattle.std.proofs.Common.{◌≡◌, ◌∙◌, List, map, sym, ap, rules}
use Rattle.std.specs.Prelude.{Option, Some, None, find, option_map}
use Rattle.csi_types.proofs.Searches.{find-of_map}
use Rattle.csi_orchestrator.specs.declared.row.Goal.TheVariants.{Stop}
use Rattle.csi_orchestrator.specs.declared.row.NodeEntry.{NodeEntry}
use Rattle.csi_orchestrator.specs.Model.Shown.{NodeEntryShown}
use Rattle.csi_orchestrator.specs.Public.Shown.{node_entry_shown}
use Rattle.csi_recovery.specs.Public.Recovered.{root, is_maybe, undoing}
use Rattle.csi_recovery.proofs.rows.goal.Goals as goal

-- by what is found
by-found : (entries : List NodeEntry) (o : Option NodeEntry) → o ≡ find (λ (e : NodeEntry). is_maybe e.staged) entries
    → undoing (option_map node_entry_shown o) ≡ undoing (find (λ (e : NodeEntryShown). is_maybe e.staged) (map node_entry_shown entries))
by-found entries o found = ap (λ (x : Option NodeEntry). undoing (option_map node_entry_shown x)) found ∙ ap undoing (sym (find-of_map (λ (e : NodeEntryShown). is_maybe e.staged) node_entry_shown entries))

pub returns-in_ok-target-in-Some : goal.returns-in_ok-target-in-Some
returns-in_ok-target-in-Some c =
    let copied : c.in_ok-node-in-Some.node ≡ c.in-Some.entry.now.node = search rules in
    let made : c.in_ok-target-in-Some.target ≡ root = c.in_ok-target-in-Some.ensures in
    (λ i. Some (Stop (copied i) (made i))) ∙ by-found c.args.entries.now (Some c.in-Some.entry.now) c.in-Some.ensures

pub returns-in-None : goal.returns-in-None
returns-in-None c = by-found c.args.entries.now None c.in-None.ensures
