-- Member by member.
use Rattle.std.proofs.Common.{◌∙◌, ap, refl, codes, ◌∷◌, []}
use Rattle.std.proofs.lemmas.Result.{on_ok_weaker}
use Rattle.json.specs.Token.{begin_object, key}
use Rattle.json.specs.Tree.{json_tokens}
use Rattle.serde_json.specs.Written.{outline}
use Rattle.csi_orchestrator.specs.Model.Shown.{goal_in}
use Rattle.csi_orchestrator.specs.Public.Shown.{node_entry_shown, row_shown}
use Rattle.csi_orchestrator.specs.declared.row.NodeEntry.{NodeEntry}
use Rattle.csi_reports.specs.Public.Records.{capability_entry}
use Rattle.csi_reports.specs.Public.Goals.{goal_entry}
use Rattle.csi_reports.specs.Public.OrchestratorRecords.{kept_node_entry, id_entry}
use Rattle.csi_reports.proofs.SeenInPlace.{of-seen}
use Rattle.csi_reports.proofs.WrittenSteps.{next, of_number, of_text, of_entries}
use Rattle.csi_reports.proofs.orchestrator_records.RefRowEntry.write.Goals as goal

pub returns : goal.returns
returns c =
    let row = c.args.self.now.now in
    on_ok_weaker c.end_object.result
    (λ last. next _ _ _ _ (begin_object ∷ []) _ c.in_ok-begin_object.ensures refl
    (next _ _ _ _ _ _ c.in_ok-put_array.ensures (ap (of_entries (codes "at") (λ (entry : NodeEntry). kept_node_entry (node_entry_shown entry))) c.deref.ensures.value ∙ of-seen (codes "at") kept_node_entry node_entry_shown row.node_entries.items)
    (next _ _ _ _ _ _ c.in_ok-put_array-2.ensures (ap (of_entries (codes "capabilities") capability_entry) c.as_slice.ensures.value)
    (next _ _ _ _ _ _ c.in_ok-put_text.ensures (ap (of_text (codes "exists")) c.known_text.ensures)
    (next _ _ _ _ (key (codes "goal") ∷ []) _ c.in_ok-key.ensures refl
    (next _ _ _ _ (json_tokens (outline (goal_entry row.name (goal_in (row_shown row))))) _ c.in_ok-write_goal.ensures refl
    (next _ _ _ _ (key (codes "id") ∷ []) _ c.in_ok-key-2.ensures refl
    (next _ _ _ _ (json_tokens (outline (id_entry row.id))) _ c.in_ok-write_id.ensures refl
    (next _ _ _ _ (of_number (codes "limit") row.arguments.limit) _ c.in_ok-put_number.ensures refl
    (next _ _ _ _ _ _ c.in_ok-put_text-2.ensures (ap (of_text (codes "name")) c.as_str.ensures.value)
    (next _ _ _ _ (of_number (codes "required") row.arguments.required) _ c.in_ok-put_number-2.ensures refl
    (next _ _ _ _ (of_number (codes "tries") row.tries) _ c.in_ok-put_number-3.ensures refl last))))))))))))
    c.end_object.ensures
