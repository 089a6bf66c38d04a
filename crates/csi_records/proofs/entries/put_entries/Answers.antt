use Rattle.std.proofs.Common.{◌≡◌, ◌++◌, List, ℕ, subst}
use Rattle.std.specs.Prelude.{OnOk}
use Rattle.std.proofs.lemmas.Result.{on_ok_weaker}
use Rattle.csi_types.proofs.Each.{each-map}
use Rattle.csi_orchestrator.specs.Public.Shown.{node_entry_shown}
use Rattle.csi_records.specs.Public.Spelling.{present}
use Rattle.csi_records.specs.Public.OrchestratorSpelling.{node_entry_bytes}
use Rattle.csi_records.specs.Public.OrchestratorRows.{IsNodeEntry}
use Rattle.csi_records.proofs.WritingPieces.{list-shown}
use Rattle.csi_records.proofs.entries.put_entries.Goals as goal

pub returns : goal.returns
returns c = record {
  written = subst (λ (t : List ℕ). OnOk c.put_each.result (c.put_each.new.out.items ≡ c.args.out.now.items ++ t)) (list-shown node_entry_bytes node_entry_shown c.args.entries.now) c.put_each.ensures.written;
  fits = on_ok_weaker c.put_each.result (each-map (λ entry. IsNodeEntry present (node_entry_shown entry)) (IsNodeEntry present) node_entry_shown c.args.entries.now (λ entry fits. fits)) c.put_each.ensures.fits;
}
