use Rattle.std.proofs.Common.{◌≡◌, ◌++◌, take}
use Rattle.std.specs.List.{flat_map, AllByRecursion}
use Rattle.csi_orchestrator.specs.Public.Shown.{node_entry_shown}
use Rattle.csi_records.specs.Public.Spelling.{present}
use Rattle.csi_records.specs.Public.OrchestratorSpelling.{node_entry_bytes}
use Rattle.csi_records.specs.Public.OrchestratorRows.{IsNodeEntry}
use Rattle.csi_records.proofs.entries.put_each.Given as goal

-- the entries so far were written, and are within their limits
abbrev pub invariant-loop-one : goal.invariant-loop-one
invariant-loop-one l =
    record {
      so_far : l.out.items ≡ l.initial.out.items ++ flat_map (λ entry. node_entry_bytes (node_entry_shown entry)) (take l.one-index l.entries);
      each : AllByRecursion (λ entry. IsNodeEntry present (node_entry_shown entry)) (take l.one-index l.entries);
    }
