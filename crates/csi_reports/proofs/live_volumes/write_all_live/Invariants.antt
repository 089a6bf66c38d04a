-- The live rows before this one are written.
use Rattle.std.proofs.Common.{◌≡◌, ◌++◌, take}
use Rattle.std.specs.List.{flat_map}
use Rattle.json.specs.Tree.{json_tokens}
use Rattle.serde_json.specs.Written.{outline}
use Rattle.csi_reports.specs.Public.Entries.{volume_entry}
use Rattle.csi_reports.specs.Public.Listed.{live_rows}
use Rattle.csi_reports.proofs.live_volumes.write_all_live.Given as goal

abbrev pub invariant-loop-row : goal.invariant-loop-row
invariant-loop-row l = l.out ≡ l.fn.out ++ flat_map (λ row. json_tokens (outline (volume_entry row))) (live_rows (take l.row-index l.rows))
