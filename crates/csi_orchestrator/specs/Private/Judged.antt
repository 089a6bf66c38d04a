-- What the tests of a row say: they are passed exactly where it keeps the rules. This profile's own.
use Rattle.std.specs.Prelude.{◌≡◌, ℕ, List, true}
use Rattle.csi_orchestrator.specs.declared.row.Row.{Row}
use Rattle.csi_orchestrator.specs.Public.Restored.{IsRestorable}
use Rattle.csi_orchestrator.specs.Public.Shown.{row_shown}
use Rattle.csi_orchestrator.specs.Private.Judging.{is_restorable}

-- a row that passes them keeps the rules
abbrev pub PassingKeeps : Type 0
PassingKeeps = (nodes : List (List ℕ)) (row : Row) → is_restorable nodes row ≡ true → IsRestorable nodes (row_shown row)

-- a row that keeps the rules passes them
abbrev pub KeepingPasses : Type 0
KeepingPasses = (nodes : List (List ℕ)) (row : Row) → IsRestorable nodes (row_shown row) → is_restorable nodes row ≡ true
