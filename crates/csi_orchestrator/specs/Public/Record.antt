-- An orchestrator's record. This profile's own.
use Rattle.std.specs.Prelude.{◌≡◌, ℕ, ◌≤◌, List, length, false}
use Rattle.csi_types.specs.Model.Members.{EachTwo}
use Rattle.csi_types.specs.Model.Same.{same_text}
use Rattle.csi_orchestrator.specs.declared.fault.OrchRecordFault.{OrchRecordFault}
use Rattle.csi_orchestrator.specs.declared.fault.OrchRecordFault.TheVariants.{BadNodes, BadRow, NoMemory}
use Rattle.csi_orchestrator.specs.Model.Shown.{RowShown}
use Rattle.csi_orchestrator.specs.Public.Judging.{IsFirstRefused}
use Rattle.csi_orchestrator.specs.Public.Restored.{AreRestorable}

-- a record to its callers: its nodes, the session of its last call, and its rows
pub record RecordParts : Type 0 where
  pub nodes : List (List ℕ)
  pub session : ℕ
  pub rows : List RowShown

-- at most 64 nodes, all different
pub record AreNodesFit (nodes : List (List ℕ)) : Type 0 where
  pub few : length nodes ≤ 64
  pub apart : EachTwo (λ (a b : List ℕ). same_text a b ≡ false) nodes

-- why these nodes and rows aren't made a record; an allocation may be refused for any
abbrev pub IsRecordRefusal : List (List ℕ) → List RowShown → OrchRecordFault → Type 0
IsRecordRefusal nodes rows BadNodes = AreNodesFit nodes → ⊥
IsRecordRefusal nodes rows (BadRow place) = AreNodesFit nodes × IsFirstRefused (AreRestorable nodes) rows place
IsRecordRefusal nodes rows NoMemory = Unit {0}
