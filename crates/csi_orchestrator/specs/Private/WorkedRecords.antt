-- Worked examples of a record's rows, of v, which was published at n1 until n1 was lost.
use Rattle.std.specs.Prelude.{ℕ, List, [], ◌∷◌, Option, Some, None, codes, false}
use Rattle.csi_types.specs.declared.mode.Mode.TheVariants.{MultiNodeMultiWriter}
use Rattle.csi_orchestrator.specs.declared.row.Goal.{Goal}
use Rattle.csi_orchestrator.specs.declared.row.Goal.TheVariants.{Stop}
use Rattle.csi_orchestrator.specs.declared.row.TargetEntry.{TargetEntry}
use Rattle.csi_orchestrator.specs.declared.thing.Known.{Known}
use Rattle.csi_orchestrator.specs.declared.thing.Known.TheVariants.{Yes, No, Maybe}
use Rattle.csi_orchestrator.specs.Model.Shown.{NodeEntryShown, RowShown}
use Rattle.csi_orchestrator.specs.Public.Restored.{AreRestorable}
use Rattle.csi_orchestrator.specs.Private.Worked.{block}

-- an entry of v
abbrev pub entry_at : List ℕ → Known → Known → List TargetEntry → NodeEntryShown
entry_at node attached staged targets = record { node = node; capability = block MultiNodeMultiWriter; readonly = false; attached = attached; staged = staged; target_entries = targets }

-- v's row
abbrev pub row_with : Option Goal → ℕ → List NodeEntryShown → RowShown
row_with goal tries entries =
    record { name = codes "v"; arguments = record { required = 10; limit = 0; capabilities = block MultiNodeMultiWriter ∷ [] }; id = Some 1; exists = Yes; goal = goal; open_call = None; tries = tries; node_entries = entries }

-- a target at which it is published
abbrev pub at_a : List TargetEntry
at_a = record { target = codes "/a"; published = Yes } ∷ []

-- a record of the node n2 alone may have v so; what was published at n1 it doesn't have, nor a stop at n2 that wasn't tried
pub record LeftRows : Type 0 where
  pub left : AreRestorable (codes "n2" ∷ []) (row_with None 0 (entry_at (codes "n1") Yes No [] ∷ entry_at (codes "n2") Yes Yes at_a ∷ []) ∷ [])
  pub stopped : AreRestorable (codes "n2" ∷ []) (row_with (Some (Stop (codes "n1") (codes "/a"))) 0 (entry_at (codes "n1") Maybe No [] ∷ []) ∷ [])
  pub published : AreRestorable (codes "n2" ∷ []) (row_with None 0 (entry_at (codes "n1") Yes Yes at_a ∷ []) ∷ []) → ⊥
  pub untried : AreRestorable (codes "n2" ∷ []) (row_with (Some (Stop (codes "n2") (codes "/a"))) 0 (entry_at (codes "n2") Yes Yes (record { target = codes "/a"; published = Maybe } ∷ []) ∷ []) ∷ []) → ⊥
