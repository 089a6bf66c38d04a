use Rattle.std.proofs.Common.{◌≡◌, IsTrue, List, map, drop}
use Rattle.sqlite.specs.State.{HasCleanDisk, Survives}
use Rattle.sqlite.specs.declared.error.Error.{Error}
use Rattle.sqlite.specs.Held.{Held, state}
use Rattle.csi_stores.specs.Public.Part.{StoredPart, part_change}
use Rattle.csi_stores.specs.Public.Content.{all_changed}
use Rattle.csi_sqlite.specs.Public.Refusals.{RefusesOneOf}
use Rattle.csi_sqlite.specs.Public.Tables.{HasParts}
use Rattle.csi_sqlite.proofs.sqlite_keep.changing.change_all.Given as goal

-- what is left to do leads where all of it leads, and is refused as all of it is
abbrev pub invariant-loop-part : goal.invariant-loop-part
invariant-loop-part g l =
    let start = state g.S.Store l.fn.transaction.conn.now in
    let now = state g.S.Store l.transaction.conn.now in
    (l.transaction.conn.ghost_name ≡ l.fn.transaction.conn.ghost_name) × Survives start now (λ _. ⊥)
    × (HasCleanDisk now → (content : List StoredPart) → HasParts start content
    → (mid : List StoredPart) × HasParts now mid × (all_changed (map part_change (drop l.part-index l.parts)) mid ≡ all_changed (map part_change l.parts) content))
    × (HasCleanDisk now → IsTrue start.in_transaction → IsTrue now.in_transaction × ((after : Held g.row.S.Denot) (error : Error)
    → RefusesOneOf g.S.Store (map part_change (drop l.part-index l.parts)) l.transaction.conn.now after error → RefusesOneOf g.S.Store (map part_change l.parts) l.fn.transaction.conn.now after error))
