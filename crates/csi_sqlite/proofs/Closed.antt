-- What a store has is what was committed last.
use Rattle.std.proofs.Common.{List, map, subst}
use Rattle.sqlite.specs.Effect.{Database}
use Rattle.sqlite.specs.State.{State}
use Rattle.csi_sqlite.specs.Public.Rows.{StoresRows}
use Rattle.csi_stores.specs.Public.Part.{StoredPart}
use Rattle.csi_sqlite.specs.Public.Tables.{keyed_row, StoresParts, HoldsParts}

-- a connection's parts are those of the last commit
pub stored_in : (s : State) (content : List StoredPart) → HoldsParts s content → StoresParts s.committed.trees content
stored_in s content holds = record {
  rows = subst (λ (d : Database). StoresRows d.trees (map keyed_row content)) holds.1.committed holds.0.rows.stores;
  rising = holds.0.rising;
  keys = holds.0.keys;
}
