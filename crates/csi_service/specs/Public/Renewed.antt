-- A record that was read of a store's parts, in any version; what the store has to be given so that it has that record in the present one; and
-- a record in which a session was raised. This profile's own.
use Rattle.std.specs.Prelude.{◌≡◌, ◌⊎◌, ℕ, List, [], map, Some, None}
use Rattle.csi_node.specs.Model.OneRow.{node_row_shown}
use Rattle.csi_node.specs.Model.Record.{NodeParts}
use Rattle.csi_stores.specs.Public.Content.{all_changed}
use Rattle.csi_stores.specs.Public.Part.{StoredPart, StoredChange}
use Rattle.csi_records.specs.declared.fault.RecordStop.{RecordStop}
use Rattle.csi_records.specs.declared.fault.RecordStop.TheVariants.{BadRecord, NoMemory}
use Rattle.csi_records.specs.declared.version.RecordVersion.{RecordVersion}
use Rattle.csi_records.specs.Public.Records.{node_layout, IsRecordOf, IsNodeOf, IsInSome, IsRefusedAt}
use Rattle.csi_records.specs.Public.Spelling.{present, node_parts}
use Rattle.csi_service.specs.Public.Opening.{Records}
use Rattle.csi_service.specs.Public.Plugins.{View, record_parts}
use Rattle.csi_service.specs.Public.Raising.{IsRaised}

-- the records of nodes, whichever they are
abbrev pub any_node_records : Records NodeParts
any_node_records = record {
  are = λ version. IsRecordOf (node_layout version None);
  are_of = λ version. IsNodeOf version None;
  parts_of = λ kept. node_parts present kept.id (Some kept.session) (map node_row_shown kept.rows);
}

-- the parts are read as this record, in some version, and these changes lead from them to its parts in the present one
pub record IsReadAs {X : Type 0} (records : Records X) (found : List StoredPart) (kept : X) (changes : List StoredChange) : Type 0 where
  pub version : RecordVersion
  pub was : records.are_of version found kept
  pub leads : all_changed changes found ≡ records.parts_of kept

-- no record is read of the parts: the place of the first that is refused, 0 where there are none; or memory ran out
abbrev pub IsUnread : {X : Type 0} → Records X → List StoredPart → RecordStop → Type 0
IsUnread records found (BadRecord place) = ((found ≡ []) × (place ≡ 0)) ⊎ IsRefusedAt (IsInSome records.are) found place
IsUnread records found NoMemory = Unit {0}

-- these are the parts of a plugin that is as this one was, but that the session was raised in it
pub record IsRaisedAs {P Own R State : Type 0} (view : View P Own R State) (session : ℕ) (old : P) (parts : List StoredPart) : Type 0 where
  pub new : P
  pub raised : IsRaised view session old new
  pub are : parts ≡ record_parts view new
