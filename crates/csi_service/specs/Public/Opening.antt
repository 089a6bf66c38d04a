-- What opening a plugin's store finds and leaves: a record in the present version stays; no parts become the head of a new record, and parts in
-- an earlier version become the record that they are read as, in the present one, in one commit. This profile's own.
use Rattle.std.specs.Prelude.{◌≡◌, ◌≢◌, ◌⊎◌, ℕ, List, [], ◌∷◌, map, Some}
use Rattle.csi_records.specs.declared.version.RecordVersion.{RecordVersion}
use Rattle.csi_controller.specs.Public.Views.{RecordParts}
use Rattle.csi_node.specs.Model.OneRow.{node_row_shown}
use Rattle.csi_node.specs.Model.Record.{NodeParts}
use Rattle.csi_stores.specs.declared.keep.KeepFault.{KeepFault}
use Rattle.csi_stores.specs.Public.Part.{StoredPart}
use Rattle.csi_stores.specs.Public.Stores.{Store}
use Rattle.csi_records.specs.Public.Spelling.{present, controller_parts, node_parts, volume_row}
use Rattle.csi_records.specs.Public.Records.{controller_layout, node_layout, IsRecordOf, IsControllerOf, IsNodeOf, IsInSome, IsRefusedAt}
use Rattle.csi_service.specs.Public.StoreOpening.{OpeningRules, Opening, HasOpened, IsUnopened, LeavesOpening}

-- the records of a plugin: which parts are one in a version, and which record they are read as; and what the parts of a record are in the
-- present version
pub record Records (X : Type 0) : Type 1 where
  pub are : RecordVersion → List StoredPart → Type 0
  pub are_of : RecordVersion → List StoredPart → X → Type 0
  pub parts_of : X → List StoredPart

-- a controller's records
abbrev pub controller_records : Records RecordParts
controller_records = record {
  are = λ version. IsRecordOf (controller_layout version);
  are_of = IsControllerOf;
  parts_of = λ kept. controller_parts present kept.next_id (Some kept.session) (map volume_row kept.rows);
}

-- those of the node of this id
abbrev pub node_records : List ℕ → Records NodeParts
node_records id = record {
  are = λ version. IsRecordOf (node_layout version (Some id));
  are_of = λ version. IsNodeOf version (Some id);
  parts_of = λ kept. node_parts present kept.id (Some kept.session) (map node_row_shown kept.rows);
}

-- ---- what becomes of the parts

-- the old parts are a record in an earlier version, and the new ones those of the record that they are read as, in the present one
pub record IsRenewed {X : Type 0} (records : Records X) (old new : List StoredPart) : Type 0 where
  pub version : RecordVersion
  pub earlier : version ≢ present
  pub stored : records.are version old
  pub kept : X
  pub was : records.are_of version old kept
  pub is : new ≡ records.parts_of kept

-- what the commit of opening makes: a head of no parts, and of parts in an earlier version the record that they are read as
abbrev pub IsOpeningCommit : {X : Type 0} → Records X → StoredPart → List StoredPart → List StoredPart → Type 0
IsOpeningCommit records head old new = ((old ≡ []) × (new ≡ head ∷ [])) ⊎ IsRenewed records old new

-- what opening makes: a record in the present version stays, without a commit
abbrev pub OpensTo : {X : Type 0} → Records X → StoredPart → List StoredPart → List StoredPart → Type 0
OpensTo records head old new = (records.are present old × (new ≡ old)) ⊎ IsOpeningCommit records head old new

-- ---- what becomes of the store

-- what opening a plugin's store is to make of its parts: BadRecord where they are a record in no version, at the first that is refused
abbrev pub plugin_rules : {X : Type 0} → Records X → StoredPart → OpeningRules
plugin_rules records head = record {
  refused = IsRefusedAt (IsInSome records.are);
  becomes = IsOpeningCommit records head;
  is_record = records.are present;
}

-- and what it gives: a core whose parts are what opening makes, and are left
abbrev pub plugin_opening : {X C : Type 0} → Records X → (C → List StoredPart) → StoredPart → Opening C
plugin_opening records parts_of head = record {
  rules = plugin_rules records head;
  makes = λ content core. OpensTo records head content (parts_of core);
  is = λ core. records.are present (parts_of core);
  leaves = λ content core. parts_of core;
}

-- a core with the record that was there, or with a new one, in the present version; and the store has it alone
abbrev pub HasRecord : {X C : Type 0} → Records X → (C → List StoredPart) → Store → Store → StoredPart → C → Type 0
HasRecord records parts_of before after head = HasOpened (plugin_opening records parts_of head) before after

-- why a plugin's store isn't opened
abbrev pub IsOpenFault : {X : Type 0} → Records X → Store → Store → StoredPart → KeepFault → Type 0
IsOpenFault records before after head = IsUnopened (plugin_rules records head) before after

-- whether it is opened or not, what is left is what was there, or what the commit of opening makes
abbrev pub LeavesOpened : {X : Type 0} → Records X → Store → Store → StoredPart → Type 0
LeavesOpened records before after head = LeavesOpening (plugin_rules records head) before after
