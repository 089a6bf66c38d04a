-- What leads from the parts of a store to the record that they are read as, in the present version.
use Rattle.std.proofs.Common.{◌≡◌, ◌∙◌, ap, subst, inl, inr, List, None, Some, map}
use Rattle.csi_controller.specs.Public.Views.{RecordParts}
use Rattle.csi_node.specs.Model.OneRow.{node_row_shown}
use Rattle.csi_node.specs.Model.Record.{NodeParts}
use Rattle.csi_stores.specs.Public.Part.{StoredPart, StoredChange}
use Rattle.csi_stores.specs.Public.Content.{all_changed, AreRisingParts}
use Rattle.csi_records.specs.declared.version.RecordVersion.{RecordVersion}
use Rattle.csi_records.specs.Public.Spelling.{present, controller_parts, node_parts, volume_row}
use Rattle.csi_records.specs.Public.Records.{controller_layout, node_layout, IsRecordOf, IsControllerOf, IsNodeOf}
use Rattle.csi_service.specs.Public.Opening.{Records, controller_records}
use Rattle.csi_service.specs.Public.Renewed.{any_node_records, IsReadAs}
use Rattle.csi_service.specs.Private.Opening.{IsRenewal}
use Rattle.csi_service.proofs.MadeCores.{controller-own, node-own}
use Rattle.csi_service.proofs.RecordParts.{controller-rising, node-rising}
use Rattle.csi_service.proofs.RenewedParts.{all-renewed}

-- of any plugin
read-as : {X : Type 0} (records : Records X) (found : List StoredPart) (changes : List StoredChange) (version : RecordVersion) (kept : X) → AreRisingParts found → (records.are present (records.parts_of kept) → AreRisingParts (records.parts_of kept))
    → (records.are_of present found kept → found ≡ records.parts_of kept) → records.are_of version found kept → IsRenewal records.are records.parts_of version found kept changes → IsReadAs records found kept changes
read-as records found changes version kept rising rising_too own tell (inl already) = record {
  version = version;
  was = tell;
  leads = ap (λ (cs : List StoredChange). all_changed cs found) already.1 ∙ own (subst (λ (v : RecordVersion). records.are_of v found kept) already.0 tell);
}
read-as records found changes version kept rising rising_too own tell (inr earlier) = record {
  version = version;
  was = tell;
  leads = ap (λ (cs : List StoredChange). all_changed cs found) earlier.1 ∙ all-renewed found (records.parts_of kept) rising (rising_too earlier.2);
}

-- of a controller
pub controller-read_as : (found : List StoredPart) (changes : List StoredChange) (version : RecordVersion) (kept : RecordParts) → IsRecordOf (controller_layout version) found × IsControllerOf version found kept
    → IsRenewal (λ v. IsRecordOf (controller_layout v)) (λ (k : RecordParts). controller_parts present k.next_id (Some k.session) (map volume_row k.rows)) version found kept changes → IsReadAs controller_records found kept changes
controller-read_as found changes version kept read renewal =
    read-as controller_records found changes version kept (controller-rising version found read.0)
    (controller-rising present (controller_parts present kept.next_id (Some kept.session) (map volume_row kept.rows)))
    (λ tell. controller-own tell.head.own tell.head.session tell.rows kept found tell.spelled.head_fits.session tell.is tell.spelled.are)
    read.1 renewal

-- of a node, whichever it is
pub node-read_as : (found : List StoredPart) (changes : List StoredChange) (version : RecordVersion) (kept : NodeParts) → IsRecordOf (node_layout version None) found × IsNodeOf version None found kept
    → IsRenewal (λ v. IsRecordOf (node_layout v None)) (λ (k : NodeParts). node_parts present k.id (Some k.session) (map node_row_shown k.rows)) version found kept changes → IsReadAs any_node_records found kept changes
node-read_as found changes version kept read renewal =
    read-as any_node_records found changes version kept (node-rising version None found read.0)
    (node-rising present None (node_parts present kept.id (Some kept.session) (map node_row_shown kept.rows)))
    (λ tell. node-own tell.head.own tell.head.session tell.rows kept found tell.spelled.head_fits.session tell.is tell.spelled.are)
    read.1 renewal
