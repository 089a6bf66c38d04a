-- Rows are within their limits where they were read of a record.
use Rattle.std.proofs.Common.{◌≡◌, sym, ap, refl, subst, ℕ, Bool, List, [], ◌∷◌, map, length, arith}
use Rattle.std.specs.Prelude.{Option, Some, None, filter}
use Rattle.std.specs.List.{AllByRecursion}
use Rattle.csi_types.proofs.Each.{each-weaker, each-map, each-filter}
use Rattle.csi_types.proofs.Members.{each_of, all_of, in-map}
use Rattle.csi_types.specs.declared.capability.Capability.{Capability}
use Rattle.csi_controller.specs.declared.row.ControllerRow.{ControllerRow}
use Rattle.csi_controller.specs.declared.row.NodeHolding.{NodeHolding}
use Rattle.csi_controller.specs.Public.Views.{RecordParts}
use Rattle.csi_controller.specs.Public.WithoutSession.{latest_session, stays_in}
use Rattle.csi_node.specs.declared.row.NodeRow.{NodeRow}
use Rattle.csi_node.specs.Model.OneRow.{NodeRowShown, node_row_shown}
use Rattle.csi_node.specs.Model.Record.{NodeParts, parts}
use Rattle.csi_node.specs.Public.WithoutSession as unsessioned
use Rattle.csi_stores.specs.Public.Part.{StoredPart}
use Rattle.csi_records.specs.declared.version.RecordVersion.{RecordVersion}
use Rattle.csi_records.specs.Public.Spelling.{present, VolumeRow, volume_row, volume_part}
use Rattle.csi_records.specs.Public.Records.{IsCapabilityIn, IsHolding, IsVolumeRow, IsStagedSo, IsAnsweredRow, controller_record_of, node_record_of, IsControllerOf, IsNodeOf}
use Rattle.csi_service.specs.Public.Services.{AreFitControllerRows, AreFitNodeRows}

-- what holds of all that a list is mapped to holds of those that a filter keeps
mapped-filter : {X Y : Type 0} (P : Y → Type 0) (f : X → Y) (p : X → Bool) (xs : List X) → AllByRecursion P (map f xs) → AllByRecursion P (map f (filter p xs))
mapped-filter P f p xs each =
    each-map (λ x. P (f x)) P f (filter p xs) (λ x is. is) (each-filter (λ x. P (f x)) p xs (all_of (λ x. P (f x)) xs (λ x among. each_of P (map f xs) (f x) each (in-map f xs x among))))

-- ---- rows that were read

-- a capability of an earlier version is one of the present version
widened : (version : RecordVersion) (capability : Capability) → IsCapabilityIn version capability → IsCapabilityIn present capability
widened version capability is = record { fits = is.fits; in_mode = refl }

-- so is a controller's row
wide-volume : (version : RecordVersion) (row : VolumeRow) → IsVolumeRow version row → IsVolumeRow present row
wide-volume version row is = record {
  id = is.id;
  name = is.name;
  capacity = is.capacity;
  capability_count = is.capability_count;
  capabilities = each-weaker (IsCapabilityIn version) (IsCapabilityIn present) row.volume.capabilities (widened version) is.capabilities;
  count = is.count;
  holdings = each-weaker (IsHolding version) (IsHolding present) row.holdings (λ (holding : NodeHolding) held. record { node = held.node; capability = widened version holding.capability held.capability }) is.holdings;
  kept = is.kept;
}

-- so is how a volume is staged
wide-staged : (version : RecordVersion) (staged : Option Capability) → IsStagedSo version staged → IsStagedSo present staged
wide-staged version None is = tt
wide-staged version (Some capability) is = widened version capability is

-- so is a node's row
wide-answered : (version : RecordVersion) (row : NodeRowShown) → IsAnsweredRow version row → IsAnsweredRow present row
wide-answered version row is = record { id = is.id; staged = wide-staged version row.staged is.staged; count = is.count; targets = is.targets; kept = is.kept }

-- the rows of a controller's record that was read
pub controller-read : (version : RecordVersion) (found : List StoredPart) (kept : RecordParts) → IsControllerOf version found kept → AreFitControllerRows kept.rows
controller-read version found kept is =
    subst (λ (k : RecordParts). AreFitControllerRows k.rows) (sym is.is)
    (by is.head.session is.rows (each-weaker (IsVolumeRow version) (IsVolumeRow present) (map volume_row is.rows) (wide-volume version) is.spelled.rows_fit))
  where
    by : (session : Option ℕ) (rows : List ControllerRow) → AreFitControllerRows rows → AreFitControllerRows (controller_record_of is.head.own session rows).rows
    by None rows fit = mapped-filter (IsVolumeRow present) volume_row (stays_in (latest_session rows)) rows fit
    by (Some session) rows fit = fit

-- those of a node's
pub node-read : (version : RecordVersion) (wanted : Option (List ℕ)) (found : List StoredPart) (kept : NodeParts) → IsNodeOf version wanted found kept → AreFitNodeRows (parts kept.rows)
node-read version wanted found kept is =
    subst (λ (k : NodeParts). AreFitNodeRows (parts k.rows)) (sym is.is)
    (by is.head.session is.rows (each-weaker (IsAnsweredRow version) (IsAnsweredRow present) (map node_row_shown is.rows) (wide-answered version) is.spelled.rows_fit))
  where
    by : (session : Option ℕ) (rows : List NodeRow) → AreFitNodeRows (parts rows) → AreFitNodeRows (parts (node_record_of is.head.own session rows).rows)
    by None rows fit = mapped-filter (IsAnsweredRow present) node_row_shown (unsessioned.stays_in (unsessioned.latest_session rows)) rows fit
    by (Some session) rows fit = fit

-- ---- no rows

-- where the head is all, a controller has no row
pub controller-none : (head other : StoredPart) (rows : List ControllerRow) → (head ∷ map (volume_part present) (map volume_row rows)) ≡ other ∷ [] → AreFitControllerRows rows
controller-none head other [] are = tt
controller-none head other (row ∷ rows) are = absurd (omega (arith, ap length are))
