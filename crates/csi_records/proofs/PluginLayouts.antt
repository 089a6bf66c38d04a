-- The records of both plugins by their layouts.
use Rattle.std.proofs.Common.{◌≡◌, ℕ, ◌≤◌, ◌<◌, List, [], ◌∷◌, length, take, map, get_or, Some, None, refl, sym, ap, subst, ◌∙◌, arith}
use Rattle.std.specs.Prelude.{Option, IfSome}
use Rattle.std.specs.List.{AllByRecursion}
use Rattle.std.proofs.lemmas.List.{take-map, length-append, length-take, length-map, get_or-take}
use Rattle.std.proofs.lemmas.List.Elements.{All-take, recursion_from_All}
use Rattle.csi_controller.specs.declared.row.ControllerRow.{ControllerRow}
use Rattle.csi_controller.specs.Public.Core.{AreSoundRows as AreSoundControllerRows, IsCurrentRow}
use Rattle.csi_controller.specs.Public.Views.{AreSameRows}
use Rattle.csi_controller.proofs.Copies.{sound-copies, current-copies}
use Rattle.csi_controller.proofs.FirstRefused.{sound-take}
use Rattle.csi_types.specs.Public.Text.{IsNodeId}
use Rattle.csi_frames.specs.Public.Spelling as spelling
use Rattle.csi_records.specs.declared.version.RecordVersion.{RecordVersion}
use Rattle.csi_node.specs.declared.row.NodeRow.{NodeRow}
use Rattle.csi_node.specs.Model.OneRow.{NodeRowShown, node_row_shown}
use Rattle.csi_node.specs.Public.OneRow.{IsSoundRow}
use Rattle.csi_node.specs.Public.Judging.{KeepRules as KeepNodeRules}
use Rattle.csi_node.specs.Public.Record.{AreSoundRows as AreSoundNodeRows, IsCurrentRow as IsCurrentNodeRow, ids, row_id_at}
use Rattle.csi_stores.specs.declared.part.Part.{Part}
use Rattle.csi_stores.specs.Public.Part.{StoredPart, stored_in, all_stored_in}
use Rattle.csi_records.specs.Public.Writing.{ArePublishedFew, CanBeWritten}
use Rattle.csi_records.specs.Public.Spelling.{VolumeRow, session_bytes, volume_row, node_head}
use Rattle.csi_records.specs.Public.Records.{Layout, Head, IsHead, IsAskedNode, controller_layout, node_layout, AreControllerRows, AreVolumeRows, IsRecordOf, IsRefusedAt}
use Rattle.csi_records.proofs.PartReaders.{volume_read, answered_read, controller_head_read, node_head_read, same_part}
use Rattle.csi_records.proofs.ValueSizes.{volume_size, answered_size}
use Rattle.csi_records.proofs.FieldReaders.{version-found}
use Rattle.csi_records.proofs.LayoutLaws.{ArePlain, fit-parts}
use Rattle.csi_records.proofs.Versions.{AreOfKind}
use Rattle.csi_records.proofs.Layouts.{IsOneToOne, each-take, head-refused}

-- ---- the controller's

-- a controller's rows that are spelled the same say the same
same-rows : (rows others : List ControllerRow) → map volume_row rows ≡ map volume_row others → AreSameRows rows others
same-rows [] [] e = tt
same-rows [] (b ∷ bs) e = absurd cc
same-rows (a ∷ rows) [] e = absurd cc
same-rows (a ∷ rows) (b ∷ bs) e =
    let one : volume_row a ≡ volume_row b = cc in
    let rest : map volume_row rows ≡ map volume_row bs = cc in
    (record { volume = sym (ap (λ (r : VolumeRow). r.volume) one); items = sym (ap (λ (r : VolumeRow). r.holdings) one) }, same-rows rows bs rest)

-- rows that say the same keep the same rules, by a session or without one
rules-copies : (next_id : ℕ) (session : Option ℕ) (rows copies : List ControllerRow) → AreSameRows rows copies → AreControllerRows next_id session rows → AreControllerRows next_id session copies
rules-copies next_id None rows copies same are = sound-copies next_id rows copies same are
rules-copies next_id (Some session) rows copies same are = (sound-copies next_id rows copies same are.0, current-copies session rows copies same are.1)

-- rows that are spelled as a controller's record's keep its rules
pub rules-shown : (head : Head ℕ) (rows : List ControllerRow) → AreVolumeRows head (map volume_row rows) → AreControllerRows head.own head.session rows
rules-shown head rows are = rules-copies head.own head.session are.0 rows (same-rows are.0 rows are.1) are.2

-- a front of a controller's rows keeps the rules
controller-take : (next_id : ℕ) (session : Option ℕ) (rows : List ControllerRow) (k : ℕ) → AreControllerRows next_id session rows → AreControllerRows next_id session (take k rows)
controller-take next_id None rows k are = sound-take next_id rows k are
controller-take next_id (Some session) rows k are = (sound-take next_id rows k are.0, each-take (IsCurrentRow session) rows k are.1)

-- a controller's rows are sound, by a session or without one
controller-sound : (next_id : ℕ) (session : Option ℕ) (rows : List ControllerRow) → AreControllerRows next_id session rows → AreSoundControllerRows next_id rows
controller-sound next_id None rows are = are
controller-sound next_id (Some session) rows are = are.0

-- the parts of a controller's record are spelled by one value each, and a front of its rows keeps the rules
pub controller_one : (version : RecordVersion) → IsOneToOne (controller_layout version)
controller_one version = record {
  heads = same_part (controller_head_read version);
  rows = same_part (volume_read version);
  fronts = λ head shown k are. (take k are.0, sym (take-map volume_row k are.0) ∙ ap (take k) are.1, controller-take head.own head.session are.0 k are.2);
}

-- ---- a node's

-- a front of a node's record keeps a record's rules
record-take : (rows : List NodeRowShown) (k : ℕ) → AreSoundNodeRows rows → AreSoundNodeRows (take k rows)
record-take rows k is = record {
  rising = λ i j below inside.
      let j_below : j < k = omega (arith, inside, length-take k rows) in
      let j_there : j < length rows = omega (arith, inside, length-take k rows) in
      let i_below : i < k = omega (arith, below, j_below) in
      subst (λ (n : ℕ). n < row_id_at (take k rows) j) (sym (at i i_below)) (subst (λ (n : ℕ). row_id_at rows i < n) (sym (at j j_below)) (is.rising i j below j_there));
  limit = omega (arith, is.limit, length-take k rows);
  each = All-take IsSoundRow k rows is.each;
}
  where
    at : (i : ℕ) → i < k → row_id_at (take k rows) i ≡ row_id_at rows i
    at i below = ap (λ (ns : List ℕ). get_or ns i 0) (sym (take-map (λ (row : NodeRowShown). row.id) k rows)) ∙ get_or-take k (ids rows) i 0 below

-- the same with the rules of its session
node-take : (session : Option ℕ) (rows : List NodeRowShown) (k : ℕ) → KeepNodeRules session rows → KeepNodeRules session (take k rows)
node-take None rows k are = record-take rows k are
node-take (Some greatest) rows k are = (record-take rows k are.0, All-take (IsCurrentNodeRow greatest) k rows are.1)

-- a node's rows are sound, by a session or without one
node-sound : (session : Option ℕ) (rows : List NodeRowShown) → KeepNodeRules session rows → AreSoundNodeRows rows
node-sound None rows are = are
node-sound (Some greatest) rows are = are.0

-- the head of the node that is asked for is a node's
named : (version : RecordVersion) (wanted : Option (List ℕ)) (head : Head (List ℕ)) → IsHead (IsAskedNode wanted) version head → IsHead IsNodeId version head
named version wanted head fits = record { own = fits.own.0; session = fits.session }

-- the parts of a node's record are spelled by one value each, and a front of its rows keeps the rules
pub node_one : (version : RecordVersion) (wanted : Option (List ℕ)) → IsOneToOne (node_layout version wanted)
node_one version wanted = record {
  heads = λ a b fits fit e. same_part (node_head_read version) a b (named version wanted a fits) (named version wanted b fit) e;
  rows = same_part (answered_read version);
  fronts = λ head rows k are. node-take head.session rows k are;
}

-- another node's head
pub node-unasked : (version : RecordVersion) (wanted : Option (List ℕ)) (head : Head (List ℕ)) (parts : List Part) (item : Part) → 1 ≤ length parts → item ≡ get_or parts 0 item → node_head version head.own head.session ≡ stored_in item
    → IsHead IsNodeId version head → (IfSome wanted (λ id. head.own ≡ id) → ⊥) → IsRefusedAt (IsRecordOf (node_layout version wanted)) (all_stored_in parts) 0
node-unasked version wanted head parts item some is same fits other =
    head-refused (node_layout version wanted) parts item some is
    (λ first fit there.
    let own : first ≡ head = same_part (node_head_read version) first head (named version wanted first fit) fits (there ∙ sym same) in
    other (subst (λ (h : Head (List ℕ)). IfSome wanted (λ id. h.own ≡ id)) own fit.own.1))

-- what keeps the rules can be written
few-each : (rows : List NodeRow) → AllByRecursion IsSoundRow (map node_row_shown rows) → AllByRecursion ArePublishedFew rows
few-each [] each = tt
few-each (r ∷ rs) each = ((each.0).targets.limit, few-each rs each.1)

-- the rows of a node's record have at most 16 targets each
pub few-targets : (rows : List NodeRow) → AreSoundNodeRows (map node_row_shown rows) → AllByRecursion ArePublishedFew rows
few-targets rows is = few-each rows (recursion_from_All IsSoundRow (map node_row_shown rows) is.each)

-- ---- what their parts are

-- the session of a head takes eight bytes, or none
session-size : (session : Option ℕ) → length (session_bytes session) ≤ 8
session-size None = omega arith
session-size (Some session) = omega arith

-- a controller's parts are within their limits, and there are at most 4,096 rows
pub controller_plain : (version : RecordVersion) → ArePlain (controller_layout version)
controller_plain version = record {
  heads = λ head fits. record { key = omega arith; value = omega (arith, session-size head.session, length-append (spelling.word head.own) (session_bytes head.session)) };
  rows = λ row fits. record { key = fits.id.in_range; value = volume_size version row fits };
  few = λ head rows are. omega (arith, (controller-sound head.own head.session are.0 are.2).limit, length-map are.0 volume_row, ap length are.1);
}

-- a node's parts are within their limits, and there are at most 4,096 rows
pub node_plain : (version : RecordVersion) (wanted : Option (List ℕ)) → ArePlain (node_layout version wanted)
node_plain version wanted = record {
  heads = λ head fits. record { key = omega arith; value = omega (arith, fits.own.0.no_longer, session-size head.session, length-append (spelling.text head.own) (session_bytes head.session)) };
  rows = λ row fits. record { key = fits.id.in_range; value = answered_size version row fits };
  few = λ head rows are. (node-sound head.session rows are).limit;
}

-- the parts of a record can be written
pub writable : {H R : Type 0} (layout : Layout H R) → ArePlain layout → (parts : List StoredPart) → IsRecordOf layout parts → CanBeWritten parts
writable layout plain parts is = let fits = fit-parts layout plain parts is in record { each = fits.fit; few = fits.few }

-- a controller's heads have the byte 0 behind that of their version
pub controller_kind : AreOfKind controller_layout 0
controller_kind = record { versions = λ version head. version-found version; kinds = λ version head. refl }

-- a node's have 1
pub node_kind : (wanted : Option (List ℕ)) → AreOfKind (λ version. node_layout version wanted) 1
node_kind wanted = record { versions = λ version head. version-found version; kinds = λ version head. refl }
