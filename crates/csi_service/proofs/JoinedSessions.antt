-- The record that a node's parts are in the present version has the session that the node heard of.
use Rattle.std.proofs.Common.{◌≡◌, ◌∙◌, ◌<◌, ◌^◌, map, sym, ap, subst, ℕ, List, Some, arith}
use Rattle.std.specs.Prelude.{Option}
use Rattle.csi_types.specs.Public.Text.{IsNodeId}
use Rattle.csi_node.specs.Model.OneRow.{node_row_shown}
use Rattle.csi_node.specs.Model.Record.{NodeParts}
use Rattle.csi_records.specs.Public.Laws.{LawsOf}
use Rattle.csi_records.specs.Public.Records.{Head, IsHead, IsAskedNode, node_layout, node_record_of, IsRecordOf}
use Rattle.csi_records.specs.Public.Spelling.{present, node_head}
use Rattle.csi_records.proofs.PluginLayouts.{node_one}
use Rattle.csi_service.specs.Public.NodeOpening.{IsOfEarlierSession}
use Rattle.csi_service.specs.Public.Plugins.{IsFrom}
use Rattle.csi_service.specs.Public.Services.{NodeService, node_service_parts}

module _ (id : List ℕ) (service : NodeService) (own : service.plugin.id ≡ id) (word : service.plugin.session < 2 ^ 64) (is : IsRecordOf (node_layout present (Some id)) (node_service_parts service)) where
  -- the head of the node
  abbrev head : Head (List ℕ)
  head = record { own = service.plugin.id; session = Some service.plugin.session }

  -- it is one of a record of this node
  head_fits : IsHead (IsAskedNode (Some id)) present head
  head_fits = let asked = is.spelled.head_fits.own in record { own = (subst IsNodeId (asked.1 ∙ sym own) asked.0, own); session = word }

  -- and that of the record
  head_is : head ≡ is.first
  head_is =
      let same : node_head present service.plugin.id (Some service.plugin.session) ≡ node_head present is.first.own is.first.session = let are = is.spelled.are in cc in
      (node_one present (Some id)).heads head is.first head_fits is.spelled.head_fits same

-- so a node that heard of a session has no record of an earlier one
pub not-earlier : (id : List ℕ) (session : ℕ) (service : NodeService) → LawsOf (λ version. node_layout version (Some id)) → service.plugin.id ≡ id → IsFrom session service.plugin.session
    → IsRecordOf (node_layout present (Some id)) (node_service_parts service) → IsOfEarlierSession id session (node_service_parts service) → ⊥
not-earlier id session service laws own from is earlier =
    let was = earlier.was in
    let first : is.first ≡ was.head = (laws.parts present earlier.version is.first was.head is.rows (map node_row_shown was.rows) (node_service_parts service) is.spelled was.spelled).1 in
    let told : was.head.session ≡ Some service.plugin.session = ap (λ (h : Head (List ℕ)). h.session) (sym (head_is id service own from.1 is ∙ first)) in
    let same : earlier.kept.session ≡ service.plugin.session =
    ap (λ (k : NodeParts). k.session) was.is ∙ ap (λ (s : Option ℕ). (node_record_of was.head.own s was.rows).session) told in
    omega (arith, earlier.earlier, same, from.0)
