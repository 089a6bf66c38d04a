use Rattle.std.proofs.Common.{◌≡◌, ◌∙◌, ap, map, arith, List, ℕ, Some, None, sym, subst}
use Rattle.std.proofs.lemmas.Result.{IfOk-weaker}
use Rattle.csi_types.specs.Public.Text.{IsNodeId}
use Rattle.csi_node.specs.declared.row.NodeRow.{NodeRow}
use Rattle.csi_node.specs.Model.OneRow.{node_row_shown}
use Rattle.csi_node.specs.Public.Record.{AreSoundRows as AreSoundNodeRows}
use Rattle.csi_records.specs.Public.Spelling.{present, node_head, answered_part}
use Rattle.csi_records.specs.Public.Records.{node_layout, IsAnsweredRow}
use Rattle.csi_records.proofs.WritingPieces.{put_same, stored_put}
use Rattle.csi_records.proofs.PluginLayouts.{few-targets, node_plain, writable}
use Rattle.std.specs.List.{AllByRecursion}
use Rattle.csi_records.proofs.Layouts.{is-record}
use Rattle.csi_records.proofs.record.NodeRecordRecord.to_parts.Goals as goal

pub parts_with-requires : goal.parts_with-requires
parts_with-requires c = few-targets c.rows.result.now (subst (λ (rows : List NodeRow). AreSoundNodeRows (map node_row_shown rows)) (sym c.rows.ensures.value) c.rows.ensures.rules)

pub returns-clause-stored : goal.returns-clause-stored
returns-clause-stored c =
    let kept = c.args.self.now in
    let head : c.in_ok-head.head.items ≡ (node_head present kept.id (Some kept.session)).value =
    c.in_ok-head.ensures.value ∙ ap (λ (n : List ℕ). (node_head present n (Some c.session.result)).value) c.id.ensures ∙ ap (λ (n : ℕ). (node_head present kept.id (Some n)).value) c.session.ensures in
    IfOk-weaker c.parts_with.result _ _
    (λ parts changes. stored_put parts.items _ (put_same (answered_part present) node_row_shown _ _ c.rows.result.now kept.rows _ head c.rows.ensures.value changes))
    c.parts_with.ensures.parts

pub returns-clause-parts : goal.returns-clause-parts
returns-clause-parts c =
    let kept = c.args.self.now in
    let id = subst IsNodeId c.id.ensures c.in_ok-head.ensures.fits in
    IfOk-weaker c.parts_with.result _ _
    (λ parts each. is-record (node_layout present None) (record { own = kept.id; session = Some kept.session }) (map node_row_shown kept.rows) (record { own = (id, tt); session = omega arith })
    (subst (λ rows. AllByRecursion (IsAnsweredRow present) (map node_row_shown rows)) c.rows.ensures.value each) (c.rows.ensures.rules, c.rows.ensures.current))
    c.parts_with.ensures.fit

pub returns-clause-writable : goal.returns-clause-writable
returns-clause-writable c = IfOk-weaker c.parts_with.result _ _ (λ parts is. writable (node_layout present None) (node_plain present None) _ is) (returns-clause-parts c)
