use Rattle.std.proofs.Common.{◌≡◌, ◌∙◌, ap, arith, ℕ, Some, map, refl, subst}
use Rattle.std.proofs.lemmas.Result.{IfOk-weaker}
use Rattle.csi_records.specs.Public.Spelling.{present, controller_head, volume_part, volume_row}
use Rattle.csi_records.specs.Public.Records.{controller_layout, IsVolumeRow}
use Rattle.csi_records.proofs.WritingPieces.{put_same, stored_put}
use Rattle.csi_records.proofs.PluginLayouts.{controller_plain, writable}
use Rattle.std.specs.List.{AllByRecursion}
use Rattle.csi_records.proofs.Layouts.{is-record}
use Rattle.csi_records.proofs.record.ControllerRecordRecord.to_parts.Goals as goal

pub returns-clause-stored : goal.returns-clause-stored
returns-clause-stored c =
    let kept = c.args.self.now in
    let head : c.in_ok-head.head.items ≡ (controller_head present kept.next_id (Some kept.session)).value =
    c.in_ok-head.ensures ∙ ap (λ (n : ℕ). (controller_head present n (Some c.session.result)).value) c.next_id.ensures ∙ ap (λ (n : ℕ). (controller_head present kept.next_id (Some n)).value) c.session.ensures in
    IfOk-weaker c.parts_with.result _ _
    (λ parts changes. stored_put parts.items _ (put_same (volume_part present) volume_row _ _ c.rows.result.now kept.rows _ head c.rows.ensures.value changes))
    c.parts_with.ensures.parts

pub returns-clause-parts : goal.returns-clause-parts
returns-clause-parts c =
    let kept = c.args.self.now in
    IfOk-weaker c.parts_with.result _ _
    (λ parts each. is-record (controller_layout present) (record { own = kept.next_id; session = Some kept.session }) (map volume_row kept.rows) (record { own = omega arith; session = omega arith })
    (subst (λ rows. AllByRecursion (IsVolumeRow present) (map volume_row rows)) c.rows.ensures.value each) (kept.rows, refl, (c.rows.ensures.sound, c.rows.ensures.current)))
    c.parts_with.ensures.fit

pub returns-clause-writable : goal.returns-clause-writable
returns-clause-writable c = IfOk-weaker c.parts_with.result _ _ (λ parts is. writable (controller_layout present) (controller_plain present) _ is) (returns-clause-parts c)
