-- At the volume's row, of which the searches of its state alone tell, by the counts of the nodes.
use Rattle.std.proofs.Common.{◌≡◌, ◌∙◌, ap, refl, sym}
use Rattle.std.specs.Prelude.{Option}
use Rattle.std.proofs.lemmas.Bool.{eqb-true}
use Rattle.csi_types.specs.declared.holding.Holding.{Holding}
use Rattle.csi_types.specs.Model.Config.{Config}
use Rattle.csi_types.specs.Public.Lent.{lent_call, lent_capabilities, lent_capability}
use Rattle.csi_fence.specs.Public.Line.{told_by}
use Rattle.csi_controller.specs.Model.State.{Volume}
use Rattle.csi_controller.specs.Model.Table.{Attaches, Detaches, Ends, argument_fault, create_named, publish, unless}
use Rattle.csi_controller.specs.Private.Counts.{is_node_full}
use Rattle.csi_controller.specs.Private.Plan.{row_outcome}
use Rattle.csi_controller.specs.Public.OneRow.{row_shown, state_shown}
use Rattle.csi_controller.specs.Public.Plan.{told_in}
use Rattle.csi_controller.proofs.RowLines.{delete-line}
use Rattle.csi_controller.proofs.RowsTold.{told-line}
use Rattle.csi_controller.proofs.RowTable.{alone, line-counted}
use Rattle.csi_controller.proofs.table.ControllerTableTable.line.Goals as goal

pub returns-in-CreateVolume-clause-told : goal.returns-in-CreateVolume-clause-told
returns-in-CreateVolume-clause-told c = λ rows fits.
    let table = c.args.self.now in
    let row = row_shown c.args.row.now in
    let call = lent_call c.args.call.now in
    let own = rw c.in-CreateVolume.is at c.requires.own in
    let config : Config = record { greatest = 0; nodes = table.config.nodes } in
    let wished = lent_capabilities c.in-CreateVolume.capabilities in
    let found = ap (λ (o : Option Volume). unless (argument_fault c.in-CreateVolume.required c.in-CreateVolume.limit wished) (create_named config (state_shown row) c.in-CreateVolume.name.now c.in-CreateVolume.required c.in-CreateVolume.limit wished o))
    ((alone row).named c.in-CreateVolume.name.now own) in
    let told : told_by c.create_line.result ≡ told_in (row_outcome table.config.nodes table.counts row call) =
    rw c.in-CreateVolume.is (c.create_line.ensures.told ∙ sym (ap told_in (found ∙ c.create_line.ensures.line config (state_shown row) c.in-CreateVolume.name.now))) in
    told ∙ line-counted table.config rows table.counts row call c.requires.own fits.counted

pub returns-in-DeleteVolume-clause-told : goal.returns-in-DeleteVolume-clause-told
returns-in-DeleteVolume-clause-told c = λ rows fits.
    let table = c.args.self.now in
    let row = row_shown c.args.row.now in
    let call = lent_call c.args.call.now in
    let own = rw c.in-DeleteVolume.is at c.requires.own in
    let id : c.in-DeleteVolume.id.number ≡ row.volume.id = sym (eqb-true row.volume.id c.in-DeleteVolume.id.number own) in
    let told : told_by c.delete_line.result ≡ told_in (row_outcome table.config.nodes table.counts row call) =
    rw (c.in-DeleteVolume.is, id) (told-line (Ends row.volume.id) c.delete_line.result refl ∙ sym (ap told_in (delete-line row ∙ c.delete_line.ensures.line))) in
    told ∙ line-counted table.config rows table.counts row call c.requires.own fits.counted

pub returns-in-ControllerPublishVolume-clause-told : goal.returns-in-ControllerPublishVolume-clause-told
returns-in-ControllerPublishVolume-clause-told c = λ rows fits.
    let table = c.args.self.now in
    let row = row_shown c.args.row.now in
    let call = lent_call c.args.call.now in
    let own = rw c.in-ControllerPublishVolume.is at c.requires.own in
    let id : c.in-ControllerPublishVolume.id.number ≡ row.volume.id = sym (eqb-true row.volume.id c.in-ControllerPublishVolume.id.number own) in
    let holding : Holding = record { volume = row.volume.id; node = c.in-ControllerPublishVolume.node.now; capability = lent_capability c.in-ControllerPublishVolume.capability; readonly = c.in-ControllerPublishVolume.readonly } in
    let told : told_by c.publish_line.result ≡ told_in (row_outcome table.config.nodes table.counts row call) =
    rw (c.in-ControllerPublishVolume.is, id)
    (told-line (Attaches holding) c.publish_line.result refl
    ∙ sym (ap told_in (ap (publish (record { greatest = 0; nodes = table.config.nodes }) (is_node_full table.config.nodes table.counts holding.node) (state_shown row) holding) (alone row).live
    ∙ c.publish_line.ensures.line))) in
    told ∙ line-counted table.config rows table.counts row call c.requires.own fits.counted

pub returns-in-ControllerUnpublishVolume-clause-told : goal.returns-in-ControllerUnpublishVolume-clause-told
returns-in-ControllerUnpublishVolume-clause-told c = λ rows fits.
    let table = c.args.self.now in
    let row = row_shown c.args.row.now in
    let call = lent_call c.args.call.now in
    let own = rw c.in-ControllerUnpublishVolume.is at c.requires.own in
    let id : c.in-ControllerUnpublishVolume.id.number ≡ row.volume.id = sym (eqb-true row.volume.id c.in-ControllerUnpublishVolume.id.number own) in
    let told : told_by c.unpublish_line.result ≡ told_in (row_outcome table.config.nodes table.counts row call) =
    rw (c.in-ControllerUnpublishVolume.is, id)
    (told-line (Detaches row.volume.id c.in-ControllerUnpublishVolume.node.now) c.unpublish_line.result refl ∙ sym (ap told_in c.unpublish_line.ensures.line)) in
    told ∙ line-counted table.config rows table.counts row call c.requires.own fits.counted
