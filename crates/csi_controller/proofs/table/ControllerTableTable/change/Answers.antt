-- What a row is told to change can be changed.
use Rattle.std.proofs.Common.{◌≡◌, rules, false}
use Rattle.csi_types.specs.Public.Lent.{lent_call}
use Rattle.csi_controller.specs.Public.OneRow.{RowShown, call_change, row_changed, row_shown}
use Rattle.csi_controller.specs.Private.OneRow.{moved}
use Rattle.csi_controller.specs.Private.Counts.{recounted}
use Rattle.csi_controller.proofs.ControllerPlan.{change-fits, change-sound}
use Rattle.csi_controller.proofs.table.ControllerTableTable.change.Goals as goal

pub returns-in-DeleteVolume-clause-sound : goal.returns-in-DeleteVolume-clause-sound
returns-in-DeleteVolume-clause-sound c =
    let table = c.args.self.now in
    let row = row_shown c.args.row.now in
    let call = lent_call c.args.call.now in
    let new : RowShown = record row { volume = record row.volume { is_live = false } } in
    let is : new ≡ row_changed row (call_change call) = search rules in
    change-sound table row new call c.requires.own c.requires.done.0 c.requires.done.2 is c.requires.sound

pub returns-in-DeleteVolume-clause-agrees : goal.returns-in-DeleteVolume-clause-agrees
returns-in-DeleteVolume-clause-agrees c =
    let table = c.args.self.now in
    let row = row_shown c.args.row.now in
    let call = lent_call c.args.call.now in
    let new : RowShown = record row { volume = record row.volume { is_live = false } } in
    let is : new ≡ row_changed row (call_change call) = search rules in
    let again : table.counts ≡ recounted table.config.nodes (moved (call_change call)) table.counts = search rules in
    change-fits table row new call c.requires.own c.requires.done.0 c.requires.done.2 is table.counts again

pub returns-in_ok-push-in-ControllerPublishVolume-clause-sound : goal.returns-in_ok-push-in-ControllerPublishVolume-clause-sound
returns-in_ok-push-in-ControllerPublishVolume-clause-sound c =
    let table = c.args.self.now in
    let row = row_shown c.args.row.now in
    let call = lent_call c.args.call.now in
    let new : RowShown = record row { items = c.push.new.self.items } in
    let is : new ≡ row_changed row (call_change call) = search rules in
    change-sound table row new call c.requires.own c.requires.done.0 c.requires.done.2 is c.requires.sound

pub returns-in_ok-push-in-ControllerPublishVolume-clause-agrees : goal.returns-in_ok-push-in-ControllerPublishVolume-clause-agrees
returns-in_ok-push-in-ControllerPublishVolume-clause-agrees c =
    let table = c.args.self.now in
    let row = row_shown c.args.row.now in
    let call = lent_call c.args.call.now in
    let new : RowShown = record row { items = c.push.new.self.items } in
    let is : new ≡ row_changed row (call_change call) = search rules in
    let again : c.recount.new.counts ≡ recounted table.config.nodes (moved (call_change call)) table.counts = search rules in
    change-fits table row new call c.requires.own c.requires.done.0 c.requires.done.2 is c.recount.new.counts again

pub returns-in-ControllerUnpublishVolume-clause-sound : goal.returns-in-ControllerUnpublishVolume-clause-sound
returns-in-ControllerUnpublishVolume-clause-sound c =
    let table = c.args.self.now in
    let row = row_shown c.args.row.now in
    let call = lent_call c.args.call.now in
    let new : RowShown = record row { items = c.take_out.new.holdings.items } in
    let is : new ≡ row_changed row (call_change call) = search rules in
    change-sound table row new call c.requires.own c.requires.done.0 c.requires.done.2 is c.requires.sound

pub returns-in-ControllerUnpublishVolume-clause-agrees : goal.returns-in-ControllerUnpublishVolume-clause-agrees
returns-in-ControllerUnpublishVolume-clause-agrees c =
    let table = c.args.self.now in
    let row = row_shown c.args.row.now in
    let call = lent_call c.args.call.now in
    let new : RowShown = record row { items = c.take_out.new.holdings.items } in
    let is : new ≡ row_changed row (call_change call) = search rules in
    let again : c.recount-in-ControllerUnpublishVolume.new.counts ≡ recounted table.config.nodes (moved (call_change call)) table.counts = search rules in
    change-fits table row new call c.requires.own c.requires.done.0 c.requires.done.2 is c.recount-in-ControllerUnpublishVolume.new.counts again

pub returns-in_default-clause-sound : goal.returns-in_default-clause-sound
returns-in_default-clause-sound c =
    let table = c.args.self.now in
    let row = row_shown c.args.row.now in
    let call = lent_call c.args.call.now in
    let new : RowShown = row in
    let is : new ≡ row_changed row (call_change call) = search rules in
    change-sound table row new call c.requires.own c.requires.done.0 c.requires.done.2 is c.requires.sound

pub returns-in_default-clause-agrees : goal.returns-in_default-clause-agrees
returns-in_default-clause-agrees c =
    let table = c.args.self.now in
    let row = row_shown c.args.row.now in
    let call = lent_call c.args.call.now in
    let new : RowShown = row in
    let is : new ≡ row_changed row (call_change call) = search rules in
    let again : table.counts ≡ recounted table.config.nodes (moved (call_change call)) table.counts = search rules in
    change-fits table row new call c.requires.own c.requires.done.0 c.requires.done.2 is table.counts again
