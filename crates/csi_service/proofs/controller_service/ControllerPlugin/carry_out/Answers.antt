-- A controller carries out a call as any plugin does; after a refusal its rows are told by the same state.
use Rattle.csi_types.specs.declared.call.Party.TheVariants.{Controller}
use Rattle.csi_controller.specs.Public.RowsLaw.{ChangesAt}
use Rattle.csi_controller.proofs.ShowingLaw.{shows-a_state}
use Rattle.std.proofs.Common.{arith}
use Rattle.std.proofs.lemmas.Result.{on_err_weaker}
use Rattle.csi_service.specs.Public.Services.{controller_view}
use Rattle.csi_service.specs.Private.Plugins.{RowsChange}
use Rattle.csi_service.proofs.AnsweredFrames.{answer-weaker}
use Rattle.csi_service.proofs.ControllerRows.{controller-changes, same-record}
use Rattle.csi_service.proofs.controller_service.ControllerPlugin.carry_out.Goals as goal

pub returns : goal.returns
returns c =
    let old = c.args.self.now in
    let new = c.answer-answered.new.self in
    let number = c.args.number in
    let result = c.answer-answered.result in
    let told = c.answer-answered.ensures in
    let s = shows-a_state old c.sound_law.ensures (omega (arith, c.next_id-next.ensures.value)) in
    record {
      own = told.config;
      gets = λ state shown. told.reply state Controller shown c.requires.allowed c.requires.texts;
      leads = λ state shown. told.state state Controller shown c.requires.allowed c.requires.texts;
      allowed = told.allowed;
      changes = answer-weaker (λ a. ChangesAt a.row number old new) (λ a. RowsChange controller_view a.row number old new) result (λ a changes. controller-changes a.row number old new changes) told.changes;
      err_shows = told.err;
      err = on_err_weaker result (λ shown. same-record old new s.0 s.1 shown c.sound_law.ensures.rising c.sound_law-2.ensures.rising told.config) (told.err s.0 s.1);
    }
