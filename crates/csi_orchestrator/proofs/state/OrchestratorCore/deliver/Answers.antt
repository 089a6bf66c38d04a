-- The row that the reply is to takes a step.
use Rattle.csi_orchestrator.proofs.Words.{◌≡◌, Some, None, sym, ◌∙◌, subst, Frame, Ignored, orchestrator_parts_shown}
use Rattle.csi_orchestrator.proofs.Words.{Comes, Hears, hears, IsRefusal, RowsAnswer}
use Rattle.csi_orchestrator.proofs.RepliedPlaces.{delivered, undelivered, told-at_err, never-ignored}
use Rattle.csi_orchestrator.proofs.DueAfterStep.{holds-at_err}
use Rattle.csi_orchestrator.proofs.state.OrchestratorCore.deliver.Goals as goal

pub returns-in_default-index_replied-clause-told : goal.returns-in_default-index_replied-clause-told
returns-in_default-index_replied-clause-told c =
    record {
      ok =
          undelivered c.args.self.now c.args.frame.now c.number.result c.party.result.now c.in-Reply.kind c.in-Reply.reply c.number.ensures c.party.ensures
          (sym c.body.ensures.value ∙ c.in-Reply.is) (sym c.in_default-index_replied.ensures.index);
      err = tt;
      stays = tt;
    }

pub step-requires-clause-fits : goal.step-requires-clause-fits
step-requires-clause-fits c =
    let core = c.args.self.now in
    let of =
    delivered core c.args.frame.now c.number.result c.party.result.now c.in-Reply.kind c.in-Reply.reply c.in-Some.index c.step_of.result c.number.ensures c.party.ensures
    (sym c.body.ensures.value ∙ c.in-Reply.is) c.requires.sound (sym c.in-Some.ensures.index) c.step_of.ensures in
    of.fits

pub returns-in_err-sent-clause-told : goal.returns-in_err-sent-clause-told
returns-in_err-sent-clause-told c =
    let core = c.args.self.now in
    let of =
    delivered core c.args.frame.now c.number.result c.party.result.now c.in-Reply.kind c.in-Reply.reply c.in-Some.index c.step_of.result c.number.ensures c.party.ensures
    (sym c.body.ensures.value ∙ c.in-Reply.is) c.requires.sound (sym c.in-Some.ensures.index) c.step_of.ensures in
    told-at_err (orchestrator_parts_shown core) (orchestrator_parts_shown c.step.new.self) (Comes c.args.frame.now) Hears c.from_residual.result c.in_err-sent.field-0.0 c.from_residual.ensures.1
    (subst (λ t. IsRefusal t c.in_err-sent.field-0.0) (sym of.told) (c.in_err-sent.ensures of.name hears of.named).err) (c.in_err-sent.ensures of.name hears of.named).stays

pub returns-in_err-sent-clause-ignored : goal.returns-in_err-sent-clause-ignored
returns-in_err-sent-clause-ignored c = λ told.
    let core = c.args.self.now in
    let of =
    delivered core c.args.frame.now c.number.result c.party.result.now c.in-Reply.kind c.in-Reply.reply c.in-Some.index c.step_of.result c.number.ensures c.party.ensures
    (sym c.body.ensures.value ∙ c.in-Reply.is) c.requires.sound (sym c.in-Some.ensures.index) c.step_of.ensures in
    absurd (never-ignored (orchestrator_parts_shown core) c.step_of.result _ (subst (RowsAnswer (Hears Ignored)) of.told told))

pub returns-in_err-sent-clause-quiet : goal.returns-in_err-sent-clause-quiet
returns-in_err-sent-clause-quiet c = λ told.
    let core = c.args.self.now in
    let of =
    delivered core c.args.frame.now c.number.result c.party.result.now c.in-Reply.kind c.in-Reply.reply c.in-Some.index c.step_of.result c.number.ensures c.party.ensures
    (sym c.body.ensures.value ∙ c.in-Reply.is) c.requires.sound (sym c.in-Some.ensures.index) c.step_of.ensures in
    let ok = (c.in_err-sent.ensures of.name hears of.named).quiet clash (subst (RowsAnswer (hears None)) of.told told) in
    cc
  where
    clash : (frame : Frame) → hears (Some frame) ≡ hears None → ⊥
    clash frame e = cc

pub returns-clause-told : goal.returns-clause-told
returns-clause-told c =
    let core = c.args.self.now in
    let of =
    delivered core c.args.frame.now c.number.result c.party.result.now c.in-Reply.kind c.in-Reply.reply c.in-Some.index c.step_of.result c.number.ensures c.party.ensures
    (sym c.body.ensures.value ∙ c.in-Reply.is) c.requires.sound (sym c.in-Some.ensures.index) c.step_of.ensures in
    record { ok = of.told ∙ (c.in_ok-sent.ensures of.name hears of.named).ok; err = tt; stays = tt }

pub returns-in_err-sent-clause-stays : goal.returns-in_err-sent-clause-stays
returns-in_err-sent-clause-stays c =
    let core = c.args.self.now in
    let of =
    delivered core c.args.frame.now c.number.result c.party.result.now c.in-Reply.kind c.in-Reply.reply c.in-Some.index c.step_of.result c.number.ensures c.party.ensures
    (sym c.body.ensures.value ∙ c.in-Reply.is) c.requires.sound (sym c.in-Some.ensures.index) c.step_of.ensures in
    holds-at_err c.from_residual.result (c.in_err-sent.ensures of.name hears of.named).stays

pub returns-in_err-sent-clause-filed : goal.returns-in_err-sent-clause-filed
returns-in_err-sent-clause-filed c =
    let core = c.args.self.now in
    let of =
    delivered core c.args.frame.now c.number.result c.party.result.now c.in-Reply.kind c.in-Reply.reply c.in-Some.index c.step_of.result c.number.ensures c.party.ensures
    (sym c.body.ensures.value ∙ c.in-Reply.is) c.requires.sound (sym c.in-Some.ensures.index) c.step_of.ensures in
    (c.in_err-sent.ensures of.name hears of.named).filed

pub returns-clause-filed : goal.returns-clause-filed
returns-clause-filed c =
    let core = c.args.self.now in
    let of =
    delivered core c.args.frame.now c.number.result c.party.result.now c.in-Reply.kind c.in-Reply.reply c.in-Some.index c.step_of.result c.number.ensures c.party.ensures
    (sym c.body.ensures.value ∙ c.in-Reply.is) c.requires.sound (sym c.in-Some.ensures.index) c.step_of.ensures in
    (c.in_ok-sent.ensures of.name hears of.named).filed
