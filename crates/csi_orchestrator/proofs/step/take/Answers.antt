-- By what is decided.
use Rattle.csi_orchestrator.proofs.Words.{◌≡◌, refl, sym, ◌∙◌, ap, subst, Ok, Result, IfOk, IfErr, Refuse, Met, Wait}
use Rattle.csi_orchestrator.proofs.Words.{Send, OrchFault, Step, decided, IsRefusal, MovedRow, SendsNothing, row_shown}
use Rattle.csi_orchestrator.proofs.DecisionsTold.{decision-tells, deletes-without}
use Rattle.csi_orchestrator.proofs.DueAfterStep.{goes-quietly}
use Rattle.csi_orchestrator.proofs.step.take.Goals as goal

pub returns-in-Refuse : goal.returns-in-Refuse
returns-in-Refuse c =
    let told = decision-tells c.args.nodes.now c.args.last c.args.step (row_shown c.args.row.now) (Refuse c.in-Refuse.fault) c.in-Refuse.ensures in
    record {
      ok = tt;
      err = subst (λ (moved : Result MovedRow OrchFault). IsRefusal moved c.in-Refuse.fault) told refl;
      stays = refl;
      quiet = λ plain nothing. absurd (subst SendsNothing (sym told) nothing);
      delete = λ deletes spent.
          deletes-without c.args.nodes.now c.args.last (row_shown c.args.row.now)
          (ap Refuse (sym spent) ∙ c.in-Refuse.ensures ∙ ap (λ (step : Step). decided c.args.nodes.now c.args.last step (row_shown c.args.row.now)) deletes);
    }

pub returns-in-Met : goal.returns-in-Met
returns-in-Met c =
    record {
      ok = sym (decision-tells c.args.nodes.now c.args.last c.args.step (row_shown c.args.row.now) Met c.in-Met.ensures);
      err = tt;
      stays = tt;
      quiet = λ plain nothing. refl;
      delete = λ deletes. tt;
    }

pub returns-in-Wait : goal.returns-in-Wait
returns-in-Wait c =
    record {
      ok = sym (decision-tells c.args.nodes.now c.args.last c.args.step (row_shown c.args.row.now) Wait c.in-Wait.ensures);
      err = tt;
      stays = tt;
      quiet = λ plain nothing. refl;
      delete = λ deletes. tt;
    }

pub returns-in-Send : goal.returns-in-Send
returns-in-Send c =
    let told = decision-tells c.args.nodes.now c.args.last c.args.step (row_shown c.args.row.now) Send c.in-Send.ensures in
    record {
      ok = subst (λ (moved : Result MovedRow OrchFault). IfOk c.send_due.result (λ next. moved ≡ Ok (record { outgoing = next; row = row_shown c.send_due.new.row }))) told c.send_due.ensures.ok;
      err = subst (λ (moved : Result MovedRow OrchFault). IfErr c.send_due.result (IsRefusal moved)) told c.send_due.ensures.err;
      stays = c.send_due.ensures.stays;
      quiet = λ plain nothing.
          let both = goes-quietly c.args.nodes.now c.args.last c.args.step (row_shown c.args.row.now) c.in-Send.ensures nothing in
          c.send_due.ensures.quiet both.0 both.1;
      delete = c.send_due.ensures.delete;
    }
