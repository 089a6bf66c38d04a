-- At the row of the name, or with a new one.
use Rattle.csi_orchestrator.proofs.Words.{◌≡◌, sym, subst, Option, Result, IfOk, IfErr, OrchFault, rows_of}
use Rattle.csi_orchestrator.proofs.Words.{orchestrator_parts_shown, Sends, MovedRows, moved_rows, IsRefusal, creates}
use Rattle.csi_orchestrator.proofs.Words.{RowShown}
use Rattle.csi_orchestrator.proofs.RowsByName.{shown-nowhere, create-asked}
use Rattle.csi_orchestrator.proofs.state.OrchestratorCore.create.Goals as goal

pub returns-in-Some-clause-told : goal.returns-in-Some-clause-told
returns-in-Some-clause-told c =
    let at = sym c.in-Some.ensures.index in
    let step = c.step.ensures c.args.name Sends at in
    let same = create-asked c.args.self.now c.args.name c.args.arguments c.in-Some.index at in
    record {
      ok = subst (λ (t : Result MovedRows OrchFault). IfOk c.step.result (λ sent. t ≡ moved_rows (orchestrator_parts_shown c.step.new.self) (Sends sent))) same (step.ok);
      err = subst (λ (t : Result MovedRows OrchFault). IfErr c.step.result (IsRefusal t)) same (step.err);
      stays = step.stays;
    }

pub returns-in-None-clause-told : goal.returns-in-None-clause-told
returns-in-None-clause-told c =
    let core = c.args.self.now in
    let new = sym (shown-nowhere (rows_of core.catalog) c.args.name (sym c.in-None.ensures.index)) in
    record {
      ok = subst (λ (row : Option RowShown). IfOk c.create_first.result (λ sent. creates (orchestrator_parts_shown core) c.args.name c.args.arguments row ≡ moved_rows (orchestrator_parts_shown c.create_first.new.self)
          (Sends sent))) new c.create_first.ensures.ok;
      err = subst (λ (row : Option RowShown). IfErr c.create_first.result (IsRefusal (creates (orchestrator_parts_shown core) c.args.name c.args.arguments row))) new c.create_first.ensures.err;
      stays = c.create_first.ensures.stays;
    }

pub returns-in-Some-clause-stays : goal.returns-in-Some-clause-stays
returns-in-Some-clause-stays c = (c.step.ensures c.args.name Sends (sym c.in-Some.ensures.index)).stays

pub returns-in-Some-clause-filed : goal.returns-in-Some-clause-filed
returns-in-Some-clause-filed c = (c.step.ensures c.args.name Sends (sym c.in-Some.ensures.index)).filed
