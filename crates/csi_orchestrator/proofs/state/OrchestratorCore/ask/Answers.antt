-- At the row of the name.
use Rattle.csi_orchestrator.proofs.Words.{None, refl, sym, subst, rows_of, orchestrator_parts_shown, Sends, IsRefusal}
use Rattle.csi_orchestrator.proofs.Words.{steps_at, RowsAnswer}
use Rattle.csi_orchestrator.specs.declared.fault.OrchFault.TheVariants.{NoSuchVolume}
use Rattle.csi_orchestrator.proofs.RowsByName.{shown-nowhere}
use Rattle.csi_orchestrator.proofs.state.OrchestratorCore.ask.Goals as goal

pub returns-in-Some : goal.returns-in-Some
returns-in-Some c = c.step.ensures c.args.name.now Sends (sym c.in-Some.ensures.index)

pub returns-in-None : goal.returns-in-None
returns-in-None c =
    let core = c.args.self.now in
    let nowhere = shown-nowhere (rows_of core.catalog) c.args.name.now (sym c.in-None.ensures.index) in
    record {
      ok = tt;
      err = subst (λ o. IsRefusal (steps_at (orchestrator_parts_shown core) Sends c.args.step o) NoSuchVolume) (sym nowhere) refl;
      stays = refl;
      filed = c.requires.filed;
      quiet = λ apart told. absurd (subst (λ o. RowsAnswer (Sends None) (steps_at (orchestrator_parts_shown core) Sends c.args.step o)) nowhere told);
      delete = λ deletes. λ spent. cc;
    }
