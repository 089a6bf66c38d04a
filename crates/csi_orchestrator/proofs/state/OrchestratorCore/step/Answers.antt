-- By the row at the index.
use Rattle.csi_orchestrator.proofs.Words.{ℕ, List, refl, sym, ◌∙◌, ap, subst, orchestrator_parts_shown, row_step}
use Rattle.csi_orchestrator.proofs.Words.{SendsNothing, IsRefusal, row_shown}
use Rattle.csi_orchestrator.proofs.RowsByName.{step-refused, step-told, step-quiet, rows-stay}
use Rattle.csi_orchestrator.proofs.RowsUnderNames.{indexed-refused}
use Rattle.csi_orchestrator.proofs.OpenCalls.{ready-told}
use Rattle.csi_orchestrator.proofs.DueAfterStep.{passed-on, holds-at_err, at-err-ok}
use Rattle.csi_orchestrator.proofs.state.OrchestratorCore.step.Goals as goal

pub returns-in_err-next : goal.returns-in_err-next
returns-in_err-next c = λ name says at.
    let core = c.args.self.now in
    let row = c.index_mut-row.result.now in
    let fault = c.in_err-next.field-0.0 in
    record {
      ok = at-err-ok _ _ c.from_residual.result c.from_residual.ensures.1;
      err =
          passed-on c.from_residual.result _ c.from_residual.ensures.1
          (step-refused core says c.args.step name c.args.index row fault c.index_mut-row.ensures.value
          (subst (λ (nodes : List (List ℕ)). IsRefusal (row_step nodes core.last c.args.step (row_shown row)) fault) c.deref.ensures.value c.in_err-next.ensures.err) at);
      stays = holds-at_err c.from_residual.result (rows-stay core c.args.index row c.take.new.row c.index_mut-row.ensures.value c.in_err-next.ensures.stays);
      filed =
          record {
            indexed = indexed-refused core.catalog core.last.call c.args.index row c.take.new.row c.requires.filed.indexed c.requires.filed.known
                c.index_mut-row.ensures.value c.in_err-next.ensures.stays;
            known = c.requires.filed.known;
          };
      quiet = λ apart told.
          let ok =
          c.in_err-next.ensures.quiet refl
          (subst (λ (nodes : List (List ℕ)). SendsNothing (row_step nodes core.last c.args.step (row_shown row))) (sym c.deref.ensures.value)
          (step-quiet core says c.args.step name c.args.index row c.index_mut-row.ensures.value at apart told)) in
          cc;
      delete = λ deletes. passed-on c.from_residual.result _ c.from_residual.ensures.1 (c.in_err-next.ensures.delete deletes);
    }

pub issue-requires-clause-ready : goal.issue-requires-clause-ready
issue-requires-clause-ready c =
    let core = c.args.self.now in
    let row = c.index_mut-row.result.now in
    (ready-told core.catalog c.deref.result.now core.last c.args.index row c.take.new.row c.args.step c.in_ok-next.next
    c.requires.filed.indexed c.requires.filed.known c.index_mut-row.ensures.value c.in_ok-next.ensures.ok).0

pub issue-requires-clause-after : goal.issue-requires-clause-after
issue-requires-clause-after c =
    let core = c.args.self.now in
    let row = c.index_mut-row.result.now in
    (ready-told core.catalog c.deref.result.now core.last c.args.index row c.take.new.row c.args.step c.in_ok-next.next
    c.requires.filed.indexed c.requires.filed.known c.index_mut-row.ensures.value c.in_ok-next.ensures.ok).1

pub returns : goal.returns
returns c = λ name says at.
    let core = c.args.self.now in
    let row = c.index_mut-row.result.now in
    record {
      ok =
          step-told core says c.args.step name c.args.index row c.take.new.row c.in_ok-next.next c.issue.result (orchestrator_parts_shown c.issue.new.self) c.index_mut-row.ensures.value
          (ap (λ (nodes : List (List ℕ)). row_step nodes core.last c.args.step (row_shown row)) (sym c.deref.ensures.value)
          ∙ c.in_ok-next.ensures.ok) c.issue.ensures.frame c.issue.ensures.parts at;
      err = tt;
      stays = tt;
      filed = c.issue.ensures.filed;
      quiet = λ apart told. refl;
      delete = λ deletes. tt;
    }
