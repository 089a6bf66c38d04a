use Rattle.std.proofs.Common.{sym, subst}
use Rattle.std.proofs.lemmas.Result.{IfErr-weaker, IfOk-weaker}
use Rattle.csi_stores.specs.Public.Part.{all_stored_in}
use Rattle.csi_plugins.specs.Public.Recording.{IsLineOf, IsOrchestratorRecord, of_orchestrator}
use Rattle.csi_plugins.specs.Private.Recording.{HasNoLine}
use Rattle.csi_plugins.proofs.recording.line_of_orchestrator.Goals as goal

pub returns-in-Ok-clause-line : goal.returns-in-Ok-clause-line
returns-in-Ok-clause-line c =
    IfOk-weaker c.orchestrator_text.result _ _ (λ text is. subst (IsLineOf (all_stored_in c.args.parts.now)) (sym is.ended) (of_orchestrator c.in-Ok.field-0.version c.in-Ok.field-0.kept is.line c.in-Ok.ensures.1 is.is_line)) c.orchestrator_text.ensures.line

pub returns-in-Ok-clause-refused : goal.returns-in-Ok-clause-refused
returns-in-Ok-clause-refused c =
    IfErr-weaker c.orchestrator_text.result _ _ (λ ending is. subst (HasNoLine IsOrchestratorRecord (all_stored_in c.args.parts.now)) (sym is) tt) c.orchestrator_text.ensures.refused
