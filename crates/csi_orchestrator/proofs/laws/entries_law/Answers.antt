-- By what each row keeps.
use Rattle.csi_orchestrator.proofs.Words.{KeepsWhatIsNeeded, IsSteadyRow}
use Rattle.csi_orchestrator.proofs.Lemmas.{each-weaker}
use Rattle.csi_orchestrator.proofs.KeptInUse.{keeps-needed}
use Rattle.csi_orchestrator.proofs.laws.entries_law.Goals as goal

pub returns : goal.returns
returns c = each-weaker IsSteadyRow KeepsWhatIsNeeded c.args.orchestrator.now.rows keeps-needed c.session-session.ensures.kept.steady
