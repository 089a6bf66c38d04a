-- Nothing was done at first, and each input keeps the form.
use Rattle.csi_orchestrator.proofs.AddedItems.{moves-add, stays-formed}
use Rattle.csi_orchestrator.proofs.laws.form_law.Goals as goal

pub returns : goal.returns
returns c = record { first = λ nodes last. tt; then = λ history input form. stays-formed history input _ form (moves-add history input form) }
