-- The last commands are added to the others.
use Rattle.std.proofs.Common.{◌∙◌, ap, codes}
use Rattle.std.proofs.lemmas.Result.{IfOk-weaker}
use Rattle.clap.specs.Words.{App}
use Rattle.csi_words.specs.Public.Words.{with_recover_command}
use Rattle.csi_words.proofs.command_line.with_all_commands.Goals as goal

pub returns : goal.returns
returns c =
    let one = c.in_ok-with_one.ensures _ c.recover_command.ensures ∙ ap (λ (a : App). with_recover_command a (codes "recover") (codes "SESSION") (codes "CONTROLLER")) c.in_ok-stores.ensures in
    IfOk-weaker c.with_command-2.result _ _ (λ command is. is ∙ ap (λ (a : App). with_recover_command a (codes "recover-controller") (codes "NEXT") (codes "ORCHESTRATOR")) one)
    (c.with_command-2.ensures _ c.recover_command-2.ensures)
