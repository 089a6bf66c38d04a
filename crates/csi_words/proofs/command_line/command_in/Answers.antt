-- What the readers of the subcommand say is what was entered.
use Rattle.std.proofs.Common.{◌∙◌, sym, ap}
use Rattle.std.proofs.lemmas.Result.{IfOk-weaker}
use Rattle.csi_words.specs.Public.Words.{command_entered}
use Rattle.csi_words.proofs.Entered.{paired}
use Rattle.csi_words.proofs.command_line.command_in.Goals as goal

pub returns-in-Some : goal.returns-in-Some
returns-in-Some c =
    let entered = paired _ _ _ _ _ c.in-Some.ensures.name c.in-Some.ensures.rows in
    IfOk-weaker c.any_command_of.result _ _ (λ line is. is ∙ ap command_entered (sym entered)) c.any_command_of.ensures
