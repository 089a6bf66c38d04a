-- One name more is one command more.
use Rattle.std.proofs.Common.{arith, refl}
use Rattle.clap.specs.Words.{app_of}
use Rattle.csi_words.specs.Private.Words.{with_file_commands}
use Rattle.csi_words.proofs.FilesAdded.{added-next}
use Rattle.csi_words.proofs.command_line.with_file_commands.Goals as goal

pub loop-name-init : goal.loop-name-init
unfolding with_file_commands
loop-name-init c = refl

pub loop-name-preserved : goal.loop-name-preserved
loop-name-preserved c =
    added-next c.args.names.now (λ name. name.now) (app_of c.args.program) (app_of c.loop-name.program) (app_of c.in_ok-program.program) c.loop-name.name-index _ (omega arith)
    c.loop-name.invariant (c.in_ok-program.ensures _ c.one_word_command.ensures)
