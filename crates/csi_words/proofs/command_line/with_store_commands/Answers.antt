-- The commands are the definition's, one after another.
use Rattle.std.proofs.Common.{◌≡◌, ◌∷◌, [], ◌∙◌, ap, codes, refl, rules}
use Rattle.std.proofs.lemmas.Result.{IfOk-weaker}
use Rattle.clap.specs.Words.{App, app_of}
use Rattle.csi_words.specs.Public.Words.{bare, on_files, with_one_word, with_session_command, with_store_command}
use Rattle.csi_words.specs.Private.Words.{with_file_commands}
use Rattle.csi_words.proofs.command_line.with_store_commands.Goals as goal

-- the commands on files are those of these names
on-files : with_file_commands bare (codes "answer" ∷ codes "show" ∷ codes "run" ∷ codes "frames" ∷ codes "draw" ∷ []) ≡ on_files
unfolding with_file_commands
on-files = refl

pub returns : goal.returns
returns c =
    let first : app_of c.subcommand_required-bare.result ≡ bare = search rules in
    let names = codes "answer" ∷ codes "show" ∷ codes "run" ∷ codes "frames" ∷ codes "draw" ∷ [] in
    let three = c.in_ok-three.ensures ∙ ap (λ (a : App). with_file_commands a names) first ∙ on-files in
    let four = c.in_ok-four.ensures _ c.store_command.ensures ∙ ap (λ (a : App). with_store_command a (codes "controller") (codes "CONFIG")) three in
    let five = c.in_ok-five.ensures _ c.session_command.ensures ∙ ap (λ (a : App). with_session_command a (codes "node") (codes "ID")) four in
    let six = c.in_ok-six.ensures _ c.session_command-2.ensures ∙ ap (λ (a : App). with_session_command a (codes "orchestrator") (codes "CONFIG")) five in
    IfOk-weaker c.with_command-4.result _ _ (λ command is. is ∙ ap (λ (a : App). with_one_word a (codes "record") (codes "DB")) six) (c.with_command-4.ensures _ c.one_word_command.ensures)
