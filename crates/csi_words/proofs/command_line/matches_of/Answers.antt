-- The program is the definition's, and simple.
use Rattle.std.proofs.Common.{ap, map, string_bytes, ◌∙◌}
use Rattle.std.proofs.lemmas.Result.{IfErr-weaker, IfOk-weaker}
use Rattle.clap.specs.Words.{App, is_simple, subcommand_of, takes}
use Rattle.csi_words.proofs.command_line.matches_of.Goals as goal

pub returns-clause-read : goal.returns-clause-read
returns-clause-read c =
    let words = map string_bytes c.args.words.now in
    let all = c.in_ok-program.ensures in
    let parse = c.try_get_matches_from in
    IfOk-weaker parse.result _ _ (λ m h. (h (ap is_simple all)).1 ∙ ap (λ (a : App). subcommand_of a words) all) parse.ensures.matches

pub returns-clause-refused : goal.returns-clause-refused
returns-clause-refused c =
    let words = map string_bytes c.args.words.now in
    let all = c.in_ok-program.ensures in
    let parse = c.try_get_matches_from in
    IfErr-weaker parse.result _ _ (λ e h took. h (ap (λ (a : App). takes a words) all ∙ took)) parse.ensures.passes
