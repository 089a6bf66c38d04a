-- One word after another is added.
use Rattle.std.proofs.Common.{◌≡◌, ◌∙◌, ap, codes, rules, true, false}
use Rattle.std.proofs.lemmas.Result.{IfOk-weaker}
use Rattle.clap.specs.Words.{App, app_of, new_rule, rule_of, with_subcommand}
use Rattle.csi_words.proofs.AddedWords.{still_local, added}
use Rattle.csi_words.proofs.command_line.session_command.Goals as goal

pub returns : goal.returns
returns c =
    let store_rule : rule_of c.required-store.result ≡ record (new_rule (codes "DB")) { required = true } = search rules in
    let store_local : c.required-store.result.global ≡ false = search rules in
    let second_rule : rule_of c.required-second_word.result ≡ record (new_rule c.args.second.now) { required = true } = search rules in
    let second_local : c.required-second_word.result.global ≡ false = search rules in
    let session_rule : rule_of c.new-session.result ≡ new_rule (codes "SESSION") = search rules in
    let session_local : c.new-session.result.global ≡ false = search rules in
    let one = c.in_ok-with_store.ensures in
    let two = c.in_ok-with_second.ensures in
    let one_local = still_local _ _ _ one.globals c.new-2.ensures.local store_local in
    let two_local = still_local _ _ _ two.globals one_local second_local in
    let one_is = added _ _ _ _ _ (one.shape store_local) c.new-2.ensures.app store_rule in
    let two_is = added _ _ _ _ _ (two.shape second_local) one_is second_rule in
    IfOk-weaker c.arg-3.result _ _
    (λ command three. λ old new more.
    more.shape (still_local _ _ _ three.globals two_local session_local)
    ∙ ap (λ (a : App). with_subcommand (app_of old) a.top) (added _ _ _ _ _ (three.shape session_local) two_is session_rule))
    c.arg-3.ensures
