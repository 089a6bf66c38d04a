-- One word after another is added.
use Rattle.std.proofs.Common.{◌≡◌, ◌∙◌, ap, codes, rules, true, false, Some}
use Rattle.std.proofs.lemmas.Result.{IfOk-weaker}
use Rattle.clap.specs.declared.builder.action.ArgAction.TheVariants.{Append}
use Rattle.clap.specs.Words.{App, app_of, new_rule, rule_of, with_subcommand}
use Rattle.csi_words.proofs.AddedWords.{still_local, added}
use Rattle.csi_words.proofs.command_line.recover_command.Goals as goal

pub returns : goal.returns
returns c =
    let new_rule_is : rule_of c.required-new.result ≡ record (new_rule (codes "NEW")) { required = true } = search rules in
    let new_local : c.required-new.result.global ≡ false = search rules in
    let config_rule : rule_of c.required-config.result ≡ record (new_rule (codes "CONFIG")) { required = true } = search rules in
    let config_local : c.required-config.result.global ≡ false = search rules in
    let number_rule : rule_of c.required-number_word.result ≡ record (new_rule c.args.number.now) { required = true } = search rules in
    let number_local : c.required-number_word.result.global ≡ false = search rules in
    let store_rule : rule_of c.required-store_word.result ≡ record (new_rule c.args.store.now) { required = true } = search rules in
    let store_local : c.required-store_word.result.global ≡ false = search rules in
    let nodes_rule : rule_of c.action-nodes.result ≡ record (new_rule (codes "NODE")) { action = Some Append } = search rules in
    let nodes_local : c.action-nodes.result.global ≡ false = search rules in
    let one = c.in_ok-with_new.ensures in
    let two = c.in_ok-with_config.ensures in
    let three = c.in_ok-with_number.ensures in
    let four = c.in_ok-with_store.ensures in
    let one_local = still_local _ _ _ one.globals c.new-2.ensures.local new_local in
    let two_local = still_local _ _ _ two.globals one_local config_local in
    let three_local = still_local _ _ _ three.globals two_local number_local in
    let four_local = still_local _ _ _ four.globals three_local store_local in
    let one_is = added _ _ _ _ _ (one.shape new_local) c.new-2.ensures.app new_rule_is in
    let two_is = added _ _ _ _ _ (two.shape config_local) one_is config_rule in
    let three_is = added _ _ _ _ _ (three.shape number_local) two_is number_rule in
    let four_is = added _ _ _ _ _ (four.shape store_local) three_is store_rule in
    IfOk-weaker c.arg-5.result _ _
    (λ command five. λ old new more.
    more.shape (still_local _ _ _ five.globals four_local nodes_local)
    ∙ ap (λ (a : App). with_subcommand (app_of old) a.top) (added _ _ _ _ _ (five.shape nodes_local) four_is nodes_rule))
    c.arg-5.ensures
