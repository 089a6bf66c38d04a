-- Three words are a name and a word behind the program's own.
use Rattle.std.proofs.Common.{◌∙◌, ap, string_bytes, ℕ, List}
use Rattle.csi_words.specs.Public.Help.{help_behind}
use Rattle.csi_words.proofs.HelpBehind.{of_three}
use Rattle.csi_words.proofs.help.help_asked.Goals as goal

pub returns-in-len3 : goal.returns-in-len3
returns-in-len3 c =
    let name = c.as_str-in-len3 in
    let word = c.as_str-in-len3-2 in
    c.help_behind.ensures
    ∙ ap (λ (it : List ℕ). help_behind it word.result.now) name.ensures.value
    ∙ ap (help_behind (string_bytes c.name-item.result)) word.ensures.value
    ∙ of_three string_bytes c.args.words.now c.name-item.result c.word-item-then-words-lt4.result c.in-len3.len_at_least c.in-len3.len_below c.name-item.is c.word-item-then-words-lt4.is
