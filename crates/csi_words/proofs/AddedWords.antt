-- A word is added to a command.
use Rattle.std.proofs.Common.{◌≡◌, ◌∙◌, false, Bool}
use Rattle.std.specs.Prelude.{◌||◌}
use Rattle.clap.specs.Words.{App, Rule, with_rule}

-- a word that is no global one, added to a command without such
pub still_local : (new old word : Bool) → new ≡ (old || word) → old ≡ false → word ≡ false → new ≡ false
still_local new old word is none local = is ∙ (λ i. none i || local i)

-- and what the command is then
pub added : (new old app : App) (own rule : Rule) → new ≡ with_rule old own → old ≡ app → own ≡ rule → new ≡ with_rule app rule
added new old app own rule is was ruled = is ∙ (λ i. with_rule (was i) (ruled i))
