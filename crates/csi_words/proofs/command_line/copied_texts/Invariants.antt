-- The texts before this one are there.
use Rattle.std.proofs.Common.{◌≡◌, map, take}
use Rattle.csi_words.proofs.command_line.copied_texts.Given as goal

abbrev pub invariant-loop-text : goal.invariant-loop-text
invariant-loop-text l = map (λ text. text.now) l.texts.items ≡ map (λ text. text.now) (take l.text-index l.found)
