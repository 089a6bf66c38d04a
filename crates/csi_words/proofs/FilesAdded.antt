-- Commands on files, one more at the end.
use Rattle.std.proofs.Common.{◌≡◌, ◌<◌, ◌+◌, ℕ, List, [], ◌∷◌, ◌++◌, ◌∙◌, get_or, length, map, take, ap, refl, sym}
use Rattle.std.proofs.lemmas.List.{map_push, take_more}
use Rattle.clap.specs.Words.{App}
use Rattle.csi_words.specs.Public.Words.{with_file_command}
use Rattle.csi_words.specs.Private.Words.{with_file_commands}

-- one name more is one command more
added-last : (app : App) (names : List (List ℕ)) (name : List ℕ) → with_file_commands app (names ++ name ∷ []) ≡ with_file_command (with_file_commands app names) name
unfolding with_file_commands
added-last app [] name = refl
added-last app (first ∷ names) name = added-last (with_file_command app first) names name

-- so is the next one of a list
pub added-next : {N : Type 0} (names : List N) (text : N → List ℕ) (app was now : App) (i : ℕ) (d : N) → i < length names
    → was ≡ with_file_commands app (map text (take i names)) → now ≡ with_file_command was (text (get_or names i d)) → now ≡ with_file_commands app (map text (take (i + 1) names))
added-next names text app was now i d inside first next =
    next
    ∙ ap (λ a. with_file_command a (text (get_or names i d))) first
    ∙ sym (added-last app (map text (take i names)) (text (get_or names i d)))
    ∙ sym (ap (with_file_commands app) (ap (map text) (take_more names i d inside) ∙ map_push text (take i names) (get_or names i d)))
