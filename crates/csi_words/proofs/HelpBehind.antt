-- Help that is asked for behind a subcommand's name.
use Rattle.std.proofs.Common.{◌≡◌, ◌∙◌, ◌≤◌, ◌<◌, ap, arith, ℕ, List, [], ◌∷◌, length, map, get_or}
use Rattle.csi_words.specs.Public.Help.{help_asked, help_behind}

-- by three words
pub of_three : {W : Type 0} (text : W → List ℕ) (words : List W) (name word : W) → 3 ≤ length words → length words < 4 → name ≡ get_or words 1 name → word ≡ get_or words 2 word
    → help_behind (text name) (text word) ≡ help_asked (map text words)
of_three text [] name word some few first second = absurd (omega arith)
of_three text (a ∷ []) name word some few first second = absurd (omega arith)
of_three text (a ∷ b ∷ []) name word some few first second = absurd (omega arith)
of_three text (a ∷ b ∷ c ∷ []) name word some few first second =
    ap (λ it. help_behind (text it) (text word)) first ∙ ap (λ it. help_behind (text b) (text it)) second
of_three text (a ∷ b ∷ c ∷ d ∷ more) name word some few first second = absurd (omega arith)
