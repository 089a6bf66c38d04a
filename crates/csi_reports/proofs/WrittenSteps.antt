-- What is written in steps: the tokens of each, as they are named in a definition, one after another.
use Rattle.std.proofs.Common.{◌≡◌, ◌∙◌, ℕ, List, [], ◌∷◌, ◌++◌, Bool, decimal, ap, append_assoc}
use Rattle.json.specs.Token.{Token, key, string, number, boolean}
use Rattle.json.specs.Tree.{json_tokens}
use Rattle.serde_json.specs.Data.{Data}
use Rattle.serde_json.specs.Written.{outline}
use Rattle.csi_reports.specs.Public.Entries.{entries}

-- the first of the steps, whose tokens are the named ones by an equation, and then the others
pub next : (old mid new written named later : List Token) → mid ≡ old ++ written → written ≡ named → new ≡ mid ++ later → new ≡ old ++ (named ++ later)
next old mid new written named later first same rest = rest ∙ ap (λ before. before ++ later) (first ∙ ap (λ ts. old ++ ts) same) ∙ append_assoc old named later

-- ---- the tokens of a member, by its value

abbrev pub of_number : List ℕ → ℕ → List Token
of_number k n = key k ∷ number (decimal n) ∷ []

abbrev pub of_text : List ℕ → List ℕ → List Token
of_text k s = key k ∷ string s ∷ []

abbrev pub of_flag : List ℕ → Bool → List Token
of_flag k b = key k ∷ boolean b ∷ []

abbrev pub of_entries : {A : Type 0} → List ℕ → (A → Data) → List A → List Token
of_entries k entry xs = key k ∷ json_tokens (outline (entries entry xs))

-- ---- the whole

-- what was written where nothing was
pub alone : (start ts new : List Token) → start ≡ [] → new ≡ start ++ ts → new ≡ ts
alone start ts new none added = added ∙ ap (λ before. before ++ ts) none
