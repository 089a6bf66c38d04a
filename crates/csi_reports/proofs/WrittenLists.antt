-- The tokens of an array: those of each value between its brackets.
use Rattle.std.proofs.Common.{◌≡◌, List, [], ◌∷◌, ◌++◌, map, refl, sym, ap, ◌∙◌, append_assoc}
use Rattle.std.specs.List.{flat_map}
use Rattle.json.specs.Token.{Token, begin_array, end_array}
use Rattle.json.specs.Tree.{json_tokens, items_tokens}
use Rattle.serde_json.specs.Data.{Data}
use Rattle.serde_json.specs.View.{items_of}
use Rattle.serde_json.specs.Written.{outline, items_outline}
use Rattle.csi_reports.specs.Public.Entries.{entries}

-- the tokens of the items, one after another
abbrev each : {A : Type 0} → (A → Data) → List A → List Token
each entry xs = flat_map (λ x. json_tokens (outline (entry x))) xs

items-each : {A : Type 0} (entry : A → Data) (xs : List A) → items_tokens (items_outline (items_of (map entry xs))) ≡ each entry xs ++ end_array ∷ []
items-each entry [] = refl
items-each entry (x ∷ xs) =
    ap (λ later. json_tokens (outline (entry x)) ++ later) (items-each entry xs) ∙ sym (append_assoc (json_tokens (outline (entry x))) (each entry xs) (end_array ∷ []))

-- written after some tokens in three steps
pub array_written : {A : Type 0} (entry : A → Data) (xs : List A) (old opened filled closed : List Token)
    → opened ≡ old ++ begin_array ∷ []
    → filled ≡ opened ++ flat_map (λ x. json_tokens (outline (entry x))) xs
    → closed ≡ filled ++ end_array ∷ []
    → closed ≡ old ++ json_tokens (outline (entries entry xs))
array_written entry xs old opened filled closed a b c = rw (c, b, a) (simp append_assoc (ap (λ later. old ++ begin_array ∷ later) (sym (items-each entry xs))))
