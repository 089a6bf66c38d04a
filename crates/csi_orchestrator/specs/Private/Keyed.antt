-- Entries that are found by a text. This profile's own.
use Rattle.std.specs.Prelude.{ℕ, List, [], ◌∷◌, if◌then◌else◌}
use Rattle.csi_types.specs.Model.Same.{same_text}

-- the entry of this text is changed, if there is one
abbrev pub change_by : {X : Type 0} → (X → List ℕ) → List ℕ → (X → X) → List X → List X
change_by key text change [] = []
change_by key text change (x ∷ xs) = if same_text (key x) text then change x ∷ xs else x ∷ change_by key text change xs

-- this entry stands in place of the one of its text, or comes last
abbrev pub put_by : {X : Type 0} → (X → List ℕ) → X → List X → List X
put_by key entry [] = entry ∷ []
put_by key entry (x ∷ xs) = if same_text (key x) (key entry) then entry ∷ xs else x ∷ put_by key entry xs
