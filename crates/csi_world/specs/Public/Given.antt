-- The nodes of a world whose stores are given, one by one. This profile's own.
use Rattle.std.specs.Prelude.{ℕ, List, [], ◌∷◌, Bool, true, false}
use Rattle.std.specs.List.{list_any}
use Rattle.csi_types.specs.Model.Same.{same_text}
use Rattle.csi_node.specs.Model.Record.{NodeParts}

-- the first of the new ones is of this one, and so it goes on
abbrev pub IsFirst : (NodeParts → NodeParts → Type 0) → NodeParts → (List NodeParts → Type 0) → List NodeParts → Type 0
IsFirst IsOf old Others [] = ⊥
IsFirst IsOf old Others (new ∷ news) = IsOf old new × Others news

-- by whether it is given
abbrev pub IsKept : Bool → (NodeParts → NodeParts → Type 0) → NodeParts → (List NodeParts → Type 0) → List NodeParts → Type 0
IsKept true IsOf old Others news = IsFirst IsOf old Others news
IsKept false IsOf old Others news = Others news

-- those are of the given ones of these nodes, one by one
abbrev pub AreThose : (NodeParts → NodeParts → Type 0) → List (List ℕ) → List NodeParts → List NodeParts → Type 0
AreThose IsOf given [] [] = Unit {0}
AreThose IsOf given [] (new ∷ news) = ⊥
AreThose IsOf given (old ∷ olds) news = IsKept (list_any (same_text old.id) given) IsOf old (AreThose IsOf given olds) news
