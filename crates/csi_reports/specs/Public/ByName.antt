-- Volumes of an orchestrator in the order of their names, byte by byte. This profile's own.
use Rattle.std.specs.Prelude.{ℕ, List, [], ◌∷◌, map, filter, is_some, not}
use Rattle.csi_orchestrator.specs.Model.Shown.{RowShown}

-- the place of a name
abbrev pub name_place : List ℕ → List (List ℕ)
name_place name = name ∷ []

-- the place of a row
abbrev pub row_place : RowShown → List (List ℕ)
row_place row = name_place row.name

-- the names of which something is wanted
abbrev pub wanted_names : List RowShown → List (List ℕ)
wanted_names rows = map (λ row. row.name) (filter (λ row. is_some row.goal) rows)

-- the names of which no id is known
abbrev pub creating_names : List RowShown → List (List ℕ)
creating_names rows = map (λ row. row.name) (filter (λ row. not (is_some row.id)) rows)
