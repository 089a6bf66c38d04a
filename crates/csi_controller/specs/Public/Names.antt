-- The names of rows, each with its id.
use Rattle.std.specs.Prelude.{ℕ, List, String}
use Rattle.std.specs.String.{string_bytes}
use Rattle.csi_controller.specs.Public.OneRow.{RowShown}

-- the id of a row under its name
abbrev pub by_name : RowShown → List ℕ × ℕ
by_name row = (row.volume.name, row.volume.id)

-- an entry, with the text of its key
abbrev pub by_text : {Z : Type 0} → String Z × ℕ → List ℕ × ℕ
by_text entry = (string_bytes entry.0, entry.1)
