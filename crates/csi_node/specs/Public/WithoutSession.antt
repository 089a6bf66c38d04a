-- The record of rows that were kept without the greatest session that came, as records were before they had it. This profile's own.
use Rattle.std.specs.Prelude.{ℕ, max, ◌==◌, Bool, ◌||◌, List, [], ◌∷◌, filter, is_some}
use Rattle.csi_node.specs.declared.row.NodeRow.{NodeRow}
use Rattle.csi_node.specs.Model.Record.{NodeParts}

-- the greatest session of a last call, 0 where there is no row
abbrev pub latest_session : List NodeRow → ℕ
latest_session [] = 0
latest_session (row ∷ rows) = max row.last.session (latest_session rows)

-- the row stays in this session: its volume is staged, or its last call is of that session
abbrev pub stays_in : ℕ → NodeRow → Bool
stays_in session row = is_some row.staged || (row.last.session == session)

-- the record of these rows: the greatest session that came is the greatest of all their last calls, and the rows of volumes that aren't
-- staged whose last calls are of earlier sessions are left out
abbrev pub without_session : List ℕ → List NodeRow → NodeParts
without_session id rows = record { id = id; session = latest_session rows; rows = filter (stays_in (latest_session rows)) rows }
