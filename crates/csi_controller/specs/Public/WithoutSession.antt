-- The record of rows that were kept without the greatest session that came, as records were before they had it. This profile's own.
use Rattle.std.specs.Prelude.{ℕ, max, ◌==◌, Bool, ◌||◌, List, [], ◌∷◌, filter}
use Rattle.csi_controller.specs.declared.row.ControllerRow.{ControllerRow}
use Rattle.csi_controller.specs.Public.Views.{RecordParts}

-- the greatest session of a last call, 0 where there is no row
abbrev pub latest_session : List ControllerRow → ℕ
latest_session [] = 0
latest_session (row ∷ rows) = max row.last.session (latest_session rows)

-- the row stays in this session: its volume is live, or its last call is of that session
abbrev pub stays_in : ℕ → ControllerRow → Bool
stays_in session row = row.live || (row.last.session == session)

-- the record of these rows: the greatest session that came is the greatest of all their last calls, and the rows of deleted volumes whose
-- last calls are of earlier sessions are left out
abbrev pub without_session : ℕ → List ControllerRow → RecordParts
without_session next_id rows = record { next_id = next_id; session = latest_session rows; rows = filter (stays_in (latest_session rows)) rows }
