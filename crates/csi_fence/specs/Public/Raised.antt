-- Rows whose session is raised, without a call. This profile's own.
use Rattle.std.specs.Prelude.{ℕ, nat_lt, if◌then◌else◌}
use Rattle.csi_fence.specs.Public.Rows.{Plan, RowsState, begun}

-- the session begins, where it is later than the greatest that came, as if a call had begun it
abbrev pub raised_rows : {Fixed Own S : Type 0} → Plan Fixed Own S → ℕ → RowsState Own S → RowsState Own S
raised_rows plan session state = if nat_lt state.session session then begun plan session state else state
