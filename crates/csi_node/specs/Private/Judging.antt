-- Which of the rows that a record is to be made of is the first that no record has there. This profile's own.
use Rattle.std.specs.Prelude.{ℕ, ◌==◌, Option, Some, None, is_some, Bool, true, ◌&&◌, ◌||◌, nat_lt, nat_le}
use Rattle.csi_types.specs.declared.rows.TheConstants.{MAX_ROWS}
use Rattle.csi_node.specs.Model.OneRow.{NodeRowShown}
use Rattle.csi_node.specs.Private.SoundRow.{is_sound_row}

-- the row's last call is of a session that a record may have there
abbrev pub is_current : Option ℕ → NodeRowShown → Bool
is_current None row = true
is_current (Some session) row = nat_le row.kept.number.session session && (is_some row.staged || (row.kept.number.session == session))

-- a record may have the row, whichever rows are before it
abbrev pub is_fit : Option ℕ → NodeRowShown → Bool
is_fit session row = is_sound_row row && is_current session row

-- the row may follow so many others, the last of which has this id (0 where there is none)
abbrev pub may_follow : Option ℕ → ℕ → ℕ → NodeRowShown → Bool
may_follow session count last row = nat_lt count MAX_ROWS && nat_lt last row.id && is_fit session row
