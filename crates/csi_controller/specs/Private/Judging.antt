-- Which of the rows that a record is to be made of is the first that no record has there. This profile's own.
use Rattle.std.specs.Prelude.{ℕ, Bool, ◌&&◌, nat_le, nat_lt, Option, Some, None, if◌then◌else◌}
use Rattle.csi_types.specs.declared.rows.TheConstants.{MAX_ROWS}
use Rattle.csi_controller.specs.declared.row.ControllerRow.{ControllerRow}
use Rattle.csi_controller.specs.Private.SoundRow.{is_sound_row}

-- the row may follow so many others, the last of which has this id (0 where there is none), whatever their names are
abbrev pub may_follow : ℕ → ℕ → ℕ → ControllerRow → Bool
may_follow next_id count last row = nat_lt count MAX_ROWS && nat_lt last row.id && is_sound_row next_id row

-- the earlier of two places, of which neither, one or both may be there
abbrev pub earlier_of : Option ℕ → Option ℕ → Option ℕ
earlier_of None second = second
earlier_of (Some first) None = Some first
earlier_of (Some first) (Some second) = Some (if nat_le first second then first else second)
