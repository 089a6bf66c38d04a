-- The capacity that a volume gets, in bytes. CSI's spec.md, "CreateVolume", has the range; which capacity
-- in it is granted is this profile's own.
use Rattle.std.specs.Prelude.{ℕ, ◌==◌, ◌&&◌, ◌||◌, not, nat_lt, min, if◌then◌else◌, Bool}
use Rattle.csi_types.specs.declared.capacity.TheConstants.{MAX_CAPACITY}

-- neither end is given, or one is above 2^63 - 1
abbrev pub is_bad_range : ℕ → ℕ → Bool
is_bad_range required limit = ((required == 0) && (limit == 0)) || nat_lt MAX_CAPACITY required || nat_lt MAX_CAPACITY limit

-- a limit is given, and is below what is required
abbrev pub is_empty_range : ℕ → ℕ → Bool
is_empty_range required limit = not (limit == 0) && nat_lt limit required

-- what is required, or where nothing is the smaller of 2^30 and the limit
abbrev pub capacity_wanted : ℕ → ℕ → ℕ
capacity_wanted required limit = if required == 0 then min 1073741824 limit else required
