-- What numbers are a volume's id: 1 to 2^64 - 1. This profile's own: CSI's ids are any text.
use Rattle.std.specs.Prelude.{ℕ, ◌<◌, ◌^◌}

-- the number is a volume's id
pub record IsVolumeId (number : ℕ) : Type 0 where
  pub from_one : 0 < number
  pub in_range : number < 2 ^ 64
