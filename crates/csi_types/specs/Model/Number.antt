-- The order of call numbers: by session first, then by call. This profile's own.
use Rattle.std.specs.Prelude.{◌≡◌, Bool}
use Rattle.std.specs.declared.cmp.Ordering.{Ordering}
use Rattle.std.specs.declared.cmp.Ordering.TheVariants.{Less}
use Rattle.std.specs.Ordering.{nat_cmp, ordering_then, is_lt}
use Rattle.csi_types.specs.declared.number.Number.{Number}

-- how two numbers are ordered
abbrev pub number_cmp : Number → Number → Ordering
number_cmp a b = ordering_then (nat_cmp a.session b.session) (nat_cmp a.call b.call)

-- the first is before the second
abbrev pub IsBefore : Number → Number → Type 0
IsBefore a b = number_cmp a b ≡ Less

-- the test of `IsBefore`
abbrev pub is_before : Number → Number → Bool
is_before a b = is_lt (number_cmp a b)
