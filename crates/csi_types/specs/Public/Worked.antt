-- Worked examples of the values' rules, which the checker computes, and what the tests of equality tell.
use Rattle.std.specs.Prelude.{ℕ}
use Rattle.csi_types.specs.declared.number.Number.{Number}

-- the call of this number in this session
abbrev pub number : ℕ → ℕ → Number
number session call = record { session = session; call = call }
