-- Bytes in hexadecimal: two lower-case digits a byte, as `encode_lower` of the kit's `hex` writes them. This profile's own.
use Rattle.std.specs.Prelude.{ℕ, ◌&&◌, nat_le, Bool, if◌then◌else◌, List, Option, None}
use Rattle.std.specs.List.{list_any}
use Rattle.std.specs.Result.{result_ok}
use Rattle.hex.specs.Hex.{decode_of}

-- a digit of 10 to 15 in upper case
abbrev pub is_upper_digit : ℕ → Bool
is_upper_digit digit = nat_le 65 digit && nat_le digit 70

-- the bytes that a text says in lower-case digits, two a byte
unfoldable pub hex_bytes : List ℕ → Option (List ℕ)
hex_bytes text = if list_any is_upper_digit text then None else result_ok (decode_of text)
