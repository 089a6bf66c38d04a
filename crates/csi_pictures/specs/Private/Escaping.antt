-- A text between two tags of XML: its bytes as `show` has them, and no mark of XML's. This profile's own.
use Rattle.std.specs.Prelude.{ℕ, ◌/◌, ◌%◌, List, [], ◌∷◌, codes, false, nat_lt, ◌||◌, ◌==◌, if◌then◌else◌}
use Rattle.std.specs.List.{flat_map}
use Rattle.std.specs.Fmt.{digit_glyph}

-- an ampersand and the two brackets by their names, printable ASCII but `"` and `\` as it is, every other byte as `\x` and two digits
abbrev pub escaped_byte : ℕ → List ℕ
escaped_byte byte =
    if byte == 38 then codes "&amp;"
    else if byte == 60 then codes "&lt;"
    else if byte == 62 then codes "&gt;"
    else if nat_lt byte 32 || (nat_lt 126 byte || (byte == 34 || byte == 92))
    then 92 ∷ 120 ∷ digit_glyph false (byte / 16) ∷ digit_glyph false (byte % 16) ∷ []
    else byte ∷ []

-- a text, byte by byte
abbrev pub escaped : List ℕ → List ℕ
escaped bytes = flat_map escaped_byte bytes
