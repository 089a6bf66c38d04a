-- The spelling of a frame: a length of four bytes, and a body of that many bytes. Numbers have the greatest
-- byte first. This profile's own; each value has one spelling.
use Rattle.std.specs.Prelude.{ℕ, ◌+◌, List, ◌∷◌, ◌++◌}
use Rattle.byteorder.specs.Endian.{big_bytes}
use Rattle.csi_types.specs.declared.number.Number.{Number}
use Rattle.csi_frames.specs.declared.version.Version.{Version}
use Rattle.csi_frames.specs.Public.Version.{version_number}
use Rattle.csi_frames.specs.Public.Spelling.{word}

-- what stands before a frame's party, by the count of its body's bytes, its version and its kind byte
abbrev pub head : ℕ → Version → ℕ → Number → List ℕ
head size version kind number = big_bytes 4 size ++ version_number version ∷ kind ∷ word number.session ++ word number.call
