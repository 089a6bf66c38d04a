-- What the text of a detail stands for: its bytes, wherever they lie.
use Rattle.std.specs.Prelude.{ℕ, List}
use Rattle.std.specs.String.{string_bytes}
use Rattle.csi_types.specs.declared.text.detail.Text.{Text}
use Rattle.csi_types.specs.declared.text.detail.Text.TheVariants.{Inline, Heap}

-- the bytes of a text, in place or on the heap
abbrev pub text_bytes : Text → List ℕ
text_bytes (Inline s) = s.bytes
text_bytes (Heap s) = string_bytes s
