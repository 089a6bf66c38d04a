-- What bytes are a text of each kind: UTF-8 of a number of bytes within limits. This profile's own limits:
-- a text has one length byte in a frame, and a name and an fs type have half of what that allows.
use Rattle.std.specs.Prelude.{ℕ, ◌≤◌, List, length}
use Rattle.std.specs.Str.{IsUtf8}

-- UTF-8 of no fewer and no more bytes than so many
pub record IsText (least most : ℕ) (bytes : List ℕ) : Type 0 where
  pub utf8 : IsUtf8 bytes
  pub no_shorter : least ≤ length bytes
  pub no_longer : length bytes ≤ most

-- a volume's name: 1 to 128 bytes
abbrev pub IsName : List ℕ → Type 0
IsName bytes = IsText 1 128 bytes

-- a file system: at most 128 bytes, and it may be empty
abbrev pub IsFsType : List ℕ → Type 0
IsFsType bytes = IsText 0 128 bytes

-- a reply's detail: at most 255 bytes, and it may be empty
abbrev pub IsDetail : List ℕ → Type 0
IsDetail bytes = IsText 0 255 bytes

-- a node's id: 1 to 255 bytes
abbrev pub IsNodeId : List ℕ → Type 0
IsNodeId bytes = IsText 1 255 bytes

-- a target path: 1 to 255 bytes
abbrev pub IsTarget : List ℕ → Type 0
IsTarget bytes = IsText 1 255 bytes
