-- Values of JSON, read as the parts of a schedule. Nothing is read where a value isn't what is asked for. This profile's own.
use Rattle.std.specs.Prelude.{ℕ, suc, ◌==◌, ◌&&◌, nat_le, if◌then◌else◌, List, [], ◌∷◌, length, Option, Some, None, option_and_then, Result, Ok, Err}
use Rattle.serde_json.specs.Data.{Data, object, Items, no_items, item, no_members, member}
use Rattle.serde_json.specs.Find.{as_number, as_u64, as_str, as_array, as_object}
use Rattle.serde_json.specs.Events.{members_len}

infixl 10 ◌>>=◌
-- what is read of what was found, if both are there
abbrev pub ◌>>=◌ : {A B : Type 0} → Option A → (A → Option B) → Option B
found >>= next = option_and_then next found

-- a whole number of 64 bits
unfoldable pub number_of : Data → Option ℕ
number_of d = do
  number ← as_number d
  as_u64 number

-- a text of so many bytes
unfoldable pub text_of : ℕ → ℕ → Data → Option (List ℕ)
text_of least most d = do
  text ← as_str d
  if nat_le least (length text) && nat_le (length text) most then Some text else None

-- a volume's name
abbrev pub name_of : Data → Option (List ℕ)
name_of = text_of 1 128

-- a node's id
abbrev pub node_id_of : Data → Option (List ℕ)
node_id_of = text_of 1 255

-- a target path
abbrev pub target_of : Data → Option (List ℕ)
target_of = text_of 1 255

-- a file system
abbrev pub fs_type_of : Data → Option (List ℕ)
fs_type_of = text_of 0 128

-- an object with this many members; their keys differ, so where as many keys are found it has no others
unfoldable pub sized_object : ℕ → Data → Option Data
sized_object size d = do
  members ← as_object d
  if members_len members == size then Some d else None

-- the key and the value of an object's only member
abbrev pub only_member : Data → Option (List ℕ × Data)
only_member (object (member key d no_members)) = Some (key, d)
only_member _ = None

-- ---- arrays

-- the items of an array
abbrev pub items_in : Items → List Data
items_in no_items = []
items_in (item d ds) = d ∷ items_in ds

-- the items of a value that is an array
unfoldable pub list_of : Data → Option (List Data)
list_of d = do
  items ← as_array d
  Some (items_in items)

-- a value that was read and then the others, or the first place where something wasn't
abbrev pub read_first : {A : Type 0} → ℕ → Option A → Result (List A) ℕ → Result (List A) ℕ
read_first place None others = Err place
read_first place (Some value) (Ok others) = Ok (value ∷ others)
read_first place (Some value) (Err bad) = Err bad

-- all that a list's items are read as, or the place of the first that is read as nothing; places are counted from the one
-- that is given
abbrev pub read_all : {A : Type 0} → (Data → Option A) → ℕ → List Data → Result (List A) ℕ
read_all read place [] = Ok []
read_all read place (d ∷ ds) = read_first place (read d) (read_all read (suc place) ds)

-- all values, or nothing where one wasn't read
abbrev pub unless_bad : {A : Type 0} → Result A ℕ → Option A
unless_bad (Ok value) = Some value
unless_bad (Err bad) = None

-- all that the items of an array are read as, where each is read
unfoldable pub all_of : {A : Type 0} → (Data → Option A) → Data → Option (List A)
all_of read d = do
  items ← list_of d
  unless_bad (read_all read 1 items)
