-- A plugin that is served, whichever it is: the parts of its record, what an answer changed of them, and how it answers. This profile's own.
use Rattle.std.specs.Prelude.{◌≡◌, ◌≢◌, ◌⊎◌, ◌≤◌, ◌<◌, ◌^◌, ◌==◌, ℕ, Bool, true, if◌then◌else◌, List, [], ◌∷◌, ◌++◌, map, find, slice_get, Option, Some, None, option_map, option_to_list, IfSome}
use Rattle.std.specs.List.{AllByRecursion}
use Rattle.csi_types.specs.Model.Members.{IsAmong}
use Rattle.csi_types.specs.declared.number.Number.{Number}
use Rattle.csi_types.specs.Model.Frame.{Frame}
use Rattle.csi_fence.specs.Model.Fenced.{Machine, fenced}
use Rattle.csi_stores.specs.Public.Part.{StoredPart, StoredChange, put_all, take_all}
use Rattle.csi_service.specs.declared.changed.Changed.{Changed}

-- How a plugin is seen: what of it never changes, by which it answers behind the fence; the numbers in the head of its record, of which the
-- second is the greatest session that came; its rows by rising id, with the last number of each and whether it stays where a session begins;
-- the value of the head and the parts of rows, and the limits of what a row has; the states that it shows; and a state once a session was
-- raised in it.
pub record View (P Own R State : Type 0) : Type 1 where
  pub own : P → Own
  pub machine : Own → Machine State
  pub numbers : P → ℕ × ℕ
  pub rows : P → List R
  pub last : R → Number
  pub stays : R → Bool
  pub head : Own → ℕ × ℕ → List ℕ
  pub part : R → StoredPart
  pub IsRow : R → Type 0
  pub Shows : P → State → Type 0
  pub raised : ℕ → State → State

-- ---- the parts of its record

-- those of its rows
abbrev pub row_parts : {P Own R State : Type 0} → View P Own R State → P → List StoredPart
row_parts view plugin = map view.part (view.rows plugin)

-- the head
abbrev pub head_of : {P Own R State : Type 0} → View P Own R State → P → StoredPart
head_of view plugin = record { key = 0; value = view.head (view.own plugin) (view.numbers plugin) }

-- all of them
abbrev pub record_parts : {P Own R State : Type 0} → View P Own R State → P → List StoredPart
record_parts view plugin = head_of view plugin ∷ row_parts view plugin

-- ---- what an answer changed

-- what stands at a place, if one is named and there
abbrev pub at_place : {X : Type 0} → Option ℕ → List X → Option X
at_place None xs = None
at_place (Some place) xs = slice_get xs place

-- the head, where what it says changed
abbrev pub head_change : Bool → StoredPart → List StoredChange
head_change is_new head = if is_new then put_all (head ∷ []) else []

-- what an answer changed, as the plugin has it now: the head, where what it says changed; the rows that were forgotten are taken out; and then one
-- row is put in
abbrev pub record_changes : {P Own R State : Type 0} → View P Own R State → Changed → P → List StoredChange
record_changes view changed plugin =
    head_change changed.new_head (head_of view plugin) ++ take_all changed.forgotten.items ++ put_all (option_to_list (at_place changed.row (row_parts view plugin)))

-- the id of the row at a place, if one is named and there
abbrev pub row_id : {P Own R State : Type 0} → View P Own R State → Option ℕ → P → Option ℕ
row_id view place plugin = option_map (λ part. part.key) (at_place place (row_parts view plugin))

-- the row of an id
abbrev pub row_by_id : {P Own R State : Type 0} → View P Own R State → ℕ → List R → Option R
row_by_id view id rows = find (λ row. (view.part row).key == id) rows

-- the last number that was answered for a volume, if one was
abbrev pub last_in : {P Own R State : Type 0} → View P Own R State → P → ℕ → Option Number
last_in view plugin id = option_map view.last (row_by_id view id (view.rows plugin))

-- What an answer tells as changed is other than it was: the numbers of the head; and of each row that was forgotten, changed or made the last
-- number, or whether there is one.
pub record Differs {P Own R State : Type 0} (view : View P Own R State) (changed : Changed) (old new : P) : Type 0 where
  pub head : changed.new_head ≡ true → view.numbers new ≢ view.numbers old
  pub rows : (id : ℕ) → IsAmong id changed.forgotten.items ⊎ (row_id view changed.row new ≡ Some id) → last_in view new id ≢ last_in view old id

-- ---- limits

-- all that rows have is within its limits
abbrev pub AreFit : {P Own R State : Type 0} → View P Own R State → P → Type 0
AreFit view plugin = AllByRecursion view.IsRow (view.rows plugin)

-- so is all that the row at a place has, if one is named and there
abbrev pub IsNamedFit : {P Own R State : Type 0} → View P Own R State → Option ℕ → P → Type 0
IsNamedFit view place plugin = IfSome (at_place place (view.rows plugin)) view.IsRow

-- where all that the old rows have is, and what an answer changed, all that the new rows have is
abbrev pub StaysFit : {P Own R State : Type 0} → View P Own R State → Changed → P → P → Type 0
StaysFit view changed old new = AreFit view old → IsNamedFit view changed.row new → AreFit view new

-- ---- how it answers

-- a session, a number of 64 bits, is this one or a later one
abbrev pub IsFrom : ℕ → ℕ → Type 0
IsFrom session now = (session ≤ now) × (now < 2 ^ 64)

-- For every state that the old plugin shows, the reply and the state that the new one shows are the fence's over the table; what never
-- changes stays, and the session never goes back.
pub record Answers {P Own R State : Type 0} (view : View P Own R State) (old : P) (frame : Frame) (reply : Option Frame) (new : P) : Type 0 where
  pub own : view.own new ≡ view.own old
  pub session : IsFrom (view.numbers old).1 (view.numbers new).1
  pub gets : (state : State) → view.Shows old state → reply ≡ (fenced (view.machine (view.own old)) state frame).reply
  pub leads : (state : State) → view.Shows old state → view.Shows new (fenced (view.machine (view.own old)) state frame).state

-- ---- a plugin that is served

-- a plugin that is served, to its callers: itself, and what its last answer changed
pub record ServedPlugin (P : Type 0) : Type 0 where
  pub plugin : P
  pub changed : Changed

-- the parts of its record
abbrev pub service_parts : {P Own R State : Type 0} → View P Own R State → ServedPlugin P → List StoredPart
service_parts view service = record_parts view service.plugin

-- what its last answer changed
abbrev pub service_changes : {P Own R State : Type 0} → View P Own R State → ServedPlugin P → List StoredChange
service_changes view service = record_changes view service.changed service.plugin

-- and how it answers
abbrev pub ServiceAnswers : {P Own R State : Type 0} → View P Own R State → ServedPlugin P → Frame → Option Frame → ServedPlugin P → Type 0
ServiceAnswers view old frame reply new = Answers view old.plugin frame reply new.plugin
