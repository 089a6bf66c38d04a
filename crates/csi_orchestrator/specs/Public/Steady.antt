-- What a row keeps whatever is asked and whatever comes: how its goal, its marks and its entries go together. This profile's own.
use Rattle.std.specs.Prelude.{◌≡◌, ◌≢◌, ◌⊎◌, ℕ, ◌≤◌, List, [], ◌∷◌, length, find, true, false, ◌||◌, Option, Some, None}
use Rattle.std.specs.List.{AllByRecursion}
use Rattle.csi_types.specs.Model.Members.{EachTwo}
use Rattle.csi_types.specs.declared.capability.Capability.{Capability}
use Rattle.csi_types.specs.Model.Same.{same_text, has_capability}
use Rattle.csi_types.specs.Model.Sharing.{is_single_node, are_two_writers, allows_one_target}
use Rattle.csi_orchestrator.specs.declared.row.Goal.{Goal}
use Rattle.csi_orchestrator.specs.declared.row.Goal.TheVariants.{Create, Use, Stop, Delete}
use Rattle.csi_orchestrator.specs.declared.row.TargetEntry.{TargetEntry}
use Rattle.csi_orchestrator.specs.declared.thing.Known.{Known}
use Rattle.csi_orchestrator.specs.declared.thing.Known.TheVariants.{Yes, No, Maybe}
use Rattle.csi_orchestrator.specs.Model.Shown.{NodeEntryShown, RowShown, publication_known}
use Rattle.csi_orchestrator.specs.Model.Thing.{is_yes}

-- without a goal nothing was tried; a goal's call was sent once at least, and is counted up to 3. Only a stop may not be tried yet
abbrev pub HasTries : Option Goal → ℕ → Type 0
HasTries None tries = tries ≡ 0
HasTries (Some (Stop node target)) tries = tries ≤ 3
HasTries (Some goal) tries = (1 ≤ tries) × (tries ≤ 3)

-- a stop that wasn't tried is of a node that was lost
abbrev pub IsUntried : Option Goal → List NodeEntryShown → Type 0
IsUntried (Some (Stop node target)) entries = (entry : NodeEntryShown) → find (λ (e : NodeEntryShown). same_text e.node node) entries ≡ Some entry → entry.target_entries ≡ []
IsUntried goal entries = Unit {0}

-- of a volume that nothing is wanted of no reply told anything, or it is there, or it was deleted; where its creation or its deletion is
-- wanted, it may be there or not; where a use or a stop is, it is there. It is there without an id only where a reply may tell that a
-- volume was made and not its id, as no frame does (`IsAllowed` of `csi_types`), but the laws speak of any
abbrev pub IsStandingIf : Type 0 → Option Goal → Option ℕ → Known → Type 0
IsStandingIf Nameless None None Maybe = Unit {0}
IsStandingIf Nameless None None Yes = Nameless
IsStandingIf Nameless None (Some id) Yes = Unit {0}
IsStandingIf Nameless None (Some id) No = Unit {0}
IsStandingIf Nameless (Some Create) None Maybe = Unit {0}
IsStandingIf Nameless (Some (Use usage)) (Some id) Yes = Unit {0}
IsStandingIf Nameless (Some (Stop node target)) (Some id) Yes = Unit {0}
IsStandingIf Nameless (Some Delete) (Some id) Maybe = Unit {0}
IsStandingIf Nameless goal id exists = ⊥

-- so it is with the frames that there are
abbrev pub IsStanding : Option Goal → Option ℕ → Known → Type 0
IsStanding goal id exists = IsStandingIf ⊥ goal id exists

-- the one of this text is so, and each other one is otherwise
abbrev pub HasOne : {X : Type 0} → (X → List ℕ) → List ℕ → (X → Type 0) → (X → Type 0) → List X → Type 0
HasOne key text So Otherwise [] = ⊥
HasOne key text So Otherwise (x ∷ xs) =
    ((same_text (key x) text ≡ true) × So x × AllByRecursion (λ y. (same_text (key y) text ≡ false) × Otherwise y) xs)
    ⊎ ((same_text (key x) text ≡ false) × Otherwise x × HasOne key text So Otherwise xs)

-- attached, staged and published where a goal is at work: it may be attached, or it is and may be staged, or it is both and may be published
abbrev pub IsAtWork : Known → Known → Known → Type 0
IsAtWork Maybe No No = Unit {0}
IsAtWork Yes Maybe No = Unit {0}
IsAtWork Yes Yes Maybe = Unit {0}
IsAtWork attached staged published = ⊥

-- an entry whose node and this target have such marks: at each other target it is published, and there are some only where it is staged
pub record HasMarks (Are : Known → Known → Known → Type 0) (target : List ℕ) (entry : NodeEntryShown) : Type 0 where
  pub published : Known
  pub marks : Are entry.attached entry.staged published
  pub targets : HasOne (λ (t : TargetEntry). t.target) target (λ (t : TargetEntry). t.published ≡ published) (λ (t : TargetEntry). t.published ≡ Yes) entry.target_entries
  pub alone : entry.staged ≢ Yes → length entry.target_entries ≡ 1

-- an entry of a node at which no goal is at work: attached, staged, and published at each of its targets, of which there is one at least
pub record IsInUse (entry : NodeEntryShown) : Type 0 where
  pub attached : entry.attached ≡ Yes
  pub staged : entry.staged ≡ Yes
  pub published : AllByRecursion (λ (t : TargetEntry). t.published ≡ Yes) entry.target_entries
  pub some : entry.target_entries ≢ []

-- an entry of a node that was lost: the volume isn't staged or published there, and so it is with its attachment
pub record IsLeftSo (So : Known → Type 0) (entry : NodeEntryShown) : Type 0 where
  pub attached : So entry.attached
  pub staged : entry.staged ≡ No
  pub targets : entry.target_entries ≡ []

-- it may be attached there still
abbrev pub IsLeft : NodeEntryShown → Type 0
IsLeft entry = IsLeftSo (λ mark. mark ≢ No) entry

-- an entry of a node at which no goal is at work
abbrev pub IsAtRest : NodeEntryShown → Type 0
IsAtRest entry = IsInUse entry ⊎ IsLeft entry

-- a use or a stop has an entry of its node and its target with such marks, or a stop what is left of a node that was lost; at each
-- other node no goal is at work
abbrev pub AreMarked : (Known → Known → Known → Type 0) → (Known → Type 0) → Option Goal → List NodeEntryShown → Type 0
AreMarked Are So (Some (Use usage)) entries = HasOne (λ (entry : NodeEntryShown). entry.node) usage.node (HasMarks Are usage.target) IsAtRest entries
AreMarked Are So (Some (Stop node target)) entries = HasOne (λ (entry : NodeEntryShown). entry.node) node (λ entry. HasMarks Are target entry ⊎ IsLeftSo So entry) IsAtRest entries
AreMarked Are So goal entries = AllByRecursion IsAtRest entries

-- the last of these has this text
abbrev pub IsLast : {X : Type 0} → (X → List ℕ) → List ℕ → List X → Type 0
IsLast key text [] = ⊥
IsLast key text (x ∷ []) = same_text (key x) text ≡ true
IsLast key text (x ∷ y ∷ ys) = IsLast key text (y ∷ ys)

-- until the volume is published at a node's target, the target is the last of the node's entry
abbrev pub CameLast : List ℕ → NodeEntryShown → Type 0
CameLast target entry = is_yes (publication_known target entry) ≡ false → IsLast (λ (t : TargetEntry). t.target) target entry.target_entries

-- so it is where a use is wanted
abbrev pub HasLast : Option Goal → List NodeEntryShown → Type 0
HasLast (Some (Use usage)) entries = (entry : NodeEntryShown) → find (λ (e : NodeEntryShown). same_text e.node usage.node) entries ≡ Some entry → CameLast usage.target entry
HasLast goal entries = Unit {0}

-- a volume that isn't known to be there has no entries
abbrev pub IsEmptyUnlessMade : Known → List NodeEntryShown → Type 0
IsEmptyUnlessMade exists entries = exists ≢ Yes → entries ≡ []

-- an entry has one of these capabilities, and one target where its mode allows one
pub record IsAllowed (capabilities : List Capability) (entry : NodeEntryShown) : Type 0 where
  pub capable : has_capability capabilities entry.capability ≡ true
  pub one_target : allows_one_target entry.capability.mode ≡ true → length entry.target_entries ≤ 1

-- the volume may be held by both entries: neither mode is for one node, and there is no second writer where a mode has a single one
pub record CanBeBeside (a b : NodeEntryShown) : Type 0 where
  pub several : (is_single_node a.capability.mode || is_single_node b.capability.mode) ≡ false
  pub one_writer : are_two_writers a.capability.mode a.readonly b.capability.mode b.readonly ≡ false

-- what a row keeps, beside what `Sound.antt` and `Bounds.antt` say
pub record IsSteadyRowIf (Nameless : Type 0) (row : RowShown) : Type 0 where
  pub tries : HasTries row.goal row.tries
  pub untried : row.tries ≡ 0 → IsUntried row.goal row.node_entries
  pub standing : IsStandingIf Nameless row.goal row.id row.exists
  pub bare : row.id ≡ None → row.node_entries ≡ []
  pub empty : IsEmptyUnlessMade row.exists row.node_entries
  pub marked : AreMarked IsAtWork (λ mark. mark ≢ No) row.goal row.node_entries
  pub last : HasLast row.goal row.node_entries
  pub allowed : AllByRecursion (IsAllowed row.arguments.capabilities) row.node_entries
  pub beside : EachTwo CanBeBeside row.node_entries

-- with the frames that there are
abbrev pub IsSteadyRow : RowShown → Type 0
IsSteadyRow row = IsSteadyRowIf ⊥ row

-- each row keeps it
abbrev pub AreSteadyRowsIf : Type 0 → List RowShown → Type 0
AreSteadyRowsIf Nameless rows = AllByRecursion (IsSteadyRowIf Nameless) rows

-- with the frames that there are
abbrev pub AreSteadyRows : List RowShown → Type 0
AreSteadyRows rows = AllByRecursion IsSteadyRow rows
