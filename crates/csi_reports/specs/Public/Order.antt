-- The order in which a report lists things: by id, and then by texts, byte by byte. This profile's own.
use Rattle.std.specs.Prelude.{ℕ, Bool, true, false, List, [], ◌∷◌}
use Rattle.std.specs.Ordering.{nat_cmp, is_lt}
use Rattle.std.specs.Cmp.Lexicographic.{slice_cmp}
use Rattle.std.specs.List.Sorted.{IsPermutation, IsSortedBy}
use Rattle.std.specs.declared.cmp.Ordering.{Ordering}
use Rattle.csi_types.specs.declared.holding.Holding.{Holding}
use Rattle.csi_types.specs.Model.Mode.{mode_number}
use Rattle.csi_reports.specs.declared.entries.StagedAt.{StagedAt}
use Rattle.csi_reports.specs.declared.entries.PublishedAt.{PublishedAt}

-- 1 for a flag that is set, 0 for one that isn't
abbrev pub flag_number : Bool → ℕ
flag_number true = 1
flag_number false = 0

-- Where a thing stands: its id, as a list of one number, and its texts in turn. What else is shown of it stands behind these, so that
-- a list has one order, whatever is on it; no plugin has two things that only this tells apart.
abbrev pub attached_place : Holding → List (List ℕ)
attached_place held = (held.volume ∷ []) ∷ held.node ∷ (mode_number (held.capability).mode ∷ flag_number held.readonly ∷ []) ∷ []

-- the place of a staged volume: its id, its node and its mode
abbrev pub staged_place : StagedAt → List (List ℕ)
staged_place staged = (staged.id ∷ []) ∷ staged.node ∷ (mode_number staged.mode ∷ []) ∷ []

-- the place of a published volume: its id, its node, its target and whether it is readonly
abbrev pub published_place : PublishedAt → List (List ℕ)
published_place published = (published.id ∷ []) ∷ published.node ∷ published.target ∷ (flag_number published.readonly ∷ []) ∷ []

-- places in order, text by text
abbrev pub place_order : List (List ℕ) → List (List ℕ) → Ordering
place_order a b = slice_cmp (slice_cmp nat_cmp) a b

-- the second list has the items of the first, by rising place
pub record IsInPlace {A : Type 0} (place : A → List (List ℕ)) (items sorted : List A) : Type 0 where
  pub moved : IsPermutation items sorted
  pub rising : IsSortedBy (λ a b. is_lt (place_order (place a) (place b))) sorted
