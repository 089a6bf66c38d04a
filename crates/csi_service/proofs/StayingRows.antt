-- Rows of which some stay are parts of which the others are taken out, and a head stays in front of all changes of rows.
use Rattle.std.proofs.Common.{◌≡◌, ◌∙◌, sym, ap, refl, inl, inr, ℕ, ◌<◌, Bool, true, false, List, [], ◌∷◌, ◌++◌, map, arith}
use Rattle.std.specs.Prelude.{Option, Some, None, find, filter, ◌==◌, not}
use Rattle.std.specs.List.{AllByRecursion, list_any}
use Rattle.std.proofs.lemmas.Bool.{eq-eqb}
use Rattle.std.proofs.lemmas.Bool.Decides.{nat_tests}
use Rattle.csi_types.specs.Model.Members.{IsAmong}
use Rattle.csi_types.proofs.Each.{each-map, each-filter}
use Rattle.csi_types.proofs.Members.{all_of, among-map, among-filter, each_of, in-map, some-found}
use Rattle.csi_types.proofs.Options.{none-from_map}
use Rattle.csi_types.proofs.Searches.{find-of_map}
use Rattle.csi_types.specs.Public.VolumeId.{IsVolumeId}
use Rattle.csi_stores.specs.Public.Part.{StoredPart, StoredChange, take_all}
use Rattle.csi_stores.specs.Public.Content.{take_out, changed_to, all_changed, AreRisingParts}
use Rattle.csi_stores.proofs.RisingChanges.{AreAbove}
pub use Rattle.csi_streams.proofs.StoreCalls.{all-append}
use Rattle.csi_service.specs.Public.Plugins.{head_change}
use Rattle.csi_service.proofs.RisingParts.{part_at, put-head, put-row, take-at}

-- a key that all others are above isn't there to be taken out
take-none : (key : ℕ) (parts : List StoredPart) → AreAbove key parts → take_out key parts ≡ parts
take-none key [] above = refl
take-none key (part ∷ parts) above = grind (arith, nat_tests, above.0, take-none key parts above.1)

-- the first part is the one that is taken out
pub take-first : (part : StoredPart) (parts : List StoredPart) → AreAbove part.key parts → take_out part.key (part ∷ parts) ≡ parts
take-first part parts above = grind (arith, nat_tests, take-none part.key parts above)

-- changes of higher keys leave a part in front
pub behind-first : (first : StoredPart) (changes : List StoredChange) (parts : List StoredPart) → AllByRecursion (λ (change : StoredChange). first.key < change.key) changes → all_changed changes (first ∷ parts) ≡ first ∷ all_changed changes parts
behind-first first [] parts above = refl
behind-first first (change ∷ changes) parts above =
    ap (all_changed changes) (by change.value) ∙ behind-first first changes (changed_to change.key change.value parts) above.1
  where
    by : (value : Option (List ℕ)) → changed_to change.key value (first ∷ parts) ≡ first ∷ changed_to change.key value parts
    by None = grind (arith, nat_tests, above.0)
    by (Some value) = put-row first (record { key = change.key; value = value }) parts above.0

-- a key among others is one of them
is-any : (key : ℕ) (keys : List ℕ) → IsAmong key keys → list_any (λ (k : ℕ). k == key) keys ≡ true
is-any key [] among = absurd among
is-any key (k ∷ keys) (inl own) = grind (arith, nat_tests, own)
is-any key (k ∷ keys) (inr there) = grind (arith, is-any key keys there)

module _ {R : Type 0} (shown : R → StoredPart) (stays : R → Bool) where
  -- the keys of the rows that don't stay
  abbrev pub gone_keys : List R → List ℕ
  gone_keys rows = map (λ (row : R). (shown row).key) (filter (λ (row : R). not (stays row)) rows)

  -- where all keys are above a key, those that are taken out are
  above-gone : (key : ℕ) (rows : List R) → AreAbove key (map shown rows) → AllByRecursion (λ (change : StoredChange). key < change.key) (take_all (gone_keys rows))
  above-gone key rows above =
      let each = all_of (λ (row : R). key < (shown row).key) rows (λ row among. each_of (λ (part : StoredPart). key < part.key) (map shown rows) (shown row) above (in-map shown rows row among)) in
      let kept = each-filter (λ (row : R). key < (shown row).key) (λ (row : R). not (stays row)) rows each in
      each-map (λ (k : ℕ). key < k) (λ (change : StoredChange). key < change.key) (λ (k : ℕ). record { key = k; value = None }) (gone_keys rows) (λ k less. less)
      (each-map (λ (row : R). key < (shown row).key) (λ (k : ℕ). key < k) (λ (row : R). (shown row).key) (filter (λ (row : R). not (stays row)) rows) (λ row less. less) kept)

  -- the parts of the rows that don't stay, taken out, leave those of the rows that do
  pub gone-taken : (rows : List R) → AreRisingParts (map shown rows) → all_changed (take_all (gone_keys rows)) (map shown rows) ≡ map shown (filter stays rows)
  gone-taken [] rising = refl
  gone-taken (row ∷ rows) rising =
      grind (arith, gone-taken rows rising.1, take-first (shown row) (map shown rows) rising.0, behind-first (shown row) (take_all (gone_keys rows)) (map shown rows) (above-gone (shown row).key rows rising.0))

  -- a row that doesn't stay is there before
  pub gone-there : (key : ℕ) (rows : List R) → IsAmong key (gone_keys rows) → (row : R) × (find (λ (r : R). (shown r).key == key) rows ≡ Some row)
  gone-there key rows among =
      let image = among-map (λ (row : R). (shown row).key) (filter (λ (row : R). not (stays row)) rows) key among in
      let there = among-filter (λ (row : R). not (stays row)) rows image.0 image.1 in
      some-found (λ (r : R). (shown r).key == key) rows image.0 there (eq-eqb (shown image.0).key key (sym image.2))

  -- and no row of its key stays
  pub gone-nowhere : (key : ℕ) (rows : List R) → AreRisingParts (map shown rows) → IsAmong key (gone_keys rows) → find (λ (r : R). (shown r).key == key) (filter stays rows) ≡ None
  gone-nowhere key rows rising among =
      none-from_map shown (find (λ (r : R). (shown r).key == key) (filter stays rows))
      (sym (ap (part_at key) (gone-taken rows rising) ∙ find-of_map (λ (part : StoredPart). part.key == key) shown (filter stays rows))
      ∙ grind (arith, take-at key (gone_keys rows) (map shown rows), is-any key (gone_keys rows) among))

-- ---- what an answer changed

-- the head where it is a new one, and then changes of rows, whose keys are above the head's, lead from the old head and the old rows
-- to the new ones
pub headed-changed : (is_new : Bool) (before after : StoredPart) (changes : List StoredChange) (olds : List StoredPart) → before.key ≡ after.key → (is_new ≡ false → after ≡ before)
    → AllByRecursion (λ (change : StoredChange). after.key < change.key) changes → all_changed (head_change is_new after ++ changes) (before ∷ olds) ≡ after ∷ all_changed changes olds
headed-changed true before after changes olds keys same above = ap (all_changed changes) (put-head after before olds keys) ∙ behind-first after changes olds above
headed-changed false before after changes olds keys same above = ap (λ (head : StoredPart). all_changed changes (head ∷ olds)) (sym (same refl)) ∙ behind-first after changes olds above

-- ids of volumes are keys above a head's
pub above-zero : (ids : List ℕ) → AllByRecursion IsVolumeId ids → AllByRecursion (λ (change : StoredChange). 0 < change.key) (take_all ids)
above-zero ids fit = each-map IsVolumeId (λ (change : StoredChange). 0 < change.key) (λ (id : ℕ). record { key = id; value = None }) ids (λ id is. is.from_one) fit
