-- What a session that is raised makes of a plugin's record, whichever plugin it is, and what its commit leaves of a store.
use Rattle.std.proofs.Common.{◌≡◌, ◌∙◌, ◌⊎◌, sym, ap, refl, subst, inl, inr, ℕ, ◌≤◌, Bool, true, false, cond, List, [], ◌∷◌, ◌++◌, map, arith}
use Rattle.std.specs.Prelude.{filter, option_map, ◌==◌}
use Rattle.std.specs.List.{AllByRecursion}
use Rattle.std.proofs.lemmas.Bool.Decides.{nat_tests}
use Rattle.csi_types.specs.Model.Members.{IsAmong}
use Rattle.csi_types.proofs.Members.{each_of, all_of, among-filter, among-find}
use Rattle.csi_types.proofs.Options.{some_is_not_none}
use Rattle.csi_types.specs.Public.VolumeId.{IsVolumeId}
use Rattle.csi_types.specs.declared.number.Number.{Number}
use Rattle.csi_stores.specs.declared.keep.KeepFault.{KeepFault}
use Rattle.csi_stores.specs.declared.keep.KeepFault.TheVariants.{Device, NoMemory, BadRecord, Full}
use Rattle.csi_stores.specs.Public.Part.{StoredPart, StoredChange, put_all, take_all}
use Rattle.csi_stores.specs.Public.Content.{all_changed, AreRisingParts}
use Rattle.csi_stores.specs.Public.Stores.{Store, Found, Parts, IsOnly, FindsSome, LeavesOnly, LeavesEither, IsCommitFault, IsContentRefusal}
use Rattle.csi_stores.proofs.RisingChanges.{rising-all}
use Rattle.csi_service.specs.Public.Plugins.{View, head_of, row_parts, record_parts, row_by_id, AreFit}
use Rattle.csi_service.specs.Public.Raising.{is_later, head_in, raised_parts, raise_changes, IsRaised}
use Rattle.csi_service.specs.Private.Plugins.{gone_ids, forgotten_by, staying, Raises}
use Rattle.csi_service.proofs.RisingParts.{same-parts}
use Rattle.csi_service.proofs.RowChanges.{at-row, found-own}
use Rattle.csi_service.proofs.StayingRows.{above-zero, gone-taken, headed-changed}

-- ---- the record

module _ {P Own R State : Type 0} (view : View P Own R State) (session : ℕ) (old : P) (rising : AreRisingParts (row_parts view old)) where
  -- the number of a call that would begin it
  abbrev number : Number
  number = record { session = session; call = 0 }

  -- the rows that stay
  abbrev stay : List R
  stay = staying view number old

  -- what is to be committed leads to the raised record
  pub raise-leads : AllByRecursion IsVolumeId (forgotten_by view number old) → all_changed (raise_changes view session old) (record_parts view old) ≡ raised_parts view session old
  raise-leads fit = by (is_later view session old) fit
    where
      by : (b : Bool) → AllByRecursion IsVolumeId (cond b (gone_ids view old) [])
          → all_changed (cond b (put_all (head_in view session old ∷ []) ++ take_all (gone_ids view old)) []) (record_parts view old) ≡ cond b (head_in view session old ∷ map view.part (filter view.stays (view.rows old))) (record_parts view old)
      by true ids =
          headed-changed true (head_of view old) (head_in view session old) (take_all (gone_ids view old)) (row_parts view old) refl (λ e. absurd cc) (above-zero (gone_ids view old) ids)
          ∙ ap (λ (ps : List StoredPart). head_in view session old ∷ ps) (gone-taken view.part view.stays (view.rows old) rising)
      by false ids = refl

  -- their parts rise
  rising-stay : AreRisingParts (map view.part stay)
  rising-stay = by (is_later view session old)
    where
      by : (b : Bool) → AreRisingParts (map view.part (cond b (filter view.stays (view.rows old)) (view.rows old)))
      by true = subst AreRisingParts (gone-taken view.part view.stays (view.rows old) rising) (rising-all (take_all (gone_ids view old)) (row_parts view old) rising)
      by false = rising

  module _ (new : P) (is : Raises view session old new) (rising_too : AreRisingParts (row_parts view new)) where
    -- a row of the new plugin is the one that stays
    same-row : (id : ℕ) → row_by_id view id (view.rows new) ≡ row_by_id view id stay
    same-row id = is.changes.others id (λ e. some_is_not_none id (sym e))

    -- so its parts are those of the rows that stay
    rows-left : row_parts view new ≡ map view.part stay
    rows-left = same-parts (row_parts view new) (map view.part stay) rising_too rising-stay (λ id. at-row view id (view.rows new) ∙ ap (option_map view.part) (same-row id) ∙ sym (at-row view id stay))

    -- and its record is the raised one
    record-raised : record_parts view new ≡ raised_parts view session old
    record-raised = by (is_later view session old) is.changes.session rows-left
      where
        by : (b : Bool) → (view.numbers new).1 ≡ cond b session (view.numbers old).1 → row_parts view new ≡ map view.part (cond b (filter view.stays (view.rows old)) (view.rows old))
            → record_parts view new ≡ cond b (head_in view session old ∷ map view.part (filter view.stays (view.rows old))) (record_parts view old)
        by true at rows = λ i. record { key = 0; value = view.head (is.own i) (is.first i, at i) } ∷ rows i
        by false at rows = λ i. record { key = 0; value = view.head (is.own i) (is.first i, at i) } ∷ rows i

    -- rows stay within their limits
    fit-still : AreFit view old → AreFit view new
    fit-still fit = all_of view.IsRow (view.rows new) (λ row among.
        let found = found-own view (view.rows new) row rising_too among in
        each_of view.IsRow (view.rows old) row fit (was (is_later view session old) row (among-find (λ (r : R). (view.part r).key == (view.part row).key) stay row (sym (same-row (view.part row).key) ∙ found))))
      where
        was : (b : Bool) (row : R) → IsAmong row (cond b (filter view.stays (view.rows old)) (view.rows old)) → IsAmong row (view.rows old)
        was true row among = among-filter view.stays (view.rows old) row among
        was false row among = among

    -- all that is said of it
    pub is-raised : IsRaised view session old new
    is-raised = record { own = is.own; shows = is.shows; parts = record-raised; fit = fit-still }

-- where the session isn't later, nothing is to be committed
pub no-later : {P Own R State : Type 0} (view : View P Own R State) (session : ℕ) (old : P) → session ≤ (view.numbers old).1 → raise_changes view session old ≡ []
no-later view session old early = by (is_later view session old) refl
  where
    by : (b : Bool) → is_later view session old ≡ b → cond b (put_all (head_in view session old ∷ []) ++ take_all (gone_ids view old)) [] ≡ []
    by true e = absurd (grind (arith, nat_tests, early, e))
    by false e = refl

-- ---- the store

module _ (before after : Store) (first next : List StoredPart) (changes : List StoredChange) (leads : all_changed changes first ≡ next) where
  -- a commit that is done
  pub commit-only : (after.honest → (content : List StoredPart) → before.holds content → IsOnly after (Parts (all_changed changes content))) → LeavesOnly before after first next
  commit-only done = λ honest only. subst (λ (ps : List StoredPart). IsOnly after (Parts ps)) leads (done honest first only.there)

  -- one that is refused
  pub commit-either : (after.honest → (content : List StoredPart) → before.holds content → (other : Found) → after.leaves other → before.leaves other ⊎ (other ≡ Parts (all_changed changes content)))
      → (after.honest → (content : List StoredPart) → IsOnly before (Parts content) → FindsSome after) → LeavesEither before after first first next
  commit-either refused some = λ honest only. record {
    some = some honest first only;
    each = λ other left. elim (refused honest first only.there other left) [ inl old ↦ inl (only.alone other old) | inr new ↦ inr (new ∙ ap Parts leads) ];
  }

  -- and why
  pub commit-refusal : (fault : KeepFault) → IsCommitFault before after (all_changed changes) fault → IsContentRefusal before after first next fault
  commit-refusal Device cause = cause
  commit-refusal NoMemory cause = tt
  commit-refusal (BadRecord place) cause = cause
  commit-refusal Full cause = λ honest only fits. cause honest first only.there (subst before.fits (sym leads) fits)

-- a store that isn't called has the record that nothing leads to
pub nothing-told : (now : Store) (first new next : List StoredPart) (changes : List StoredChange) → changes ≡ [] → all_changed changes first ≡ next → new ≡ next → LeavesOnly now now first new
nothing-told now first new next changes none leads is =
    subst (λ (ps : List StoredPart). LeavesOnly now now first ps) (ap (λ (cs : List StoredChange). all_changed cs first) (sym none) ∙ leads ∙ sym is) (λ honest only. only)

-- and is found as it was
pub either-same : (now : Store) (first next : List StoredPart) → LeavesEither now now first first next
either-same now first next = λ honest only. record { some = ∣ (Parts first, only.left) ∣₁; each = λ other left. inl (only.alone other left) }
