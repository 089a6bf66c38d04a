-- The tests of a row are passed exactly where it keeps the rules.
use Rattle.std.proofs.Common.{◌≡◌, ◌⊎◌, ◌≤◌, length, Bool, true, false, not, List, [], ◌∷◌, refl, sym, ◌∙◌, ap, inl, inr}
use Rattle.std.specs.Bool.{Decides}
use Rattle.std.specs.Prelude.{Option, Some, None, is_some, ◌&&◌, ◌||◌, nat_le}
use Rattle.std.proofs.lemmas.Bool.{both_ways, eq-eqb, eqb-true, le-leb, leb-true, not-true, not_from_false, or_cases}
use Rattle.std.proofs.lemmas.Bool.Decides.{Decides-and}
use Rattle.std.proofs.lemmas.List.{nil_from_length}
use Rattle.std.proofs.lemmas.Option.{same_Some}
use Rattle.csi_types.proofs.Options.{none-from_is_some, some_is_not_none}
use Rattle.csi_types.specs.declared.capability.Capability.{Capability}
use Rattle.csi_types.specs.Public.Call.{is_node_kind}
use Rattle.csi_types.specs.Model.Sharing.{allows_one_target}
use Rattle.csi_node.specs.declared.row.NodeTarget.{NodeTarget}
use Rattle.csi_node.specs.Model.OneRow.{NodeRowShown}
use Rattle.csi_node.specs.Public.OneRow.{target_among, AreAbsolute, AreDistinctTargets, IsSoundRow}
use Rattle.csi_node.specs.Private.SoundRow.{has_own_reply, fits_mode, are_fit, has_fit_targets, is_sound_row}
use Rattle.csi_node.specs.Model.Table.{begins_with_slash}

-- a test tells that it is passed
itself : (b : Bool) → Decides b (b ≡ true)
itself b = (λ h. h, λ h. h)

-- there is none
none-tells : {X : Type 0} (o : Option X) → Decides (not (is_some o)) (o ≡ None)
none-tells o = (λ h. none-from_is_some o (not-true (is_some o) h), λ none. not_from_false (is_some o) (ap is_some none))

-- so many targets are as many as the mode allows, and none where the volume isn't staged
mode-tells : (staged : Option Capability) (targets : List NodeTarget) → Decides (fits_mode staged (length targets))
    ((staged ≡ None → targets ≡ []) × ((capability : Capability) → staged ≡ Some capability → allows_one_target capability.mode ≡ true → length targets ≤ 1))
mode-tells None targets =
    (λ h. (λ e. nil_from_length targets (eqb-true (length targets) 0 h), λ capability e one. absurd (some_is_not_none capability (sym e))), λ is. eq-eqb (length targets) 0 (ap length (is.0 refl)))
mode-tells (Some own) targets =
    (λ h. (λ e. absurd (some_is_not_none own e), λ capability e one. few capability e one (or_cases (not (allows_one_target own.mode)) (nat_le (length targets) 1) h)), λ is. by is.1 (allows_one_target own.mode) refl)
  where
    few : (capability : Capability) → Some own ≡ Some capability → allows_one_target capability.mode ≡ true → (not (allows_one_target own.mode) ≡ true) ⊎ (nat_le (length targets) 1 ≡ true) → length targets ≤ 1
    few capability e one (inl many) = absurd (both_ways (allows_one_target own.mode) (not-true (allows_one_target own.mode) many) (ap (λ (c : Capability). allows_one_target c.mode) (same_Some own capability e) ∙ one))
    few capability e one (inr less) = leb-true (length targets) 1 less

    by : ((capability : Capability) → Some own ≡ Some capability → allows_one_target capability.mode ≡ true → length targets ≤ 1) → (b : Bool) → allows_one_target own.mode ≡ b → (not b || nat_le (length targets) 1) ≡ true
    by single true e = le-leb (length targets) 1 (single own refl e)
    by single false e = refl

-- targets are paths from the root, and each is there once
fit-tells : (targets : List NodeTarget) → Decides (are_fit targets) (AreAbsolute targets × AreDistinctTargets targets)
fit-tells [] = (λ h. (tt, tt), λ is. refl)
fit-tells (there ∷ later) =
    let one = Decides-and (begins_with_slash there.target) (not (is_some (target_among later there.target))) (itself (begins_with_slash there.target)) (none-tells (target_among later there.target)) in
    let all = Decides-and (begins_with_slash there.target && not (is_some (target_among later there.target))) (are_fit later) one (fit-tells later) in
    (λ h. let is = all.0 h in ((is.0.0, is.1.0), (is.0.1, is.1.1)), λ is. all.1 ((is.0.0, is.1.0), (is.0.1, is.1.1)))

-- a row passes the tests where it keeps the rules
row-tells : (row : NodeRowShown) → Decides (is_sound_row row) (IsSoundRow row)
row-tells row =
    let count = length row.targets in
    let reply = Decides-and _ _ (itself (is_node_kind row.kept.kind)) (none-tells row.kept.reply.id) in
    let few : Decides (nat_le count 16) (count ≤ 16) = (leb-true count 16, le-leb count 16) in
    let targets = Decides-and _ _ (Decides-and _ _ few (mode-tells row.staged row.targets)) (fit-tells row.targets) in
    let all = Decides-and (has_own_reply row) (has_fit_targets row) reply targets in (
      λ h.
          let is = all.0 h in
          record { kind = is.0.0; no_id = is.0.1; targets = record { unstaged = is.1.0.1.0; absolute = is.1.1.0; distinct = is.1.1.1; single = is.1.0.1.1; limit = is.1.0.0 } },
      λ is.
          all.1 ((is.kind, is.no_id), ((is.targets.limit, (is.targets.unstaged, is.targets.single)), (is.targets.absolute, is.targets.distinct))),
    )

-- a row that passes them keeps the rules
pub sound-row : (row : NodeRowShown) → is_sound_row row ≡ true → IsSoundRow row
sound-row row h = (row-tells row).0 h

-- and the other way round
pub row-sound : (row : NodeRowShown) → IsSoundRow row → is_sound_row row ≡ true
row-sound row is = (row-tells row).1 is
