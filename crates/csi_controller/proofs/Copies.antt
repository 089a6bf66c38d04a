-- Rows that say the same show the same state, and keep the same rules.
use Rattle.std.proofs.Common.{◌≡◌, ℕ, List, [], ◌∷◌, ◌++◌, map, refl, sym, ◌∙◌, ap, subst}
use Rattle.std.specs.Prelude.{find, ◌==◌}
use Rattle.std.specs.List.{AllByRecursion}
use Rattle.csi_types.specs.Model.Config.{Config}
use Rattle.csi_fence.specs.Public.Rows as rows_of
use Rattle.csi_controller.specs.declared.row.ControllerRow.{ControllerRow}
use Rattle.csi_controller.specs.Model.State.{ControllerState}
use Rattle.csi_controller.specs.Model.Core.{Shows}
use Rattle.csi_controller.specs.Public.Core.{AreSoundRows, IsCurrent, IsSameRow}
use Rattle.csi_controller.specs.Public.OneRow.{RowShown, row_shown}
use Rattle.csi_controller.specs.Public.Plan.{controller_plan}
use Rattle.csi_controller.specs.Public.Views.{AreSameRows}
use Rattle.csi_controller.proofs.Holdings.{held_in}
use Rattle.csi_controller.proofs.RecordRules.{AreSoundShown, current-seen, current-shown, rules-seen, rules-shown}
use Rattle.csi_controller.proofs.ShownRows.{held-shown, volume_in, volumes-shown}

-- rows and copies that say the same say it with one more of each
pub AreSameRows-append : (rows copies : List ControllerRow) (row copy : ControllerRow) → AreSameRows rows copies → IsSameRow row copy → AreSameRows (rows ++ row ∷ []) (copies ++ copy ∷ [])
AreSameRows-append [] [] row copy same own = (own, tt)
AreSameRows-append [] (c ∷ cs) row copy same own = absurd same
AreSameRows-append (r ∷ rs) [] row copy same own = absurd same
AreSameRows-append (r ∷ rs) (c ∷ cs) row copy same own = (same.0, AreSameRows-append rs cs row copy (same.1) own)

-- a copy shows what the row does
pub same-shown : (row copy : ControllerRow) → IsSameRow row copy → row_shown row ≡ row_shown copy
same-shown row copy same = λ i. record { volume = sym same.volume i; items = sym same.items i }

-- so do copies of rows
copies-shown : (rows copies : List ControllerRow) → AreSameRows rows copies → map row_shown rows ≡ map row_shown copies
copies-shown [] [] same = refl
copies-shown [] (c ∷ cs) same = absurd same
copies-shown (r ∷ rs) [] same = absurd same
copies-shown (r ∷ rs) (c ∷ cs) same = let first = same-shown r c same.0 in let rest = copies-shown rs cs same.1 in λ i. first i ∷ rest i

-- copies of a controller's rows show the same state
pub shown-copies : (config : Config) (n s : ℕ) (rows copies : List ControllerRow) (state : ControllerState) → AreSameRows rows copies → Shows (record { config = config; next_id = n; session = s; rows = rows }) state → Shows (record { config = config; next_id = n; session = s; rows = copies }) state
shown-copies config n s rows copies state same shown =
    let back = sym (copies-shown rows copies same) in
    record {
      shows = record {
        next = shown.shows.next;
        volumes = sym (volumes-shown copies) ∙ ap (map volume_in) back ∙ volumes-shown rows ∙ shown.shows.volumes;
        holdings = λ id.
            sym (held-shown copies id) ∙ ap (λ (l : List RowShown). held_in (find (λ (r : RowShown). r.volume.id == id) l)) back ∙ held-shown rows id ∙ shown.shows.holdings id;
      };
      session = shown.session;
      next_from = shown.next_from;
      next_to = shown.next_to;
    }

-- copies of a record's rows are a record's
pub sound-copies : (n : ℕ) (rows copies : List ControllerRow) → AreSameRows rows copies → AreSoundRows n rows → AreSoundRows n copies
sound-copies n rows copies same sound = rules-seen n copies (subst (AreSoundShown n) (copies-shown rows copies same) (rules-shown n rows sound))

-- and of their sessions
pub current-copies : (session : ℕ) (rows copies : List ControllerRow) → AreSameRows rows copies → IsCurrent session rows → IsCurrent session copies
current-copies session rows copies same current =
    current-seen session copies (subst (AllByRecursion (rows_of.IsCurrentRow controller_plan session)) (copies-shown rows copies same) (current-shown session rows current))
