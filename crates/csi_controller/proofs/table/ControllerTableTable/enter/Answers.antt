-- The row that is made goes last, and so does its name.
use Rattle.std.proofs.Common.{◌≡◌, ◌∙◌, ℕ, List, [], ◌∷◌, ◌++◌, ◌+◌, ◌%◌, arith, map, length, ap, sym, subst}
use Rattle.std.specs.Prelude.{None, find, nat_eq}
use Rattle.std.specs.Cmp.Lexicographic.{pointwise}
use Rattle.std.proofs.lemmas.List.{map_push}
use Rattle.csi_types.specs.declared.call.Call.{Call}
use Rattle.csi_types.specs.Model.Same.{same_text}
use Rattle.csi_fence.specs.Public.Rows.{put_row}
use Rattle.csi_controller.specs.Public.Core.{next_shown}
use Rattle.csi_controller.specs.Public.Names.{by_name, by_text}
use Rattle.csi_controller.specs.Public.OneRow.{RowShown, row_shown}
use Rattle.csi_controller.specs.Public.Plan.{Fits, controller_plan}
use Rattle.csi_controller.specs.Private.PlanLaws.{was-made}
use Rattle.csi_controller.proofs.ControllerPlan.{fits-entered}
use Rattle.csi_controller.proofs.NameMaps.{new-name, of-ok}
use Rattle.csi_controller.proofs.SameText.{text-turned}
use Rattle.csi_controller.proofs.table.ControllerTableTable.enter.Goals as goal

pub returns-clause-agrees : goal.returns-clause-agrees
returns-clause-agrees c = λ rows number call fits rising sound none lacks.
    let table = c.args.self.now in
    let row = row_shown c.args.row.now in
    let made = was-made table.config.greatest (length rows) (next_shown table.next_id) number call row lacks in
    let named : row.volume.name ≡ made.name = ap (λ (r : RowShown). r.volume.name) made.is in
    let unnamed : find (λ (r : RowShown). same_text r.volume.name row.volume.name) rows ≡ None =
    subst (λ (name : List ℕ). find (λ (r : RowShown). same_text r.volume.name name) rows ≡ None) (sym named) (subst (λ (k : Call). find (controller_plan.is_for k) rows ≡ None) made.is_call none) in
    let entries = of-ok c.insert.result (c.insert.ensures.succeeds c.requires.room) c.insert.ensures.entries
    ∙ new-name (λ (r : RowShown). same_text r.volume.name row.volume.name) table.ids rows c.args.room row.volume.id fits.names_are
    (λ r. ap (λ (n : List ℕ). pointwise nat_eq n r.volume.name) c.requires.named ∙ text-turned row.volume.name r.volume.name) unnamed in
    let names : map by_text c.insert.new.self.entries ≡ map by_text table.ids.entries ++ by_name row ∷ [] =
    ap (map by_text) entries ∙ map_push by_text table.ids.entries (c.args.room, row.volume.id) ∙ ap (λ (name : List ℕ). map by_text table.ids.entries ++ (name, row.volume.id) ∷ []) c.requires.named in
    subst (λ (names : List (List ℕ × ℕ)). Fits table.config.nodes names table.counts ((table.next_id + 1) % 18446744073709551616) (put_row controller_plan.id row rows)) (sym names)
    (fits-entered table.config.nodes (map by_text table.ids.entries) table.counts table.next_id ((table.next_id + 1) % 18446744073709551616) (next_shown table.next_id) rows row fits (omega arith) sound made.room unnamed (ap (λ (r : RowShown). r.volume.id) made.is) (ap (λ (r : RowShown). r.items) made.is))
