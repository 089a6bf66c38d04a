-- One more name, which none of the earlier rows has.
use Rattle.std.proofs.Common.{◌≡◌, ◌∙◌, ◌+◌, ℕ, Bool, List, [], ◌∷◌, ◌++◌, None, map, take, ap, subst, sym}
use Rattle.std.specs.Prelude.{find, nat_eq, option_map}
use Rattle.std.specs.String.{string_bytes}
use Rattle.std.specs.Cmp.Lexicographic.{pointwise}
use Rattle.std.proofs.lemmas.List.{map_push}
use Rattle.csi_types.proofs.Searches.{find-of_map}
use Rattle.csi_types.specs.Model.Same.{same_text}
use Rattle.csi_fence.proofs.JudgedRows.{one-more}
use Rattle.csi_controller.specs.declared.row.ControllerRow.{ControllerRow}
use Rattle.csi_controller.specs.Public.Core.{AreSoundRows}
use Rattle.csi_controller.specs.Public.Names.{by_name, by_text}
use Rattle.csi_controller.specs.Public.OneRow.{RowShown, row_shown}
use Rattle.csi_controller.proofs.FirstRefused.{new-name as unnamed, sound-take}
use Rattle.csi_controller.proofs.NameMaps.{new-name, of-ok}
use Rattle.csi_controller.proofs.SameText.{text-turned}
use Rattle.csi_controller.proofs.names.names_of.Goals as goal

pub loop-row-preserved : goal.loop-row-preserved
loop-row-preserved c =
    let rows = c.args.rows.now in
    let index = c.loop-row.row-index in
    let row = c.row-item.result in
    let q : RowShown → Bool = λ r. same_text r.volume.name row.name in
    let first : List RowShown = map row_shown (take index rows) in
    let none : find q first ≡ None = find-of_map q row_shown (take index rows) ∙ ap (option_map row_shown) (unnamed c.args.next_id (take index rows) row
    (subst (AreSoundRows c.args.next_id) (one-more rows index row c.loop-row-test.true c.row-item.is) (sound-take c.args.next_id rows (index + 1) c.requires))) in
    let named : string_bytes c.in_ok-text.text ≡ row.name = c.in_ok-text.ensures.ok ∙ c.as_str.ensures.value in
    let before : map by_text c.reserve.new.self.entries ≡ map by_name first = ap (map by_text) c.in_ok-reserve.ensures.entries ∙ c.loop-row.invariant in
    let entries = of-ok c.insert.result (c.insert.ensures.succeeds c.in_ok-reserve.ensures.ok) c.insert.ensures.entries
    ∙ new-name q c.reserve.new.self first c.in_ok-text.text row.id before (λ r. ap (λ (n : List ℕ). pointwise nat_eq n r.volume.name) named ∙ text-turned row.name r.volume.name) none in
    let more : map by_name (map row_shown (take (index + 1) rows)) ≡ map by_name first ++ by_name (row_shown row) ∷ []
    = ap (λ (l : List ControllerRow). map by_name (map row_shown l)) (one-more rows index row c.loop-row-test.true c.row-item.is) ∙ ap (map by_name) (map_push row_shown (take index rows) row) ∙ map_push by_name first (row_shown row) in
    ap (map by_text) entries ∙ map_push by_text c.reserve.new.self.entries (c.in_ok-text.text, row.id) ∙ (λ i. before i ++ (named i, row.id) ∷ []) ∙ sym more
