-- The part of the row at a place, or none, is put in behind the others.
use Rattle.std.proofs.Common.{◌≡◌, ◌∙◌, ◌++◌, sym, ap, map, subst, rules, [], ◌∷◌, Some}
use Rattle.std.specs.Prelude.{None, option_map, option_to_list}
use Rattle.std.proofs.lemmas.List.{append-nil}
use Rattle.csi_stores.specs.Public.Part.{part_change, put_all, take_all}
use Rattle.csi_service.specs.Public.Plugins.{ServedPlugin, at_place, head_change, head_of, row_parts, service_changes}
use Rattle.csi_service.proofs.RowChanges.{at-part}
use Rattle.csi_service.proofs.plugin_service.PluginServiceCore.parts.Goals as goal

pub returns-in_default-row_at-clause-changes : goal.returns-in_default-row_at-clause-changes
returns-in_default-row_at-clause-changes g c =
    let view = g.P.Plugin.view in
    let plugin = c.self.inside.plugin in
    let changed = c.self.inside.changed in
    let head = head_change changed.new_head (head_of view plugin) in
    let gone = take_all changed.forgotten.items in
    let so_far : map part_change c.push_removals.new.parts.items ≡ head ++ gone = search rules in
    let none : at_place changed.row (row_parts view plugin) ≡ None =
    at-part view changed.row (view.rows plugin) ∙ ap (λ place. option_map view.part (at_place place (view.rows plugin))) c.in-Some.is ∙ ap (option_map view.part) (sym c.in_default-row_at.ensures.row) in
    subst (λ (seen : ServedPlugin _). map part_change c.push_removals.new.parts.items ≡ service_changes view seen) c.self.view_is
    (so_far ∙ sym (append-nil (head ++ gone)) ∙ ap (λ found. head ++ gone ++ put_all (option_to_list found)) (sym none))

pub returns-clause-changes : goal.returns-clause-changes
returns-clause-changes g c =
    let view = g.P.Plugin.view in
    let plugin = c.self.inside.plugin in
    let changed = c.self.inside.changed in
    let head = head_change changed.new_head (head_of view plugin) in
    let gone = take_all changed.forgotten.items in
    let so_far : map part_change c.push_removals.new.parts.items ≡ head ++ gone = search rules in
    let part = view.part (g.P.Plugin.shown c.in-Some-row_at.row.now) in
    let one : at_place changed.row (row_parts view plugin) ≡ Some part =
    at-part view changed.row (view.rows plugin) ∙ ap (λ place. option_map view.part (at_place place (view.rows plugin))) c.in-Some.is ∙ ap (option_map view.part) (sym c.in-Some-row_at.ensures.row) in
    let added : map part_change c.push_value-2.new.parts.items ≡ map part_change c.push_removals.new.parts.items ++ put_all (part ∷ []) = search rules in
    subst (λ (seen : ServedPlugin _). map part_change c.push_value-2.new.parts.items ≡ service_changes view seen) c.self.view_is
    (added ∙ ap (λ first. first ++ put_all (part ∷ [])) so_far ∙ ap (λ found. head ++ gone ++ put_all (option_to_list found)) (sym one))
