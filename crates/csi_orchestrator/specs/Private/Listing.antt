-- What an orchestrator knows, as a list of things. This profile's own.
use Rattle.std.specs.Prelude.{ℕ, List, [], ◌∷◌, ◌++◌, if◌then◌else◌}
use Rattle.std.specs.List.{flat_map}
use Rattle.csi_orchestrator.specs.declared.row.TargetEntry.{TargetEntry}
use Rattle.csi_orchestrator.specs.declared.thing.Thing.{Thing}
use Rattle.csi_orchestrator.specs.declared.thing.Thing.TheVariants.{Exists, Attached, Staged, Published}
use Rattle.csi_orchestrator.specs.declared.thing.ThingRef.{ThingRef}
use Rattle.csi_orchestrator.specs.declared.thing.ThingRef.TheVariants as lent
use Rattle.csi_orchestrator.specs.declared.thing.Known.{Known}
use Rattle.csi_orchestrator.specs.Model.Thing.{name_in, is_no}
use Rattle.csi_orchestrator.specs.Model.Shown.{NodeEntryShown, RowShown, row_of, mark_in, mark_of}

-- what these rows know of a thing
abbrev pub known_by_rows : List RowShown → Thing → Known
known_by_rows rows thing = mark_in (mark_of thing) (row_of rows (name_in thing))

-- the thing that a lent one stands for
abbrev pub lent_thing : ThingRef → Thing
lent_thing (lent.Exists name) = Exists name.now
lent_thing (lent.Attached name node) = Attached name.now node.now
lent_thing (lent.Staged name node) = Staged name.now node.now
lent_thing (lent.Published name node target) = Published name.now node.now target.now

-- what is known, row by row, before it is put in order
abbrev pub noted : Thing → Known → List (Thing × Known)
noted thing mark = if is_no mark then [] else (thing, mark) ∷ []

-- of a target's entry
abbrev pub noted_of_target : List ℕ → List ℕ → TargetEntry → List (Thing × Known)
noted_of_target name node entry = noted (Published name node entry.target) entry.published

-- of a node's entry
abbrev pub noted_of_node : List ℕ → NodeEntryShown → List (Thing × Known)
noted_of_node name entry =
    noted (Attached name entry.node) entry.attached ++ noted (Staged name entry.node) entry.staged ++ flat_map (noted_of_target name entry.node) entry.target_entries

-- of a row
abbrev pub noted_of_row : RowShown → List (Thing × Known)
noted_of_row row = noted (Exists row.name) row.exists ++ flat_map (noted_of_node row.name) row.node_entries

-- of all rows
abbrev pub noted_in : List RowShown → List (Thing × Known)
noted_in rows = flat_map noted_of_row rows
