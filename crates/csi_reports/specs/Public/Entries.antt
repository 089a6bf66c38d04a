-- One thing of a report, as a value of JSON: an object with its keys in order. This profile's own.
use Rattle.std.specs.Prelude.{ℕ, List, map, codes}
use Rattle.serde_json.specs.Data.{Data, array, boolean, number, string, object, unsigned, no_members, member}
use Rattle.serde_json.specs.View.{items_of}
use Rattle.csi_types.specs.declared.holding.Holding.{Holding}
use Rattle.csi_types.specs.Model.Mode.{mode_number}
use Rattle.csi_controller.specs.declared.row.ControllerRow.{ControllerRow}
use Rattle.csi_orchestrator.specs.declared.thing.Thing.{Thing}
use Rattle.csi_orchestrator.specs.declared.thing.Thing.TheVariants.{Exists, Attached, Staged, Published}
use Rattle.csi_orchestrator.specs.declared.thing.Known.{Known}
use Rattle.csi_orchestrator.specs.declared.thing.Known.TheVariants.{Yes, No, Maybe}
use Rattle.csi_reports.specs.declared.entries.StagedAt.{StagedAt}
use Rattle.csi_reports.specs.declared.entries.PublishedAt.{PublishedAt}

-- each item's entry, in order
abbrev pub entries : {A : Type 0} → (A → Data) → List A → Data
entries entry items = array (items_of (map entry items))

-- a whole number
abbrev pub whole_number : ℕ → Data
whole_number n = number (unsigned n)

-- an attached volume
abbrev pub attached_entry : Holding → Data
attached_entry held =
    object (member (codes "id") (whole_number held.volume) (member (codes "mode") (whole_number (mode_number (held.capability).mode)) (member (codes "node") (string held.node) (member (codes "readonly") (boolean held.readonly) no_members))))

-- a staged volume
abbrev pub staged_entry : StagedAt → Data
staged_entry staged =
    object (member (codes "id") (whole_number staged.id) (member (codes "mode") (whole_number (mode_number staged.mode)) (member (codes "node") (string staged.node) no_members)))

-- a published volume
abbrev pub published_entry : PublishedAt → Data
published_entry published =
    object (member (codes "id") (whole_number published.id) (member (codes "node") (string published.node) (member (codes "readonly") (boolean published.readonly) (member (codes "target") (string published.target) no_members))))

-- a live volume
abbrev pub volume_entry : ControllerRow → Data
volume_entry row =
    object (member (codes "capacity") (whole_number row.capacity) (member (codes "id") (whole_number row.id) (member (codes "name") (string row.name) no_members)))

-- ---- what the orchestrator knows

-- what is known, as a word
abbrev pub known_text : Known → List ℕ
known_text Yes = codes "yes"
known_text No = codes "no"
known_text Maybe = codes "maybe"

-- a thing, with this word of what is known of it
abbrev pub thing_entry : List ℕ → Thing → Data
thing_entry known (Exists name) =
    object (member (codes "known") (string known) (member (codes "name") (string name) (member (codes "thing") (string (codes "exists")) no_members)))
thing_entry known (Attached name node) =
    object (member (codes "known") (string known) (member (codes "name") (string name) (member (codes "node") (string node) (member (codes "thing") (string (codes "attached")) no_members))))
thing_entry known (Staged name node) =
    object (member (codes "known") (string known) (member (codes "name") (string name) (member (codes "node") (string node) (member (codes "thing") (string (codes "staged")) no_members))))
thing_entry known (Published name node target) =
    object (member (codes "known") (string known) (member (codes "name") (string name) (member (codes "node") (string node) (member (codes "target") (string target) (member (codes "thing") (string (codes "published")) no_members)))))

-- a thing and what is known of it
abbrev pub known_entry : Thing × Known → Data
known_entry entry = thing_entry (known_text entry.1) entry.0
