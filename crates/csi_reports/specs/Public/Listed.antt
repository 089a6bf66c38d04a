-- What is listed of plugins: what a node has staged and published, and the controller's live volumes. This profile's own.
use Rattle.std.specs.Prelude.{ℕ, List, map, filter}
use Rattle.std.specs.List.{flat_map}
use Rattle.csi_controller.specs.declared.row.ControllerRow.{ControllerRow}
use Rattle.csi_node.specs.Model.State.{StagedVolume, PublishedVolume}
use Rattle.csi_node.specs.Model.Record.{NodeParts}
use Rattle.csi_node.specs.Model.OneRow.{node_row_shown}
use Rattle.csi_node.specs.Public.OneRow.{state_shown}
use Rattle.csi_reports.specs.declared.entries.StagedAt.{StagedAt}
use Rattle.csi_reports.specs.declared.entries.PublishedAt.{PublishedAt}

-- a volume that a node has staged
abbrev pub volume_staged_at : List ℕ → StagedVolume → StagedAt
volume_staged_at node staged = record { id = staged.volume; node = node; mode = (staged.capability).mode }

-- a volume that a node has published
abbrev pub volume_published_at : List ℕ → PublishedVolume → PublishedAt
volume_published_at node published = record { id = published.volume; node = node; target = published.target; readonly = published.readonly }

-- all that a node has staged, by its rows
abbrev pub staged_on : NodeParts → List StagedAt
staged_on node = map (volume_staged_at node.id) (flat_map (λ row. (state_shown (node_row_shown row)).staged) node.rows)

-- all that it has published, by its rows
abbrev pub published_on : NodeParts → List PublishedAt
published_on node = map (volume_published_at node.id) (flat_map (λ row. (state_shown (node_row_shown row)).published) node.rows)

-- the live ones, by rising id
abbrev pub live_rows : List ControllerRow → List ControllerRow
live_rows rows = filter (λ row. row.live) rows
