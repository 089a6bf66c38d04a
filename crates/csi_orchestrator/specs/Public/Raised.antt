-- A session that is raised: a later one begins with the same nodes, and nothing is sent in it. Any orchestrator may do so (`Starts` of `csi_world`). This
-- profile's own.
use Rattle.std.specs.Prelude.{ℕ, List, [], ◌∷◌, nat_lt, if◌then◌else◌}
use Rattle.csi_orchestrator.specs.Model.History.{History, Started, with_items}
use Rattle.csi_orchestrator.specs.Model.Readings.{last_number, nodes_of}
use Rattle.csi_orchestrator.specs.Public.Record.{RecordParts}

-- this session, where it is later than the last one, or that
abbrev pub raised_session : ℕ → ℕ → ℕ
raised_session session last = if nat_lt last session then session else last

-- a record, once it began
abbrev pub raised_record : ℕ → RecordParts → RecordParts
raised_record session kept = record kept { session = raised_session session kept.session }

-- a history, once it began
abbrev pub raised_history : ℕ → History → History
raised_history session history = if nat_lt (last_number history).session session then with_items history (Started session (nodes_of history) ∷ []) else history
