-- A node's record as a value, and the rules that it keeps. This profile's own.
use Rattle.std.specs.Prelude.{◌≡◌, ℕ, ◌<◌, ◌≤◌, List, map, length, slice_index_or, All, Bool, false, None}
use Rattle.csi_types.specs.declared.rows.TheConstants.{MAX_ROWS}
use Rattle.csi_types.specs.declared.call.Party.{Party}
use Rattle.csi_types.specs.declared.call.Party.TheVariants.{Controller, Node}
use Rattle.csi_types.specs.declared.frame.Body.{Body}
use Rattle.csi_types.specs.declared.frame.Body.TheVariants as bodies
use Rattle.csi_types.specs.Model.Same.{same_text}
use Rattle.csi_node.specs.Model.OneRow.{NodeRowShown}
use Rattle.csi_node.specs.Public.OneRow.{IsSoundRow}

-- the ids of rows
abbrev pub ids : List NodeRowShown → List ℕ
ids rows = map (λ row. row.id) rows

-- the id at a place
abbrev pub row_id_at : List NodeRowShown → ℕ → ℕ
row_id_at rows place = slice_index_or (ids rows) place 0

-- the rules of a record: its rows stand by rising id, at most 4,096, and each keeps the rules of a row
pub record AreSoundRows (rows : List NodeRowShown) : Type 0 where
  pub rising : (i j : ℕ) → i < j → j < length rows → row_id_at rows i < row_id_at rows j
  pub limit : length rows ≤ MAX_ROWS
  pub each : All IsSoundRow rows

-- a row's last call is of no later session than the greatest that came; and of that one, where the volume isn't staged
pub record IsCurrentRow (session : ℕ) (row : NodeRowShown) : Type 0 where
  pub before : row.kept.number.session ≤ session
  pub empty : row.staged ≡ None → row.kept.number.session ≡ session

-- the rules of all rows, by the greatest session that came
abbrev pub IsCurrent : ℕ → List NodeRowShown → Type 0
IsCurrent session rows = All (IsCurrentRow session) rows

-- the frame is a call for this node
abbrev pub is_call_for : List ℕ → Party → Body → Bool
is_call_for node (Node id) (bodies.Call call) = same_text id node
is_call_for node (Node id) (bodies.Reply kind reply) = false
is_call_for node Controller body = false
