-- Which row a call of an orchestrator changed. This profile's own.
use Rattle.std.specs.Prelude.{◌≡◌, ℕ, ◌+◌, ◌<◌, List, length, take, drop, position, Bool, false, Option, Some, None}
use Rattle.csi_types.specs.Public.Places.{IsAt}
use Rattle.csi_types.specs.declared.number.Number.{Number}
use Rattle.csi_types.specs.Model.Same.{same_text, same_number}
use Rattle.csi_orchestrator.specs.declared.fault.Heard.{Heard}
use Rattle.csi_orchestrator.specs.declared.fault.Heard.TheVariants.{Ignored, Taken}
use Rattle.csi_orchestrator.specs.declared.row.OpenCall.{OpenCall}
use Rattle.csi_orchestrator.specs.Model.Shown.{RowShown, OrchestratorParts}

-- where the row of this name stands
abbrev pub place_by_name : List ℕ → List RowShown → Option ℕ
place_by_name name rows = position (λ row. same_text row.name name) rows

-- an open call has this number
abbrev pub is_numbered : Number → Option OpenCall → Bool
is_numbered number None = false
is_numbered number (Some open_call) = same_number open_call.number number

-- where the row whose open call has this number stands
abbrev pub place_by_call : Number → List RowShown → Option ℕ
place_by_call number rows = position (λ row. is_numbered number row.open_call) rows

-- the rows before this place and behind it are as they were, and the row there has its name still; or it came, as the last one
pub record AreChangedAt (place : ℕ) (old new : List RowShown) : Type 0 where
  pub within : place < length new
  pub before : take place new ≡ take place old
  pub behind : drop (place + 1) new ≡ drop (place + 1) old
  pub named : (was now : RowShown) → IsAt old place was → IsAt new place now → now.name ≡ was.name

-- all is as it was, but for the row at the place that is found, and for the number of the last call in the session
pub record ChangesRowAt (found : Option ℕ) (old new : OrchestratorParts) : Type 0 where
  pub place : ℕ
  pub there : found ≡ Some place
  pub nodes : new.nodes ≡ old.nodes
  pub session : new.last.session ≡ old.last.session
  pub rows : AreChangedAt place old.rows new.rows

-- but for the row of this name
abbrev pub ChangesRowOf : List ℕ → OrchestratorParts → OrchestratorParts → Type 0
ChangesRowOf name old new = ChangesRowAt (place_by_name name new.rows) old new

-- what a frame with this number changes: nothing, if it is ignored, and else the row whose open call had the number
abbrev pub ChangesAsHeard : Number → Heard → OrchestratorParts → OrchestratorParts → Type 0
ChangesAsHeard number Ignored old new = new ≡ old
ChangesAsHeard number (Taken sent) old new = ChangesRowAt (place_by_call number old.rows) old new
