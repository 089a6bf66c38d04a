-- A reply by which an open call is stale, as the rows tell it. This profile's own.
use Rattle.std.specs.Prelude.{Bool, false, ◌&&◌, is_some}
use Rattle.csi_types.specs.declared.number.Number.{Number}
use Rattle.csi_types.specs.declared.call.Party.{Party}
use Rattle.csi_types.specs.declared.frame.Body.{Body}
use Rattle.csi_types.specs.declared.frame.Body.TheVariants as bodies
use Rattle.csi_orchestrator.specs.Model.Shown.{OrchestratorParts}
use Rattle.csi_orchestrator.specs.Private.RowMoves.{row_replied}
use Rattle.csi_orchestrator.specs.Public.Stale.{is_stale_reply}

-- some row's open call gets a reply that says so
abbrev pub tells_stale : OrchestratorParts → Number → Party → Body → Bool
tells_stale parts number party (bodies.Call call) = false
tells_stale parts number party (bodies.Reply kind reply) = is_stale_reply reply && is_some (row_replied parts.rows number party kind)
