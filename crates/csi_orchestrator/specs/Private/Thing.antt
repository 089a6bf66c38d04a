-- Which call does or undoes which thing: CSI's spec.md, "Volume Lifecycle".
use Rattle.std.specs.Prelude.{Bool, not, ◌&&◌}
use Rattle.csi_orchestrator.specs.declared.thing.Thing.{Thing}
use Rattle.csi_orchestrator.specs.Model.Thing.{Issued, is_doing, touches}

-- the call undoes the thing
abbrev pub undoes : Thing → Issued → Bool
undoes thing issued = touches thing issued && not (is_doing issued.call)
