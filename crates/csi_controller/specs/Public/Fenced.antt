-- What a controller does with a frame: the fence, then the table. This profile's own.
use Rattle.std.specs.Prelude.{List, [], ◌∷◌}
use Rattle.csi_types.specs.declared.number.Number.{Number}
use Rattle.csi_types.specs.Model.Config.{Config}
use Rattle.csi_types.specs.Model.Frame.{Frame}
use Rattle.csi_fence.specs.Model.Fenced as fence
use Rattle.csi_fence.specs.Public.Fenced as public_fence
use Rattle.csi_controller.specs.Model.State.{ControllerState}
use Rattle.csi_controller.specs.Model.Fenced.{controller_with, fenced}

-- the state in which a call of this number is judged
abbrev pub in_session : Config → Number → ControllerState → ControllerState
in_session config number state = fence.in_session (controller_with config) number state

-- the state after these frames
abbrev pub after_frames : Config → ControllerState → List Frame → ControllerState
after_frames config state frames = public_fence.after_frames (controller_with config) state frames

-- a frame, and the configuration that the controller has when it comes
pub record ConfiguredFrame : Type 0 where
  pub config : Config
  pub frame : Frame

-- the state after these frames, each under the configuration of its time
abbrev pub after_configured : ControllerState → List ConfiguredFrame → ControllerState
after_configured state [] = state
after_configured state (one ∷ others) = after_configured (fenced one.config state one.frame).state others
