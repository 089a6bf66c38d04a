-- What a controller has answered.
use Rattle.std.specs.Prelude.{◌≡◌, List}
use Rattle.csi_types.specs.Model.Frame.{Frame}
use Rattle.csi_controller.specs.Model.State.{empty_controller}
use Rattle.csi_controller.specs.Public.Fenced.{after_frames}
use Rattle.csi_controller.specs.Model.Core.{ControllerParts, Shows}
use Rattle.csi_streams.specs.Public.Replay.{replay_config}

-- the controller was new, and had the configuration of a replay, and answered these frames
pub record HasAnswered (controller : ControllerParts) (frames : List Frame) : Type 0 where
  pub shown : Shows controller (after_frames replay_config empty_controller frames)
  pub config : controller.config ≡ replay_config
