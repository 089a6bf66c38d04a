-- What a controller does with a frame: the fence, then the table. This profile's own.
use Rattle.std.specs.Prelude.{ℕ, map, filter, Option, Some, option_map, if◌then◌else◌}
use Rattle.csi_types.specs.declared.number.Number.{Number}
use Rattle.csi_types.specs.declared.call.Call.{Call}
use Rattle.csi_types.specs.declared.call.Party.TheVariants.{Controller}
use Rattle.csi_types.specs.Model.Call.{kind_of}
use Rattle.csi_types.specs.Model.Config.{Config}
use Rattle.csi_types.specs.Model.Frame.{Frame}
use Rattle.csi_types.specs.Model.Replies.{reply_frame}
use Rattle.csi_fence.specs.Model.Fence.{Kept}
use Rattle.csi_fence.specs.Model.Fenced as fence
use Rattle.csi_fence.specs.Model.Fenced.{Fenced, Machine}
use Rattle.csi_controller.specs.Model.State.{Volume, ControllerState, is_row_for, row_for}
use Rattle.csi_controller.specs.Model.Table.{Outcome, controller_row, changed}

-- the volume, with this kept if it is the call's row
abbrev pub kept_in : Call → Kept → Volume → Volume
kept_in call kept volume = if is_row_for call volume then record volume { kept = kept } else volume

-- number and reply are kept in the call's row, where there is one
abbrev pub keep : Call → Kept → ControllerState → ControllerState
keep call kept state = record state { volumes = map (kept_in call kept) state.volumes }

-- the table's answer, and the state with its change and what is kept
abbrev pub carried_out : ControllerState → Number → Call → Outcome → Fenced ControllerState
carried_out state number call outcome =
    let kept : Kept = record { number = number; kind = kind_of call; reply = outcome.reply } in
    record { reply = Some (reply_frame number Controller (kind_of call) outcome.reply); state = keep call kept (changed state kept outcome.change) }

-- what is kept in the row of a call
abbrev pub kept_for : Call → ControllerState → Option Kept
kept_for call state = option_map (λ volume. volume.kept) (row_for call state)

-- a later session begins: the volumes that were deleted are forgotten
abbrev pub begun : ℕ → ControllerState → ControllerState
begun session state = record state { session = session; volumes = filter (λ volume. volume.is_live) state.volumes }

-- the controller of this configuration, behind the fence
abbrev pub controller_with : Config → Machine ControllerState
controller_with config =
    record {
      party = Controller;
      session = λ state. state.session;
      begun = begun;
      kept_for = kept_for;
      carried_out = λ state number call. carried_out state number call (controller_row config state call);
    }

-- what a frame gets, and the state after it
abbrev pub fenced : Config → ControllerState → Frame → Fenced ControllerState
fenced config state frame = fence.fenced (controller_with config) state frame
