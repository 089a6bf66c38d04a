-- What a plugin that is served tells as changed once it was given a frame. This profile's own.
use Rattle.std.specs.Prelude.{◌≡◌, [], Result, OnOk, OnErr}
use Rattle.csi_types.specs.declared.memory.NoMemory.{NoMemory}
use Rattle.csi_types.specs.Model.Frame.{Frame}
use Rattle.csi_fence.specs.Model.Fenced.{fenced}
use Rattle.csi_stores.specs.Public.Content.{all_changed}
use Rattle.csi_service.specs.Public.Answering.{AnswersAsBefore}
use Rattle.csi_service.specs.Public.Plugins.{ServedPlugin, View, Differs, StaysFit, service_parts, service_changes, ServiceAnswers}

-- what it tells leads from the parts of its record to the new ones, is nothing where the plugin's state stays, and is told only where what it
-- says is other than it was; and a refusal leaves what the record says and what the plugin shows
pub record TellsFrame {P Own R State T : Type 0} (view : View P Own R State) (old new : ServedPlugin P) (frame : Frame) (result : Result T NoMemory) : Type 0 where
  pub parts : OnOk result (service_parts view new ≡ all_changed (service_changes view new) (service_parts view old))
  pub nothing : (state : State) → view.Shows old.plugin state → (fenced (view.machine (view.own old.plugin)) state frame).state ≡ state → OnOk result (service_changes view new ≡ [])
  pub own : view.own new.plugin ≡ view.own old.plugin
  pub differs : OnOk result (Differs view new.changed old.plugin new.plugin)
  pub fit : OnOk result (StaysFit view new.changed old.plugin new.plugin)
  pub err_answers : OnErr result (AnswersAsBefore (ServiceAnswers view) old new)
  pub err_shows : (state : State) → view.Shows old.plugin state → OnErr result (view.Shows new.plugin state)
  pub err : OnErr result (service_parts view new ≡ service_parts view old)
  pub err_changes : OnErr result (service_changes view new ≡ service_changes view old)
