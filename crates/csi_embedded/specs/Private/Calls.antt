-- What an embedded plugin does with bytes: it answers the frame that they begin with, or says why not. This profile's own.
use Rattle.std.specs.Prelude.{◌≡◌, ℕ, Bool, List, [], length, drop, Option, Some, None, Result, Ok, Err}
use Rattle.std.specs.Global.{Vec}
use Rattle.csi_types.specs.Model.Frame.{Frame}
use Rattle.csi_frames.specs.Public.Spelling.{spelling, BeginsWith}
use Rattle.csi_stores.specs.declared.part.Part.{Part}
use Rattle.csi_service.specs.Public.Answering.{AppendsReply}
use Rattle.csi_embedded.specs.declared.ending.CallEnding.{CallEnding}
use Rattle.csi_embedded.specs.declared.plugin.HeldPlugin.{HeldPlugin}
use Rattle.csi_embedded.specs.Public.Plugins.{PluginAnswers}
use Rattle.csi_embedded.specs.Public.Calls.{IsNoFrame}

-- ---- what the store has to be given

-- the changes that were told last
abbrev pub changes_in : Option (Vec Part) → List Part
changes_in None = []
changes_in (Some parts) = parts.items

-- ---- a frame

-- the frame that the bytes begin with was answered, with a reply of these bytes
pub record AnswersFront (old : HeldPlugin) (bytes : List ℕ) (new : HeldPlugin) (rest : List ℕ) (before after : List ℕ) : Type 0 where
  pub frame : Frame
  pub begins : BeginsWith bytes frame (length (spelling frame))
  pub left : rest ≡ drop (length (spelling frame)) bytes
  pub replied : Bool
  pub answers : AppendsReply PluginAnswers old frame new before after replied

-- the bytes begin with a frame that was answered, or they don't
abbrev pub AnswersFirst : HeldPlugin → List ℕ → HeldPlugin → List ℕ → List ℕ → List ℕ → Result (Unit {0}) CallEnding → Type 0
AnswersFirst old bytes new rest before after (Ok done) = AnswersFront old bytes new rest before after
AnswersFirst old bytes new rest before after (Err ending) = IsNoFrame bytes ending
