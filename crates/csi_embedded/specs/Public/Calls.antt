-- What an embedded plugin does with bytes: it answers the frame that they begin with, or says why not. This profile's own.
use Rattle.std.specs.Prelude.{◌≡◌, ◌≢◌, ◌⊎◌, ◌<◌, ℕ, Bool, true, List, [], map, length, take, slice_get, Option, Some, None}
use Rattle.std.specs.Global.{Vec}
use Rattle.csi_types.specs.Model.Frame.{Frame}
use Rattle.csi_frames.specs.declared.fault.FaultKind.{FaultKind}
use Rattle.csi_frames.specs.declared.fault.FaultKind.TheVariants as faults
use Rattle.csi_frames.specs.Public.Fault.{IsFaulty}
use Rattle.csi_frames.specs.Public.Spelling.{BeginsWith}
use Rattle.csi_stores.specs.declared.part.Part.{Part}
use Rattle.csi_stores.specs.Public.Part.{StoredChange, part_change}
use Rattle.csi_stores.specs.Public.Content.{all_changed}
use Rattle.csi_service.specs.Public.Answering.{AppendsReply}
use Rattle.csi_embedded.specs.declared.ending.CallEnding.{CallEnding}
use Rattle.csi_embedded.specs.declared.ending.CallEnding.TheVariants.{Done, NoMemory, Empty, Short, BadFrame, NoRoom, TakenOut, NoMore, OtherKind}
use Rattle.csi_embedded.specs.declared.embedded.Embedded.{Embedded}
use Rattle.csi_embedded.specs.Public.Plugins.{plugin_parts, plugin_changes, is_orchestrator, PluginAnswers, IsAsItWas, IsPluginRecord}
use Rattle.csi_embedded.specs.Public.Endings.{ending_number}

-- so many bytes as a frame may take: a length of four, and a body of at most 1280
abbrev pub frame_front : List ℕ → List ℕ
frame_front bytes = take 1284 bytes

-- ---- what the store has to be given

-- the changes, or those of these parts where there are some
abbrev pub told_or : List StoredChange → Option (Vec Part) → List StoredChange
told_or changes None = changes
told_or changes (Some parts) = map part_change parts.items

-- what was told once stays; else what the last call changed that was carried out
abbrev pub told_changes : Embedded → List StoredChange
told_changes embedded = told_or (plugin_changes embedded.plugin) embedded.changed

-- ---- a frame

-- Why none was answered: the bytes wait for more of a frame, or are faulty in another way; or memory ran out.
abbrev pub IsNoFrame : List ℕ → CallEnding → Type 0
IsNoFrame bytes NoMemory = Unit {0}
IsNoFrame bytes Short = IsFaulty bytes faults.Short (length bytes)
IsNoFrame bytes BadFrame = (kind : FaultKind) × (place : ℕ) × (kind ≢ faults.Short) × IsFaulty bytes kind place
IsNoFrame bytes _ = ⊥

-- the same of one that may be an orchestrator, which answers no frame
abbrev pub IsNoAnswer : Embedded → List ℕ → CallEnding → Type 0
IsNoAnswer embedded bytes ending = ((ending ≡ OtherKind) × (is_orchestrator embedded.plugin ≡ true)) ⊎ IsNoFrame bytes ending

-- The frame that the bytes begin with was answered and took so many of them. The reply's bytes are these, none where there is no reply. What the
-- store has to be given leads from the old record to the new one.
pub record AnswersFrame (old : Embedded) (bytes : List ℕ) (used : ℕ) (new : Embedded) (reply : List ℕ) : Type 0 where
  pub frame : Frame
  pub begins : BeginsWith (frame_front bytes) frame used
  pub replied : Bool
  pub answers : AppendsReply PluginAnswers old.plugin frame new.plugin [] reply replied
  pub changed : plugin_parts new.plugin ≡ all_changed (told_changes new) (plugin_parts old.plugin)

-- the plugin is as it was, and what the store has to be given
pub record Remains (old new : Embedded) : Type 0 where
  pub plugin : IsAsItWas old.plugin new.plugin
  pub told : told_changes new ≡ told_changes old

-- ---- the same of handles

-- so it is of a handle, whether it has a plugin or not
abbrev pub HasRemained : Option Embedded → Option Embedded → Type 0
HasRemained (Some old) (Some new) = Remains old new
HasRemained None None = Unit {0}
HasRemained (Some old) None = ⊥
HasRemained None (Some new) = ⊥

-- a handle's plugin answered so
abbrev pub HandleAnswers : Option Embedded → List ℕ → ℕ → Option Embedded → List ℕ → Type 0
HandleAnswers (Some old) bytes used (Some new) reply = AnswersFrame old bytes used new reply
HandleAnswers (Some old) bytes used None reply = ⊥
HandleAnswers None bytes used new reply = ⊥

-- why none was answered: the handle is empty, or there is no room for any reply, or it has an orchestrator, or there is no frame
abbrev pub IsUnanswered : Option Embedded → List ℕ → ℕ → CallEnding → Type 0
IsUnanswered None bytes room ending = ending ≡ Empty
IsUnanswered (Some old) bytes room ending = ((ending ≡ NoRoom) × (room < 544)) ⊎ IsNoAnswer old (frame_front bytes) ending

-- all is as it was, and the number is that of why
pub record HasFailed (old : Option Embedded) (bytes : List ℕ) (room : ℕ) (new : Option Embedded) (number : ℕ) : Type 0 where
  pub ending : CallEnding
  pub is : number ≡ ending_number ending
  pub why : IsUnanswered old bytes room ending
  pub remains : HasRemained old new

-- ---- the changes, one by one

-- this change: its key, and its value where that is put in; where the value doesn't fit, the count of its bytes
abbrev pub TellsChange : StoredChange → ℕ → ℕ → ℕ → List ℕ → CallEnding → Type 0
TellsChange change key room count bytes Done = (change ≡ record { key = key; value = Some bytes }) × (count ≡ length bytes)
TellsChange change key room count bytes TakenOut = change ≡ record { key = key; value = None }
TellsChange change key room count bytes NoRoom = (value : List ℕ) × (change ≡ record { key = key; value = Some value }) × (count ≡ length value) × (room < count)
TellsChange change key room count bytes _ = ⊥

-- the change at the place, or that there are not so many
abbrev pub TellsOne : Option StoredChange → ℕ → ℕ → ℕ → List ℕ → CallEnding → Type 0
TellsOne None key room count bytes ending = ending ≡ NoMore
TellsOne (Some change) key room count bytes ending = TellsChange change key room count bytes ending

-- what a handle tells of it: nothing where it is empty, and memory may be wanted
abbrev pub TellsAt : Option Embedded → ℕ → ℕ → ℕ → ℕ → List ℕ → CallEnding → Type 0
TellsAt None place key room count bytes ending = ending ≡ Empty
TellsAt (Some embedded) place key room count bytes ending = (ending ≡ NoMemory) ⊎ TellsOne (slice_get (told_changes embedded) place) key room count bytes ending

-- what was answered of the change at a place
pub record HasTold (old : Option Embedded) (place key room count : ℕ) (bytes : List ℕ) (number : ℕ) : Type 0 where
  pub ending : CallEnding
  pub is : number ≡ ending_number ending
  pub tells : TellsAt old place key room count bytes ending

-- ---- the record

-- the record in these bytes, the room that it needs, or that there is none
abbrev pub TellsRecord : Option Embedded → ℕ → ℕ → List ℕ → CallEnding → Type 0
TellsRecord (Some embedded) room count bytes Done = IsPluginRecord embedded.plugin bytes × (count ≡ length bytes)
TellsRecord (Some embedded) room count bytes NoRoom = (whole : List ℕ) × IsPluginRecord embedded.plugin whole × (count ≡ length whole) × (room < count)
TellsRecord (Some embedded) room count bytes NoMemory = Unit {0}
TellsRecord (Some embedded) room count bytes _ = ⊥
TellsRecord None room count bytes ending = ending ≡ Empty

-- what was answered of the record
pub record AnswersRecord (old : Option Embedded) (room count : ℕ) (bytes : List ℕ) (number : ℕ) : Type 0 where
  pub ending : CallEnding
  pub is : number ≡ ending_number ending
  pub tells : TellsRecord old room count bytes ending
