-- How a frame of the stream is handled, and why serving stops.
use Rattle.std.specs.Prelude.{◌≡◌, ℕ, List, Option, is_some}
use Rattle.csi_types.specs.Model.Frame.{Frame}
use Rattle.csi_stores.specs.declared.counted.Counted.{Counted}
use Rattle.csi_stores.specs.Public.Part.{StoredPart}
use Rattle.csi_stores.specs.Public.Stores.{Store}
use Rattle.csi_streams.specs.declared.driver.DriveStop.{DriveStop}
use Rattle.csi_streams.specs.declared.driver.DriveStop.TheVariants as stop
use Rattle.csi_streams.specs.declared.frames.FramesFault.{FramesFault}
use Rattle.csi_streams.specs.declared.frames.FramesFault.TheVariants as frames_faults
use Rattle.csi_streams.specs.declared.waiting.AnswerFault.{AnswerFault}
use Rattle.csi_streams.specs.declared.waiting.AnswerFault.TheVariants as why
use Rattle.csi_streams.specs.Public.State.{State}
use Rattle.csi_streams.specs.Public.Waiting.{Settling, Settles}
use Rattle.csi_streams.specs.Public.Answering.{IsAnswered}
use Rattle.csi_service.specs.declared.serving.fault.ServeFaultKind.{ServeFaultKind}
use Rattle.csi_service.specs.declared.serving.fault.ServeFaultKind.TheVariants as kinds
use Rattle.csi_service.specs.declared.serving.handling.CoreHandler.{CoreHandler}
use Rattle.csi_service.specs.Public.Serving.{reply_bytes}

-- a core, the store under it, and its writer
abbrev pub Serving : Type 0 → Type 0 → Type 0 → Type 0
Serving C K W = State (CoreHandler C) K (Counted W)

-- what waits of it
abbrev pub waiting_of : {C K W : Type 0} → Serving C K W → Settling K W
waiting_of state = record { own = state.own.waiting; store = state.store; out = state.out }

-- the frame was answered; before that what waited may have been committed and written
abbrev pub IsHandled : {C K W : Type 0} → (C → Frame → Option Frame → C → Type 0) → (C → List StoredPart) → (K → Store) → (W → Option (List ℕ)) → Serving C K W → Frame → Serving C K W → Type 0
IsHandled answers parts_of store contents old frame new = IsAnswered answers parts_of reply_bytes is_some store contents old.own.core (waiting_of old) frame new.own.core (waiting_of new)

-- what waited was committed and written
abbrev pub Flushes : {C K W : Type 0} → (K → Store) → (W → Option (List ℕ)) → Serving C K W → Serving C K W → Type 0
Flushes store contents old new = Settles store contents (waiting_of old) (waiting_of new) × (new.own.core ≡ old.own.core)

-- why serving stops
abbrev pub stopped_by : DriveStop (FramesFault AnswerFault) → ServeFaultKind
stopped_by stop.Input = kinds.Input
stopped_by stop.Endless = kinds.Endless
stopped_by (stop.Consumer (frames_faults.Frame kind place)) = kinds.Frame kind place
stopped_by (stop.Consumer frames_faults.NoMemory) = kinds.NoMemory
stopped_by (stop.Consumer (frames_faults.Handler why.NoMemory)) = kinds.NoMemory
stopped_by (stop.Consumer (frames_faults.Handler (why.Keep fault))) = kinds.Keep fault
stopped_by (stop.Consumer (frames_faults.Handler why.Output)) = kinds.Output
