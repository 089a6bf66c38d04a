-- How a line of the stream is handled, and why serving stops.
use Rattle.std.specs.Prelude.{◌≡◌, ℕ, List, Bool, true, Option, Some, if◌then◌else◌}
use Rattle.csi_stores.specs.declared.counted.Counted.{Counted}
use Rattle.csi_stores.specs.Public.Part.{StoredPart}
use Rattle.csi_stores.specs.Public.Stores.{Store}
use Rattle.csi_streams.specs.declared.driver.DriveStop.{DriveStop}
use Rattle.csi_streams.specs.declared.driver.DriveStop.TheVariants as stop
use Rattle.csi_streams.specs.declared.lines.LinesFault.{LinesFault}
use Rattle.csi_streams.specs.declared.lines.LinesFault.TheVariants as lines_faults
use Rattle.csi_streams.specs.declared.waiting.AnswerFault.{AnswerFault}
use Rattle.csi_streams.specs.declared.waiting.AnswerFault.TheVariants as why
use Rattle.csi_streams.specs.Public.LinesOf.{with_newline}
use Rattle.csi_streams.specs.Public.State.{State}
use Rattle.csi_streams.specs.Public.Waiting.{Settling, Settles, StopsAt}
use Rattle.csi_streams.specs.Public.Answering.{IsAnswered}
use Rattle.csi_orchestration.specs.declared.lines_serving.fault.LinesServeFaultKind.{LinesServeFaultKind}
use Rattle.csi_orchestration.specs.declared.lines_serving.fault.LinesServeFaultKind.TheVariants as kinds
use Rattle.csi_orchestration.specs.declared.lines_serving.handling.ResponderHandler.{ResponderHandler}

-- a responder, the store under it, and its writer
abbrev pub Serving : Type 0 → Type 0 → Type 0 → Type 0
Serving C K W = State (ResponderHandler C) K (Counted W)

-- what waits of it
abbrev pub waiting_of : {C K W : Type 0} → Serving C K W → Settling K W
waiting_of state = record { own = state.own.waiting; store = state.store; out = state.out }

-- each line has an answer
abbrev pub always : List ℕ → Bool
always answer = true

-- the line was answered; before that what waited may have been committed and written
abbrev pub IsHandled : {C K W : Type 0} → (C → List ℕ → List ℕ → C → Type 0) → (C → List StoredPart) → (K → Store) → (W → Option (List ℕ)) → Serving C K W → List ℕ → Serving C K W → Type 0
IsHandled answers parts_of store contents old line new = IsAnswered answers parts_of with_newline always store contents old.own.responder (waiting_of old) line new.own.responder (waiting_of new)

-- what waited was committed and written
abbrev pub Flushes : {C K W : Type 0} → (K → Store) → (W → Option (List ℕ)) → Serving C K W → Serving C K W → Type 0
Flushes store contents old new = Settles store contents (waiting_of old) (waiting_of new) × (new.own.responder ≡ old.own.responder)

-- it stops so; where that is by a line that told that the store is an older one, this is the line
abbrev pub StopsLine : {C K W : Type 0} → (C → List ℕ → Type 0) → (K → Store) → (W → Option (List ℕ)) → Serving C K W → Option (List ℕ) → Serving C K W → AnswerFault → Type 0
StopsLine is_older store contents old line new fault =
    StopsAt store contents (waiting_of old) (waiting_of new) fault
    × (new.own.is_older ≡ true → (told : List ℕ) × (line ≡ Some told) × is_older old.own.responder told)

-- why a handler stops
abbrev pub handler_stopped_by : Bool → AnswerFault → LinesServeFaultKind
handler_stopped_by is_older why.NoMemory = if is_older then kinds.OlderStore else kinds.NoMemory
handler_stopped_by is_older (why.Keep fault) = kinds.Keep fault
handler_stopped_by is_older why.Output = kinds.Output

-- why serving stops
abbrev pub stopped_by : Bool → DriveStop (LinesFault AnswerFault) → LinesServeFaultKind
stopped_by is_older stop.Input = kinds.Input
stopped_by is_older stop.Endless = kinds.Endless
stopped_by is_older (stop.Consumer (lines_faults.Long number)) = kinds.Long number
stopped_by is_older (stop.Consumer lines_faults.NoMemory) = kinds.NoMemory
stopped_by is_older (stop.Consumer (lines_faults.Handler fault)) = handler_stopped_by is_older fault
