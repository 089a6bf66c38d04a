-- How far the frames of a stream were handled. This profile's own.
use Rattle.std.specs.Prelude.{◌≡◌, ◌≢◌, ◌+◌, ◌-◌, ◌^◌, min, ℕ, Bool, true, false, [], length, Option, Some, Result, Ok, Err}
use Rattle.csi_types.specs.Model.Frame.{Frame}
use Rattle.csi_frames.specs.declared.fault.FaultKind.TheVariants.{Short}
use Rattle.csi_frames.specs.Public.Splitting.{Splitting, IsNextFrame, after_next}
use Rattle.csi_streams.specs.declared.frames.FramesFault.{FramesFault}
use Rattle.csi_streams.specs.declared.frames.FramesFault.TheVariants as faults
use Rattle.csi_streams.specs.Public.State.{State}
use Rattle.csi_streams.specs.Public.Framing.{WaitsForMore, IsThere}

-- The next frame was handled; or none is there, or the bytes that are kept are at fault, and what waited was written; or it stopped.
abbrev pub HandlesNext : {H S O F : Type 0} → (State H S O → ℕ → Frame → State H S O → Type 0) → (State H S O → State H S O → Type 0) → (H → Type 0) → (State H S O → Option Frame → State H S O → F → Type 0) → Splitting → Splitting → State H S O → State H S O → Result Bool (FramesFault F) → Type 0
HandlesNext handles flushes is_flushed stops old new before now (Ok true) = (frame : Frame) × IsNextFrame old.fault old.kept (Ok (Some frame)) × (new ≡ after_next old (Ok (Some frame))) × handles before old.taken frame now
HandlesNext handles flushes is_flushed stops old new before now (Ok false) = WaitsForMore old × (new ≡ old) × flushes before now × is_flushed now.own
HandlesNext handles flushes is_flushed stops old new before now (Err (faults.Frame kind place)) =
    (at : ℕ) × IsNextFrame old.fault old.kept (Err (record { kind = kind; place = at })) × (place ≡ min (old.taken + at) (2 ^ 64 - 1)) × flushes before now × is_flushed now.own
HandlesNext handles flushes is_flushed stops old new before now (Err faults.NoMemory) = ⊥
HandlesNext handles flushes is_flushed stops old new before now (Err (faults.Handler fault)) = (frame : Option Frame) × IsThere old frame × stops before frame now fault

-- nothing is kept; or what is kept ends too early
abbrev pub EndsIn : {F : Type 0} → Splitting → Result (Unit {0}) (FramesFault F) → Type 0
EndsIn splitter (Ok done) = splitter.kept ≡ []
EndsIn splitter (Err (faults.Frame kind place)) = (splitter.kept ≢ []) × (kind ≡ Short) × (place ≡ min (splitter.taken + length splitter.kept) (2 ^ 64 - 1))
EndsIn splitter (Err faults.NoMemory) = ⊥
EndsIn splitter (Err (faults.Handler fault)) = ⊥
