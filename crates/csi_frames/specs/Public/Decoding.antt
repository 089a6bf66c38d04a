-- What a decoder may answer.
use Rattle.std.specs.Prelude.{◌≡◌, ℕ, ◌⊎◌, List, Result, Ok, Err}
use Rattle.csi_types.specs.Model.Frame.{Frame}
use Rattle.csi_frames.specs.declared.fault.FaultKind.TheVariants.{NoMemory}
use Rattle.csi_frames.specs.declared.fault.FrameFault.{FrameFault}
use Rattle.csi_frames.specs.Public.Spelling.{BeginsWith}
use Rattle.csi_frames.specs.Public.Fault.{IsFaulty}
use Rattle.csi_frames.specs.declared.fault.FaultKind.{FaultKind}

-- out of memory, told as a fault at the front
abbrev pub no_memory : FrameFault
no_memory = record { kind = NoMemory; place = 0 }

-- this value, unless memory was refused
abbrev pub GivesUnlessMemory : {X : Type 0} → Result X FrameFault → X → Type 0
GivesUnlessMemory result value = (result ≡ Ok value) ⊎ (result ≡ Err no_memory)

-- ---- what bytes may be

-- a frame begins the bytes
abbrev pub BeginsWithFrame : List ℕ → Type 0
BeginsWithFrame bytes = (frame : Frame) × (n : ℕ) × BeginsWith bytes frame n

-- one frame begins the bytes, no other does, and they have no fault
pub record HasOneFrame (bytes : List ℕ) : Type 0 where
  pub frame : Frame
  pub size : ℕ
  pub begins : BeginsWith bytes frame size
  pub no_other : (other : Frame) (n : ℕ) → BeginsWith bytes other n → (other ≡ frame) × (n ≡ size)
  pub no_fault : (kind : FaultKind) (place : ℕ) → IsFaulty bytes kind place → ⊥

-- the bytes have one first fault, no other, and no frame begins them
pub record HasOneFault (bytes : List ℕ) : Type 0 where
  pub kind : FaultKind
  pub place : ℕ
  pub faulty : IsFaulty bytes kind place
  pub no_other : (k : FaultKind) (p : ℕ) → IsFaulty bytes k p → (k ≡ kind) × (p ≡ place)
  pub no_frame : (frame : Frame) (n : ℕ) → BeginsWith bytes frame n → ⊥
