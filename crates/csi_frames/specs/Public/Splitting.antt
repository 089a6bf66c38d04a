-- A splitter, by what it shows: what its calls answer, and what they make of it. This profile's own.
use Rattle.std.specs.Prelude.{◌≡◌, ◌≢◌, ℕ, ◌+◌, ◌-◌, ◌*◌, ◌^◌, ◌≤◌, min, List, [], ◌∷◌, ◌++◌, length, drop, Option, Some, None, Result, Ok, Err}
use Rattle.csi_types.specs.Model.Frame.{Frame}
use Rattle.csi_frames.specs.declared.fault.FaultKind.TheVariants.{Short}
use Rattle.csi_frames.specs.declared.fault.FrameFault.{FrameFault}
use Rattle.csi_frames.specs.Public.Spelling.{spelling, BeginsWith}
use Rattle.csi_frames.specs.Public.Fault.{IsFaulty}

-- The bytes that no frame took, without those that were fed after a fault; the count of the bytes that frames
-- took, up to 2^64 - 1; and the fault that was answered.
pub record Splitting : Type 0 where
  pub kept : List ℕ
  pub taken : ℕ
  pub fault : Option FrameFault

-- a splitter that was given nothing
abbrev pub new_splitting : Splitting
new_splitting = record { kept = []; taken = 0; fault = None }

-- ---- its buffer

-- the most bytes that the buffer holds where so many are kept: twice as many, and those of two frames, none of which has more
-- than a length of four bytes and a body of 1280
abbrev pub most_held : ℕ → ℕ
most_held kept = 2 * kept + 2568

-- The buffer holds so many bytes, of which those from the start on are kept: the start lies in it, and what it holds is few.
pub record IsHeldInFew (start held : ℕ) : Type 0 where
  pub within : start ≤ held
  pub few : held ≤ most_held (held - start)

-- ---- a piece is fed

-- it stands behind what was kept; after a fault none of it is kept
abbrev pub kept_after : Option FrameFault → List ℕ → List ℕ → List ℕ
kept_after None kept piece = kept ++ piece
kept_after (Some fault) kept piece = kept

-- a piece of the stream is given
abbrev pub after_feed : Splitting → List ℕ → Splitting
after_feed s piece = record { kept = kept_after s.fault s.kept piece; taken = s.taken; fault = s.fault }

-- ---- the next frame

-- What these bytes are answered: the frame whose spelling they begin with, none where they wait for more, since the
-- length or the body isn't there, or else their first fault.
abbrev pub IsFound : List ℕ → Result (Option Frame) FrameFault → Type 0
IsFound kept (Ok (Some frame)) = BeginsWith kept frame (length (spelling frame))
IsFound kept (Ok None) = IsFaulty kept Short (length kept)
IsFound kept (Err fault) = (fault.kind ≢ Short) × IsFaulty kept fault.kind fault.place

-- the same, and a fault that was answered from then on
abbrev pub IsNextFrame : Option FrameFault → List ℕ → Result (Option Frame) FrameFault → Type 0
IsNextFrame None kept answer = IsFound kept answer
IsNextFrame (Some fault) kept answer = answer ≡ Err fault

-- a frame that is given is taken off the front, and a fault stays
abbrev pub after_next : Splitting → Result (Option Frame) FrameFault → Splitting
after_next s (Ok (Some frame)) = record { kept = drop (length (spelling frame)) s.kept; taken = min (s.taken + length (spelling frame)) (2 ^ 64 - 1); fault = s.fault }
after_next s (Ok None) = s
after_next s (Err fault) = record { kept = s.kept; taken = s.taken; fault = Some fault }

-- ---- the end of the stream

-- no byte may be left
abbrev pub end_of : List ℕ → Result (Unit {0}) FrameFault
end_of [] = Ok tt
end_of (b ∷ bytes) = Err (record { kind = Short; place = length (b ∷ bytes) })
