-- Bytes that spell a frame are read as this frame, unless memory is refused.
use Rattle.csi_world.proofs.Words.{◌≡◌, ℕ, List, length, Result, Ok, Err, sym, subst, inl, inr, arith, Frame}
use Rattle.std.proofs.Math.Seq.{take-length}
use Rattle.csi_frames.specs.declared.fault.FrameFault.{FrameFault}
use Rattle.csi_frames.specs.Public.Decoding.{no_memory, GivesUnlessMemory}
use Rattle.csi_frames.specs.Public.Spelling.{Spells, BeginsWith}

-- bytes that spell a frame begin with it, and it takes them all
pub begins-whole : (frame : Frame) (bytes : List ℕ) → Spells frame bytes → BeginsWith bytes frame (length bytes)
begins-whole frame bytes spells = record { within = omega arith; spelled = subst (Spells frame) (sym (take-length bytes)) spells }

-- a result that is a success isn't an error
ok_isnt_err : {X Y : Type 0} (x : X) (y : Y) (result : Result X Y) → result ≡ Ok x → result ≡ Err y → ⊥
ok_isnt_err x y result f g = cc

-- and what is answered is the value
pub only-value : {X : Type 0} (result : Result X FrameFault) (value read : X) → GivesUnlessMemory result value → result ≡ Ok read → read ≡ value
only-value result value read (inl e) is = cc
only-value result value read (inr e) is = absurd (ok_isnt_err read no_memory result is e)
