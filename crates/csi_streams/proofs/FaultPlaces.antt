-- The place of a fault is inside the bytes, or at their end.
use Rattle.std.proofs.Common.{ℕ, ◌≤◌, List, length, ap, arith, length-append, length-drop}
use Rattle.std.proofs.lemmas.List.{length-take}
use Rattle.csi_frames.specs.declared.fault.FaultKind.{FaultKind}
use Rattle.csi_frames.specs.Public.Grammar.{Grammar}
use Rattle.csi_frames.specs.Public.Fault.{IsStuck, IsFaulty, no_length, too_long, short, in_body}

-- the place at which a grammar is stuck is within the bytes, or at their end
stuck_within : (grammar : Grammar) (bytes : List ℕ) (kind : FaultKind) (place : ℕ) → IsStuck grammar bytes kind place → place ≤ length bytes
stuck_within grammar bytes kind place stuck =
    omega (arith, stuck.here, ap length stuck.parts, length-append stuck.front stuck.back)

-- the place of a fault is within the bytes, or at their end
pub place_within : (bytes : List ℕ) (kind : FaultKind) (place : ℕ) → IsFaulty bytes kind place → place ≤ length bytes
place_within bytes kind place (no_length few) = omega arith
place_within bytes kind place (too_long there above) = omega arith
place_within bytes kind place (short there fits few) = omega arith
place_within bytes kind place (in_body kind' place' whole fits stuck) = omega (arith, stuck_within _ _ kind' place' stuck, length-take {A = ℕ}, length-drop {A = ℕ})
