use Rattle.std.proofs.Common.{◌≡◌, List}
use Rattle.csi_types.specs.declared.capability.Capability.{Capability}
use Rattle.csi_frames.specs.Public.Reading.{capabilities_at}
use Rattle.csi_frames.specs.Public.Version.{owes_new_mode}
use Rattle.csi_frames.proofs.Loop.{with_front}
use Rattle.csi_frames.proofs.calls.capabilities_at.Given as goal

abbrev pub decreases-loop-left : goal.decreases-loop-left
decreases-loop-left l = l.left

-- those that were read, and with those still to be read they are what reading gives
abbrev pub invariant-loop-left : goal.invariant-loop-left
invariant-loop-left l =
    (front : List Capability) × (with_front front (capabilities_at l.version l.owed l.left l.fields.bytes.now) ≡ capabilities_at l.version (owes_new_mode l.version) l.count l.initial.fields.bytes.now)
