-- The capabilities before this one are written.
use Rattle.std.proofs.Common.{◌∷◌, take}
use Rattle.std.specs.List.{flat_map}
use Rattle.std.specs.Fmt.{HasWritten, IsPlainFormatter}
use Rattle.csi_types.specs.declared.capability.Capability.{Capability}
use Rattle.csi_streams.specs.Public.Shown.{capability_word}
use Rattle.csi_streams.proofs.shown.write_list.Given as goal

abbrev pub invariant-loop-capability : goal.invariant-loop-capability
invariant-loop-capability g l = IsPlainFormatter l.initial.f
    → HasWritten g.W.Write.write_str_gives l.initial.f (flat_map (λ (capability : Capability). 32 ∷ capability_word capability) (take l.capability-index l.capability-items)) l.f
