use Rattle.std.proofs.Common.{◌≡◌, ◌*◌, ◌≤◌, length, take}
use Rattle.std.specs.List.{flat_map}
use Rattle.csi_frames.specs.Public.Spelling.{capability}
use Rattle.csi_frames.proofs.writing.capabilities_len.Given as goal

abbrev pub invariant-loop-one : goal.invariant-loop-one
invariant-loop-one l =
    record {
      so_far : l.total ≡ length (flat_map capability (take l.one-index l.from));
      small : l.total ≤ 131 * l.one-index;
    }
