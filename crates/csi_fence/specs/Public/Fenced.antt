-- What a plugin does with a frame: the fence stands before its table. Both plugins have this fence, each with states and a
-- table of its own. This profile's own: CSI's spec.md, "Concurrency", asks that a plugin bear calls that come twice, late
-- or at once.
use Rattle.std.specs.Prelude.{List, [], ◌∷◌}
use Rattle.csi_types.specs.Model.Frame.{Frame}
use Rattle.csi_fence.specs.Model.Fenced.{Machine, fenced}

-- the state after these frames
abbrev pub after_frames : {State : Type 0} → Machine State → State → List Frame → State
after_frames machine state [] = state
after_frames machine state (frame ∷ frames) = after_frames machine (fenced machine state frame).state frames
