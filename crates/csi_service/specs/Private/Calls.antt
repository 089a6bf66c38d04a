-- Which frames are calls for a plugin. This profile's own.
use Rattle.std.specs.Prelude.{◌≡◌, ◌⊎◌, None}
use Rattle.csi_types.specs.declared.call.Party.{Party}
use Rattle.csi_types.specs.Model.Frame.{Frame}
use Rattle.csi_frames.specs.Public.Lent.{call_of}

-- the frame is for another plugin, or a reply
abbrev pub IsNoCallFor : Party → Frame → Type 0
IsNoCallFor party frame = (frame.party ≡ party → ⊥) ⊎ (call_of frame ≡ None)
