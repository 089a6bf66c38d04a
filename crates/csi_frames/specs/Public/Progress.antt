-- What a splitter shows of its buffer and of how far it has come there.
use Rattle.std.specs.Prelude.{ℕ, List, drop}
use Rattle.csi_frames.specs.declared.progress.Progress.{Progress}
use Rattle.csi_frames.specs.Public.Splitting.{Splitting}

-- what a splitter shows: the bytes that it hasn't taken yet, how many it took, and its fault
abbrev pub progress_shown : Progress → List ℕ → Splitting
progress_shown progress buffer = record { kept = drop progress.start buffer; taken = progress.taken; fault = progress.fault }
