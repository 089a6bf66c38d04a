-- Where a count of failures stays: the reader's at each end of serving but Input, the writer's at each but Output. This profile's own.
use Rattle.std.specs.Prelude.{◌≡◌, ℕ, Result, Ok, Err}
use Rattle.csi_service.specs.declared.serving.fault.ServeFault.{ServeFault}
use Rattle.csi_service.specs.declared.serving.fault.ServeFaultKind.{ServeFaultKind}
use Rattle.csi_service.specs.declared.serving.fault.ServeFaultKind.TheVariants as kinds

-- the reader's count, before and after
abbrev pub ReaderStays : ℕ → ℕ → ServeFaultKind → Type 0
ReaderStays before after kinds.Input = Unit {0}
ReaderStays before after _ = after ≡ before

-- the writer's
abbrev pub WriterStays : ℕ → ℕ → ServeFaultKind → Type 0
WriterStays before after kinds.Output = Unit {0}
WriterStays before after _ = after ≡ before

-- by a fault that serving answers
abbrev pub ReaderStaysAt : ℕ → ℕ → ServeFault → Type 0
ReaderStaysAt before after fault = ReaderStays before after fault.kind

-- so does the writer's
abbrev pub WriterStaysAt : ℕ → ℕ → ServeFault → Type 0
WriterStaysAt before after fault = WriterStays before after fault.kind

-- a count stays where all went well, and else by why it stopped
abbrev pub Stays : {A E : Type 0} → (ℕ → ℕ → E → Type 0) → ℕ → ℕ → Result A E → Type 0
Stays At before after (Ok a) = after ≡ before
Stays At before after (Err stop) = At before after stop
