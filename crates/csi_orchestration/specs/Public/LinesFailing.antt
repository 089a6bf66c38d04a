-- Where a count of failures stays: the reader's at each end of serving lines but Input, the writer's at each but Output. This profile's own.
use Rattle.std.specs.Prelude.{◌≡◌, ℕ}
use Rattle.csi_orchestration.specs.declared.lines_serving.fault.LinesServeFault.{LinesServeFault}
use Rattle.csi_orchestration.specs.declared.lines_serving.fault.LinesServeFaultKind.{LinesServeFaultKind}
use Rattle.csi_orchestration.specs.declared.lines_serving.fault.LinesServeFaultKind.TheVariants as kinds

-- the reader's count, before and after
abbrev pub ReaderStays : ℕ → ℕ → LinesServeFaultKind → Type 0
ReaderStays before after kinds.Input = Unit {0}
ReaderStays before after _ = after ≡ before

-- the writer's
abbrev pub WriterStays : ℕ → ℕ → LinesServeFaultKind → Type 0
WriterStays before after kinds.Output = Unit {0}
WriterStays before after _ = after ≡ before

-- by a fault that serving answers
abbrev pub ReaderStaysAt : ℕ → ℕ → LinesServeFault → Type 0
ReaderStaysAt before after fault = ReaderStays before after fault.kind

-- so does the writer's
abbrev pub WriterStaysAt : ℕ → ℕ → LinesServeFault → Type 0
WriterStaysAt before after fault = WriterStays before after fault.kind
