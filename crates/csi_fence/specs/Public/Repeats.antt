-- A call whose answer is kept and needs no memory to be given again. This profile's own.
use Rattle.std.specs.Prelude.{◌≡◌, ℕ, [], Option, Some, None}
use Rattle.csi_fence.specs.declared.fence.Verdict.TheVariants.{Repeated}
use Rattle.csi_types.specs.declared.number.Number.{Number}
use Rattle.csi_fence.specs.Model.Fence.{Kept, verdict_of}

-- the call of this number, of the greatest session that came, is the last one that was answered for its row, and the reply that is
-- kept has no detail
abbrev pub IsPlainRepeat : ℕ → Option Kept → Number → Type 0
IsPlainRepeat session None number = ⊥
IsPlainRepeat session (Some kept) number = (number.session ≡ session) × (verdict_of (Some kept.number) number ≡ Repeated) × (kept.reply.detail ≡ [])
