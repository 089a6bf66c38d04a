-- Which calls a plugin carries out, by their numbers. This profile's own: CSI's spec.md, "Concurrency", asks that a plugin
-- bear calls that come twice, late or at once.
-- A change of what a plugin remembers touches these definitions, `Fenced`, and `State` of each plugin.
use Rattle.std.specs.Prelude.{ℕ, Bool, false, not, nat_lt, Option, Some, None, if◌then◌else◌}
use Rattle.csi_types.specs.declared.number.Number.{Number}
use Rattle.csi_types.specs.declared.call.Kind.{Kind}
use Rattle.csi_types.specs.declared.reply.Reply.{Reply}
use Rattle.csi_fence.specs.declared.fence.Verdict.{Verdict}
use Rattle.csi_fence.specs.declared.fence.Verdict.TheVariants.{Stale, Repeated, Fresh}
use Rattle.csi_types.specs.Model.Number.{is_before}
use Rattle.csi_types.specs.Model.Same.{same_number}

-- what a plugin keeps of the latest call that it let through for a volume: its number and the reply
pub record Kept : Type 0 where
  pub number : Number
  pub kind : Kind
  pub reply : Reply

-- a call of this number will never be carried out, where this is the last number that was answered
abbrev pub is_spent : Option Number → Number → Bool
is_spent None number = false
is_spent (Some last) number = not (is_before last number)

-- a spent number is stale, unless it is the last one, whose reply is kept
abbrev pub verdict_of_spent : Option Number → Number → Verdict
verdict_of_spent None number = Fresh
verdict_of_spent (Some last) number = if same_number number last then Repeated else Stale

-- what becomes of a call of this number
abbrev pub verdict_of : Option Number → Number → Verdict
verdict_of last number = if is_spent last number then verdict_of_spent last number else Fresh

-- a call of an earlier session than the greatest that came is over: it will never be carried out
abbrev pub is_over : ℕ → Number → Bool
is_over session number = nat_lt number.session session

-- a call of a later session begins it
abbrev pub begins : ℕ → Number → Bool
begins session number = nat_lt session number.session
