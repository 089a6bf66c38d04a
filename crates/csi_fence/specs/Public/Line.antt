-- What a line of a table answers. This profile's own.
use Rattle.std.specs.Prelude.{◌≡◌, ℕ, List, [], true, false, Result, IfOk, IsOk}
use Rattle.csi_types.specs.declared.status.Status.TheVariants.{Ok}
use Rattle.csi_types.specs.Model.Replies.{plain_reply, ok_reply}
use Rattle.csi_fence.specs.declared.fault.CoreFault.{CoreFault}
use Rattle.csi_fence.specs.declared.line.Line.{Line}
use Rattle.csi_fence.specs.declared.line.Line.TheVariants.{Refused, Met, Done}
use Rattle.csi_fence.specs.Public.Rows.{Told}

-- what a line tells
abbrev pub told_by : Line → Told
told_by (Refused status detail) = record { reply = plain_reply status detail.now; is_done = false }
told_by (Met id) = record { reply = record { status = Ok; id = id; detail = [] }; is_done = false }
told_by Done = record { reply = ok_reply; is_done = true }

-- a copy is this value, and one without a detail takes no memory
pub record GivesCopy {A : Type 0} (detail : List ℕ) (value : A) (result : Result A CoreFault) : Type 0 where
  pub ok : IfOk result (λ given. given ≡ value)
  pub succeeds : detail ≡ [] → IsOk result
