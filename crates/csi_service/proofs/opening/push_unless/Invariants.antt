-- One of the parts has the key exactly where one of those that are left has it.
use Rattle.std.proofs.Common.{◌≡◌, drop}
use Rattle.std.specs.Prelude.{◌==◌}
use Rattle.std.specs.List.{list_any}
use Rattle.csi_stores.specs.declared.part.Part.{Part}
use Rattle.csi_service.proofs.opening.push_unless.Given as goal

-- one of all has it where one of those still to be looked at has it
abbrev pub invariant-loop-part : goal.invariant-loop-part
invariant-loop-part l = list_any (λ (part : Part). part.key == l.key) (drop l.part-index l.parts) ≡ list_any (λ (part : Part). part.key == l.key) l.parts
