-- What a step comes to, before anything changes: it is refused, or asks for what is so already, or its call failed and waits for its
-- timeout, or a call is sent. This profile's own. `RowSteps.antt` says what becomes of the row.
use Rattle.std.specs.Prelude.{ℕ, List, Bool, ◌&&◌, ◌||◌, nat_lt, nat_le, Option, Some, None, is_none, if◌then◌else◌}
use Rattle.csi_types.specs.declared.number.Number.{Number}
use Rattle.csi_types.specs.Model.Sharing.{allows_one_target}
use Rattle.csi_orchestrator.specs.declared.decision.Decision.{Decision}
use Rattle.csi_orchestrator.specs.declared.decision.Decision.TheVariants.{Refuse, Met, Wait, Send}
use Rattle.csi_orchestrator.specs.declared.fault.OrchFault.{OrchFault}
use Rattle.csi_orchestrator.specs.declared.fault.OrchFault.TheVariants as faults
use Rattle.csi_orchestrator.specs.declared.step.Step.{Step}
use Rattle.csi_orchestrator.specs.Model.Thing.{is_yes}
use Rattle.csi_orchestrator.specs.Model.History.{Usage}
use Rattle.csi_orchestrator.specs.Private.RowRefusals.{is_last, is_entry_otherwise, others_count, step_refusal, late_refusal}
use Rattle.csi_orchestrator.specs.Private.RowSteps.{is_step_met, waits}
use Rattle.csi_orchestrator.specs.Model.Shown.{NodeEntryShown, RowShown, mark_in, publication_known}

-- it is refused for this reason, if there is one
abbrev pub refused_or : Option OrchFault → Decision → Decision
refused_or (Some fault) decision = Refuse fault
refused_or None decision = decision

-- what a step comes to that nothing refuses at once
abbrev pub decided_then : Number → Step → RowShown → Decision
decided_then last step row =
    if is_step_met step row then Met
    else if waits step row then Wait
    else refused_or (late_refusal last step row) Send

-- what a step comes to, for an orchestrator of these nodes and with this last number
abbrev pub decided : List (List ℕ) → Number → Step → RowShown → Decision
decided nodes last step row = refused_or (step_refusal nodes last step row) (decided_then last step row)

-- the volume is known to be attached and staged at a node with this entry, and published at the target
abbrev pub is_used_at : List ℕ → Option NodeEntryShown → Bool
is_used_at target entry =
    is_yes (mark_in (λ entry. entry.attached) entry) && is_yes (mark_in (λ entry. entry.staged) entry) && is_yes (mark_in (publication_known target) entry)

-- what a use comes to by the other nodes at which the volume may be attached, its id, and the entry of its node, where nothing else refuses it
abbrev pub decided_at : Number → Usage → ℕ → Option ℕ → Option NodeEntryShown → Decision
decided_at last usage others id entry =
    if is_entry_otherwise usage entry then Refuse faults.HeldOtherwise
    else if allows_one_target usage.capability.mode && nat_lt 0 (others_count usage.target entry) then Refuse faults.TargetTaken
    else if is_none id || is_used_at usage.target entry then Met
    else if is_last last then Refuse faults.NumbersSpent
    else if nat_le 16 (others_count usage.target entry) || nat_le 64 others then Refuse faults.Full
    else Send
