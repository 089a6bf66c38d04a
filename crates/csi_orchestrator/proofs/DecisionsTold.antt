-- What a decision makes of a row is what the step makes of it, and what a use comes to is told by the entry of its node.
use Rattle.csi_orchestrator.proofs.Words.{◌≡◌, ℕ, List, Bool, true, false, cond, not, refl, Option, Some, None}
use Rattle.csi_orchestrator.proofs.Words.{is_some, is_none, option_and_then, ◌&&◌, ◌||◌, Result, Err, list_any, Number}
use Rattle.csi_orchestrator.proofs.Words.{same_text, has_capability, Refuse, Met, Wait, Send, OrchFault, Marks, Usage}
use Rattle.csi_orchestrator.proofs.Words.{Step, is_yes, is_for_one_node, uses_as_second_writer, refused_or}
use Rattle.csi_orchestrator.proofs.Words.{decided_then, decided, decided_at, others_attached, use_refusal}
use Rattle.csi_orchestrator.proofs.Words.{has_elsewhere, MovedRow, row_sends_due, row_rests, is_step_met}
use Rattle.csi_orchestrator.proofs.Words.{row_before_call, row_step, NodeEntryShown, RowShown, node_entry_of, closed}
use Rattle.csi_orchestrator.proofs.Words.{use_due, arith}
use Rattle.csi_orchestrator.specs.declared.decision.Decision.{Decision}
use Rattle.csi_orchestrator.specs.declared.fault.OrchFault.TheVariants as faults
use Rattle.csi_orchestrator.specs.declared.step.Step.TheVariants as steps
use Rattle.csi_orchestrator.proofs.DueCases.{attaching, staging, publishing}
use Rattle.csi_orchestrator.proofs.InUse.{others-counted}

-- ---- what becomes of the row

-- what a decision makes of a row
abbrev pub row_decided : Decision → Number → Step → RowShown → Result MovedRow OrchFault
row_decided (Refuse fault) last step row = Err fault
row_decided Met last step row = row_rests row
row_decided Wait last step row = row_rests (closed row)
row_decided Send last step row = row_sends_due last (row_before_call step row)

-- the step makes the same of it
pub decision-tells : (nodes : List (List ℕ)) (last : Number) (step : Step) (row : RowShown) (decision : Decision) → decision ≡ decided nodes last step row
    → row_decided decision last step row ≡ row_step nodes last step row
decision-tells nodes last step row decision is = grind arith

-- a step for which a call is sent isn't met yet
pub sends-unmet : (nodes : List (List ℕ)) (last : Number) (step : Step) (row : RowShown) → Send ≡ decided nodes last step row → is_step_met step row ≡ false
sends-unmet nodes last step row is = grind arith

-- no delete is refused as out of memory
pub deletes-without : (nodes : List (List ℕ)) (last : Number) (row : RowShown) → Refuse faults.NoMemory ≡ decided nodes last steps.Delete row → ⊥
deletes-without nodes last row is = grind arith

-- ---- a use, by the entry of its node

-- no call is due for it where the volume has no id, or is used so already
none-due : (usage : Usage) (marks : Marks) (id : Option ℕ)
    → is_none (option_and_then (use_due usage marks) id) ≡ (is_none id || (is_yes marks.attached && is_yes marks.staged && is_yes marks.published))
none-due usage marks id = grind (arith, attaching, staging, publishing)

-- its tests, one after another
abbrev tested : Bool → Bool → Bool → Bool → Bool → Decision
tested otherwise taken met spent full =
    cond otherwise (Refuse faults.HeldOtherwise) (cond taken (Refuse faults.TargetTaken) (cond met Met (cond spent (Refuse faults.NumbersSpent) (cond full (Refuse faults.Full) Send))))

-- the first reason that holds is the first of all
tests-first : (otherwise taken met spent full : Bool)
    → tested otherwise taken met spent full
    ≡ refused_or (cond otherwise (Some faults.HeldOtherwise) (cond taken (Some faults.TargetTaken) None))
    (cond met Met (refused_or (cond spent (Some faults.NumbersSpent) (cond full (Some faults.Full) None)) Send))
tests-first false false false false true = refl
tests-first otherwise taken met spent full = refl

-- what none of these reasons refuses is refused for the others, or not
none-holds : (made busy known able elsewhere written : Bool) (rest : Option OrchFault) → made ≡ true → busy ≡ false → known ≡ true → able ≡ true → elsewhere ≡ false → written ≡ false
    → rest
    ≡ cond (not made) (Some faults.NotCreated)
    (cond busy (Some faults.Busy)
    (cond (not known) (Some faults.NoSuchNode)
    (cond (not able) (Some faults.NotCapable)
    (cond elsewhere (Some faults.HeldElsewhere)
    (cond written (Some faults.WriterElsewhere) rest)))))
none-holds made busy known able elsewhere written rest a b c d e f = rw (a, b, c, d, e, f) refl

-- what a use comes to that nothing else refuses
pub use-decided : (nodes : List (List ℕ)) (last : Number) (usage : Usage) (row : RowShown) (entry : Option NodeEntryShown)
    → is_yes row.exists ≡ true → is_some row.goal ≡ false → list_any (same_text usage.node) nodes ≡ true → has_capability row.arguments.capabilities usage.capability ≡ true
    → has_elsewhere (is_for_one_node usage) usage.node row ≡ false → has_elsewhere (uses_as_second_writer usage) usage.node row ≡ false → node_entry_of row usage.node ≡ entry
    → decided_at last usage (others_attached usage.node row) row.id entry ≡ refused_or (use_refusal nodes usage row) (decided_then last (steps.Use usage) row)
use-decided nodes last usage row entry made idle known able alone single is = grind (arith, others-counted, none-due, tests-first, none-holds)
