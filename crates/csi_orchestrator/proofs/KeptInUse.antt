-- What is kept of a volume of which nothing is wanted.
use Rattle.csi_orchestrator.proofs.Words.{◌≡◌, false, subst, ◌≢◌, None, AllByRecursion, Known, No, is_no, RowShown}
use Rattle.csi_orchestrator.proofs.Words.{NodeEntryShown, IsNeeded, KeepsWhatIsNeeded, IsAtWork, IsAtRest, AreMarked}
use Rattle.csi_orchestrator.proofs.Words.{IsSteadyRowIf, IsSteadyRow, arith}
use Rattle.csi_orchestrator.proofs.Lemmas.{each-weaker}
use Rattle.csi_orchestrator.proofs.HasOnes.{one-each}
use Rattle.csi_orchestrator.proofs.KnownTests.{yes_not_no}

-- where nothing is wanted, no goal is at work at an entry
pub idle-used : (N : Type 0) (row : RowShown) → row.goal ≡ None → IsSteadyRowIf N row → AllByRecursion IsAtRest row.node_entries
idle-used N row idle steady = subst (λ g. AreMarked IsAtWork (λ mark. mark ≢ No) g row.node_entries) idle steady.marked

-- such an entry is needed
pub used-needed : (entry : NodeEntryShown) → IsAtRest entry → IsNeeded entry
used-needed entry h = grind (arith, each-weaker, yes_not_no)

-- so each entry is needed where nothing is wanted
pub keeps-needed : (row : RowShown) → IsSteadyRow row → KeepsWhatIsNeeded row
keeps-needed row steady idle = each-weaker IsAtRest IsNeeded row.node_entries used-needed (idle-used ⊥ row idle steady)

-- at such an entry the volume may be attached
pub rest-attached : (entry : NodeEntryShown) → IsAtRest entry → is_no entry.attached ≡ false
rest-attached entry h = grind arith

-- where a goal is at work, the volume may be attached
pub work-attached : (a s p : Known) → IsAtWork a s p → is_no a ≡ false
work-attached a s p w = grind arith

-- so it may be at each entry
pub steady-attached : (N : Type 0) (row : RowShown) → IsSteadyRowIf N row → AllByRecursion (λ (e : NodeEntryShown). is_no e.attached ≡ false) row.node_entries
steady-attached N row steady = grind (arith, one-each, work-attached, rest-attached, each-weaker)
