-- By where the target's entry stands.
use Rattle.csi_orchestrator.proofs.Words.{sym, ap, same_text, TargetEntry, mark_in}
use Rattle.csi_orchestrator.proofs.Lemmas.{find-no_place}
use Rattle.csi_orchestrator.proofs.ChangedEntries.{find-placed}
use Rattle.csi_orchestrator.proofs.state.published_at.Goals as goal

pub returns-in-Some : goal.returns-in-Some
returns-in-Some c =
    sym (ap (mark_in (λ (target_entry : TargetEntry). target_entry.published)) (find-placed (λ (target_entry : TargetEntry). same_text target_entry.target c.args.target.now) c.args.entry.now.target_entries.items c.in-Some.index c.index.result.now (cc) (cc)))

pub returns-in-None : goal.returns-in-None
returns-in-None c =
    sym (ap (mark_in (λ (target_entry : TargetEntry). target_entry.published)) (find-no_place (λ (target_entry : TargetEntry). same_text target_entry.target c.args.target.now) c.args.entry.now.target_entries.items (cc)))
